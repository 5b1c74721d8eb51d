use Rattle.fb_inspect.proofs.lemmas.Common.{List, refl, sym, subst, system_of, opening_look, AreKept, Remembered}
use Rattle.fb_inspect.proofs.dump.states.begin.Goals as goal

pub begin-requires : goal.begin-requires
begin-requires c =
    let sys = system_of c.args.system.now in
    subst (λ (bs : List Remembered). AreKept sys bs (opening_look sys)) (sym c.as_slice-blocks.ensures.value) c.in_ok-walk.ensures.blocks

pub returns : goal.returns
returns c =
    let begins = c.in_ok-walk.ensures in
    record {
      look = record { are = begins.blocks; counts = begins.steps.all; lefts = λ r s at. sym (begins.steps.each r s at) };
      kept = refl;
      numbers = c.in_ok-dump.ensures.numbers;
      shown = c.in_ok-dump.ensures.shown c.new-page.ensures.empty;
      reading_is = begins.reading_is;
    }
