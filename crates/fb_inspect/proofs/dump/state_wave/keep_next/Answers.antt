use Rattle.fb_inspect.proofs.lemmas.Common.{List, refl, sym, subst, system_of, AreKept, Remembered}
use Rattle.fb_inspect.proofs.dump.state_wave.keep_next.Goals as goal

pub keep-requires-clause-instance : goal.keep-requires-clause-instance
keep-requires-clause-instance c = c.requires.next c.in-Event.line c.in-Event.is

pub keep-requires-clause-kept : goal.keep-requires-clause-kept
keep-requires-clause-kept c =
    (c.requires.kept.0, subst (λ (bs : List Remembered). AreKept (system_of c.args.system.now) bs c.requires.kept.0) (sym c.as_slice.ensures.value) c.requires.kept.1)

pub returns : goal.returns
returns c = record {
  line = c.in-Event.line;
  is = c.in-Event.is;
  instance_is = refl;
  tick_is = refl;
  saved = λ look are. c.in_ok-keep.ensures look (subst (λ (bs : List Remembered). AreKept (system_of c.args.system.now) bs look) (sym c.as_slice.ensures.value) are);
}
