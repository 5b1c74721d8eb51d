use Rattle.fbsim_command.proofs.lemmas.Common.{List, ℕ, Option, string_bytes, subst}
use Rattle.fb_stop.specs.Found.{Finds}
use Rattle.fb_stop.specs.declared.found.FoundStop.{FoundStop}
use Rattle.fbsim_command.specs.Stops.{IsStopPlace}
use Rattle.fbsim_command.proofs.located_stop.note_in.Goals as goal

pub returns-in_ok-note_with-in-Some : goal.returns-in_ok-note_with-in-Some
returns-in_ok-note_with-in-Some c =
    let i = c.args.system.now in
    let stop = c.in-Some.stop in (
      stop,
      subst (λ (o : Option FoundStop). Finds i c.args.horizon c.args.steps o) c.in-Some.is (c.in_ok-stop.ensures c.requires.early c.requires.few),
      (
        c.in_ok-at-in-Some.at,
        string_bytes c.in_ok-matter-in-Some.matter,
        subst (λ (text : List ℕ). IsStopPlace text i stop c.in_ok-at-in-Some.at) c.as_slice-declaration.ensures.value c.in_ok-at-in-Some.ensures,
        c.in_ok-note_with-in-Some.ensures,
      ),
    )

pub returns-in-None : goal.returns-in-None
returns-in-None c = subst (λ (o : Option FoundStop). Finds c.args.system.now c.args.horizon c.args.steps o) c.in-None.is (c.in_ok-stop.ensures c.requires.early c.requires.few)
