use Rattle.fb_types.proofs.Common.{◌≡◌, ◌||◌, Bool, true, nat_eq, sym, ap, ◌∙◌, or_left}
use Rattle.fb_event.proofs.lemmas.Performing.{rendezvous_met}
use Rattle.fb_event.proofs.step.mark_rendezvous.Goals as goal
use Rattle.fb_event.proofs.step.mark_rendezvous.Goals.{then-first, else-first, then-second, else-second}

pub returns-then-second-2 : goal.returns-then-second-2
returns-then-second-2 c =
    let n = c.args.event in
    let one : (c.args.first || nat_eq n 0) ≡ true =
    elim c.if-first.branch [
      | then-first w ↦ or_left c.args.first (nat_eq n 0) w.if-first.true
      | else-first w ↦ ap (λ (b : Bool). b || nat_eq n 0) w.if-first.false ∙ sym w.first-is ∙ c.if-first-2.true
    ] in
    let two : (c.args.second || nat_eq n 1) ≡ true =
    elim c.if-second.branch [
      | then-second w ↦ or_left c.args.second (nat_eq n 1) w.if-second.true
      | else-second w ↦ ap (λ (b : Bool). b || nat_eq n 1) w.if-second.false ∙ sym w.second-is ∙ c.if-second-2.true
    ] in
    rendezvous_met c.args.first c.args.second n c.emitting.result c.if-event-eq-R_OF_RENDEZVOUS.false one two c.emitting.ensures.emits c.emitting.ensures.ask
