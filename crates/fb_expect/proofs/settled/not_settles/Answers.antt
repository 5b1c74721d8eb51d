use Rattle.fb_expect.proofs.lemmas.Common.{ℕ, Option, ◌+◌, ◌<◌, sym, subst, Mark}
use Rattle.fb_expect.specs.Deciding.{KnowsFirst}
use Rattle.fb_expect.proofs.lemmas.rules.Settling.{not-settles}
use Rattle.fb_expect.proofs.settled.not_settles.Goals as goal

pub returns-in-Some : goal.returns-in-Some
returns-in-Some c = λ hs first clean.
    let m = c.in-Some.mark in
    let w = c.args.within in
    not-settles w hs c.args.end m c.is_past.result (
      λ yes. subst (λ (t : ℕ). m.tick + w < t) c.tick.ensures (c.is_past.ensures.0 yes),
      λ over. c.is_past.ensures.1 (subst (λ (t : ℕ). m.tick + w < t) (sym c.tick.ensures) over),
    )
    (subst (λ (o : Option Mark). KnowsFirst hs o) c.in-Some.is first) clean
