use Rattle.fb_wave.proofs.lemmas.Common.{◌≡◌, true, sym, subst, ltb-true, Outcome, IsAfter}
use Rattle.fb_types.proofs.Common.{◌↔◌, ltb, lt-ltb}
use Rattle.fb_wave.proofs.copy.can_end.Goals as goal

pub returns-in-End : goal.returns-in-End
returns-in-End c =
    let t = c.args.tick in
    let h = c.in-End.horizon in
    subst (λ (end : Outcome). (ltb t h ≡ true) ↔ IsAfter t end) (sym c.in-End.is) (ltb-true t h, lt-ltb t h)
