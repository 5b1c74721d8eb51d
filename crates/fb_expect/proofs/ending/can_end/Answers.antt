use Rattle.std.proofs.Common.{sym, subst}
use Rattle.std.proofs.lemmas.Bool.{ltb-true, lt-ltb}
use Rattle.fb_expect.specs.Traces.{EndsAfter}
use Rattle.fb_expect.specs.declared.ending.End.{End}
use Rattle.fb_expect.proofs.ending.can_end.Goals as goal

pub returns-in-Horizon : goal.returns-in-Horizon
returns-in-Horizon c = (
  λ yes. subst (λ (e : End). EndsAfter c.args.tick e) (sym c.in-Horizon.is) (ltb-true c.args.tick c.in-Horizon.horizon yes),
  λ after. lt-ltb c.args.tick c.in-Horizon.horizon (subst (λ (e : End). EndsAfter c.args.tick e) c.in-Horizon.is after),
)
