use Rattle.fb_types.proofs.Common.{◌≡◌, ℕ, None, IfOk-weaker, stimuli_of, system_of, opening}
use Rattle.fb_types.specs.Parts.{local_of}
use Rattle.fb_resource.specs.Resources.{IsFresh, IsOf, Represents}
use Rattle.fb_resource.proofs.resource.Resource.open.Goals as goal

pub returns-clause-of : goal.returns-clause-of
returns-clause-of c =
    let i = c.args.system.now in
    IfOk-weaker c.of_agenda.result (IsFresh i c.args.number) (IsOf i) (λ x fresh. fresh.of) c.of_agenda.ensures

pub returns-clause-opened : goal.returns-clause-opened
returns-clause-opened c =
    let i = c.args.system.now in
    IfOk-weaker c.of_agenda.result (IsFresh i c.args.number)
    (λ x. (limit : ℕ) → Represents i limit (local_of (system_of i) limit c.args.number (opening (system_of i) (stimuli_of i)) None) x)
    (λ x fresh. fresh.state) c.of_agenda.ensures

pub returns-clause-fresh : goal.returns-clause-fresh
returns-clause-fresh c =
    let i = c.args.system.now in
    IfOk-weaker c.of_agenda.result (IsFresh i c.args.number) (λ x. (x.tree.resource ≡ c.args.number) × (x.clock ≡ 0) × (x.stopped ≡ None))
    (λ x fresh. (fresh.numbered, fresh.clock, fresh.live)) c.of_agenda.ensures
