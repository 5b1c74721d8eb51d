use Rattle.fb_types.proofs.Common.{◌≡◌, List, map, refl, subst, sym, inl, inr, ports_of, ArePortsOfKinds, kind_of, AreAccepted, Inputs, NameTwice, NameUnknown}
use Rattle.fb_types.specs.declared.deploy.Plan.{Plan}
use Rattle.fb_types.specs.declared.library.BlockType.{BlockType}
use Rattle.fb_types.specs.declared.library.Connection.{Connection}
use Rattle.fb_types.specs.declared.library.Library.{Library}
use Rattle.fb_check.specs.Directory.{AreInputs, AreTargets}
use Rattle.fb_check.proofs.lemmas.FilledByName.{event_inputs}
use Rattle.fb_check.proofs.row_judge.RowJudge.of.Goals as goal

-- accepted inputs give no name twice, and know each name
module _ (i : Inputs) (lib : Library) (plan : Plan) (l : lib ≡ i.library) (p : plan ≡ i.plan) (accepted : AreAccepted i) where
  once : ¬ (NameTwice lib plan)
  once twice = accepted 20 (inl (refl, subst (λ (x : Library). NameTwice x i.plan) l (subst (λ (x : Plan). NameTwice lib x) p twice)))

  known : ¬ (NameUnknown lib plan)
  known unknown = accepted 21 (inr (inl (refl, subst (λ (x : Library). NameUnknown x i.plan) l (subst (λ (x : Plan). NameUnknown lib x) p unknown))))

pub invariant_of-result-clause-names : goal.invariant_of-result-clause-names
invariant_of-result-clause-names c =
    c.in_ok-catalog.ensures.catalog (once c.args.system.now c.library-library.result.now c.plan-plan.result.now c.library-library.ensures c.plan-plan.ensures c.facts.ensures.accepted)

pub invariant_of-result-clause-known : goal.invariant_of-result-clause-known
invariant_of-result-clause-known c =
    known c.args.system.now c.library-library.result.now c.plan-plan.result.now c.library-library.ensures c.plan-plan.ensures c.facts.ensures.accepted

pub invariant_of-result-clause-lists : goal.invariant_of-result-clause-lists
invariant_of-result-clause-lists c = record {
  event_blocks = event_inputs c.as_slice.result.now _ (subst ArePortsOfKinds (sym c.as_slice.ensures) c.requires) c.in_ok-inputs_of_each.ensures;
  declared = subst (λ (ts : List BlockType). AreInputs (map (λ (t : BlockType). ports_of (kind_of t)) ts) c.in_ok-inputs_of_each-2.field-0) c.as_slice-2.ensures c.in_ok-inputs_of_each-2.ensures;
  targets = subst (λ (cs : List Connection). AreTargets cs c.in_ok-targets_of.field-0) c.as_slice-3.ensures c.in_ok-targets_of.ensures;
}
