use Rattle.fb_types.proofs.Common.{◌≡◌, ◌∙◌, ◌<◌, ℕ, Option, Some, ap, sym, subst, system_of, arith, length}
use Rattle.clap.specs.Words.{Text}
use Rattle.fb_types.specs.OfSystem.{instance_count}
use Rattle.fbsim_command.specs.Nearest.{IsBest, distance, path_distance}
use Rattle.fbsim_command.specs.declared.near.Candidate.{Candidate}
use Rattle.fbsim_command.proofs.lemmas.names.Nearest.{least_of, none_of}
use Rattle.fbsim_command.proofs.near.nearest_instance.Goals as goal

pub loop-index-preserved : goal.loop-index-preserved
loop-index-preserved c =
    c.nearer-best.ensures (path_distance c.args.system.now c.args.text.now) c.loop-index.invariant (c.in_ok-far.ensures ∙ ap (λ (p : Text). distance p c.args.text.now) c.path.ensures)

pub returns-in-Some-clause-nearest : goal.returns-in-Some-clause-nearest
returns-in-Some-clause-nearest c =
    let f = path_distance c.args.system.now c.args.text.now in
    let end : c.loop-index.index ≡ c.count-index-end.result = omega (arith, c.loop-index-test.false, c.loop-index.auto.index-end) in
    least_of f c.loop-index.index (instance_count c.args.system.now) c.in-Some.candidate (subst (λ (o : Option Candidate). IsBest f c.loop-index.index o) c.in-Some.is c.loop-index.invariant)
    (end ∙ c.count-index-end.ensures)

pub returns-in-None-clause-nearest : goal.returns-in-None-clause-nearest
returns-in-None-clause-nearest c =
    let f = path_distance c.args.system.now c.args.text.now in
    let end : c.loop-index.index ≡ c.count-index-end.result = omega (arith, c.loop-index-test.false, c.loop-index.auto.index-end) in
    none_of f c.loop-index.index (instance_count c.args.system.now) (subst (λ (o : Option Candidate). IsBest f c.loop-index.index o) c.in-None.is c.loop-index.invariant) (end ∙ c.count-index-end.ensures)
