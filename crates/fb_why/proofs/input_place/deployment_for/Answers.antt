use Rattle.fb_types.proofs.Common.{◌≡◌, ◌∙◌, All, false, List, Option, arith, subst, sym, false≢true, take_all}
use Rattle.std.proofs.lemmas.List.Elements.{All-more}
use Rattle.fb_why.specs.InputPlaces.{is_in_deployment}
use Rattle.fb_why.specs.declared.input_place.InputPosition.{InputPosition}
use Rattle.fb_why.proofs.lemmas.InputPlaces.{read_given}
use Rattle.fb_why.proofs.input_place.deployment_for.Goals as goal

abbrev IsOther : Option InputPosition → Type 0
IsOther p = is_in_deployment p ≡ false

pub loop-position-init : goal.loop-position-init
loop-position-init c = λ k d within. absurd (omega arith)

pub loop-position-preserved : goal.loop-position-preserved
loop-position-preserved c =
    All-more IsOther c.args.positions.now c.loop-position.position-index _ c.loop-position-test.true c.loop-position.invariant (sym c.is_in_deployment.ensures ∙ c.if-is_in_deployment.false)

pub returns-then-is_in_deployment : goal.returns-then-is_in_deployment
returns-then-is_in_deployment c = λ k d within inside bytes given. read_given c.args.deploy _ c.unwrap_or.result c.unwrap_or.ensures bytes given

pub returns : goal.returns
returns c =
    let none : All IsOther c.args.positions.now =
    subst (λ (ps : List (Option InputPosition)). All IsOther ps) (take_all c.loop-position.position-index c.args.positions.now c.loop-position-test.false) c.loop-position.invariant in
    λ k d within inside bytes given. absurd (false≢true (sym (none k d within) ∙ inside))
