use mir.Syntax.{w128}
use mir.Val.{SFits}
use Rattle.std.proofs.Common.{rules, ℤ, ap, sym, ◌∙◌}
use Rattle.std.proofs.lemmas.Int.{to_z-of_z}
use Rattle.fbsim_command.proofs.lemmas.rules.SuitedTypes.{numbers-by, truths-suit}
use Rattle.fbsim_command.proofs.possible.can_suit.Goals as goal

pub returns-then-is_truth : goal.returns-then-is_truth
returns-then-is_truth c =
    c.has_truth.ensures ∙ truths-suit c.args.ty c.args.variable.now c.args.conditions.now (sym c.is_truth.ensures ∙ c.if-is_truth.true)

pub returns : goal.returns
returns c =
    let a = c.args in
    let range = c.range_of-range.result in
    let low : SFits w128 range.0 = search rules in
    let high : SFits w128 range.1 = search rules in
    let least = to_z-of_z w128 range.0 low ∙ ap (λ (p : ℤ × ℤ). p.0) c.range_of-range.ensures in
    let most = to_z-of_z w128 range.1 high ∙ ap (λ (p : ℤ × ℤ). p.1) c.range_of-range.ensures in
    numbers-by a.ty a.variable.now a.conditions.now c.has_number_within.result _ _ (sym c.is_truth.ensures ∙ c.if-is_truth.false) least most c.has_number_within.ensures.some
    c.has_number_within.ensures.none
