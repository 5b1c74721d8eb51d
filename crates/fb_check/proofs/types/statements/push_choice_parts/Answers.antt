use Rattle.fb_check.proofs.lemmas.Common.{ℕ, List, refl, sym, ◌∙◌, ap, context_in, is_condition, Choice, choice_of, choices_of, unless, part_at}
use Rattle.fb_check.proofs.lemmas.types.Meanings.{choice_says}
use Rattle.fb_check_names.specs.declared.location.StatementPart.TheVariants as part
use Rattle.fb_check.specs.types.KindWrongLists.{wrong_choices}
use Rattle.fb_check_names.proofs.lemmas.Listing.{added_unless, walk_done, walk_more}
use Rattle.fb_check.proofs.types.statements.push_choice_parts.Goals as goal

pub loop-index-preserved : goal.loop-index-preserved
loop-index-preserved c =
    let p = context_in c.args.scope.now in
    let at = part_at c.args.at in
    let x : Choice = c.index-choices-index.result in
    let old = c.loop-index.found.items in
    let new = c.push_part.new.found.items in
    walk_more (λ (k : ℕ) (cs : List Choice). wrong_choices at p k (choices_of cs)) (λ k (y : Choice). unless (is_condition p (choice_of y).0) (at (part.Choice k))) c.args.choices.now
    c.loop-index.index x old new _ (λ k y ys. refl) c.loop-index-test.true c.index-choices-index.is
    (added_unless old new c.has_kind-is_right.result (is_condition p (choice_of x).0) (at (part.Choice c.loop-index.index)) (c.has_kind-is_right.ensures ∙ sym (ap (λ r. is_condition p r.0) (choice_says x)))
    c.in_ok-push_part.ensures)
    c.loop-index.invariant

pub returns : goal.returns
returns c =
    let p = context_in c.args.scope.now in
    let at = part_at c.args.at in
    walk_done (λ (k : ℕ) (cs : List Choice). wrong_choices at p k (choices_of cs)) c.args.choices.now c.loop-index.index c.loop-index.found.items _ refl c.loop-index-test.false c.loop-index.invariant
