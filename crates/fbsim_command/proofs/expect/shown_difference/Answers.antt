use Rattle.std.proofs.Common.{List, ℕ, IfOk, subst, ◌∙◌}
use Rattle.fb_expect.specs.DifferenceReport.{ShowsDifference}
use Rattle.fbsim_command.specs.Shown.{shown_name}
use Rattle.fbsim_command.proofs.expect.shown_difference.Goals as goal

pub returns : goal.returns
returns c =
    let d = c.args.diff.now in
    let x = c.args.difference.now in
    subst (λ (n : List ℕ). IfOk c.difference_text.result (λ t. ShowsDifference n (shown_name d.second.now) d.is_without_ticks x t.items)) (c.as_str.ensures.value ∙ c.in_ok-first.ensures)
    (subst (λ (n : List ℕ). IfOk c.difference_text.result (λ t. ShowsDifference c.as_str.result.now n d.is_without_ticks x t.items)) (c.as_str-2.ensures.value ∙ c.in_ok-second.ensures)
    c.difference_text.ensures)
