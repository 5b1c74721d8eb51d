use Rattle.fb_types.proofs.Common.{◌≡◌, ◌∙◌, Bool, ℕ, if◌then◌else◌, length, subst, sym, IfOk}
use Rattle.fb_expect.specs.Reports.{all_points, plan}
use Rattle.fb_expect.specs.Suites.{suites_head}
use Rattle.fbsim_command.proofs.expect.head.Goals as goal

pub returns-then-expect : goal.returns-then-expect
returns-then-expect c =
    subst (λ (b : Bool). IfOk c.from_slice.result (λ t. t.items ≡ (if b then suites_head else plan (all_points (length c.args.rules.now) (length c.args.expect.now.traces.items) c.args.expect.now.is_applied)))) (sym c.if-expect.true)
    c.from_slice.ensures.items

pub returns : goal.returns
returns c =
    subst (λ (b : Bool). IfOk c.plan.result (λ t. t.items ≡ (if b then suites_head else plan (all_points (length c.args.rules.now) (length c.args.expect.now.traces.items) c.args.expect.now.is_applied)))) (sym c.if-expect.false)
    (subst (λ (n : ℕ). IfOk c.plan.result (λ t. t.items ≡ plan (all_points (length c.args.rules.now) n c.args.expect.now.is_applied))) (c.len.ensures ∙ c.args.expect.now.traces.ok.0) c.plan.ensures)
