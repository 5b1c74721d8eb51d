use Rattle.std.proofs.Common.{◌≡◌, ◌+◌, ◌-◌, ◌<◌, ℕ, length, drop, subst, arith}
use Rattle.fb_read.specs.Refusals.{IsNext}
use Rattle.fb_stop.proofs.shown.span_at.Goals as goal

pub returns-in_ok-span : goal.returns-in_ok-span
returns-in_ok-span c =
    let ps = c.args.tokens.now in
    let span = c.in_ok-span.span in
    let at = c.args.begin + c.args.offset in
    let within : at < length ps = omega (arith, c.saturating_sub-after.ensures) in
    let index : length ps - (c.saturating_sub-after.result - c.args.offset) ≡ at = omega (arith, c.saturating_sub-after.ensures) in
    (within, subst (λ (k : ℕ). IsNext (drop k ps) c.args.text.now span.start span.end) index c.in_ok-span.ensures)

pub returns-else-offset-after : goal.returns-else-offset-after
returns-else-offset-after c = omega (arith, c.saturating_sub-after.ensures)
