use Rattle.fb_system.proofs.lemmas.Common.{◌≡◌, ◌+◌, ◌<◌, ℕ, Bool, true, false, get_or, refl, subst, RowRanges}
use mir.Val.{bool_byte}
use Rattle.fb_system.specs.RowRanges.{end_of}
use Rattle.fb_system.proofs.row_ranges.RowRanges.row.Goals as goal

ends : (ranges : RowRanges) (second : Bool) → get_or ranges.bounds (bool_byte second + 1) 0 ≡ end_of ranges second
ends ranges false = refl
ends ranges true = refl

pub returns-then-row-self-clause-within : goal.returns-then-row-self-clause-within
returns-then-row-self-clause-within c =
    let ranges = c.args.self.now in
    subst (λ (n : ℕ). get_or ranges.bounds (bool_byte c.args.second) 0 + c.args.index < n) (ends ranges c.args.second) c.if-row-self.true
