-- Skipping blanks and comments, a byte at a time.
use Rattle.fb_read.proofs.lemmas.Common.{◌≡◌, ℕ, ◌+◌, ◌<◌, ◌≤◌, [], length, get_or, drop, cond, Some, None, refl, ap, ◌∙◌, arith, drop_all, BlankState, Text, at, skip, step, stepped, may_end}
use Rattle.fb_types.proofs.Common.{drop_more, get_or-drop}

pub skip_turn : (state : BlankState) (z : Text) (i : ℕ) → i < length z → skip state (drop i z) ≡ stepped (λ next. skip next (drop (i + 1) z)) (drop i z) (step state (get_or z i 0) (at z (i + 1)))
unfolding skip
skip_turn state z i lt =
    let next : at (drop (i + 1) z) 0 ≡ at z (i + 1) = get_or-drop (i + 1) z 0 0 ∙ ap (λ (k : ℕ). get_or z k 0) (let e : i + 1 + 0 ≡ i + 1 = omega arith in e) in
    rw (drop_more z i 0 lt, next) refl

pub skip_end : (state : BlankState) (z : Text) (i : ℕ) → length z ≤ i → skip state (drop i z) ≡ cond (may_end state) (Some []) None
unfolding skip
skip_end state z i le = rw (drop_all i z le) refl
