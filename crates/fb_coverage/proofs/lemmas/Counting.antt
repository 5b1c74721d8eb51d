-- Shares of flags that are counted one after another.
use Rattle.fb_types.proofs.Common.{◌≡◌, ◌+◌, ℕ, Bool, List, ◌++◌, length, cond, count_by, sym, ap, ◌∙◌, arith, length-append}
use Rattle.std.proofs.lemmas.List.Sums.{sum_by-append}
use Rattle.fb_coverage.specs.Shares.{added, capped, none_counted, with_row}
use Rattle.fb_coverage.specs.declared.share.Share.{Share}

abbrev set_in : List Bool → ℕ
set_in flags = count_by (λ (b : Bool). b) flags

set_both : (u v : List Bool) → set_in (u ++ v) ≡ set_in u + set_in v
set_both u v = sum_by-append (λ (b : Bool). cond b 1 0) u v

abbrev share_of : (all covered : ℕ) → Share
share_of all covered = record { covered = covered; all = all }

same_share : (a b c d : ℕ) → a ≡ c → b ≡ d → share_of b a ≡ share_of d c
same_share a b c d one two = ap (share_of b) one ∙ ap (λ (x : ℕ). share_of x c) two

capped_twice : (s a b : ℕ) → capped (capped (s + a) + b) ≡ capped (s + (a + b))
capped_twice s a b = omega arith

-- a flag, and then others
pub row_then : (s : Share) (u v : List Bool) → with_row (with_row s u) v ≡ with_row s (u ++ v)
row_then s u v =
    same_share _ _ _ _ (capped_twice s.covered (set_in u) (set_in v) ∙ ap (λ (n : ℕ). capped (s.covered + n)) (sym (set_both u v)))
    (capped_twice s.all (length u) (length v) ∙ ap (λ (n : ℕ). capped (s.all + n)) (sym (length-append u v)))

-- a share of flags, added to another one
pub row_added : (s : Share) (u : List Bool) → added s (with_row none_counted u) ≡ with_row s u
row_added s u = same_share _ _ _ _ (omega arith) (omega arith)

pub both_added : (u v : List Bool) → added (with_row none_counted u) (with_row none_counted v) ≡ with_row none_counted (u ++ v)
both_added u v = row_added (with_row none_counted u) v ∙ row_then none_counted u v
