-- Names that are equal in the order of tables are the same.
use Rattle.fb_types.proofs.Common.{◌≡◌, Bool, true, sym, ap, subst, Decides, is_eq, nat_cmp, ordering_then, tied_itself, true≢false, bytes_eq-Decides, Name, same_name}
use Rattle.std.proofs.Common.{Ordering}
use Rattle.std.specs.Bool.{one_answer}
use Rattle.std.specs.Cmp.Lexicographic.{slice_cmp}
use Rattle.std.specs.declared.cmp.Ordering.TheVariants as order
use Rattle.std.proofs.lemmas.Map.Text.{is_eq-slice_cmp}
use Rattle.fb_types.specs.NameOrder.{name_cmp, name_cmp_total}
use Rattle.fb_types.specs.ShortNumbers.{short_number_of}
use Rattle.fb_types.proofs.lemmas.names.NameLaws.{same_name-Decides}

pub slice_cmp-Decides : (n m : Name) → Decides (is_eq (slice_cmp nat_cmp n m)) (n ≡ m)
slice_cmp-Decides n m = let P : Bool → Type 0 = λ b. Decides b (n ≡ m) in subst P (sym (is_eq-slice_cmp n m)) (bytes_eq-Decides n m)

last_of : (r s : Ordering) → is_eq (ordering_then r s) ≡ true → is_eq s ≡ true
last_of order.Less s h = absurd (true≢false (sym h))
last_of order.Equal s h = h
last_of order.Greater s h = absurd (true≢false (sym h))

-- names that are equal in this order are the same
pub name_cmp-Decides : (n m : Name) → Decides (is_eq (name_cmp n m)) (n ≡ m)
name_cmp-Decides n m = (
  λ h. (slice_cmp-Decides n m).0 (last_of (nat_cmp (short_number_of n) (short_number_of m)) (slice_cmp nat_cmp n m) h),
  λ e. subst (λ (k : Name). is_eq (name_cmp n k) ≡ true) e (ap is_eq (tied_itself name_cmp_total n)),
)

pub name_cmp-is : (n m : Name) → is_eq (name_cmp n m) ≡ same_name n m
name_cmp-is n m = one_answer (is_eq (name_cmp n m)) (same_name n m) (name_cmp-Decides n m) (same_name-Decides n m)
