-- An order of names, for tables whose keys are names (this project's own).
use Rattle.std.specs.Cmp.{IsEquivalence, IsTotalOrder}
use Rattle.std.specs.Cmp.Lexicographic.{slice_cmp}
use Rattle.std.specs.Ordering.{eq_by_cmp, nat_cmp, ordering_then}
use Rattle.std.specs.declared.cmp.Ordering.{Ordering}
use Rattle.std.proofs.lemmas.Cmp.{eq_by_cmp_equiv, nat_cmp_total, nat_list_cmp_total, on_total, then_total}
use Rattle.fb_types.specs.Names.{Name}
use Rattle.fb_types.specs.ShortNumbers.{short_number_of}

-- by their numbers first, then byte by byte
abbrev pub name_cmp : Name → Name → Ordering
name_cmp n m = ordering_then (nat_cmp (short_number_of n) (short_number_of m)) (slice_cmp nat_cmp n m)

pub name_cmp_total : IsTotalOrder name_cmp
name_cmp_total = then_total (on_total short_number_of nat_cmp_total) nat_list_cmp_total

pub name_eq_equiv : IsEquivalence (eq_by_cmp name_cmp)
name_eq_equiv = eq_by_cmp_equiv name_cmp_total
