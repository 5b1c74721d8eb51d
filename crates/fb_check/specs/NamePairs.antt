-- The order of pairs of names (this project's profile).
use Rattle.std.specs.Ordering.{ordering_then}
use Rattle.std.specs.declared.cmp.Ordering.{Ordering}
use Rattle.std.specs.Cmp.{IsTotalOrder}
use Rattle.std.proofs.lemmas.Cmp.{on_total, then_total}
use Rattle.fb_types.specs.Names.{Name}
use Rattle.fb_types.specs.NameOrder.{name_cmp, name_cmp_total}

abbrev pub pair_cmp : Name × Name → Name × Name → Ordering
pair_cmp a b = ordering_then (name_cmp a.0 b.0) (name_cmp a.1 b.1)

pub pair_cmp_total : IsTotalOrder pair_cmp
pair_cmp_total = then_total (on_total (λ (p : Name × Name). p.0) name_cmp_total) (on_total (λ (p : Name × Name). p.1) name_cmp_total)
