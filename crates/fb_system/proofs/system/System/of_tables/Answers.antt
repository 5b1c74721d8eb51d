use Rattle.fb_system.proofs.lemmas.Common.{subst, sym, AreTables, Whole}
use Rattle.fb_system.specs.Systems.{IsBare}
use Rattle.fb_system.proofs.lemmas.rows.KeptRows.{without_rows}
use Rattle.fb_system.proofs.system.System.of_tables.Goals as goal

pub invariant_of-bare : goal.invariant_of-bare
invariant_of-bare c =
    let added = c.in_ok-add_instance_resources.ensures in
    without_rows _ _ c.in_ok-whole.ensures.ok (subst (λ (w : Whole). IsBare w.kept) (sym added.same) c.requires.bare)
    (subst (λ (w : Whole). AreTables w) (sym added.same) (c.requires.stands _ added.instance_resources))
