use Rattle.fb_system.proofs.lemmas.Common.{◌≡◌, subst, sym, Whole}
use Rattle.fb_system.specs.Systems.{HaveRows}
use Rattle.fb_system.proofs.lemmas.rows.KeptRows.{with_rows}
use Rattle.fb_system.proofs.lemmas.inputs.TablesOfInputs.{ok_read}
use Rattle.fb_system.proofs.system.System.with_rows.Goals as goal

pub invariant_of-result : goal.invariant_of-result
invariant_of-result c =
    subst (λ (w : Whole). HaveRows w) (sym c.in_ok-whole-in-Ok.ensures.ok)
    (with_rows _ _ _ _ _ c.with_kept.ensures (ok_read _ (λ (w : Whole). w ≡ _) _ c.try_unwrap.ensures.ok c.in-Ok.is) c.self.view_is c.self.invariant.tables c.requires)
