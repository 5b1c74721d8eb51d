-- Rows of event ports and of sources: what is read from them.
use Rattle.fb_types.proofs.Common.{◌≡◌, ℕ, Option, Some, Bor, sym, subst, IfSome, Inputs, system_of, System}
use Rattle.fb_types.specs.declared.run.InstanceVariable.{InstanceVariable}
use Rattle.fb_types.specs.declared.run.Target.{Target}
use Rattle.fb_system.specs.Ends.{ComesFrom, LeadsTo}
use Rattle.fb_system.specs.PortRows.{IsPortRow}
use Rattle.fb_system.specs.declared.ends.SourceRow.{SourceRow}
use Rattle.fb_system.specs.declared.port_row.PortRow.{PortRow}

-- a row that was found
pub row_read :
    (i : Inputs) (at : Target) (o : Option (Bor PortRow)) (r : Bor PortRow) → o ≡ Some r → IfSome o (λ (r : Bor PortRow). IsPortRow i at r.now) → IsPortRow i at r.now
row_read i at o r is all = subst (λ (o : Option (Bor PortRow)). IfSome o (λ (r : Bor PortRow). IsPortRow i at r.now)) is all

-- where the first connection leads, by its index
pub first_read : (i : Inputs) (from : Target) (index : ℕ) (r : PortRow) → IsPortRow i from r → index ≡ 0 → LeadsTo (system_of i) from index r.first
first_read i from index r is none = subst (λ (n : ℕ). LeadsTo (system_of i) from n r.first) (sym none) is.first

pub source_read :
    (sys : System) (to : InstanceVariable) (o : Option (Bor SourceRow)) (r : Bor SourceRow) → o ≡ Some r → IfSome o (λ (r : Bor SourceRow). ComesFrom sys to r.now.source)
    → ComesFrom sys to r.now.source
source_read sys to o r is all = subst (λ (o : Option (Bor SourceRow)). IfSome o (λ (r : Bor SourceRow). ComesFrom sys to r.now.source)) is all
