-- How a deployment is read from its tables, in sentences: which tables it has, and which of them is refused first (this
-- project's profile).
use Rattle.std.specs.Prelude.{◌≡◌, ◌↔◌, ◌⊎◌, ◌<◌, ◌==◌, ℕ, true, false, List, [], ◌∷◌, length, Some, None, Ok, Err}
use Rattle.toml.specs.Data.{Data, Members, as_array, as_table}
use Rattle.fb_types.specs.declared.deploy.ResourceEntry.{ResourceEntry}
use Rattle.fb_inputs.specs.declared.document.LinkDraft.{LinkDraft}
use Rattle.fb_inputs.specs.declared.document.PlanDraft.{PlanDraft}
use Rattle.fb_inputs.specs.declared.deploy_location.DeployKey.{DeployKey}
use Rattle.fb_inputs.specs.declared.deploy_location.DeployKey.TheVariants as key
use Rattle.fb_inputs.specs.declared.deploy_location.DeployLocation.{DeployLocation}
use Rattle.fb_inputs.specs.declared.deploy_location.TableFault.{TableFault}
use Rattle.fb_inputs.specs.declared.deploy_location.TableFault.TheVariants as fault
use Rattle.fb_inputs.specs.DeployFaults.{Has, HasArray, HasAt, Lacks}
use Rattle.fb_inputs.specs.DeployLocations.{at_top, shape_in}
use Rattle.fb_inputs.specs.DeployTables.{IsLink, IsNoLink, IsNoResource, IsResource}
use Rattle.fb_inputs.specs.Documents.{count_of, draft, known_keys}

-- ---- Arrays of tables

-- The value is a table that is read as this.
abbrev pub IsTable : {A : Type 0} → (Members → A → Type 0) → Data → A → Type 0
IsTable Is d x = (keys : Members) × (as_table d ≡ Some keys) × Is keys x

-- The value is no table, or one that is refused for this.
abbrev pub IsNoTable : (Members → TableFault → Type 0) → Data → TableFault → Type 0
IsNoTable IsNo d why = ((as_table d ≡ None) × (why ≡ fault.NoTable)) ⊎ ((keys : Members) × (as_table d ≡ Some keys) × IsNo keys why)

-- Each element of a list is read as the one at its place in another list of the same length.
abbrev pub AreRead : {A B : Type 0} → (A → B → Type 0) → List A → List B → Type 0
AreRead P [] [] = Unit {0}
AreRead P [] (y ∷ ys) = ⊥
AreRead P (x ∷ xs) [] = ⊥
AreRead P (x ∷ xs) (y ∷ ys) = P x y × AreRead P xs ys

-- There is an array of tables at the key, which are read as these.
abbrev pub HasTables : {A : Type 0} → Members → DeployKey → (Members → A → Type 0) → List A → Type 0
HasTables keys k Is xs = HasArray keys k (λ ds. AreRead (IsTable Is) ds xs)

-- There is an array at the key, of which the element at this index is refused for this. Each one before it is read.
abbrev pub HasFirstNoTable : {A : Type 0} → Members → DeployKey → (Members → A → Type 0) → (Members → TableFault → Type 0) → ℕ → TableFault → Type 0
HasFirstNoTable {A} keys k Is IsNo i why =
    HasArray keys k (λ ds. HasAt ds i (λ d. IsNoTable IsNo d why) × ((j : ℕ) → j < i → HasAt ds j (λ d. (x : A) × IsTable Is d x)))

-- There is something else than an array at the key, or an array with an element that is refused: the first such one.
abbrev pub HasNoTables : {A : Type 0} → Members → DeployKey → (Members → A → Type 0) → (Members → TableFault → Type 0) → DeployLocation → Type 0
HasNoTables keys k Is IsNo p =
    (Has keys k (λ d. as_array d ≡ None) × (p ≡ at_top (fault.Wrong k)))
    ⊎ ((i : ℕ) × (why : TableFault) × HasFirstNoTable keys k Is IsNo i why × (p ≡ shape_in k i why))

-- ---- Documents

-- There are these resources.
abbrev pub HasResources : Members → List ResourceEntry → Type 0
HasResources keys rs = HasTables keys key.Resource IsResource rs

-- There are these links, or none without the key.
abbrev pub HasLinks : Members → List LinkDraft → Type 0
HasLinks keys ls = (Lacks keys key.Link × (ls ≡ [])) ⊎ HasTables keys key.Link IsLink ls

-- A document has one resource or more. It may have links. It has no further key.
pub record IsDraft (keys : Members) (d : PlanDraft) : Type 0 where
  pub its_resources : HasResources keys d.resources
  pub its_links : HasLinks keys d.links
  pub known_alone : (count_of keys == known_keys keys) ≡ true
  pub is_some : (length d.resources == 0) ≡ false

-- Of a document the resources are refused first, then the links, then a further key, and an empty array of resources last.
pub data IsNoDraft (keys : Members) : DeployLocation → Type 0 where
  by_absence : Lacks keys key.Resource → IsNoDraft keys (at_top (fault.Missing key.Resource))
  by_resources : {p : DeployLocation} → HasNoTables keys key.Resource IsResource IsNoResource p → IsNoDraft keys p
  by_links : (rs : List ResourceEntry) {p : DeployLocation} → HasResources keys rs → HasNoTables keys key.Link IsLink IsNoLink p → IsNoDraft keys p
  by_other_key : (rs : List ResourceEntry) (ls : List LinkDraft) → HasResources keys rs → HasLinks keys ls
      → (count_of keys == known_keys keys) ≡ false → IsNoDraft keys (at_top fault.Further)
  by_emptiness : (rs : List ResourceEntry) (ls : List LinkDraft) → HasResources keys rs → HasLinks keys ls
      → (count_of keys == known_keys keys) ≡ true → (length rs == 0) ≡ true → IsNoDraft keys (at_top fault.Empty)

-- A document is read as a deployment exactly if it is one, and refused exactly for what is refused first.
abbrev pub ReadsDocuments : Type 0
ReadsDocuments = (keys : Members)
    → ((d : PlanDraft) → (draft keys ≡ Ok d) ↔ IsDraft keys d)
    × ((p : DeployLocation) → (draft keys ≡ Err p) ↔ IsNoDraft keys p)
