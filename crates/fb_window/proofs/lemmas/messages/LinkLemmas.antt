-- Rows of links, one after another.
use Rattle.fb_types.proofs.Common.{◌≡◌, ℕ, ◌+◌, ◌<◌, ◌≤◌, Some, List, [], ◌∷◌, ◌++◌, subst, ⊎_elim, arith, slice_get, cases_lt, Inputs, system_of, count_of, System}
use Rattle.fb_laws.proofs.lemmas.soundness.Accepting.{sound_of}
use Rattle.fb_laws.proofs.lemmas.lists.Indexes.{has_at, is_at, one_at, push_before, push_counted, push_here}
use Rattle.fb_window.specs.LinkRows.{AreLinksOf, AreRowsOf, IsLink}
use Rattle.fb_window.specs.declared.links.LinkRow.{LinkRow}
use Rattle.fb_window.proofs.lemmas.phases.Passes.{few_resources}

-- one link more
pub rows_more : (sys : System) (count : ℕ) (rows : List LinkRow) (row : LinkRow) → AreRowsOf sys count rows → IsLink sys count row → AreRowsOf sys (count + 1) (rows ++ row ∷ [])
rows_more sys count rows row before here = record {
  counted = push_counted rows row count before.counted;
  each = λ link found at.
      let counted = before.counted in
      ⊎_elim
      (λ (b : link < count).
      let old = has_at rows link (omega arith) in
      subst (λ (x : LinkRow). IsLink sys link x) (one_at (rows ++ row ∷ []) link old.0 found (push_before rows row link old.0 old.1) at) (before.each link old.0 old.1))
      (λ (b : count ≤ link).
      let inside = is_at (rows ++ row ∷ []) link found at in
      let long = push_counted rows row count counted in
      let same : count ≡ link = omega arith in
      let last : slice_get (rows ++ row ∷ []) link ≡ Some row = subst (λ (n : ℕ). slice_get (rows ++ row ∷ []) n ≡ Some row) same (push_here rows row count counted) in
      subst (λ (x : LinkRow). IsLink sys link x) (one_at (rows ++ row ∷ []) link row found last at) (subst (λ (n : ℕ). IsLink sys n row) same here))
      (cases_lt link count);
}

-- A row is that of a link whose ends are resources of the system.
pub record IsInside (i : Inputs) (link : ℕ) (row : LinkRow) : Type 0 where
  pub is : IsLink (system_of i) link row
  pub below : link < (system_of i).links
  pub from : row.from < count_of (system_of i)
  pub to : row.to < count_of (system_of i)
  pub few : count_of (system_of i) ≤ 256

pub inside : (i : Inputs) (rows : List LinkRow) → AreLinksOf i rows → (link : ℕ) (row : LinkRow) → slice_get rows link ≡ Some row → IsInside i link row
inside i rows links link row at =
    let is : IsLink (system_of i) link row = links.all.each link row at in
    let sound = sound_of i links.good in
    let counted = links.all.counted in
    let within = is_at rows link row at in
    let below : link < (system_of i).links = omega arith in
    let sender : (system_of i).sender link < count_of (system_of i) = sound.senders link below in
    let receiver : (system_of i).receiver link < count_of (system_of i) = sound.receivers link below in
    let from = is.from in
    let to = is.to in
    record { is = is; below = below; from = omega arith; to = omega arith; few = few_resources i links.good }
