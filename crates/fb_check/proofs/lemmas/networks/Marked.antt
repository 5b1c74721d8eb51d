-- E25 by number: what is marked after a number of rounds leads that number of steps down.
use Rattle.fb_check.proofs.lemmas.Common.{◌≡◌, ℕ, zero, suc, ◌+◌, Bool, true, false, List, map, Option, Some, None, refl, sym, ◌∙◌, ap, subst, inl, inr, arith, All, slice_get, option_map, unwrap_or, is_some, Decides, true≢false, slice_get-map, Kind, kind_of, TooHigh, Library, BlockType, CompositeType, Instance, Plan, TypeNumber, NetworkNumbers, Resolved, IsNetwork, IsResolved, type_number, kind_of_number, HoldsNone, is_marked}
use Rattle.fb_types.proofs.Common.{All-contains, Composite}
use Rattle.fb_types.proofs.lemmas.lists.Positions.{is_some-position}
use Rattle.fb_types.specs.Joined.{Holds, Descends}
use Rattle.fb_types.specs.declared.library.BlockType.TheVariants as block
use Rattle.fb_check_names.specs.declared.numbers.TypeNumber.TheVariants as number
use Rattle.fb_check.specs.networks.Heights.{holds_marked, marks_after}
use Rattle.fb_check_names.proofs.lemmas.Each.{each_at, each_from}
use Rattle.fb_types.proofs.lemmas.lists.ByIndex.{element_of_index, index_of_element}
use Rattle.fb_check.proofs.lemmas.networks.Lists.{any_at, any_from, past_both}
use Rattle.fb_check.proofs.lemmas.networks.Naming.{type_by_number}

-- ---- Marks

-- Some composite type is this number of steps below.
abbrev pub Leads : Library → ℕ → CompositeType → Type 0
Leads lib steps t = (u : CompositeType) × Descends lib steps t u

-- A composite type is marked exactly if this number of steps leads down from it, and no other type is.
abbrev pub MarkOf : Library → ℕ → Option BlockType → Bool → Type 0
MarkOf lib steps None b = b ≡ false
MarkOf lib steps (Some (block.Basic t)) b = b ≡ false
MarkOf lib steps (Some (block.Composite t)) b = Decides b (Leads lib steps t)

pub record AreMarks (lib : Library) (steps : ℕ) (marks : List Bool) : Type 0 where
  pub each : (k : ℕ) → MarkOf lib steps (slice_get lib.blocks k) (unwrap_or (slice_get marks k) false)

-- ---- Marked types

abbrev pub LeadsFrom : Library → ℕ → Option Kind → Type 0
LeadsFrom lib steps o = (m : CompositeType) × (o ≡ Some (Composite m)) × Leads lib steps m

leads_from_mark : (lib : Library) (steps : ℕ) (o : Option BlockType) (b : Bool) → MarkOf lib steps o b → b ≡ true → LeadsFrom lib steps (option_map kind_of o)
leads_from_mark lib steps None b is h = absurd (true≢false (sym h ∙ is))
leads_from_mark lib steps (Some (block.Basic t)) b is h = absurd (true≢false (sym h ∙ is))
leads_from_mark lib steps (Some (block.Composite t)) b is h = (t, refl, is.0 h)

mark_from_leads : (lib : Library) (steps : ℕ) (o : Option BlockType) (b : Bool) → MarkOf lib steps o b → LeadsFrom lib steps (option_map kind_of o) → b ≡ true
mark_from_leads lib steps None b is w = absurd (let e = w.1 in cc)
mark_from_leads lib steps (Some (block.Basic t)) b is w = absurd (let e = w.1 in cc)
mark_from_leads lib steps (Some (block.Composite t)) b is w =
    let same : t ≡ w.0 = let e = w.1 in cc in
    is.1 (subst (λ (m : CompositeType). Leads lib steps m) (sym same) w.2)

pub leads_from_marked :
    (lib : Library) (steps : ℕ) (marks : List Bool) (t : TypeNumber) → AreMarks lib steps marks → is_marked marks t ≡ true
    → LeadsFrom lib steps (kind_of_number lib t)
leads_from_marked lib steps marks (number.Event k) are h = absurd (true≢false (sym h))
leads_from_marked lib steps marks (number.Declared d) are h =
    leads_from_mark lib steps (slice_get lib.blocks d) (unwrap_or (slice_get marks d) false) (are.each d) h

marked_from_leads :
    (lib : Library) (steps : ℕ) (marks : List Bool) (t : TypeNumber) → AreMarks lib steps marks → LeadsFrom lib steps (kind_of_number lib t)
    → is_marked marks t ≡ true
marked_from_leads lib steps marks (number.Event k) are w = absurd (let e = w.1 in cc)
marked_from_leads lib steps marks (number.Declared d) are w =
    mark_from_leads lib steps (slice_get lib.blocks d) (unwrap_or (slice_get marks d) false) (are.each d) w

-- ---- A round

-- a composite type contains a marked one exactly if one more step leads down
holds-Decides :
    (lib : Library) (steps : ℕ) (marks : List Bool) (t : CompositeType) (x : NetworkNumbers) → AreMarks lib steps marks
    → IsNetwork lib (Some t, t.network) x → Decides (holds_marked marks (Some x)) (Leads lib (suc steps) t)
holds-Decides lib steps marks t x are is = (
  λ h.
      let at = any_at (is_marked marks) x.types (sym (is_some-position (is_marked marks) x.types) ∙ h) in
      let i = each_from (λ (i : Instance). type_number lib i.block_type) t.network.instances x.types at.0 at.1 is.types at.2 in
      let w = leads_from_marked lib steps marks at.1 are at.3 in
      (w.2.0, (w.0, (i.0, element_of_index t.network.instances at.0 i.0 i.1, type_by_number lib i.0.block_type at.1 i.2 ∙ w.1), w.2.1)),
  λ w.
      let d = w.1 in
      let held = d.1 in
      let at = index_of_element t.network.instances held.0 held.1 in
      let n = each_at (λ (i : Instance). type_number lib i.block_type) t.network.instances x.types at.0 held.0 is.types at.1 in
      is_some-position (is_marked marks) x.types
      ∙ any_from (is_marked marks) x.types at.0 n.0 n.1
      (marked_from_leads lib steps marks n.0 are (d.0, sym (type_by_number lib held.0.block_type n.0 n.2) ∙ held.2, (w.0, d.2))),
)

-- marks by what is known of each block type's network
marks_of :
    (lib : Library) (plan : Plan) (r : Resolved) (steps : ℕ) (f : Option NetworkNumbers → Bool) → IsResolved lib plan r → f None ≡ false
    → ((t : CompositeType) (x : NetworkNumbers) → IsNetwork lib (Some t, t.network) x → Decides (f (Some x)) (Leads lib steps t))
    → AreMarks lib steps (map f r.blocks)
marks_of lib plan r steps f is none some = record {
  each = λ k.
      let Q : Option BlockType → Option (Option NetworkNumbers) → Type 0 = λ o p. MarkOf lib steps o (unwrap_or (option_map f p) false) in
      let P : Option Bool → Type 0 = λ p. MarkOf lib steps (slice_get lib.blocks k) (unwrap_or p false) in
      subst P (sym (slice_get-map f r.blocks k))
      (elim (slice_get lib.blocks k) as (λ o. slice_get lib.blocks k ≡ o → Q o (slice_get r.blocks k)) [
        | None ↦ λ e. subst (λ (p : Option (Option NetworkNumbers)). Q None p) (sym (past_both r.blocks lib.blocks k is.counted e)) refl
        | Some b ↦ λ e. at_block lib plan r steps f is none some k b e
      ] refl);
}
  where
    at_block :
        (lib : Library) (plan : Plan) (r : Resolved) (steps : ℕ) (f : Option NetworkNumbers → Bool) → IsResolved lib plan r → f None ≡ false
        → ((t : CompositeType) (x : NetworkNumbers) → IsNetwork lib (Some t, t.network) x → Decides (f (Some x)) (Leads lib steps t))
        → (k : ℕ) (b : BlockType) → slice_get lib.blocks k ≡ Some b → MarkOf lib steps (Some b) (unwrap_or (option_map f (slice_get r.blocks k)) false)
    at_block lib plan r steps f is none some k (block.Basic t) e =
        ap (λ (p : Option (Option NetworkNumbers)). unwrap_or (option_map f p) false) (is.basics k t e) ∙ none
    at_block lib plan r steps f is none some k (block.Composite t) e =
        let c = is.composites k t e in
        let P : Option (Option NetworkNumbers) → Type 0 = λ p. Decides (unwrap_or (option_map f p) false) (Leads lib steps t) in
        subst P (sym c.1) (some t c.0 c.2)

pub marks_right : (lib : Library) (plan : Plan) (r : Resolved) (n : ℕ) → IsResolved lib plan r → AreMarks lib n (marks_after n r.blocks)
marks_right lib plan r zero is = marks_of lib plan r zero is_some is refl (λ t x _. (λ _. (t, refl), λ _. refl))
marks_right lib plan r (suc n) is =
    let before = marks_right lib plan r n is in
    marks_of lib plan r (suc n) (holds_marked (marks_after n r.blocks)) is refl (λ t x net. holds-Decides lib n (marks_after n r.blocks) t x before net)

-- one more round of a loop
pub marks_more :
    (xs : List (Option NetworkNumbers)) (n : ℕ) (marks seen more : List Bool) → marks ≡ marks_after n xs → seen ≡ marks → more ≡ map (holds_marked seen) xs
    → more ≡ marks_after (n + 1) xs
marks_more xs n marks seen more h same e =
    let one : suc n ≡ n + 1 = omega arith in
    e ∙ ap (λ (ms : List Bool). map (holds_marked ms) xs) (same ∙ h) ∙ ap (λ n. marks_after n xs) one

pub marks_done : (xs : List (Option NetworkNumbers)) (n m : ℕ) (marks : List Bool) → marks ≡ marks_after n xs → n ≡ m → marks ≡ marks_after m xs
marks_done xs n m marks h e = h ∙ ap (λ n. marks_after n xs) e

-- ---- Types that contain themselves

-- from a type that leads to one that contains itself, any number of steps leads down
pub around :
    (lib : Library) (n : ℕ) (t : CompositeType) → Descends lib (suc n) t t → (steps left : ℕ) (m : CompositeType) → Descends lib left m t → Leads lib steps m
around lib n t cycle zero left m d = (m, refl)
around lib n t cycle (suc steps) (suc left) m d = let r = around lib n t cycle steps left d.0 d.2 in (r.0, (d.0, d.1, r.1))
around lib n t cycle (suc steps) zero m d =
    let r = around lib n t cycle steps n cycle.0 cycle.2 in
    (r.0, (cycle.0, subst (λ (x : CompositeType). Holds lib x cycle.0) (sym d) cycle.1, r.1))

-- ---- The result

-- if no type holds one that is marked after 15 rounds, none is too high
pub none_high :
    (lib : Library) (plan : Plan) (r : Resolved) (marks : List Bool) → IsResolved lib plan r → AreMarks lib 15 marks → All (HoldsNone marks) r.blocks → ¬ (TooHigh lib)
none_high lib plan r marks is are none w =
    let leads : Leads lib 16 w.0 =
    elim w.3 as (λ _. Leads lib 16 w.0) [
      | inl cycle ↦ around lib cycle.0 w.0 cycle.1 16 zero w.0 refl
      | inr chain ↦ (w.1, chain)
    ] in
    let at = index_of_element lib.blocks (block.Composite w.0) w.2 in
    let c = is.composites at.0 w.0 at.1 in
    let held : holds_marked marks (Some c.0) ≡ true = (holds-Decides lib 15 marks w.0 c.0 are c.2).1 leads in
    let not_held : HoldsNone marks (Some c.0) = All-contains (HoldsNone marks) r.blocks (Some c.0) none (element_of_index r.blocks at.0 (Some c.0) c.1) in
    true≢false (sym held ∙ ap is_some not_held)
