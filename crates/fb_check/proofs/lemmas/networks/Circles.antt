-- Composite types that lead back to themselves, or too far down, by number.
use Rattle.fb_check.proofs.lemmas.Common.{◌≡◌, ℕ, zero, suc, Bool, List, Option, Some, None, refl, sym, ◌∙◌, ap, subst, inl, inr, true≢false, All, slice_get, option_map, option_and_then, position, kind_of, TooHigh, Library, BlockType, CompositeType, Instance, Plan, TypeNumber, NetworkNumbers, Resolved, IsNetwork, IsResolved, kind_of_number, type_number, HoldsNone, is_marked}
use Rattle.fb_types.proofs.Common.{MatchOption, Composite}
use Rattle.fb_types.specs.Joined.{Holds, Descends}
use Rattle.fb_types.specs.declared.library.BlockType.TheVariants as block
use Rattle.fb_types.proofs.lemmas.lists.ByIndex.{element_of_index}
use Rattle.fb_check_names.specs.declared.numbers.TypeNumber.TheVariants as number
use Rattle.fb_check_names.proofs.lemmas.Each.{each_from}
use Rattle.fb_check_names.specs.declared.location.TooHighAt.{TooHighAt}
use Rattle.fb_check_names.specs.declared.location.TooHighAt.TheVariants.{Circle, Height}
use Rattle.fb_check.specs.networks.Applies.{TooHighApplies}
use Rattle.fb_check.specs.networks.Heights.{IsTooHighIn, IsHeld, IsPart, IsTooHighAt, LeadsBack, NoneLasts, NoneReturns, Steps, below, declared_index, first_marked_component, mark_at, marks_after, type_inside}
use Rattle.fb_check.proofs.lemmas.networks.Lists.{past_both}
use Rattle.fb_check.proofs.lemmas.networks.SearchLoops.{position_at}
use Rattle.fb_check.proofs.lemmas.networks.Marked.{AreMarks, MarkOf, around, leads_from_marked, marks_right, none_high}
use Rattle.fb_check.proofs.lemmas.networks.Naming.{type_by_number}

-- ---- Composite types by number

-- where a block type has a network, it is composite
composite_there :
    (lib : Library) (plan : Plan) (r : Resolved) → IsResolved lib plan r → (k : ℕ) (x : NetworkNumbers) → slice_get r.blocks k ≡ Some (Some x)
    → (t : CompositeType) × (slice_get lib.blocks k ≡ Some (block.Composite t)) × IsNetwork lib (Some t, t.network) x
composite_there lib plan r is k x h =
    elim (slice_get lib.blocks k) as (λ o. slice_get lib.blocks k ≡ o → (t : CompositeType) × (slice_get lib.blocks k ≡ Some (block.Composite t)) × IsNetwork lib (Some t, t.network) x) [
      | None ↦ λ e. absurd (let no : Some (Some x) ≡ None = sym h ∙ past_both r.blocks lib.blocks k is.counted e in cc)
      | Some b ↦ λ e. from_block lib plan r is k x h b e
    ] refl
  where
    from_block :
        (lib : Library) (plan : Plan) (r : Resolved) → IsResolved lib plan r → (k : ℕ) (x : NetworkNumbers) → slice_get r.blocks k ≡ Some (Some x)
        → (b : BlockType) → slice_get lib.blocks k ≡ Some b → (t : CompositeType) × (slice_get lib.blocks k ≡ Some (block.Composite t)) × IsNetwork lib (Some t, t.network) x
    from_block lib plan r is k x h (block.Basic t) e = absurd (let no : Some (Some x) ≡ Some None = sym h ∙ is.basics k t e in cc)
    from_block lib plan r is k x h (block.Composite t) e =
        let c = is.composites k t e in
        let both : Some (Some c.0) ≡ Some (Some x) = sym c.1 ∙ h in
        let same : c.0 ≡ x = cc in
        (t, e, subst (λ (x : NetworkNumbers). IsNetwork lib (Some t, t.network) x) same c.2)

composite_from_kind : (o : Option BlockType) (u : CompositeType) → option_map kind_of o ≡ Some (Composite u) → o ≡ Some (block.Composite u)
composite_from_kind None u h = absurd (cc)
composite_from_kind (Some (block.Basic t)) u h = absurd (cc)
composite_from_kind (Some (block.Composite t)) u h = let e : t ≡ u = cc in ap (λ (t : CompositeType). Some (block.Composite t)) e

declared_at : (o : Option TypeNumber) (j : ℕ) → declared_index o ≡ Some j → o ≡ Some (number.Declared j)
declared_at None j h = absurd (cc)
declared_at (Some (number.Event k)) j h = absurd (cc)
declared_at (Some (number.Declared m)) j h = let e : m ≡ j = cc in ap (λ (m : ℕ). Some (number.Declared m)) e

-- ---- Ways down by number

-- a step to the type of the first marked component
pub part_below : (xs : List (Option NetworkNumbers)) (marks : List Bool) (k j : ℕ) → below xs marks k ≡ Some j → IsPart xs k j
part_below xs marks k j h =
    elim (slice_get xs k) as
    (λ o. slice_get xs k ≡ o → option_and_then (λ (o : Option NetworkNumbers). option_and_then (type_inside o) (first_marked_component marks o)) o ≡ Some j → IsPart xs k j) [
      | None ↦ λ e g. absurd (cc)
      | Some o ↦ λ e g. part_of xs marks k j o e g
    ] refl h
  where
    part_of :
        (xs : List (Option NetworkNumbers)) (marks : List Bool) (k j : ℕ) (o : Option NetworkNumbers) → slice_get xs k ≡ Some o
        → option_and_then (type_inside o) (first_marked_component marks o) ≡ Some j → IsPart xs k j
    part_of xs marks k j None e h = absurd (cc)
    part_of xs marks k j (Some x) e h =
        elim (position (is_marked marks) x.types) as (λ o. option_and_then (type_inside (Some x)) o ≡ Some j → IsPart xs k j) [
          | None ↦ λ g. absurd (cc)
          | Some i ↦ λ g. record { numbers = x; holder = e; component = i; of_type = declared_at (slice_get x.types i) j g }
        ] h

-- ---- Ways down of composite types

held_there :
    (lib : Library) (k i : ℕ) (t : CompositeType) (x : NetworkNumbers) (y : TypeNumber) (u : CompositeType) → slice_get lib.blocks k ≡ Some (block.Composite t)
    → IsNetwork lib (Some t, t.network) x → slice_get x.types i ≡ Some y → kind_of_number lib y ≡ Some (Composite u) → IsHeld lib k i t u
held_there lib k i t x y u at net of kind =
    let n = each_from (λ (i : Instance). type_number lib i.block_type) t.network.instances x.types i y net.types of in
    record { holder = at; instance = n.0; at_index = n.1; of_type = type_by_number lib n.0.block_type y n.2 ∙ kind }

held : (lib : Library) (k i : ℕ) (t u : CompositeType) → IsHeld lib k i t u → Holds lib t u
held lib k i t u h = (h.instance, element_of_index t.network.instances i h.instance h.at_index, h.of_type)

step :
    (lib : Library) (plan : Plan) (r : Resolved) → IsResolved lib plan r → (j m : ℕ) (t v : CompositeType) → IsPart r.blocks j m → slice_get lib.blocks j ≡ Some (block.Composite t)
    → slice_get lib.blocks m ≡ Some (block.Composite v) → Holds lib t v
step lib plan r is j m t v p at to =
    let c = composite_there lib plan r is j p.numbers p.holder in
    let both : Some (block.Composite c.0) ≡ Some (block.Composite t) = sym c.1 ∙ at in
    let same : c.0 ≡ t = cc in
    subst (λ (t : CompositeType). Holds lib t v) same
    (held lib j p.component c.0 v (held_there lib j p.component c.0 p.numbers (number.Declared m) v c.1 c.2 p.of_type (ap (option_map kind_of) to)))

composite_on :
    (lib : Library) (plan : Plan) (r : Resolved) → IsResolved lib plan r → (n m k : ℕ) (u : CompositeType) → Steps r.blocks n m k → slice_get lib.blocks k ≡ Some (block.Composite u)
    → (v : CompositeType) × (slice_get lib.blocks m ≡ Some (block.Composite v))
composite_on lib plan r is zero m k u s to = (u, ap (slice_get lib.blocks) s ∙ to)
composite_on lib plan r is (suc n) m k u s to = let c = composite_there lib plan r is m s.1.numbers s.1.holder in (c.0, c.1)

descends :
    (lib : Library) (plan : Plan) (r : Resolved) → IsResolved lib plan r → (n j k : ℕ) (t u : CompositeType) → Steps r.blocks n j k → slice_get lib.blocks j ≡ Some (block.Composite t)
    → slice_get lib.blocks k ≡ Some (block.Composite u) → Descends lib n t u
descends lib plan r is zero j k t u s at to =
    let both : Some (block.Composite t) ≡ Some (block.Composite u) = sym at ∙ ap (slice_get lib.blocks) s ∙ to in cc
descends lib plan r is (suc n) j k t u s at to =
    let w = composite_on lib plan r is n s.0 k u s.2 to in
    (w.0, step lib plan r is j s.0 t w.0 s.1 at w.1, descends lib plan r is n s.0 k w.0 u s.2 w.1 to)

-- ---- The result

-- where no mark lasts no type contains itself: any number of steps leads down from one that does
none_returns : (lib : Library) (plan : Plan) (r : Resolved) → IsResolved lib plan r → NoneLasts r.blocks → NoneReturns lib
none_returns lib plan r is none k i t u h back =
    let marks = none.0 in
    let n = none.1.rounds in
    let are : AreMarks lib n marks = subst (λ (ms : List Bool). AreMarks lib n ms) (sym none.1.are) (marks_right lib plan r n is) in
    let circle : Descends lib (suc back.0) t t = (u, held lib k i t u h, back.1) in
    let of_mark : MarkOf lib n (Some (block.Composite t)) (mark_at marks k) = subst (λ (o : Option BlockType). MarkOf lib n o (mark_at marks k)) h.holder (are.each k) in
    true≢false (sym (of_mark.1 (around lib back.0 t circle n zero t refl)) ∙ none.2 k)

height_at :
    (lib : Library) (plan : Plan) (r : Resolved) (marks : List Bool) (k i : ℕ) (o : Option NetworkNumbers) → IsResolved lib plan r → AreMarks lib 15 marks → slice_get r.blocks k ≡ Some o
    → first_marked_component marks o ≡ Some i → NoneLasts r.blocks → IsTooHighAt lib (Height k i)
height_at lib plan r marks k i None is are at found none = absurd (cc)
height_at lib plan r marks k i (Some x) is are at found none =
    let c = composite_there lib plan r is k x at in
    let f = position_at (is_marked marks) x.types i found in
    let w = leads_from_marked lib 15 marks f.0 are f.2 in
    (c.0, w.0, held_there lib k i c.0 x f.0 w.0 c.1 c.2 f.1 w.1, w.2, none_returns lib plan r is none)

circle_at :
    (lib : Library) (plan : Plan) (r : Resolved) (steps : ℕ) (marks : List Bool) (k i : ℕ) (o : Option NetworkNumbers) → IsResolved lib plan r → AreMarks lib steps marks → slice_get r.blocks k ≡ Some o
    → first_marked_component marks o ≡ Some i → LeadsBack r.blocks k o i → IsTooHighAt lib (Circle k i)
circle_at lib plan r steps marks k i None is are at found back = absurd (cc)
circle_at lib plan r steps marks k i (Some x) is are at found back =
    let c = composite_there lib plan r is k x at in
    let f = position_at (is_marked marks) x.types i found in
    let w = leads_from_marked lib steps marks f.0 are f.2 in
    let both : Some f.0 ≡ Some (number.Declared back.through) = sym f.1 ∙ declared_at (slice_get x.types i) back.through back.inside in
    let same : f.0 ≡ number.Declared back.through = cc in
    let there = composite_from_kind (slice_get lib.blocks back.through) w.0 (ap (kind_of_number lib) (sym same) ∙ w.1) in
    (c.0, w.0, held_there lib k i c.0 x f.0 w.0 c.1 c.2 f.1 w.1, (back.leads.0, descends lib plan r is back.leads.0 back.through k w.0 c.0 back.leads.1 there c.1))

high_answer_of :
    (lib : Library) (plan : Plan) (r : Resolved) (marks : List Bool) (o : Option TooHighAt) → IsResolved lib plan r → AreMarks lib 15 marks
    → MatchOption o (All (HoldsNone marks) r.blocks) (IsTooHighIn r.blocks marks) → MatchOption o (¬ (TooHigh lib)) (IsTooHighAt lib)
high_answer_of lib plan r marks None is are h = none_high lib plan r marks is are h
high_answer_of lib plan r marks (Some (Circle k i)) is are h =
    let steps = h.1.rounds in
    let lasting : AreMarks lib steps h.0 = subst (λ (ms : List Bool). AreMarks lib steps ms) (sym h.1.are) (marks_right lib plan r steps is) in
    circle_at lib plan r steps h.0 k i h.2.0 is lasting h.2.1 h.2.2 h.2.3
high_answer_of lib plan r marks (Some (Height k i)) is are h = height_at lib plan r marks k i h.0.0 is are h.0.1 h.0.2 h.1

pub high_answer :
    (lib : Library) (plan : Plan) (r : Resolved) (xs : List (Option NetworkNumbers)) (marks seen : List Bool) (o : Option TooHighAt) → xs ≡ r.blocks → marks ≡ marks_after 15 xs → seen ≡ marks
    → MatchOption o (All (HoldsNone seen) xs) (IsTooHighIn xs seen) → IsResolved lib plan r → MatchOption o (¬ (TooHigh lib)) (IsTooHighAt lib)
high_answer lib plan r xs marks seen o blocks after same found is =
    let are : AreMarks lib 15 seen = subst (λ (ms : List Bool). AreMarks lib 15 ms) (sym (same ∙ after ∙ ap (marks_after 15) blocks)) (marks_right lib plan r 15 is) in
    high_answer_of lib plan r seen o is are (subst (λ (ys : List (Option NetworkNumbers)). MatchOption o (All (HoldsNone seen) ys) (IsTooHighIn ys seen)) blocks found)

pub height_applies : TooHighApplies
height_applies lib (Circle k i) h =
    (h.0, h.0, element_of_index lib.blocks k (block.Composite h.0) h.2.holder, inl (h.3.0, (h.1, held lib k i h.0 h.1 h.2, h.3.1)))
height_applies lib (Height k i) h =
    (h.0, h.3.0, element_of_index lib.blocks k (block.Composite h.0) h.2.holder, inr (h.1, held lib k i h.0 h.1 h.2, h.3.1))
