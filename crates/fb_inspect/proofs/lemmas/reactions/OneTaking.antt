-- What the blocks remember and the first line determine a taking, and the lines determine a row of takings.
use Rattle.fb_types.proofs.Common.{◌≡◌, ℕ, zero, suc, true, false, List, [], ◌∷◌, ◌++◌, Option, Some, None, refl, sym, ◌∙◌, ap, subst, inl, inr, append_assoc, append_cancel_left, Kind, Basic, Event, Composite, Emission, Position, memory_of, with_values, InState, System}
use Rattle.fb_types.specs.declared.event_kind.EventKind.{EventKind}
use Rattle.fb_types.specs.declared.library.BasicType.{BasicType}
use Rattle.fb_types.specs.EventBlocks as blocks
use Rattle.fb_types.specs.States.{Line}
use Rattle.fb_inspect.specs.Inspections.{AreTakings, all_lines}
use Rattle.fb_inspect.specs.walk.Looks.{IsTaking, IsTakingAt, IsTakingByBlock, IsTakingByChart, IsTakingByComposite, IsTakingByTimer, IsTakingWith, Look, Taking, emits_pieces, left_at, memory_pieces, reacted, taking_lines, with_left, with_seen}
use Rattle.fb_inspect.proofs.lemmas.reactions.ShowingLaws.{reaction_one}

taking_is : (x y : Taking) → x.first ≡ y.first → x.emits ≡ y.emits → x.pieces ≡ y.pieces → x.stop ≡ y.stop → x.after ≡ y.after → x ≡ y
taking_is x y f e p s a =
    ap (λ v. record x { first = v }) f
    ∙ ap (λ v. record { first = y.first; emits = v; pieces = x.pieces; stop = x.stop; after = x.after }) e
    ∙ ap (λ v. record { first = y.first; emits = y.emits; pieces = v; stop = x.stop; after = x.after }) p
    ∙ ap (λ v. record { first = y.first; emits = y.emits; pieces = y.pieces; stop = v; after = x.after }) s
    ∙ ap (λ v. record { first = y.first; emits = y.emits; pieces = y.pieces; stop = y.stop; after = v }) a

-- a taking with another first line
abbrev pub at_line : Taking → Line → Taking
at_line x f = record x { first = f }

pub rests : (e f : Emission) (es fs : List Emission) → e ∷ es ≡ f ∷ fs → es ≡ fs
rests e f es fs same = cc

-- ---- One taking

module _ (left : ℕ) (look : Look) (x y : Taking) (first : x.first ≡ y.first) where
  chart_one : (t : BasicType) → IsTakingByChart left look t (at_line x y.first) → IsTakingByChart left look t y → x ≡ y
  chart_one t h i =
      let f = y.first in
      let one = reaction_one t f.event _ x.stop y.stop h.end i.end x.pieces y.pieces h.shown i.shown in
      taking_is x y first (h.emitted ∙ ap (λ (q : Position). q.emitted) one.end_is ∙ sym i.emitted) one.pieces_are one.stop_is
      (h.is ∙ ap (λ (q : Position). with_seen f.at (record (look.blocks f.at) { memory = InState q.state; variables = q.vars }) (with_left f.key q.left look)) one.end_is ∙ sym i.is)

  block_one : (kind : EventKind) → IsTakingByBlock left look kind (at_line x y.first) → IsTakingByBlock left look kind y → x ≡ y
  block_one kind h i =
      let f = y.first in
      let b = look.blocks f.at in
      let vars = with_values f.values b.variables in
      let c = reacted b (blocks.reaction kind (memory_of b.memory) f.event f.key.tick vars) vars b.due in
      let same : x.emits ≡ y.emits = h.is.0 ∙ sym i.is.0 in
      taking_is x y first same (h.is.1 ∙ ap (λ (es : List Emission). memory_pieces b c ++ emits_pieces es) same ∙ sym i.is.1) (h.goes_on ∙ sym i.goes_on) (h.is.2 ∙ sym i.is.2)

  timer_one : (kind : EventKind) → IsTakingByTimer left look kind (at_line x y.first) → IsTakingByTimer left look kind y → x ≡ y
  timer_one kind h i =
      let f = y.first in
      let b = look.blocks f.at in
      let c = reacted b (blocks.expiry kind (memory_of b.memory) f.key.tick) b.variables None in
      let same : x.emits ≡ y.emits = rests _ _ x.emits y.emits (h.is.0 ∙ sym i.is.0) in
      taking_is x y first same (h.is.1 ∙ ap (λ (es : List Emission). memory_pieces b c ++ emits_pieces es) same ∙ sym i.is.1) (h.goes_on ∙ sym i.goes_on) (h.is.2 ∙ sym i.is.2)

  composite_one : IsTakingByComposite left look (at_line x y.first) → IsTakingByComposite left look y → x ≡ y
  composite_one h i = taking_is x y first (h.none ∙ sym i.none) (h.silent ∙ sym i.silent) (h.goes_on ∙ sym i.goes_on) (h.is ∙ sym i.is)

  taken_or_not : y.first.taken ≡ true → y.first.taken ≡ false → ⊥
  taken_or_not t f = cc

  event_one : (kind : EventKind) → IsTakingAt left look (Some (Event kind)) (at_line x y.first) → IsTakingAt left look (Some (Event kind)) y → x ≡ y
  event_one kind (inl h) (inl i) = block_one kind h i
  event_one kind (inl h) (inr i) = absurd (taken_or_not h.taken i.emitted)
  event_one kind (inr h) (inl i) = absurd (taken_or_not i.taken h.emitted)
  event_one kind (inr h) (inr i) = timer_one kind h i

  at_one : (k : Option Kind) → IsTakingAt left look k (at_line x y.first) → IsTakingAt left look k y → x ≡ y
  at_one None h i = absurd h
  at_one (Some (Basic t)) h i = chart_one t h i
  at_one (Some (Event kind)) h i = event_one kind h i
  at_one (Some (Composite t)) h i = composite_one h i

with_one : (sys : System) (look : Look) (left : ℕ) (x y : Taking) → x.first ≡ y.first → IsTakingWith sys look left (at_line x y.first) → IsTakingWith sys look left y → x ≡ y
with_one sys look zero x y first h i = absurd h
with_one sys look (suc left) x y first h i = at_one left look x y first (sys.kind y.first.at) h.1 i.1

pub taking_one : (sys : System) (limit : ℕ) (look : Look) (x y : Taking) → IsTaking sys limit look x → IsTaking sys limit look y → x.first ≡ y.first → x ≡ y
taking_one sys limit look x y h i first =
    let f = y.first in
    with_one sys look (left_at limit f.key.tick (look.steps f.key.resource)) x y first (subst (λ (l : Line). IsTaking sys limit look (at_line x l)) first h) i

-- ---- Rows of takings

pub first_line : (l m : Line) (ls ms : List Line) → l ∷ ls ≡ m ∷ ms → l ≡ m
first_line l m ls ms same = cc

pub nothing : (l : Line) (ls : List Line) → [] ≡ l ∷ ls → ⊥
nothing l ls same = cc

module _ (sys : System) (limit : ℕ) where
  pub row_one :
      (look : Look) (xs ys : List Taking) (more : List Line) → AreTakings sys limit look xs → AreTakings sys limit look ys → all_lines ys ≡ all_lines xs ++ more
      → (zs : List Taking) × (ys ≡ xs ++ zs) × (all_lines zs ≡ more)
  row_one look [] ys more are other e = (ys, refl, e)
  row_one look (x ∷ xs) [] more are other e = absurd (nothing x.first _ e)
  row_one look (x ∷ xs) (y ∷ ys) more are other e =
      let same : x ≡ y = taking_one sys limit look x y are.0 other.0 (sym (first_line y.first x.first _ _ e)) in
      let rest : all_lines ys ≡ all_lines xs ++ more =
      append_cancel_left (taking_lines y) _ _ (e ∙ append_assoc (taking_lines x) (all_lines xs) more ∙ ap (λ (z : Taking). taking_lines z ++ (all_lines xs ++ more)) same)
      in
      let goes = row_one y.after xs ys more (subst (λ (z : Taking). AreTakings sys limit z.after xs) same are.2) other.2 rest in
      (goes.0, ap (λ (zs : List Taking). y ∷ zs) goes.1 ∙ ap (λ (z : Taking). z ∷ (xs ++ goes.0)) (sym same), goes.2)
