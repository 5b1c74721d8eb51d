-- What came home belongs to the system.
use Rattle.fb_window.proofs.lemmas.Common.{◌≡◌, ℕ, suc, ◌+◌, ◌<◌, ◌≤◌, Some, List, [], ◌∷◌, ◌++◌, length, refl, sym, subst, ⊎_elim, arith, All, Vec, slice_get, All-nil, All-head, All-tail, Inputs, system_of, Line, Message, BelongsTo, IsMessage, Resource, AreCut, Edge, AreHome, Home}
use Rattle.fb_types.proofs.Common.{All-cons, All-append, All-weaker}
use Rattle.fb_types.proofs.lemmas.lists.Lookups.{option_cases}
use Rattle.fb_trace.proofs.lemmas.order.StableSort.{kept}
use Rattle.fb_laws.proofs.lemmas.lists.Indexes.{has_at, is_at, one_at}
use Rattle.fb_laws.proofs.lemmas.lists.Scans.{holds_more}
use Rattle.fb_types.proofs.lemmas.lists.ByIndex.{all_at}

pub all_by_index : {X : Type 0} (P : X → Type 0) (xs : List X) → ((n : ℕ) (x : X) → slice_get xs n ≡ Some x → P x) → All P xs
all_by_index P [] h = All-nil P
all_by_index P (x ∷ xs) h = All-cons P x xs (h 0 x refl) (all_by_index P xs (λ n y e. h (suc n) y e))

-- No list at an index below has anything in it.
abbrev pub AreEmptyBelow : {X : Type 0} (lists : List (Vec X)) (n : ℕ) → Type 0
AreEmptyBelow {X} lists n = (r : ℕ) (list : Vec X) → r < n → slice_get lists r ≡ Some list → list.items ≡ []

pub empty_more : {X : Type 0} (lists : List (Vec X)) (n : ℕ) (x : Vec X) → slice_get lists n ≡ Some x → x.items ≡ [] → AreEmptyBelow lists n → AreEmptyBelow lists (n + 1)
empty_more {X} lists n x at none below = holds_more (λ (y : Vec X). y.items ≡ []) lists n x at none below

pub empty_all : {X : Type 0} (lists : List (Vec X)) (n : ℕ) → length lists ≤ n → AreEmptyBelow lists n → All (λ (p : Vec X). p.items ≡ []) lists
empty_all {X} lists n end below = all_by_index (λ (p : Vec X). p.items ≡ []) lists (λ r p e. let b = is_at lists r p e in below r p (omega arith) e)

all_front : {X : Type 0} (P : X → Type 0) (xs ys : List X) → All P (xs ++ ys) → All P xs
all_front P [] ys h = All-nil P
all_front P (x ∷ xs) ys h = All-cons P x xs (All-head P x (xs ++ ys) h) (all_front P xs ys (All-tail P x (xs ++ ys) h))

all_back : {X : Type 0} (P : X → Type 0) (xs ys : List X) → All P (xs ++ ys) → All P ys
all_back P [] ys h = h
all_back P (x ∷ xs) ys h = all_back P xs ys (All-tail P x (xs ++ ys) h)

module _ (i : Inputs) (limit : ℕ) (bounds : List ℕ) (xs : List Resource) (before : List (Vec Line)) (h : Home) (home : AreHome i limit bounds xs before h) where
  -- the messages go to instances of the system
  pub targets_in : All (λ (box : Vec Message). All (λ m. m.target.instance < length (system_of i).paths) box.items) h.outboxes.items
  targets_in =
      all_by_index (λ (box : Vec Message). All (λ m. m.target.instance < length (system_of i).paths) box.items) h.outboxes.items
      (λ r box e.
      let b : r < length xs = let f = is_at h.outboxes.items r box e in let n = home.outboxes in omega arith in
      let it = home.each r b in
      subst (λ (z : Vec Message). All (λ m. m.target.instance < length (system_of i).paths) z.items) (one_at h.outboxes.items r it.sent box it.sent_at e)
      (⊎_elim
      (λ live. All-weaker (IsMessage i) (λ m. m.target.instance < length (system_of i).paths) (λ m q. q.event.numbered.0.port.instance) it.sent.items (it.come.ran live).2.3)
      (λ q. subst (All (λ m. m.target.instance < length (system_of i).paths)) (sym (it.come.rested q.0 q.1).2) (All-nil _))
      (option_cases it.old.stopped)))

  -- and the lines are its lines
  pub lines_belong : All (λ (p : Vec Line). All (BelongsTo (system_of i)) p.items) before → All (λ (p : Vec Line). All (BelongsTo (system_of i)) p.items) h.pending.items
  lines_belong old =
      all_by_index (λ (p : Vec Line). All (BelongsTo (system_of i)) p.items) h.pending.items
      (λ r lines e.
      let b : r < length xs = let f = is_at h.pending.items r lines e in let n = home.pending in omega arith in
      let it = home.each r b in
      let kept_in : All (BelongsTo (system_of i)) it.kept.items = all_at (λ (p : Vec Line). All (BelongsTo (system_of i)) p.items) before r it.kept old it.kept_at in
      subst (λ (z : Vec Line). All (BelongsTo (system_of i)) z.items) (one_at h.pending.items r it.lines lines it.lines_at e)
      (⊎_elim
      (λ live. let q = it.come.ran live in subst (All (BelongsTo (system_of i))) (sym q.3) (All-append (BelongsTo (system_of i)) it.kept.items q.0.items kept_in q.2.2))
      (λ q. subst (All (BelongsTo (system_of i))) (sym (it.come.rested q.0 q.1).1) kept_in)
      (option_cases it.old.stopped)))

-- Cut and merged, they are still.
module _ (P : Line → Type 0) (e : Edge) (lists fronts rests : List (Vec Line)) (cut : AreCut e lists fronts rests) (all : All (λ (p : Vec Line). All P p.items) lists) where
  pub rests_in : All (λ (p : Vec Line). All P p.items) rests
  rests_in =
      all_by_index (λ (p : Vec Line). All P p.items) rests
      (λ r p f.
      let b : r < length lists = let g = is_at rests r p f in let n = cut.rests in omega arith in
      let q = has_at lists r b in
      let s = cut.each r q.0 q.1 in
      subst (λ (z : Vec Line). All P z.items) (one_at rests r s.1 p s.3 f)
      (all_back P s.0.items s.1.items (subst (All P) s.4.parts (all_at (λ (z : Vec Line). All P z.items) lists r q.0 all q.1))))

  pub fronts_in : All (λ (p : Vec Line). All P p.items) fronts
  fronts_in =
      all_by_index (λ (p : Vec Line). All P p.items) fronts
      (λ r p f.
      let b : r < length lists = let g = is_at fronts r p f in let n = cut.fronts in omega arith in
      let q = has_at lists r b in
      let s = cut.each r q.0 q.1 in
      subst (λ (z : Vec Line). All P z.items) (one_at fronts r s.0 p s.2 f)
      (all_front P s.0.items s.1.items (subst (All P) s.4.parts (all_at (λ (z : Vec Line). All P z.items) lists r q.0 all q.1))))
