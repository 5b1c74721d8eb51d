-- What is found on the way over the resources, and over their lines.
use Rattle.fb_window.proofs.lemmas.Common.{◌≡◌, ℕ, zero, suc, ◌+◌, ◌<◌, ◌≤◌, ◌⊎◌, true, false, Option, Some, None, List, [], ◌∷◌, ◌++◌, length, drop, refl, sym, ap, ◌∙◌, subst, inl, inr, ⊎_elim, arith, Vec, filter, is_some, nat_lt, slice_get, cases_lt, System, Line, Message, StopMark, Reason, Resource, all_of, ArePosted, Edge, until, AreCut, AreLive, IsFirstStop}
use Rattle.fb_types.proofs.Common.{not, get_or, take, IfOk, Result, Ok, get_or_from_slice_get, slice_get-get_or, IfNone, lt-ltb, le-ltb, ltb-true, ltb-false, Each}
use Rattle.std.specs.List.Sorted.{IsNonDecreasingBy, IsPartitionedBy, IsPartitionPoint}
use Rattle.std.proofs.lemmas.List.Sorted.{IsPartitionedBy-ltb}
use Rattle.fb_types.proofs.lemmas.lists.EachLaws.{each_map}
use Rattle.fb_types.proofs.lemmas.lists.Lookups.{none_some}
use Rattle.fb_resource.specs.Resources.{HasReceived}
use Rattle.fb_laws.proofs.lemmas.schedules.Lines.{filter_all, filter_in, filter_nothing, filter_out}
use Rattle.fb_link.specs.Exchanges.{AreFor}
use Rattle.fb_trace.specs.Merging.{Rises, tick_of}
use Rattle.fb_window.specs.Mails.{AreDelivered}
use Rattle.fb_window.specs.Frontiers.{AreAllPast, AreAtHorizon, IsFrontierTo, IsSplit, floor_at}
use Rattle.fb_laws.proofs.lemmas.lists.Indexes.{is_at, one_at, push_before, push_counted, push_here}

-- ---- The frontier

module _ (m : ℕ) (xs : List Resource) where
  -- the next resource has the least floor
  pub frontier_new : (n : ℕ) (e new : Edge) (x : Resource) → slice_get xs n ≡ Some x → IsFrontierTo m xs n e → (n ≡ 0) ⊎ (floor_at m x < e.tick)
      → new.tick ≡ floor_at m x → new.resource ≡ n → new.within ≡ is_some x.stopped → IsFrontierTo m xs (n + 1) new
  frontier_new n e new x at f less tick index within = record {
    least = λ r y b g.
        ⊎_elim
        (λ (l : r < n). ⊎_elim
        (λ z. absurd (omega arith))
        (λ (z : floor_at m x < e.tick). ⊎_elim (λ h. inl (omega arith)) (λ h. let k = h.0 in inl (omega arith)) (f.least r y l g))
        less)
        (λ (l : n ≤ r). let q : r ≡ n = omega arith in let same : y ≡ x = one_at xs r y x g (subst (λ (z : ℕ). slice_get xs z ≡ Some x) (sym q) at) in
        let h : floor_at m y ≡ floor_at m x = ap (λ z. floor_at m z) same in inr (omega arith, omega arith))
        (cases_lt r n);
    there = λ b. (x, omega arith, subst (λ (z : ℕ). slice_get xs z ≡ Some x) (sym index) at, sym tick, within);
  }

  -- it has not
  pub frontier_old : (n : ℕ) (e : Edge) (x : Resource) → slice_get xs n ≡ Some x → IsFrontierTo m xs n e → 0 < n → e.tick ≤ floor_at m x → IsFrontierTo m xs (n + 1) e
  frontier_old n e x at f some low =
      let t = f.there some in
      let placed : e.resource < n = t.1 in
      record {
        least = λ r y b g.
            ⊎_elim (λ (l : r < n). f.least r y l g)
            (λ (l : n ≤ r). let q : r ≡ n = omega arith in let same : y ≡ x = one_at xs r y x g (subst (λ (z : ℕ). slice_get xs z ≡ Some x) (sym q) at) in
            let h : floor_at m y ≡ floor_at m x = ap (λ z. floor_at m z) same in
            ⊎_elim (λ (k : e.tick < floor_at m x). inl (omega arith)) (λ (k : floor_at m x ≤ e.tick). inr (omega arith, omega arith)) (cases_lt e.tick (floor_at m x)))
            (cases_lt r n);
        there = λ b. (t.0, omega arith, t.2, t.3, t.4);
      }

-- ---- Stops

-- the least stop of the first ones, if one of them has stopped
abbrev pub FirstOf : List Resource → (n : ℕ) → Option StopMark → Type 0
FirstOf xs n None = (r : ℕ) (x : Resource) → r < n → slice_get xs r ≡ Some x → x.stopped ≡ None
FirstOf xs n (Some m) = IsFirstStop xs n m

module _ (xs : List Resource) where
  pub first_live : (n : ℕ) (o : Option StopMark) (x : Resource) → slice_get xs n ≡ Some x → x.stopped ≡ None → FirstOf xs n o → FirstOf xs (n + 1) o
  first_live n None x at live f = λ r y b g.
      ⊎_elim (λ (l : r < n). f r y l g)
      (λ (l : n ≤ r). let q : r ≡ n = omega arith in ap (λ (z : Resource). z.stopped) (one_at xs r y x g (subst (λ (z : ℕ). slice_get xs z ≡ Some x) (sym q) at)) ∙ live)
      (cases_lt r n)
  first_live n (Some m) x at live f = record {
    there = f.there;
    least = λ r y reason b g e.
        ⊎_elim (λ (l : r < n). f.least r y reason l g e)
        (λ (l : n ≤ r). let q : r ≡ n = omega arith in absurd (none_some _ _ (ap (λ (z : Resource). z.stopped) (one_at xs r y x g (subst (λ (z : ℕ). slice_get xs z ≡ Some x) (sym q) at)) ∙ live) e))
        (cases_lt r n);
  }

  first_old : (n : ℕ) (m : StopMark) (x : Resource) → slice_get xs n ≡ Some x → IsFirstStop xs n m → m.tick ≤ x.clock → m.resource ≤ n → IsFirstStop xs (n + 1) m
  first_old n m x at f low placed = record {
    there = f.there;
    least = λ r y reason b g e.
        ⊎_elim (λ (l : r < n). f.least r y reason l g e)
        (λ (l : n ≤ r). let q : r ≡ n = omega arith in let clock : y.clock ≡ x.clock = ap (λ (z : Resource). z.clock) (one_at xs r y x g (subst (λ (z : ℕ). slice_get xs z ≡ Some x) (sym q) at)) in
        ⊎_elim (λ (k : m.tick < x.clock). inl (omega arith)) (λ (k : x.clock ≤ m.tick). inr (omega arith, omega arith)) (cases_lt m.tick x.clock))
        (cases_lt r n);
  }

  -- one that has stopped, at the mark that is its own
  pub first_new : (n : ℕ) (o : Option StopMark) (m : StopMark) (x : Resource) → slice_get xs n ≡ Some x → x.stopped ≡ Some m.reason → x.clock ≡ m.tick → m.resource ≡ n
      → FirstOf xs n o → ((old : StopMark) → o ≡ Some old → m.tick < old.tick) → IsFirstStop xs (n + 1) m
  first_new n o m x at stop clock index f less = record {
    there = (x, subst (λ (z : ℕ). slice_get xs z ≡ Some x) (sym index) at, stop, clock);
    least = λ r y reason b g e.
        ⊎_elim (λ (l : r < n). inl (before r y reason l g e o f less))
        (λ (l : n ≤ r). let q : r ≡ n = omega arith in let same : y.clock ≡ x.clock = ap (λ (z : Resource). z.clock) (one_at xs r y x g (subst (λ (z : ℕ). slice_get xs z ≡ Some x) (sym q) at)) in inr (omega arith, omega arith))
        (cases_lt r n);
  }
    where
      before : (r : ℕ) (y : Resource) (reason : Reason) → r < n → slice_get xs r ≡ Some y → y.stopped ≡ Some reason → (p : Option StopMark) → FirstOf xs n p → ((old : StopMark) → p ≡ Some old → m.tick < old.tick) → m.tick < y.clock
      before r y reason l g e None h k = absurd (none_some _ _ (h r y l g) e)
      before r y reason l g e (Some old) h k = let low = k old refl in ⊎_elim (λ a. omega arith) (λ a. let b = a.0 in omega arith) (h.least r y reason l g e)

  pub first_kept : (n : ℕ) (m : StopMark) (x : Resource) → slice_get xs n ≡ Some x → IsFirstStop xs n m → m.tick ≤ x.clock → m.resource < n → IsFirstStop xs (n + 1) m
  first_kept n m x at f low placed = first_old n m x at f low (omega arith)

  -- two least stops are at one tick
  pub first_tick : (m n : StopMark) → IsFirstStop xs (length xs) m → IsFirstStop xs (length xs) n → m.tick ≡ n.tick
  first_tick m n f g =
      let s = f.there in
      let t = g.there in
      let a : s.0.clock ≡ m.tick = s.3 in
      let b : t.0.clock ≡ n.tick = t.3 in
      ⊎_elim
      (λ (l : m.tick < t.0.clock).
      ⊎_elim (λ (k : n.tick < s.0.clock). absurd (omega arith)) (λ k. let h = k.0 in absurd (omega arith)) (g.least m.resource s.0 m.reason (is_at xs m.resource s.0 s.1) s.1 s.2))
      (λ l. let h = l.0 in omega arith)
      (f.least n.resource t.0 n.reason (is_at xs n.resource t.0 t.1) t.1 t.2)

  -- nobody is at the horizon where one has stopped
  pub stopped_open : (horizon : ℕ) (m : StopMark) → IsFirstStop xs (length xs) m → AreAtHorizon horizon xs → ⊥
  stopped_open horizon m f h = let t = f.there in none_some _ _ (h m.resource t.0 t.1).0 t.2

  -- nor is there a least stop that all are past, where one that has not stopped is not past the least
  pub after_open : (m : StopMark) → IsFirstStop xs (length xs) m → (r : ℕ) (x : Resource) → slice_get xs r ≡ Some x → x.stopped ≡ None → x.clock ≤ m.tick
      → (n : StopMark) → IsFirstStop xs (length xs) n → AreAllPast n.tick xs → ⊥
  after_open m f r x at live low n g past = let e = first_tick m n f g in let b : n.tick < x.clock = past r x at live in absurd (omega arith)

  -- where the pass has found none, nobody has stopped
  pub none_found : (n : ℕ) (o : Option StopMark) → length xs ≤ n → FirstOf xs n o → IfNone o (AreLive xs)
  none_found n None b f = λ r x e. let h = is_at xs r x e in f r x (omega arith) e
  none_found n (Some m) b f = tt

-- ---- Lines

-- Where ticks do not fall, and the first ones are below the tick, and the next is not, this is the cut.
pub cut_at : (tick n : ℕ) (xs : List Line) → ((k : ℕ) (x : Line) → slice_get xs k ≡ Some x → k < n → tick_of x < tick) → ((k : ℕ) (x : Line) → slice_get xs k ≡ Some x → n ≤ k → tick ≤ tick_of x)
    → (take n xs ≡ filter (λ x. nat_lt x.key.tick tick) xs) × (drop n xs ≡ filter (λ x. not (nat_lt x.key.tick tick)) xs)
cut_at tick zero [] low high = (refl, refl)
cut_at tick (suc n) [] low high = (refl, refl)
cut_at tick zero (x ∷ xs) low high =
    let all = none_below tick (x ∷ xs) (λ k y e. high k y e (omega arith)) in (
      sym (filter_nothing (λ y. nat_lt y.key.tick tick) (x ∷ xs) all),
      sym (filter_all (λ y. not (nat_lt y.key.tick tick)) (x ∷ xs) (each_map _ _ (x ∷ xs) (λ y e. ap not e) all)),
    )
  where
    none_below : (t : ℕ) (ys : List Line) → ((k : ℕ) (y : Line) → slice_get ys k ≡ Some y → t ≤ tick_of y) → Each (λ y. nat_lt y.key.tick t ≡ false) ys
    none_below t [] h = tt
    none_below t (y ∷ ys) h = (le-ltb y.key.tick t (h 0 y refl), none_below t ys (λ k z e. h (suc k) z e))
cut_at tick (suc n) (x ∷ xs) low high =
    let rest = cut_at tick n xs (λ k y e b. low (suc k) y e (omega arith)) (λ k y e b. high (suc k) y e (omega arith)) in
    let b : nat_lt x.key.tick tick ≡ true = lt-ltb x.key.tick tick (low 0 x refl (omega arith)) in (
      ap (λ z. x ∷ z) rest.0 ∙ sym (filter_in (λ y. nat_lt y.key.tick tick) x xs b),
      rest.1 ∙ sym (filter_out (λ y. not (nat_lt y.key.tick tick)) x xs (ap not b)),
    )

-- what is before an index does not come after what is from it on
pub rises_apart : (xs : List Line) → Rises tick_of xs → (j k : ℕ) (x y : Line) → j ≤ k → slice_get xs j ≡ Some x → slice_get xs k ≡ Some y → tick_of x ≤ tick_of y
rises_apart [] up j k x y b e f = absurd (let g : None ≡ Some x = e in cc)
rises_apart (z ∷ zs) up zero zero x y b e f = let g : x ≡ y = let h : Some x ≡ Some y = sym e ∙ f in cc in let w : tick_of x ≡ tick_of y = ap tick_of g in omega arith
rises_apart (z ∷ zs) up zero (suc k) x y b e f = let g : z ≡ x = cc in subst (λ (q : Line). tick_of q ≤ tick_of y) g (each_at zs k y up.0 f)
  where
    each_at : (ys : List Line) (n : ℕ) (q : Line) → Each (λ u. tick_of z ≤ tick_of u) ys → slice_get ys n ≡ Some q → tick_of z ≤ tick_of q
    each_at [] n q h g = absurd (let i : None ≡ Some q = g in cc)
    each_at (u ∷ us) zero q h g = let i : u ≡ q = cc in subst (λ (v : Line). tick_of z ≤ tick_of v) i h.0
    each_at (u ∷ us) (suc n) q h g = each_at us n q h.1 g
rises_apart (z ∷ zs) up (suc j) zero x y b e f = absurd (omega arith)
rises_apart (z ∷ zs) up (suc j) (suc k) x y b e f = rises_apart zs up.1 j k x y (omega arith) e f

non_decreasing : (xs : List Line) → Rises tick_of xs → IsNonDecreasingBy tick_of xs
non_decreasing xs up i j d l b =
    rises_apart xs up i j (get_or xs i d) (get_or xs j d) (omega arith) (slice_get-get_or xs i d (omega arith)) (slice_get-get_or xs j d b)

-- so the index of the cut can be searched for
pub parted : (tick : ℕ) (xs : List Line) → Rises tick_of xs → IsPartitionedBy (λ x. nat_lt x.key.tick tick) xs
parted tick xs up = IsPartitionedBy-ltb tick_of xs tick (non_decreasing xs up)

take_drop : {X : Type 0} (n : ℕ) (xs : List X) → take n xs ++ drop n xs ≡ xs
take_drop zero [] = refl
take_drop zero (x ∷ xs) = refl
take_drop (suc n) [] = refl
take_drop (suc n) (x ∷ xs) = ap (λ z. x ∷ z) (take_drop n xs)

pub take_none : {X : Type 0} (xs : List X) → take 0 xs ≡ []
take_none [] = refl
take_none (x ∷ xs) = refl

pub drop_none_off : {X : Type 0} (xs : List X) → drop 0 xs ≡ xs
drop_none_off [] = refl
drop_none_off (x ∷ xs) = refl

pub take_whole : {X : Type 0} (xs : List X) → take (length xs) xs ≡ xs
take_whole [] = refl
take_whole (x ∷ xs) = ap (λ z. x ∷ z) (take_whole xs)

pub drop_whole : {X : Type 0} (xs : List X) → drop (length xs) xs ≡ []
drop_whole [] = refl
drop_whole (x ∷ xs) = drop_whole xs

-- What is cut where the search has found the index is cut at the tick.
pub split_point : (tick n : ℕ) (xs before from : List Line) → before ≡ take n xs → from ≡ drop n xs
    → (Rises tick_of xs → IsPartitionPoint (λ x. nat_lt x.key.tick tick ≡ true) (λ x. nat_lt x.key.tick tick ≡ false) xs n) → IsSplit tick xs before from
split_point tick n xs before from p q point = record {
  parts = sym (take_drop n xs) ∙ ap (λ z. z ++ drop n xs) (sym p) ∙ ap (λ z. before ++ z) (sym q);
  front = λ up. p ∙ (cuts up).0;
  rest = λ up. q ∙ (cuts up).1;
}
  where
    cuts : Rises tick_of xs → (take n xs ≡ filter (λ x. nat_lt x.key.tick tick) xs) × (drop n xs ≡ filter (λ x. not (nat_lt x.key.tick tick)) xs)
    cuts up =
        let at = point up in
        cut_at tick n xs
        (λ k x e b. let g : get_or xs k x ≡ x = get_or_from_slice_get xs k x x e in
        ltb-true x.key.tick tick (subst (λ (z : Line). nat_lt z.key.tick tick ≡ true) g (at.0 k x (omega arith) b)))
        (λ k x e b. let g : get_or xs k x ≡ x = get_or_from_slice_get xs k x x e in
        ltb-false x.key.tick tick (subst (λ (z : Line). nat_lt z.key.tick tick ≡ false) g (at.1 k x b (is_at xs k x e))))

-- ---- Lists that were cut

-- the first lists are cut
pub record AreCutTo (e : Edge) (lists : List (Vec Line)) (n : ℕ) (befores froms : List (Vec Line)) : Type 0 where
  pub fronts : length befores ≡ n
  pub rests : length froms ≡ n
  pub each : (r : ℕ) (list : Vec Line) → r < n → slice_get lists r ≡ Some list
      → (before : Vec Line) × (from : Vec Line) × (slice_get befores r ≡ Some before) × (slice_get froms r ≡ Some from) × IsSplit (until e r) list.items before.items from.items

pub cut_more : (e : Edge) (lists : List (Vec Line)) (n : ℕ) (befores froms news others : List (Vec Line)) (list before from : Vec Line) → AreCutTo e lists n befores froms → slice_get lists n ≡ Some list
    → IsSplit (until e n) list.items before.items from.items → news ≡ befores ++ before ∷ [] → others ≡ froms ++ from ∷ [] → AreCutTo e lists (n + 1) news others
cut_more e lists n befores froms news others list before from h at split p q = record {
  fronts = ap length p ∙ push_counted befores before n h.fronts;
  rests = ap length q ∙ push_counted froms from n h.rests;
  each = λ r l b f.
      ⊎_elim
      (λ (k : r < n). let t = h.each r l k f in
      (t.0, t.1, ap (λ z. slice_get z r) p ∙ push_before befores before r t.0 t.2, ap (λ z. slice_get z r) q ∙ push_before froms from r t.1 t.3, t.4))
      (λ (k : n ≤ r). let g : n ≡ r = omega arith in
      subst (λ (z : ℕ). (l : Vec Line) → slice_get lists z ≡ Some l → (u : Vec Line) × (v : Vec Line) × (slice_get news z ≡ Some u) × (slice_get others z ≡ Some v) × IsSplit (until e z) l.items u.items v.items) g here l f)
      (cases_lt r n);
}
  where
    here : (l : Vec Line) → slice_get lists n ≡ Some l → (u : Vec Line) × (v : Vec Line) × (slice_get news n ≡ Some u) × (slice_get others n ≡ Some v) × IsSplit (until e n) l.items u.items v.items
    here l f = (
      before,
      from,
      ap (λ z. slice_get z n) p ∙ push_here befores before n h.fronts,
      ap (λ z. slice_get z n) q ∙ push_here froms from n h.rests,
      subst (λ (z : Vec Line). IsSplit (until e n) z.items before.items from.items) (one_at lists n list l at f) split,
    )

-- all lists are
pub cut_every : (e : Edge) (lists : List (Vec Line)) (n : ℕ) (befores froms : List (Vec Line)) → AreCutTo e lists n befores froms → n ≡ length lists → AreCut e lists befores froms
cut_every e lists n befores froms h same = record {
  fronts = h.fronts ∙ same;
  rests = h.rests ∙ same;
  each = λ r list f. let b = is_at lists r list f in h.each r list (omega arith) f;
}

-- ---- Messages that were delivered

-- the first resources have received
pub record AreDeliveredTo (xs : List Resource) (boxes : List (Vec Message)) (n : ℕ) (ys : List Resource) : Type 0 where
  pub counted : length ys ≡ n
  pub each : (r : ℕ) (x : Resource) → r < n → slice_get xs r ≡ Some x
      → (box : Vec Message) × (y : Resource) × (slice_get boxes r ≡ Some box) × (slice_get ys r ≡ Some y) × HasReceived box.items x y

pub delivered_more : (xs : List Resource) (boxes : List (Vec Message)) (n : ℕ) (ys news : List Resource) (x y : Resource) (box : Vec Message) → AreDeliveredTo xs boxes n ys → slice_get xs n ≡ Some x
    → slice_get boxes n ≡ Some box → HasReceived box.items x y → news ≡ ys ++ y ∷ [] → AreDeliveredTo xs boxes (n + 1) news
delivered_more xs boxes n ys news x y box h at box_at received p = record {
  counted = ap length p ∙ push_counted ys y n h.counted;
  each = λ r z b f.
      ⊎_elim
      (λ (k : r < n). let t = h.each r z k f in (t.0, t.1, t.2, ap (λ l. slice_get l r) p ∙ push_before ys y r t.1 t.3, t.4))
      (λ (k : n ≤ r). let g : n ≡ r = omega arith in
      subst (λ (q : ℕ). (z : Resource) → slice_get xs q ≡ Some z → (b : Vec Message) × (u : Resource) × (slice_get boxes q ≡ Some b) × (slice_get news q ≡ Some u) × HasReceived b.items z u) g here z f)
      (cases_lt r n);
}
  where
    here : (z : Resource) → slice_get xs n ≡ Some z → (b : Vec Message) × (u : Resource) × (slice_get boxes n ≡ Some b) × (slice_get news n ≡ Some u) × HasReceived b.items z u
    here z f = (box, y, box_at, ap (λ l. slice_get l n) p ∙ push_here ys y n h.counted, subst (λ (q : Resource). HasReceived box.items q y) (one_at xs n x z at f) received)

pub delivered_all : (xs : List Resource) (boxes : List (Vec Message)) (n : ℕ) (ys : List Resource) → AreDeliveredTo xs boxes n ys → n ≡ length xs → AreDelivered xs boxes ys
delivered_all xs boxes n ys h e = record { counted = h.counted ∙ e; each = λ r x f. let b = is_at xs r x f in h.each r x (omega arith) f }

pub no_length : {X : Type 0} (xs : List X) → length xs ≡ 0 → xs ≡ []
no_length [] e = refl
no_length (x ∷ xs) e = absurd (omega arith)

-- nothing is in any box
pub boxes_empty : (boxes : List (Vec Message)) → ((r : ℕ) (box : Vec Message) → slice_get boxes r ≡ Some box → box.items ≡ []) → all_of boxes ≡ []
boxes_empty [] h = refl
boxes_empty (b ∷ bs) h = ap (λ z. z ++ all_of bs) (h 0 b refl) ∙ boxes_empty bs (λ r x e. h (suc r) x e)

-- what is said of what was made, where that was
pub made_ok : {A E : Type 0} (P : A → Type 0) (r : Result A E) (a : A) → r ≡ Ok a → IfOk r P → P a
made_ok P r a e h = subst (λ z. IfOk z P) e h

-- Each has received what is for it.
pub posted_of : (sys : System) (all : List Message) (xs ys : List Resource) (boxes : List (Vec Message)) → ((r : ℕ) (box : Vec Message) → slice_get boxes r ≡ Some box → AreFor sys r all box.items)
    → AreDelivered xs boxes ys → ArePosted sys all xs ys
posted_of sys all xs ys boxes each h = record {
  counted = h.counted;
  each = λ r x e. let t = h.each r x e in (t.1, t.3, inr (t.0.items, each r t.0 t.2, t.4));
}

pub posted_none : (sys : System) (all : List Message) (xs : List Resource) → all ≡ [] → ArePosted sys all xs xs
posted_none sys all xs none = record { counted = refl; each = λ r x e. (x, e, inl (none, refl)) }
