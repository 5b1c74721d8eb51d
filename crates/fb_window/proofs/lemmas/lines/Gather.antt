-- The lines that are handed out and those that are kept, as lists of the program.
use Rattle.fb_window.proofs.lemmas.Common.{◌≡◌, ℕ, zero, suc, ◌<◌, ◌≤◌, Bool, true, false, cond, Some, None, List, [], ◌∷◌, ◌++◌, map, length, refl, sym, ap, ◌∙◌, subst, arith, Vec, filter, nat_lt, slice_get, slice_index_or, Inputs, system_of, Core, Machine, line_of, machine, count_of, Line, Edge, until, HasKept, AreCut, lists_of}
use Rattle.fb_types.proofs.Common.{not, Each, IsMerge, lines_before}
use Rattle.fb_types.specs.States as model
use Rattle.fb_types.proofs.lemmas.lists.EachLaws.{each_map}
use Rattle.fb_trace.specs.Merging.{AreMerged, AreRising, IsRising, Rises, resource_of, tick_of}
use Rattle.fb_trace.proofs.lemmas.order.Merged.{is_merge}
use Rattle.fb_laws.specs.Finality.{lines_from, TicksRise, IsEdge, IsLeastTick, HaveLeft, HasHanded, NoneIsFinal, lines_in}
use Rattle.fb_laws.proofs.lemmas.schedules.Edges.{IsLater, each_filter, whole, handed_merge, handed_more, none_final}
use Rattle.fb_laws.proofs.lemmas.schedules.Handing.{AreLinesOf}
use Rattle.fb_laws.proofs.lemmas.lists.Indexes.{has_at, is_at, one_at, index_at}

-- ---- Lists

pub map_append : {X Y : Type 0} (f : X → Y) (xs ys : List X) → map f (xs ++ ys) ≡ map f xs ++ map f ys
map_append f [] ys = refl
map_append f (x ∷ xs) ys = ap (λ z. f x ∷ z) (map_append f xs ys)

filter_map : {X Y : Type 0} (p : Y → Bool) (f : X → Y) (xs : List X) → filter p (map f xs) ≡ map f (filter (λ x. p (f x)) xs)
filter_map p f [] = refl
filter_map {X} {Y} p f (x ∷ xs) = step (p (f x)) (filter p (map f xs)) (filter (λ z. p (f z)) xs) (filter_map p f xs)
  where
    step : (b : Bool) (ys : List Y) (zs : List X) → ys ≡ map f zs → cond b (f x ∷ ys) ys ≡ map f (cond b (x ∷ zs) zs)
    step true ys zs e = ap (λ z. f x ∷ z) e
    step false ys zs e = e

each_under : {X Y : Type 0} (P : X → Type 0) (Q : Y → Type 0) (f : X → Y) (xs : List X) → ((x : X) → Q (f x) → P x) → Each Q (map f xs) → Each P xs
each_under P Q f [] g h = tt
each_under P Q f (x ∷ xs) g h = (g x h.0, each_under P Q f xs g h.1)

pub map_length : {X Y : Type 0} (f : X → Y) (xs : List X) → length (map f xs) ≡ length xs
map_length f [] = refl
map_length f (x ∷ xs) = ap suc (map_length f xs)

pub list_at : (ps : List (Vec Line)) (r : ℕ) (p : Vec Line) → slice_get ps r ≡ Some p → slice_index_or (lists_of ps) r [] ≡ p.items
list_at ps r p e = index_at (lists_of ps) r p.items [] (got ps r p e)
  where
    got : (qs : List (Vec Line)) (n : ℕ) (q : Vec Line) → slice_get qs n ≡ Some q → slice_get (lists_of qs) n ≡ Some q.items
    got [] n q f = absurd (let g : None ≡ Some q = f in cc)
    got (z ∷ zs) zero q f = let g : z ≡ q = cc in ap (λ (v : Vec Line). Some v.items) g
    got (z ∷ zs) (suc n) q f = got zs n q f

module _ (M : Machine) where
  rise_filter : (p : M.Line → Bool) (xs : List M.Line) → TicksRise M xs → TicksRise M (filter p xs)
  rise_filter p [] h = tt
  rise_filter p (x ∷ xs) h = step (p x) (rise_filter p xs h.1)
    where
      step : (b : Bool) → TicksRise M (filter p xs) → TicksRise M (cond b (x ∷ filter p xs) (filter p xs))
      step true g = (each_map _ _ (filter p xs) (λ y q. q.0) (each_filter (λ (y : M.Line). M.line_tick x ≤ M.line_tick y) p xs h.0), g)
      step false g = g

  -- what is kept may be said otherwise
  pub left_same : (count horizon : ℕ) (c : Core M) (some others : ℕ → List M.Line) (ls : List M.Line) → ((r : ℕ) → r < count → others r ≡ some r) → HaveLeft M count horizon c some ls → HaveLeft M count horizon c others ls
  left_same count horizon c some others ls same h = record {
    edge = h.edge;
    final = h.final;
    merged = h.merged;
    rest = λ r b. same r b ∙ h.rest r b;
  }

  pub none_same : (count : ℕ) (c : Core M) (some others : ℕ → List M.Line) → ((r : ℕ) → r < count → others r ≡ some r) → NoneIsFinal M count c some → NoneIsFinal M count c others
  none_same count c some others same h r b = subst (Each _) (sym (same r b)) (h r b)

-- ---- One round

module _ (i : Inputs) (limit : ℕ) where
  rises_under : (xs : List Line) → TicksRise (machine (system_of i) limit) (map (line_of (system_of i)) xs) → Rises tick_of xs
  rises_under [] h = tt
  rises_under (x ∷ xs) h = (each_under _ _ (line_of (system_of i)) xs (λ y q. q) h.0, rises_under xs h.1)

module _ (i : Inputs) (limit horizon : ℕ) (c d : Core (machine (system_of i) limit)) (before pending : List (Vec Line)) (more : ℕ → List Line)
    (counted : length before ≡ count_of (system_of i)) (counted_too : length pending ≡ count_of (system_of i))
    (joined : (r : ℕ) (p q : Vec Line) → slice_get before r ≡ Some p → slice_get pending r ≡ Some q → q.items ≡ p.items ++ more r)
    (later : IsLater (machine (system_of i) limit) (count_of (system_of i)) horizon c d (λ r. map (line_of (system_of i)) (more r)))
    (lines : (r : ℕ) → AreLinesOf (machine (system_of i) limit) horizon r (d r).lines)
    (m : ℕ) (e : Edge) (edge : IsEdge (machine (system_of i) limit) (count_of (system_of i)) d m e) (low : IsLeastTick (machine (system_of i) limit) horizon d m)
    (fronts rests : List (Vec Line)) (cut : AreCut e pending fronts rests) where
  abbrev M : Machine
  M = machine (system_of i) limit

  abbrev named : List Line → List model.Line
  named xs = map (line_of (system_of i)) xs

  abbrev count : ℕ
  count = count_of (system_of i)

  -- what is pending of a resource, by names
  abbrev all_of : ℕ → List model.Line
  all_of r = lines_in i limit (lists_of before) r ++ named (more r)

  pending_is : (r : ℕ) (q : Vec Line) → slice_get pending r ≡ Some q → named q.items ≡ all_of r
  pending_is r q f =
      let b : r < length before = let g = is_at pending r q f in omega arith in
      let p = has_at before r b in
      ap named (joined r p.0 q p.1 f) ∙ map_append (line_of (system_of i)) p.0.items (more r)
      ∙ ap (λ z. named z ++ named (more r)) (sym (list_at before r p.0 p.1))

  module _ (ls : List model.Line) (left : HasKept i limit horizon c (lists_of before) ls) where
    whole_is : (r : ℕ) (q : Vec Line) → slice_get pending r ≡ Some q → named q.items ≡ lines_from M (until left.left.edge r) (d r).lines
    whole_is r q f =
        let b : r < count = let g = is_at pending r q f in omega arith in
        pending_is r q f ∙ whole M count horizon c d (lines_in i limit (lists_of before)) (λ n. named (more n)) ls later left.left r b

    pending_rises : (r : ℕ) (q : Vec Line) → slice_get pending r ≡ Some q → Rises tick_of q.items
    pending_rises r q f = rises_under i limit q.items (subst (TicksRise M) (sym (whole_is r q f)) (rise_filter M _ (d r).lines (lines r).rise))

    pending_mine : (r : ℕ) (q : Vec Line) → slice_get pending r ≡ Some q → Each (λ x. resource_of x ≡ r) q.items
    pending_mine r q f =
        each_under _ (λ (x : model.Line). x.key.resource ≡ r) (line_of (system_of i)) q.items (λ x g. g)
        (subst (Each (λ (x : model.Line). x.key.resource ≡ r)) (sym (whole_is r q f))
        (each_map _ _ (lines_from M (until left.left.edge r) (d r).lines) (λ x g. g.0) (each_filter (λ (x : model.Line). x.key.resource ≡ r) _ (d r).lines (lines r).mine)))

    -- the part of each list that is final, and the other
    split_at : (r : ℕ) (q : Vec Line) → slice_get pending r ≡ Some q → (front : Vec Line) × (rest : Vec Line) × (slice_get fronts r ≡ Some front) × (slice_get rests r ≡ Some rest)
        × (front.items ≡ filter (λ x. nat_lt x.key.tick (until e r)) q.items) × (rest.items ≡ filter (λ x. not (nat_lt x.key.tick (until e r))) q.items)
    split_at r q f =
        let s = cut.each r q f in
        let up = pending_rises r q f in
        (s.0, s.1, s.2, s.3, s.4.front up, s.4.rest up)

    rises_part : (p : Line → Bool) (xs : List Line) → Rises tick_of xs → Rises tick_of (filter p xs)
    rises_part p [] h = tt
    rises_part p (x ∷ xs) h = step (p x) (rises_part p xs h.1)
      where
        step : (b : Bool) → Rises tick_of (filter p xs) → Rises tick_of (cond b (x ∷ filter p xs) (filter p xs))
        step true g = (each_map _ _ (filter p xs) (λ y q. q.0) (each_filter (λ y. tick_of x ≤ tick_of y) p xs h.0), g)
        step false g = g

    pub fronts_rise : AreRising fronts
    fronts_rise r v f =
        let b : r < length pending = let g = is_at fronts r v f in let n = cut.fronts in omega arith in
        let q = has_at pending r b in
        let s = split_at r q.0 q.1 in
        let same : v.items ≡ filter (λ x. nat_lt x.key.tick (until e r)) q.0.items = ap (λ (z : Vec Line). z.items) (one_at fronts r v s.0 f s.2) ∙ s.4 in
        subst (IsRising r) (sym same)
        (record {
          mine = each_map _ _ (filter (λ x. nat_lt x.key.tick (until e r)) q.0.items) (λ x g. g.0) (each_filter (λ x. resource_of x ≡ r) _ q.0.items (pending_mine r q.0 q.1));
          rise = rises_part _ q.0.items (pending_rises r q.0 q.1);
        })

    merges : (out : List Line) → AreMerged fronts out → IsMerge M count (λ r. lines_before M (until e r) (all_of r)) (named out)
    merges out h =
        subst (λ n. IsMerge M n (λ r. lines_before M (until e r) (all_of r)) (named out)) (cut.fronts ∙ counted_too)
        (is_merge (system_of i) limit fronts out (λ r. lines_before M (until e r) (all_of r)) h
        (λ r v f.
        let b : r < length pending = let g = is_at fronts r v f in let n = cut.fronts in omega arith in
        let q = has_at pending r b in
        let s = split_at r q.0 q.1 in
        let same : v.items ≡ filter (λ x. nat_lt x.key.tick (until e r)) q.0.items = ap (λ (z : Vec Line). z.items) (one_at fronts r v s.0 f s.2) ∙ s.4 in
        ap (λ z. lines_before M (until e r) z) (sym (pending_is r q.0 q.1))
        ∙ filter_map (λ (x : model.Line). nat_lt x.key.tick (until e r)) (line_of (system_of i)) q.0.items
        ∙ ap named (sym same)))

    -- All that was handed out, with these lines, is a merge to the edge,
    pub out_merges : (out : List Line) → (AreRising fronts → AreMerged fronts out) → IsMerge M count (λ r. lines_before M (until e r) (d r).lines) (ls ++ named out)
    out_merges out h =
        handed_merge M count horizon c d (lines_in i limit (lists_of before)) (λ n. named (more n)) ls m e later left.left edge low (named out) (merges out (h fronts_rise))

    -- and the others are kept.
    pub out_handed : (out : List Line) → (AreRising fronts → AreMerged fronts out) → HasHanded i limit horizon d (lists_of rests) (ls ++ named out)
    out_handed out h = record {
      handed = record {
        counted = map_length (λ (v : Vec Line). v.items) rests ∙ cut.rests ∙ counted_too;
        left = left_same M count horizon d _ (lines_in i limit (lists_of rests)) (ls ++ named out) rest_is
            (handed_more M count horizon c d (lines_in i limit (lists_of before)) (λ n. named (more n)) ls m e later left.left edge low (named out) (merges out (h fronts_rise)));
      };
      waits = none_same M count d _ (lines_in i limit (lists_of rests)) rest_is (none_final M count horizon c d (lines_in i limit (lists_of before)) (λ n. named (more n)) ls m e later left.left edge low);
    }
      where
        rest_is : (r : ℕ) → r < count → lines_in i limit (lists_of rests) r ≡ lines_from M (until e r) (all_of r)
        rest_is r b =
            let q = has_at pending r (omega arith) in
            let s = split_at r q.0 q.1 in
            ap named (list_at rests r s.1 s.3 ∙ s.5)
            ∙ sym (filter_map (λ (x : model.Line). not (nat_lt x.key.tick (until e r))) (line_of (system_of i)) q.0.items)
            ∙ ap (λ z. lines_from M (until e r) z) (pending_is r q.0 q.1)
