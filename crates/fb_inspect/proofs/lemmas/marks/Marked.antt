-- What is marked for pieces, one after another.
use Rattle.fb_inspect.proofs.lemmas.Common.{◌≡◌, ◌<◌, ◌+◌, ◌⊎◌, ℕ, zero, suc, Bool, true, false, cond, List, [], ◌∷◌, ◌++◌, length, map, Option, Some, None, Result, Ok, Err, refl, sym, ◌∙◌, ap, subst, inl, inr, arith, slice_get, unwrap_or, true≢false, same_Some, Emission, among, NoneClears, is_true, Name, same_name, event_at, Values, BasicType, Transition, Reason, ChartMarks, state_at, Piece, rest_pieces, stop_pieces, PiecesMark, event_number}
use Rattle.fb_types.proofs.Common.{◌≢◌}
use Rattle.fb_types.specs.declared.library.State.{State}
use Rattle.fb_types.proofs.lemmas.lists.ByIndex.{element_at}
use Rattle.fb_coverage.specs.Sets.{with_ran}
use Rattle.fb_ecc.specs.Indexes.{IsStateOf}
use Rattle.fb_ecc.specs.Sound.{IsSound}
use Rattle.fb_ecc.specs.Steps.{clearing_index, first_or}
use Rattle.fb_ecc.specs.Trials.{nowhere, transition_at}
use Rattle.fb_ecc.proofs.lemmas.Trials.{event_here, list_all-at, state_here}
use Rattle.fb_inspect.specs.Markings.{IsFirstLike, algorithm_number, state_number, with_lost_if, with_ran_by}
use Rattle.fb_inspect.proofs.lemmas.reactions.Showing.{emits_pieces, ran_pieces}

-- ---- Parts by their indexes

-- the event at an index has that index
pub event_number_at : (t : BasicType) (e : ℕ) → IsSound t → e < length t.ports.event_inputs → event_number t (event_at t.ports.event_inputs e) ≡ e
event_number_at t e sound within =
    let p = element_at t.ports.event_inputs e within in
    ap (event_number t) (event_here t.ports.event_inputs e p.0 p.1)
    ∙ ap (λ (o : Option ℕ). unwrap_or o (length t.ports.event_inputs)) (sound.events e p.0 p.1)

state_number_at : (t : BasicType) (s : ℕ) → IsSound t → s < length t.states → state_number t (state_at t s) ≡ s
state_number_at t s sound within =
    let p = element_at t.states s within in
    ap (state_number t) (state_here t s p.0 p.1) ∙ ap (λ (o : Option ℕ). unwrap_or o (length t.states)) (sound.states s p.0 p.1)

-- A state without which there is no transition.
stateless : (t : BasicType) (k : ℕ) (y : Transition) → IsSound t → slice_get t.transitions k ≡ Some y → t.states ≡ [] → ⊥
stateless t k y sound at none =
    let target : among (map (λ (s : State). s.name) t.states) y.to ≡ true =
    list_all-at (λ (z : Transition). among (map (λ (s : State). s.name) t.states) z.to) t.transitions k y sound.targets at in
    true≢false (sym target ∙ ap (λ (ss : List State). among (map (λ (s : State). s.name) ss) y.to) none)

-- the state to which a transition leads has its index
pub state_entered :
    (t : BasicType) (s k : ℕ) (n : Name) → IsSound t → k < length t.transitions → IsStateOf t s → state_at t s ≡ n → state_number t n ≡ s
state_entered t s k n sound within (inl none) is =
    let y = element_at t.transitions k within in
    absurd (stateless t k y.0 sound y.1 none)
state_entered t s k n sound within (inr inside) is = ap (state_number t) (sym is) ∙ state_number_at t s sound inside

-- ---- The transition that clears

-- The first true transition of those that leave a state, in the rest of a list.
record ClearsAt (n : Name) (present : Option Name) (vars : Values) (j : ℕ) (xs : List Transition) (k : ℕ) : Type 0 where
  pub place : ℕ
  pub index : k ≡ j + place
  pub first : Transition
  pub is : slice_get xs place ≡ Some first
  pub leaves : same_name first.from n ≡ true
  pub holds : is_true first.condition present vars ≡ Ok true
  pub earlier : (m : ℕ) → m < place → slice_get xs m ≢ Some first

module _ (n : Name) (present : Option Name) (vars : Values) where
  abbrev At : ℕ → List Transition → ℕ → Type 0
  At j xs k = ClearsAt n present vars j xs k

  -- a transition that does not clear
  abbrev Passes : Transition → Type 0
  Passes x = (same_name x.from n ≡ false) ⊎ (is_true x.condition present vars ≡ Ok false)

  differs : (x y : Transition) → Passes x → same_name y.from n ≡ true → is_true y.condition present vars ≡ Ok true → x ≡ y → ⊥
  differs x y (inl other) leaves holds same = true≢false (sym leaves ∙ ap (λ (z : Transition). same_name z.from n) (sym same) ∙ other)
  differs x y (inr not_true) leaves holds same =
      let both : Ok true ≡ is_true x.condition present vars = sym holds ∙ ap (λ (z : Transition). is_true z.condition present vars) (sym same) in
      absurd (cc)

  earlier_past :
      (x : Transition) (xs : List Transition) (j k : ℕ) (later : At (suc j) xs k) → Passes x → (m : ℕ) → m < suc later.place → slice_get (x ∷ xs) m ≡ Some later.first → ⊥
  earlier_past x xs j k later passes zero less same = differs x later.first passes later.leaves later.holds (same_Some x later.first same)
  earlier_past x xs j k later passes (suc m) less same = later.earlier m (omega arith) same

  past : (x : Transition) (xs : List Transition) (j k : ℕ) → Passes x → At (suc j) xs k → At j (x ∷ xs) k
  past x xs j k passes later = record {
    place = suc later.place;
    index = let e = later.index in omega arith;
    first = later.first;
    is = later.is;
    leaves = later.leaves;
    holds = later.holds;
    earlier = earlier_past x xs j k later passes;
  }

  here : (x : Transition) (xs : List Transition) (j k : ℕ) → j ≡ k → same_name x.from n ≡ true → is_true x.condition present vars ≡ Ok true → At j (x ∷ xs) k
  here x xs j k same leaves holds = record {
    place = zero;
    index = omega arith;
    first = x;
    is = refl;
    leaves = leaves;
    holds = holds;
    earlier = λ m less. absurd (omega arith);
  }

  by_condition :
      (x : Transition) (xs : List Transition) (j k : ℕ) (later : Option ℕ) (r : Result Bool Reason) → same_name x.from n ≡ true → is_true x.condition present vars ≡ r
      → (later ≡ Some k → At (suc j) xs k) → first_or r j later ≡ Some k → At j (x ∷ xs) k
  by_condition x xs j k later (Ok true) leaves is rest h = here x xs j k (same_Some j k h) leaves is
  by_condition x xs j k later (Ok false) leaves is rest h = past x xs j k (inr is) (rest h)
  by_condition x xs j k later (Err r) leaves is rest h = absurd (cc)

  by_source :
      (x : Transition) (xs : List Transition) (j k : ℕ) (later : Option ℕ) (b : Bool) → same_name x.from n ≡ b → (later ≡ Some k → At (suc j) xs k)
      → cond b (first_or (is_true x.condition present vars) j later) later ≡ Some k → At j (x ∷ xs) k
  by_source x xs j k later true is rest h = by_condition x xs j k later (is_true x.condition present vars) is refl rest h
  by_source x xs j k later false is rest h = past x xs j k (inl is) (rest h)

  clears_at : (xs : List Transition) (j k : ℕ) → clearing_index n j xs present vars ≡ Some k → At j xs k
  clears_at [] j k h = absurd (cc)
  clears_at (x ∷ xs) j k h = by_source x xs j k (clearing_index n (suc j) xs present vars) (same_name x.from n) refl (clears_at xs (suc j) k) h

  -- the transition that clears is the first that is like it
  pub first_like : (t : BasicType) (k : ℕ) → clearing_index n 0 t.transitions present vars ≡ Some k → IsFirstLike t.transitions (transition_at t k) k
  first_like t k h =
      let one = clears_at t.transitions 0 k h in
      let same : one.place ≡ k = let e = one.index in omega arith in
      let is : slice_get t.transitions k ≡ Some one.first = subst (λ (m : ℕ). slice_get t.transitions m ≡ Some one.first) same one.is in
      let first : one.first ≡ transition_at t k = ap (λ (o : Option Transition). unwrap_or o nowhere) (sym is) in
      subst (λ (y : Transition). IsFirstLike t.transitions y k) first
      (is, λ m less. one.earlier m (subst (λ (a : ℕ). m < a) (sym same) less))

-- ---- Pieces

module _ (t : BasicType) (i e : ℕ) where
  pub pieces_append : (ps qs : List Piece) (m n o : ChartMarks) → PiecesMark t i e ps m n → PiecesMark t i e qs n o → PiecesMark t i e (ps ++ qs) m o
  pieces_append [] qs m n o first second = subst (λ (k : ChartMarks). PiecesMark t i e qs k o) first second
  pieces_append (p ∷ ps) qs m n o first second = (first.0, first.1, pieces_append ps qs first.0 n o first.2 second)

  pub ran_marks :
      (algorithm : Option Name) (left : ℕ) (before after : Values) (m : ChartMarks) → PiecesMark t i e (ran_pieces algorithm left before after) m (with_ran_by t i algorithm left m)
  ran_marks None left before after m = refl
  ran_marks (Some a) zero before after m = refl
  ran_marks (Some a) (suc left) before after m = (with_ran i (algorithm_number t a) m, refl, refl)

  pub emits_mark : (es : List Emission) (m : ChartMarks) → PiecesMark t i e (emits_pieces es) m m
  emits_mark [] m = refl
  emits_mark (f ∷ fs) m = (m, refl, emits_mark fs m)

  pub rest_marks :
      (left : ℕ) (present : Option Name) (state : Name) (m n : ChartMarks) → n ≡ with_lost_if present m → PiecesMark t i e (rest_pieces (NoneClears left) present state) m n
  rest_marks left None state m n same = same
  rest_marks left (Some f) state m n same = (n, same, refl)

  pub stop_marks : (stop : Option Reason) (m n : ChartMarks) → n ≡ m → PiecesMark t i e (stop_pieces stop) m n
  stop_marks None m n same = same
  stop_marks (Some r) m n same = (n, same, refl)
