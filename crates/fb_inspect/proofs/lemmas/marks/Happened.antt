-- The marks of takings are those of what they do.
use Rattle.fb_inspect.proofs.lemmas.Common.{◌≡◌, ◌⊎◌, ℕ, zero, suc, Bool, true, false, List, [], ◌∷◌, ◌++◌, map, Contains, Option, Some, None, inl, inr, refl, sym, ◌∙◌, ap, subst, flat_map, slice_get, true≢false, Contains-append_right, Kind, Basic, Event, Composite, AreAccepted, Inputs, system_of, Name, Twice, algorithm_names, basics, interfaces, networks, System, EventKind, BasicType, BlockType, Library, Transition, Line, ChartMarks, Marks, Piece, Clears_by, Ran, Taking, PiecesMark, event_number}
use Rattle.fb_types.proofs.Common.{Contains-append_cases, Contains-append_left, event_blocks, resource_names_of, type_name, OwnedNetwork, block_type_names, instance_names, name_spaces, parameter_lists, port_names, state_names, with_lists}
use Rattle.std.proofs.lemmas.Bool.{cases_order}
use Rattle.fb_types.specs.declared.library.BlockType.TheVariants as block
use Rattle.fb_types.proofs.lemmas.lists.ByIndex.{element_of_index}
use Rattle.fb_types.proofs.lemmas.lists.Elements.{Contains-cons_cases, Contains-here, Contains-map, Contains-nil, Contains-there}
use Rattle.fb_types.proofs.lemmas.lists.TwiceLaws.{Twice-append_right}
use Rattle.fb_coverage.specs.Additions.{AddsFlags}
use Rattle.fb_coverage.specs.Sets.{with_port, with_taken}
use Rattle.fb_coverage.specs.declared.marks.PortMarks.{PortMarks}
use Rattle.fb_coverage.specs.declared.table.Table.{Table}
use Rattle.fb_coverage.proofs.lemmas.Added.{adds_both, adds_by, adds_none, adds_one}
use Rattle.fb_inspect.specs.walk.Chains.{Is_lost, Stops_by, Has, Emits}
use Rattle.fb_inspect.specs.Happenings.{AreMarkedBy, Clears, ClearsSome, ClearsTransition, Does, Enters, EntersState, Happens, History, IsAtPort, IsOfPort, KeepsEvent, MarkCharts, MarkPorts, Runs, RunsAlgorithm, TakesEvent, together}
use Rattle.fb_inspect.specs.Markings.{ChartMarked, IsFirstLike, PieceMarks, TakingMarksAt, TakingsMark, algorithm_number, lines_marked, state_number}

-- ---- Lists

-- one of the elements that a list with one more has
module _ {X : Type 0} (P : X → ℕ → ℕ → Type 0) where
  abbrev Some_of : List X → ℕ → ℕ → Type 0
  Some_of xs i k = (x : X) × Contains xs x × P x i k

  some_nil : (i k : ℕ) → Some_of [] i k → ⊥
  some_nil i k h = Contains-nil h.0 h.1

  some_there : (x : X) (xs : List X) (i k : ℕ) → P x i k ⊎ Some_of xs i k → Some_of (x ∷ xs) i k
  some_there x xs i k h = elim h [ inl here ↦ (x, Contains-here x xs, here) | inr later ↦ (later.0, Contains-there x xs later.0 later.1, later.2) ]

  some_back : (x : X) (xs : List X) (i k : ℕ) → Some_of (x ∷ xs) i k → P x i k ⊎ Some_of xs i k
  some_back x xs i k (y, among, holds) =
      elim (Contains-cons_cases x xs y among) [
        | inl same ↦ inl (subst (λ (z : X). P z i k) (sym same) holds)
        | inr rest ↦ inr (y, rest, holds)
      ]

  -- the flags of the first and those of the rest
  adds_more : (x : X) (xs : List X) (a b c : Table) → AddsFlags (P x) a b → AddsFlags (Some_of xs) b c → AddsFlags (Some_of (x ∷ xs)) a c
  adds_more x xs a b c first rest =
      adds_by (λ i k. P x i k ⊎ Some_of xs i k) (Some_of (x ∷ xs)) a c (adds_both (P x) (Some_of xs) a b c first rest) (some_there x xs) (some_back x xs)

  -- the flags of one list and those of another
  adds_append : (xs ys : List X) (a b c : Table) → AddsFlags (Some_of xs) a b → AddsFlags (Some_of ys) b c → AddsFlags (Some_of (xs ++ ys)) a c
  adds_append xs ys a b c first second =
      adds_by (λ i k. Some_of xs i k ⊎ Some_of ys i k) (Some_of (xs ++ ys)) a c (adds_both (Some_of xs) (Some_of ys) a b c first second)
      (λ i k h. elim h [ inl x ↦ (x.0, Contains-append_left xs ys x.0 x.1, x.2) | inr y ↦ (y.0, Contains-append_right xs ys y.0 y.1, y.2) ])
      (λ i k h. elim (Contains-append_cases xs ys h.0 h.1) [ inl x ↦ inl (h.0, x, h.2) | inr y ↦ inr (h.0, y, h.2) ])

-- ---- Types

once_at : {A : Type 0} (f : A → Name) (xs : List A) → ¬ (Twice (map f xs)) → (i j : ℕ) (x : A) → slice_get xs i ≡ Some x → slice_get xs j ≡ Some x → i ≡ j
once_at f [] once i j x here there = absurd (cc)
once_at f (y ∷ ys) once zero zero x here there = refl
once_at {A} f (y ∷ ys) once zero (suc j) x here there =
    let same : x ≡ y = cc in
    absurd (once (inl (subst (λ (z : A). Contains (map f ys) (f z)) same (Contains-map f ys x (element_of_index ys j x there)))))
once_at {A} f (y ∷ ys) once (suc i) zero x here there =
    let same : x ≡ y = cc in
    absurd (once (inl (subst (λ (z : A). Contains (map f ys) (f z)) same (Contains-map f ys x (element_of_index ys i x here)))))
once_at f (y ∷ ys) once (suc i) (suc j) x here there = ap (λ n. suc n) (once_at f ys (λ twice. once (inr twice)) i j x here there)

-- a type is declared once
type_once : (i : Inputs) → AreAccepted i → (m n : ℕ) (b : BlockType) → slice_get i.library.blocks m ≡ Some b → slice_get i.library.blocks n ≡ Some b → m ≡ n
type_once i accepted m n b =
    let lib : Library = i.library in
    let types : List (List Name) = block_type_names lib ∷ map port_names lib.blocks in
    let algorithms : List (List Name) = map algorithm_names (basics lib) in
    let states : List (List Name) = map state_names (basics lib) in
    let instances : List (List Name) = map (λ (o : OwnedNetwork). instance_names o.1) (networks lib) in
    let withs : List (List Name) = flat_map with_lists (interfaces lib) in
    let parameters : List (List Name) = flat_map (λ (o : OwnedNetwork). parameter_lists o.1) (networks lib) in
    let among : Contains (name_spaces lib i.plan) (block_type_names lib) =
    Contains-append_left (types ++ algorithms ++ states ++ instances ++ withs ++ parameters) (resource_names_of i.plan ∷ []) (block_type_names lib)
    (Contains-append_left (types ++ algorithms ++ states ++ instances ++ withs) parameters (block_type_names lib)
    (Contains-append_left (types ++ algorithms ++ states ++ instances) withs (block_type_names lib)
    (Contains-append_left (types ++ algorithms ++ states) instances (block_type_names lib)
    (Contains-append_left (types ++ algorithms) states (block_type_names lib)
    (Contains-append_left types algorithms (block_type_names lib) (Contains-here (block_type_names lib) (map port_names lib.blocks))))))) in
    once_at type_name lib.blocks
    (λ twice. accepted 20 (inl (refl, inl (block_type_names lib, among, Twice-append_right (map (λ (e : Name × EventKind). e.0) event_blocks) (map type_name lib.blocks) twice))))
    m n b

-- ---- Pieces

like_once : (xs : List Transition) (y : Transition) (k m : ℕ) → IsFirstLike xs y k → IsFirstLike xs y m → k ≡ m
like_once xs y k m first second =
    elim (cases_order k m) [
      | inl same ↦ same
      | inr apart ↦ elim apart [
        | inl less ↦ absurd (second.1 k less first.0)
        | inr more ↦ absurd (first.1 m more second.0)
      ]
    ]

module _ (t : BasicType) (i e : ℕ) where
  abbrev By : (Piece → ℕ → Type 0) → Piece → ℕ → ℕ → Type 0
  By does p r k = (r ≡ i) × does p k

  -- one piece after another, in one of the tables
  module _ (of_marks : ChartMarks → Table) (does : Piece → ℕ → Type 0) (one : (p : Piece) (m n : ChartMarks) → PieceMarks t i e p m n → AddsFlags (By does p) (of_marks m) (of_marks n)) where
    pieces_add : (ps : List Piece) (m n : ChartMarks) → PiecesMark t i e ps m n → AddsFlags (Some_of (By does) ps) (of_marks m) (of_marks n)
    pieces_add [] m n same = adds_none (Some_of (By does) []) (of_marks m) (of_marks n) (ap of_marks same) (some_nil (By does))
    pieces_add (p ∷ ps) m n (o, first, rest) = adds_more (By does) p ps (of_marks m) (of_marks o) (of_marks n) (one p m o first) (pieces_add ps o n rest)

  -- a table that stays
  stays : (does : Piece → ℕ → Type 0) (p : Piece) (a b : Table) → b ≡ a → ((k : ℕ) → does p k → ⊥) → AddsFlags (By does p) a b
  stays does p a b same none = adds_none (By does p) a b same (λ r k h. none k h.1)

  -- one flag of it is set
  sets : (does : Piece → ℕ → Type 0) (p : Piece) (a b : Table) (k : ℕ) → AddsFlags (λ r c. (r ≡ i) × (c ≡ k)) a b → ((c : ℕ) → c ≡ k → does p c) → ((c : ℕ) → does p c → c ≡ k)
      → AddsFlags (By does p) a b
  sets does p a b k adds there back =
      adds_by (λ r c. (r ≡ i) × (c ≡ k)) (By does p) a b adds (λ r c h. (h.0, there c h.1)) (λ r c h. (h.0, back c h.1))

  piece_enters : (p : Piece) (m n : ChartMarks) → PieceMarks t i e p m n → AddsFlags (By (Enters t) p) m.states n.states
  piece_enters (Clears_by y) m n (k, like, is) =
      sets (Enters t) (Clears_by y) m.states n.states (state_number t y.to)
      (subst (λ (b : ChartMarks). AddsFlags (λ r c. (r ≡ i) × (c ≡ state_number t y.to)) m.states b.states) (sym is) (adds_one m.states i (state_number t y.to)))
      (λ c h. sym h) (λ c h. sym h)
  piece_enters (Is_lost s) m n is = stays (Enters t) (Is_lost s) m.states n.states (ap (λ (b : ChartMarks). b.states) is) (λ k h. h)
  piece_enters (Ran a before after) m n is = stays (Enters t) (Ran a before after) m.states n.states (ap (λ (b : ChartMarks). b.states) is) (λ k h. h)
  piece_enters (Stops_by r) m n is = stays (Enters t) (Stops_by r) m.states n.states (ap (λ (b : ChartMarks). b.states) is) (λ k h. h)
  piece_enters (Has memory due) m n is = stays (Enters t) (Has memory due) m.states n.states (ap (λ (b : ChartMarks). b.states) is) (λ k h. h)
  piece_enters (Emits emission) m n is = stays (Enters t) (Emits emission) m.states n.states (ap (λ (b : ChartMarks). b.states) is) (λ k h. h)

  piece_clears : (p : Piece) (m n : ChartMarks) → PieceMarks t i e p m n → AddsFlags (By (Clears t) p) m.transitions n.transitions
  piece_clears (Clears_by y) m n (k, like, is) =
      sets (Clears t) (Clears_by y) m.transitions n.transitions k
      (subst (λ (b : ChartMarks). AddsFlags (λ r c. (r ≡ i) × (c ≡ k)) m.transitions b.transitions) (sym is) (adds_one m.transitions i k))
      (λ c h. subst (λ (a : ℕ). IsFirstLike t.transitions y a) (sym h) like) (λ c h. like_once t.transitions y c k h like)
  piece_clears (Is_lost s) m n is = stays (Clears t) (Is_lost s) m.transitions n.transitions (ap (λ (b : ChartMarks). b.transitions) is) (λ k h. h)
  piece_clears (Ran a before after) m n is = stays (Clears t) (Ran a before after) m.transitions n.transitions (ap (λ (b : ChartMarks). b.transitions) is) (λ k h. h)
  piece_clears (Stops_by r) m n is = stays (Clears t) (Stops_by r) m.transitions n.transitions (ap (λ (b : ChartMarks). b.transitions) is) (λ k h. h)
  piece_clears (Has memory due) m n is = stays (Clears t) (Has memory due) m.transitions n.transitions (ap (λ (b : ChartMarks). b.transitions) is) (λ k h. h)
  piece_clears (Emits emission) m n is = stays (Clears t) (Emits emission) m.transitions n.transitions (ap (λ (b : ChartMarks). b.transitions) is) (λ k h. h)

  piece_runs : (p : Piece) (m n : ChartMarks) → PieceMarks t i e p m n → AddsFlags (By (Runs t) p) m.algorithms n.algorithms
  piece_runs (Clears_by y) m n (k, like, is) = stays (Runs t) (Clears_by y) m.algorithms n.algorithms (ap (λ (b : ChartMarks). b.algorithms) is) (λ k h. h)
  piece_runs (Is_lost s) m n is = stays (Runs t) (Is_lost s) m.algorithms n.algorithms (ap (λ (b : ChartMarks). b.algorithms) is) (λ k h. h)
  piece_runs (Ran a before after) m n is =
      sets (Runs t) (Ran a before after) m.algorithms n.algorithms (algorithm_number t a)
      (subst (λ (b : ChartMarks). AddsFlags (λ r c. (r ≡ i) × (c ≡ algorithm_number t a)) m.algorithms b.algorithms) (sym is) (adds_one m.algorithms i (algorithm_number t a)))
      (λ c h. sym h) (λ c h. sym h)
  piece_runs (Stops_by r) m n is = stays (Runs t) (Stops_by r) m.algorithms n.algorithms (ap (λ (b : ChartMarks). b.algorithms) is) (λ k h. h)
  piece_runs (Has memory due) m n is = stays (Runs t) (Has memory due) m.algorithms n.algorithms (ap (λ (b : ChartMarks). b.algorithms) is) (λ k h. h)
  piece_runs (Emits emission) m n is = stays (Runs t) (Emits emission) m.algorithms n.algorithms (ap (λ (b : ChartMarks). b.algorithms) is) (λ k h. h)

  -- the event is not lost
  abbrev Keeps : Piece → ℕ → Type 0
  Keeps p k = (e ≡ k) × ClearsSome p

  piece_keeps : (p : Piece) (m n : ChartMarks) → PieceMarks t i e p m n → AddsFlags (By Keeps p) m.clearing n.clearing
  piece_keeps (Clears_by y) m n (k, like, is) =
      sets Keeps (Clears_by y) m.clearing n.clearing e
      (subst (λ (b : ChartMarks). AddsFlags (λ r c. (r ≡ i) × (c ≡ e)) m.clearing b.clearing) (sym is) (adds_one m.clearing i e))
      (λ c h. (sym h, tt)) (λ c h. sym h.0)
  piece_keeps (Is_lost s) m n is = stays Keeps (Is_lost s) m.clearing n.clearing (ap (λ (b : ChartMarks). b.clearing) is) (λ k h. h.1)
  piece_keeps (Ran a before after) m n is = stays Keeps (Ran a before after) m.clearing n.clearing (ap (λ (b : ChartMarks). b.clearing) is) (λ k h. h.1)
  piece_keeps (Stops_by r) m n is = stays Keeps (Stops_by r) m.clearing n.clearing (ap (λ (b : ChartMarks). b.clearing) is) (λ k h. h.1)
  piece_keeps (Has memory due) m n is = stays Keeps (Has memory due) m.clearing n.clearing (ap (λ (b : ChartMarks). b.clearing) is) (λ k h. h.1)
  piece_keeps (Emits emission) m n is = stays Keeps (Emits emission) m.clearing n.clearing (ap (λ (b : ChartMarks). b.clearing) is) (λ k h. h.1)

  -- no piece marks that an event was taken
  abbrev Nothing : Piece → ℕ → Type 0
  Nothing p k = ⊥

  piece_takes : (p : Piece) (m n : ChartMarks) → PieceMarks t i e p m n → AddsFlags (By Nothing p) m.taken n.taken
  piece_takes (Clears_by y) m n (k, like, is) = stays Nothing (Clears_by y) m.taken n.taken (ap (λ (b : ChartMarks). b.taken) is) (λ k h. h)
  piece_takes (Is_lost s) m n is = stays Nothing (Is_lost s) m.taken n.taken (ap (λ (b : ChartMarks). b.taken) is) (λ k h. h)
  piece_takes (Ran a before after) m n is = stays Nothing (Ran a before after) m.taken n.taken (ap (λ (b : ChartMarks). b.taken) is) (λ k h. h)
  piece_takes (Stops_by r) m n is = stays Nothing (Stops_by r) m.taken n.taken (ap (λ (b : ChartMarks). b.taken) is) (λ k h. h)
  piece_takes (Has memory due) m n is = stays Nothing (Has memory due) m.taken n.taken (ap (λ (b : ChartMarks). b.taken) is) (λ k h. h)
  piece_takes (Emits emission) m n is = stays Nothing (Emits emission) m.taken n.taken (ap (λ (b : ChartMarks). b.taken) is) (λ k h. h)

-- ---- One taking

-- what one taking marks
record MarkTaking (blocks : List BlockType) (sys : System) (x : Taking) (old new : ChartMarks) : Type 0 where
  pub states : AddsFlags (Does blocks sys EntersState x) old.states new.states
  pub transitions : AddsFlags (Does blocks sys ClearsTransition x) old.transitions new.transitions
  pub algorithms : AddsFlags (Does blocks sys RunsAlgorithm x) old.algorithms new.algorithms
  pub taken : AddsFlags (Does blocks sys TakesEvent x) old.taken new.taken
  pub clearing : AddsFlags (Does blocks sys KeepsEvent x) old.clearing new.clearing

same_basic : (o : Option Kind) (s t : BasicType) → o ≡ Some (Basic s) → o ≡ Some (Basic t) → s ≡ t
same_basic o s t first second = cc

-- a taking that is not one of a basic block marks nothing
taking_none :
    (blocks : List BlockType) (sys : System) (x : Taking) (m n : ChartMarks) → n ≡ m → ((t : BasicType) → sys.kind x.first.at ≡ Some (Basic t) → ⊥) → MarkTaking blocks sys x m n
taking_none blocks sys x m n same other = record {
  states = adds_none (Does blocks sys EntersState x) m.states n.states (ap (λ (b : ChartMarks). b.states) same) (λ i k h. other h.0 h.2);
  transitions = adds_none (Does blocks sys ClearsTransition x) m.transitions n.transitions (ap (λ (b : ChartMarks). b.transitions) same) (λ i k h. other h.0 h.2);
  algorithms = adds_none (Does blocks sys RunsAlgorithm x) m.algorithms n.algorithms (ap (λ (b : ChartMarks). b.algorithms) same) (λ i k h. other h.0 h.2);
  taken = adds_none (Does blocks sys TakesEvent x) m.taken n.taken (ap (λ (b : ChartMarks). b.taken) same) (λ i k h. other h.0 h.2);
  clearing = adds_none (Does blocks sys KeepsEvent x) m.clearing n.clearing (ap (λ (b : ChartMarks). b.clearing) same) (λ i k h. other h.0 h.2);
}

module _ (i : Inputs) (accepted : AreAccepted i) (x : Taking) (t : BasicType) (kind_is : (system_of i).kind x.first.at ≡ Some (Basic t)) (m n : ChartMarks) (marked : ChartMarked i.library.blocks t x m n) where
  abbrev its : List BlockType
  its = i.library.blocks

  abbrev event : ℕ
  event = event_number t x.first.event

  abbrev begun : ChartMarks
  begun = with_taken marked.number event m

  -- only this type is of this number
  module _ (does : BasicType → Taking → ℕ → Type 0) where
    does_there : (r k : ℕ) → (r ≡ marked.number) × does t x k → Does its (system_of i) does x r k
    does_there r k h = (t, ap (slice_get its) h.0 ∙ marked.type_is, kind_is, h.1)

    does_back : (r k : ℕ) → Does its (system_of i) does x r k → (r ≡ marked.number) × does t x k
    does_back r k (s, at, kind, holds) =
        let same : s ≡ t = same_basic ((system_of i).kind x.first.at) s t kind kind_is in
        let here : slice_get its r ≡ Some (block.Basic t) = at ∙ ap (λ (b : BasicType). Some (block.Basic b)) same in
        (type_once i accepted r marked.number (block.Basic t) here marked.type_is, subst (λ (b : BasicType). does b x k) same holds)

    taking_does : (P : ℕ → ℕ → Type 0) (a b : Table) → AddsFlags P a b → ((r k : ℕ) → P r k → (r ≡ marked.number) × does t x k) → ((r k : ℕ) → (r ≡ marked.number) × does t x k → P r k)
        → AddsFlags (Does its (system_of i) does x) a b
    taking_does P a b adds there back =
        adds_by P (Does its (system_of i) does x) a b adds (λ r k h. does_there r k (there r k h)) (λ r k h. back r k (does_back r k h))

  taking_basic : MarkTaking its (system_of i) x m n
  taking_basic = record {
    states = taking_does EntersState (Some_of (By t marked.number event (Enters t)) x.pieces) m.states n.states
        (pieces_add t marked.number event (λ b. b.states) (Enters t) (piece_enters t marked.number event) x.pieces begun n marked.pieces)
        (λ r k h. (h.2.0, (h.0, h.1, h.2.1))) (λ r k h. (h.1.0, h.1.1, (h.0, h.1.2)));
    transitions = taking_does ClearsTransition (Some_of (By t marked.number event (Clears t)) x.pieces) m.transitions n.transitions
        (pieces_add t marked.number event (λ b. b.transitions) (Clears t) (piece_clears t marked.number event) x.pieces begun n marked.pieces)
        (λ r k h. (h.2.0, (h.0, h.1, h.2.1))) (λ r k h. (h.1.0, h.1.1, (h.0, h.1.2)));
    algorithms = taking_does RunsAlgorithm (Some_of (By t marked.number event (Runs t)) x.pieces) m.algorithms n.algorithms
        (pieces_add t marked.number event (λ b. b.algorithms) (Runs t) (piece_runs t marked.number event) x.pieces begun n marked.pieces)
        (λ r k h. (h.2.0, (h.0, h.1, h.2.1))) (λ r k h. (h.1.0, h.1.1, (h.0, h.1.2)));
    taken = taking_does TakesEvent (λ r k. ((r ≡ marked.number) × (k ≡ event)) ⊎ Some_of (By t marked.number event (Nothing t marked.number event)) x.pieces r k) m.taken n.taken
        (adds_both (λ r k. (r ≡ marked.number) × (k ≡ event)) (Some_of (By t marked.number event (Nothing t marked.number event)) x.pieces) m.taken begun.taken n.taken
        (adds_one m.taken marked.number event)
        (pieces_add t marked.number event (λ b. b.taken) (Nothing t marked.number event) (piece_takes t marked.number event) x.pieces begun n marked.pieces))
        (λ r k h. elim h [ inl one ↦ (one.0, sym one.1) | inr none ↦ absurd none.2.1 ]) (λ r k h. inl (h.0, sym h.1));
    clearing = taking_does KeepsEvent (Some_of (By t marked.number event (Keeps t marked.number event)) x.pieces) m.clearing n.clearing
        (pieces_add t marked.number event (λ b. b.clearing) (Keeps t marked.number event) (piece_keeps t marked.number event) x.pieces begun n marked.pieces)
        (λ r k h. (h.2.0, (h.2.1.0, (h.0, h.1, h.2.1.1)))) (λ r k h. (h.1.1.0, h.1.1.1, (h.0, (h.1.0, h.1.1.2))));
  }

taking_marks : (i : Inputs) → AreAccepted i → (x : Taking) (o : Option Kind) (m n : ChartMarks) → (system_of i).kind x.first.at ≡ o → TakingMarksAt i.library.blocks o x m n
    → MarkTaking i.library.blocks (system_of i) x m n
taking_marks i accepted x None m n is same = taking_none i.library.blocks (system_of i) x m n same (λ t kind. absurd (cc))
taking_marks i accepted x (Some (Basic t)) m n is marked = taking_basic i accepted x t is m n marked
taking_marks i accepted x (Some (Event k)) m n is same = taking_none i.library.blocks (system_of i) x m n same (λ t kind. absurd (cc))
taking_marks i accepted x (Some (Composite t)) m n is same = taking_none i.library.blocks (system_of i) x m n same (λ s kind. absurd (cc))

-- ---- All takings

module _ (i : Inputs) where
  abbrev declared : List BlockType
  declared = i.library.blocks

  abbrev own : System
  own = system_of i

  abbrev Each_does : (BasicType → Taking → ℕ → Type 0) → Taking → ℕ → ℕ → Type 0
  Each_does does x = Does declared own does x

  marks_none : (m n : ChartMarks) → n ≡ m → MarkCharts declared own [] m n
  marks_none m n same = record {
    states = adds_none (Happens declared own EntersState []) m.states n.states (ap (λ (b : ChartMarks). b.states) same) (some_nil (Each_does EntersState));
    transitions = adds_none (Happens declared own ClearsTransition []) m.transitions n.transitions (ap (λ (b : ChartMarks). b.transitions) same) (some_nil (Each_does ClearsTransition));
    algorithms = adds_none (Happens declared own RunsAlgorithm []) m.algorithms n.algorithms (ap (λ (b : ChartMarks). b.algorithms) same) (some_nil (Each_does RunsAlgorithm));
    taken = adds_none (Happens declared own TakesEvent []) m.taken n.taken (ap (λ (b : ChartMarks). b.taken) same) (some_nil (Each_does TakesEvent));
    clearing = adds_none (Happens declared own KeepsEvent []) m.clearing n.clearing (ap (λ (b : ChartMarks). b.clearing) same) (some_nil (Each_does KeepsEvent));
  }

  marks_next : (x : Taking) (xs : List Taking) (m o n : ChartMarks) → MarkTaking declared own x m o → MarkCharts declared own xs o n → MarkCharts declared own (x ∷ xs) m n
  marks_next x xs m o n first rest = record {
    states = adds_more (Each_does EntersState) x xs m.states o.states n.states first.states rest.states;
    transitions = adds_more (Each_does ClearsTransition) x xs m.transitions o.transitions n.transitions first.transitions rest.transitions;
    algorithms = adds_more (Each_does RunsAlgorithm) x xs m.algorithms o.algorithms n.algorithms first.algorithms rest.algorithms;
    taken = adds_more (Each_does TakesEvent) x xs m.taken o.taken n.taken first.taken rest.taken;
    clearing = adds_more (Each_does KeepsEvent) x xs m.clearing o.clearing n.clearing first.clearing rest.clearing;
  }

  charts_together : (xs ys : List Taking) (m o n : ChartMarks) → MarkCharts declared own xs m o → MarkCharts declared own ys o n → MarkCharts declared own (xs ++ ys) m n
  charts_together xs ys m o n first rest = record {
    states = adds_append (Each_does EntersState) xs ys m.states o.states n.states first.states rest.states;
    transitions = adds_append (Each_does ClearsTransition) xs ys m.transitions o.transitions n.transitions first.transitions rest.transitions;
    algorithms = adds_append (Each_does RunsAlgorithm) xs ys m.algorithms o.algorithms n.algorithms first.algorithms rest.algorithms;
    taken = adds_append (Each_does TakesEvent) xs ys m.taken o.taken n.taken first.taken rest.taken;
    clearing = adds_append (Each_does KeepsEvent) xs ys m.clearing o.clearing n.clearing first.clearing rest.clearing;
  }

  takings_mark : AreAccepted i → (xs : List Taking) (m n : ChartMarks) → TakingsMark declared own xs m n → MarkCharts declared own xs m n
  takings_mark accepted [] m n same = marks_none m n same
  takings_mark accepted (x ∷ xs) m n (o, first, rest) =
      marks_next x xs m o n (taking_marks i accepted x (own.kind x.first.at) m o refl first) (takings_mark accepted xs o n rest)

-- ---- Ports

port_inputs : (l : Line) (b : Bool) (m : PortMarks) → l.taken ≡ b → AddsFlags (IsOfPort true l) m.inputs (with_port l.instance b l.event m).inputs
port_inputs l true m is =
    adds_by (λ r c. (r ≡ l.instance) × (c ≡ l.event)) (IsOfPort true l) m.inputs (with_port l.instance true l.event m).inputs (adds_one m.inputs l.instance l.event)
    (λ r c h. (is, sym h.0, sym h.1)) (λ r c h. (sym h.1, sym h.2))
port_inputs l false m is = adds_none (IsOfPort true l) m.inputs m.inputs refl (λ r c h. true≢false (sym h.0 ∙ is))

port_outputs : (l : Line) (b : Bool) (m : PortMarks) → l.taken ≡ b → AddsFlags (IsOfPort false l) m.outputs (with_port l.instance b l.event m).outputs
port_outputs l true m is = adds_none (IsOfPort false l) m.outputs m.outputs refl (λ r c h. true≢false (sym is ∙ h.0))
port_outputs l false m is =
    adds_by (λ r c. (r ≡ l.instance) × (c ≡ l.event)) (IsOfPort false l) m.outputs (with_port l.instance false l.event m).outputs (adds_one m.outputs l.instance l.event)
    (λ r c h. (is, sym h.0, sym h.1)) (λ r c h. (sym h.1, sym h.2))

lines_mark : (ls : List Line) (m n : PortMarks) → n ≡ lines_marked ls m → MarkPorts ls m n
lines_mark [] m n same = record {
  inputs = adds_none (IsAtPort true []) m.inputs n.inputs (ap (λ (b : PortMarks). b.inputs) same) (some_nil (IsOfPort true));
  outputs = adds_none (IsAtPort false []) m.outputs n.outputs (ap (λ (b : PortMarks). b.outputs) same) (some_nil (IsOfPort false));
}
lines_mark (l ∷ ls) m n same =
    let o : PortMarks = with_port l.instance l.taken l.event m in
    let rest = lines_mark ls o n same in
    record {
      inputs = adds_more (IsOfPort true) l ls m.inputs o.inputs n.inputs (port_inputs l l.taken m refl) rest.inputs;
      outputs = adds_more (IsOfPort false) l ls m.outputs o.outputs n.outputs (port_outputs l l.taken m refl) rest.outputs;
    }

-- ---- All marks

pub marked_by :
    (i : Inputs) → AreAccepted i → (h : History) (old new : Marks) → TakingsMark i.library.blocks (system_of i) h.takings old.charts new.charts → new.ports ≡ lines_marked h.lines old.ports
    → AreMarkedBy i h old new
marked_by i accepted h old new charts ports = record { charts = takings_mark i accepted h.takings old.charts new.charts charts; ports = lines_mark h.lines old.ports new.ports ports }

pub marked_more :
    (i : Inputs) (h : History) (hs : List History) (m o n : Marks) → AreMarkedBy i h m o → AreMarkedBy i (together hs) o n → AreMarkedBy i (together (h ∷ hs)) m n
marked_more i h hs m o n first rest = record {
  charts = charts_together i h.takings (together hs).takings m.charts o.charts n.charts first.charts rest.charts;
  ports = record {
    inputs = adds_append (IsOfPort true) h.lines (together hs).lines m.ports.inputs o.ports.inputs n.ports.inputs first.ports.inputs rest.ports.inputs;
    outputs = adds_append (IsOfPort false) h.lines (together hs).lines m.ports.outputs o.ports.outputs n.ports.outputs first.ports.outputs rest.ports.outputs;
  };
}
