-- A reaction of a basic block emits the first of what it emits with more steps.
use Rattle.fb_inspect.proofs.lemmas.Common.{◌≡◌, ◌⊎◌, inl, inr, ℕ, zero, suc, ◌+◌, List, [], ◌∷◌, ◌++◌, Option, Some, None, refl, sym, ◌∙◌, ap, subst, arith, append_assoc, append-nil, Name, End, Went, Returned, Stopped, Emission, types_of, Position, Trial, Clears, NoneClears, Fails, Rests, trial_at, leaving, actions_of, algorithm_of, at_point, emitting, Action, BasicType, Transition, Reason, Steps, Divide, Range, first_true, Piece, Showing, Silent, ShowsAfter, ShowsPerform, ShowsEmission, ShowsActs, ShowsOr, ShowsEnters, ShowsLinks, ShowsReaction}
use Rattle.fb_types.proofs.Common.{Point, Left}
use Rattle.fb_types.proofs.lemmas.determined.BodyLaws.{body-one}
use Rattle.fb_inspect.proofs.lemmas.reactions.MoreReactions.{Next, acts_longer, enters_out, later, later_trial, trial_longer}
use Rattle.fb_inspect.proofs.lemmas.runs.MoreSteps.{body_longer, later as later_point}
use Rattle.fb_inspect.proofs.lemmas.reactions.ShowingLaws.{acts-one}

abbrev pub Begins : List Emission → List Emission → Type 0
Begins front whole = (rest : List Emission) × (whole ≡ front ++ rest)

pub same_begins : (es fs : List Emission) → fs ≡ es → Begins es fs
same_begins es fs same = ([], same ∙ sym (append-nil es))

begins_then : (es fs gs : List Emission) → Begins es fs → Begins fs gs → Begins es gs
begins_then es fs gs a b = (a.0 ++ b.0, b.1 ∙ ap (λ (ls : List Emission). ls ++ b.0) a.1 ∙ append_assoc es a.0 b.0)

begins_from : (es fs gs : List Emission) → es ≡ fs → Begins fs gs → Begins es gs
begins_from es fs gs same b = (b.0, b.1 ∙ ap (λ (ls : List Emission). ls ++ b.0) (sym same))

-- ---- A movement emits more and more

abbrev Grows : Showing → Type 0
Grows S = (p : Position) (stop : Option Reason) (q : Position) (ps : List Piece) → S p stop q ps → Begins p.emitted q.emitted

silent_grows : (how : Option Reason) → Grows (Silent how)
silent_grows how p stop q ps h = same_begins p.emitted q.emitted (ap (λ (x : Position). x.emitted) h.1)

after_grows : (e : End) (S : Showing) → Grows S → Grows (ShowsAfter e S)
after_grows Went S g = g
after_grows Left S g = g
after_grows Returned S g = g
after_grows (Stopped r) S g = silent_grows (Some r)

perform_grows : (t : BasicType) (a : Option Name) (S : Showing) → Grows S → Grows (ShowsPerform t a S)
perform_grows t None S g p stop q ps h = g p stop q ps h
perform_grows t (Some a) S g p stop q ps h = after_grows h.0 S g (at_point p h.1) stop q h.2 h.5

emitting_begins : (t : BasicType) (o : Option Name) (m : Position) → Begins m.emitted (emitting t o m).emitted
emitting_begins t None m = same_begins m.emitted m.emitted refl
emitting_begins t (Some e) m = (_, refl)

acts_grows : (t : BasicType) (actions : List Action) (left : ℕ) → Grows (ShowsActs t actions left)
acts_grows t [] left p stop q ps h = silent_grows None p stop q ps h
acts_grows t (a ∷ others) zero p stop q ps h = silent_grows (Some Steps) p stop q ps h
acts_grows t (a ∷ others) (suc left) p stop q ps h =
    perform_grows t a.algorithm (λ m stop q ps. ShowsEmission t a.output (λ n stop q ps. ShowsActs t others n.left n stop q ps) m stop q ps)
    (λ m stop q ps h. let n = emitting t a.output m in begins_then m.emitted n.emitted q.emitted (emitting_begins t a.output m) (acts_grows t others n.left n stop q h.0 h.2))
    (record p { left = left }) stop q ps h

or_grows : (s : Option Reason) (S : Showing) → Grows S → Grows (ShowsOr s S)
or_grows None S g = g
or_grows (Some r) S g = silent_grows (Some r)

enters_grows : (t : BasicType) (c : Option Transition) (x : Trial) (S : Showing) → Grows S → Grows (ShowsEnters t c x S)
enters_grows t c (Clears target left) S g p stop q ps h =
    begins_then p.emitted h.2.emitted q.emitted (acts_grows t (actions_of t target) left (record p { state = target; left = left }) h.1 h.2 h.3 h.6) (or_grows h.1 S g h.2 stop q h.4 h.7)
enters_grows t c (NoneClears left) S g p stop q ps h = absurd h
enters_grows t c (Fails r left) S g p stop q ps h = absurd h

rests_same : (x : Trial) (p : Position) (stop : Option Reason) (q : Position) → Rests x p stop q → q.emitted ≡ p.emitted
rests_same (Clears target left) p stop q h = absurd h
rests_same (NoneClears left) p stop q h = ap (λ (x : Position). x.emitted) h.1
rests_same (Fails r left) p stop q h = ap (λ (x : Position). x.emitted) h.1

links_grow : (t : BasicType) (n : ℕ) (present : Option Name) → Grows (ShowsLinks t n present)
links_grow t zero present p stop q ps h = same_begins p.emitted q.emitted (rests_same (trial_at t present p) p stop q h.0)
links_grow t (suc n) present p stop q ps h =
    enters_grows t (first_true (leaving t p.state) present p.vars) (trial_at t present p) (λ m stop q ps. ShowsLinks t n None m stop q ps) (links_grow t n None) p stop q ps h

-- ---- With more steps

module _ (d : ℕ) where
  abbrev AreAlike : Showing → Showing → Type 0
  AreAlike S T = (p : Position) (s r : Option Reason) (q u : Position) (ps qs : List Piece) → S p s q ps → T (later d p) r u qs → Begins q.emitted u.emitted

  -- a movement that is silent, and any other one
  silent_alike : (how : Option Reason) (T : Showing) → Grows T → AreAlike (Silent how) T
  silent_alike how T g p s r q u ps qs h i = begins_from q.emitted p.emitted u.emitted (ap (λ (x : Position). x.emitted) h.1) (g (later d p) r u qs i)

  after_alike : (e : End) (S : Showing) → Grows S → AreAlike S S → AreAlike (ShowsAfter e S) (ShowsAfter e S)
  after_alike Went S g a = a
  after_alike Left S g a = a
  after_alike Returned S g a = a
  after_alike (Stopped r) S g a = silent_alike (Some r) (Silent (Some r)) (silent_grows (Some r))

  -- whether a run ran out of steps
  by_steps : (e : End) → (e ≡ Stopped Steps) ⊎ (e ≡ Stopped Steps → ⊥)
  by_steps Went = inr (λ x. cc)
  by_steps Left = inr (λ x. cc)
  by_steps Returned = inr (λ x. cc)
  by_steps (Stopped Steps) = inl refl
  by_steps (Stopped Divide) = inr (λ x. cc)
  by_steps (Stopped Range) = inr (λ x. cc)

  for_steps : (s : Option Reason) → (s ≡ Some Steps) ⊎ (s ≡ Some Steps → ⊥)
  for_steps None = inr (λ x. cc)
  for_steps (Some Steps) = inl refl
  for_steps (Some Divide) = inr (λ x. cc)
  for_steps (Some Range) = inr (λ x. cc)

  module _ (t : BasicType) (a : Name) (S : Showing) (g : Grows S) (alike : AreAlike S S) (p : Position) (s r : Option Reason) (q u : Position) (ps qs : List Piece)
      (h : ShowsPerform t (Some a) S p s q ps) (i : ShowsPerform t (Some a) S (later d p) r u qs) where
    perform_by : (h.0 ≡ Stopped Steps) ⊎ (h.0 ≡ Stopped Steps → ⊥) → Begins q.emitted u.emitted
    perform_by (inl out) =
        let halted = subst (λ (e : End). ShowsAfter e S (at_point p h.1) s q h.2) out h.5 in
        begins_from q.emitted p.emitted u.emitted (ap (λ (x : Position). x.emitted) halted.1) (perform_grows t (Some a) S g (later d p) r u qs i)
    perform_by (inr other) =
        let long = body_longer d (algorithm_of t a) (types_of t) (record { vars = p.vars; left = p.left }) h.0 h.1 h.3 other in
        let one = body-one (algorithm_of t a) (types_of t) (record { vars = p.vars; left = p.left + d }) h.0 i.0 (later_point d h.1) i.1 long i.3 in
        let same = subst (λ (m : Point). ShowsAfter h.0 S (at_point (later d p) m) r u i.2) (sym one.1) (subst (λ (e : End). ShowsAfter e S (at_point (later d p) i.1) r u i.2) (sym one.0) i.5) in
        after_alike h.0 S g alike (at_point p h.1) s r q u h.2 i.2 h.5 same

  perform_alike : (t : BasicType) (a : Option Name) (S : Showing) → Grows S → AreAlike S S → AreAlike (ShowsPerform t a S) (ShowsPerform t a S)
  perform_alike t None S g alike p s r q u ps qs h i = alike p s r q u ps qs h i
  perform_alike t (Some a) S g alike p s r q u ps qs h i = perform_by t a S g alike p s r q u ps qs h i (by_steps h.0)

  abbrev ActsAlike : BasicType → List Action → ℕ → Type 0
  ActsAlike t actions left =
      (p : Position) (s r : Option Reason) (q u : Position) (ps qs : List Piece) → ShowsActs t actions left p s q ps → ShowsActs t actions (left + d) (later d p) r u qs → Begins q.emitted u.emitted

  next_alike : (t : BasicType) (others : List Action) (o : Option Name) → ((left : ℕ) → ActsAlike t others left) → AreAlike (Next d t others o) (Next d t others o)
  next_alike t others None all m s r q u ps qs h i = all m.left m s r q u h.0 i.0 h.2 i.2
  next_alike t others (Some e) all m s r q u ps qs h i = all m.left (emitting t (Some e) m) s r q u h.0 i.0 h.2 i.2

  next_grows : (t : BasicType) (others : List Action) (o : Option Name) → Grows (Next d t others o)
  next_grows t others o m stop q ps h = let n = emitting t o m in begins_then m.emitted n.emitted q.emitted (emitting_begins t o m) (acts_grows t others n.left n stop q h.0 h.2)

  acts_alike : (t : BasicType) (actions : List Action) (left : ℕ) → ActsAlike t actions left
  acts_alike t [] left p s r q u ps qs h i = silent_alike None (Silent None) (silent_grows None) p s r q u ps qs h i
  acts_alike t (a ∷ others) zero p s r q u ps qs h i = silent_alike (Some Steps) (ShowsActs t (a ∷ others) (zero + d)) (acts_grows t (a ∷ others) (zero + d)) p s r q u ps qs h i
  acts_alike t (a ∷ others) (suc left) p s r q u ps qs h i =
      let same : suc left + d ≡ suc (left + d) = omega arith in
      perform_alike t a.algorithm (Next d t others a.output) (next_grows t others a.output) (next_alike t others a.output (acts_alike t others)) (record p { left = left }) s r q u ps qs h
      (subst (λ (n : ℕ). ShowsActs t (a ∷ others) n (later d p) r u qs) same i)

  -- ---- Links

  abbrev LinksOf : BasicType → ℕ → Showing
  LinksOf t n m stop q ps = ShowsLinks t n None m stop q ps

  or_alike : (s : Option Reason) (S T : Showing) → Grows T → AreAlike S T → AreAlike (ShowsOr s S) (ShowsOr s T)
  or_alike None S T g a = a
  or_alike (Some r) S T g a = silent_alike (Some r) (Silent (Some r)) (silent_grows (Some r))

  module _ (t : BasicType) (target : Name) (left : ℕ) (c : Option Transition) (S T : Showing) (g : Grows T) (alike : AreAlike S T) (p : Position) (s r : Option Reason) (q u : Position) (ps qs : List Piece)
      (h : ShowsEnters t c (Clears target left) S p s q ps) (i : ShowsEnters t c (Clears target (left + d)) T (later d p) r u qs) where
    abbrev begun : Position
    begun = record p { state = target; left = left }

    enters_by : (h.1 ≡ Some Steps) ⊎ (h.1 ≡ Some Steps → ⊥) → Begins q.emitted u.emitted
    enters_by (inl out) =
        let halted = subst (λ (x : Option Reason). ShowsOr x S h.2 s q h.4) out h.7 in
        begins_then q.emitted i.2.emitted u.emitted
        (begins_from q.emitted h.2.emitted i.2.emitted (ap (λ (x : Position). x.emitted) halted.1) (acts_alike t (actions_of t target) left begun h.1 i.1 h.2 i.2 h.3 i.3 h.6 i.6))
        (or_grows i.1 T g i.2 r u i.4 i.7)
    enters_by (inr other) =
        let long = acts_longer d t (actions_of t target) left begun h.1 h.2 h.3 h.6 other in
        let one = acts-one t (actions_of t target) (left + d) (later d begun) h.1 i.1 (later d h.2) i.2 h.3 i.3 long i.6 in
        let same = subst (λ (m : Position). ShowsOr h.1 T m r u i.4) (sym one.end_is) (subst (λ (x : Option Reason). ShowsOr x T i.2 r u i.4) (sym one.stop_is) i.7) in
        or_alike h.1 S T g alike h.2 s r q u h.4 i.4 h.7 same

  enters_alike : (t : BasicType) (x : Trial) (c : Option Transition) (S T : Showing) → Grows T → AreAlike S T → (p : Position) (s r : Option Reason) (q u : Position) (ps qs : List Piece)
      → ShowsEnters t c x S p s q ps → ShowsEnters t c (later_trial d x) T (later d p) r u qs → Begins q.emitted u.emitted
  enters_alike t (Clears target left) c S T g alike p s r q u ps qs h i = enters_by t target left c S T g alike p s r q u ps qs h i (for_steps h.1)
  enters_alike t (NoneClears left) c S T g alike p s r q u ps qs h i = absurd h
  enters_alike t (Fails o left) c S T g alike p s r q u ps qs h i = absurd h

  -- a chain that goes on does not end with more steps
  rests_later : (t : BasicType) (x : Trial) (c : Option Transition) (S : Showing) (p m : Position) (s r : Option Reason) (q u : Position) (ps : List Piece)
      → ShowsEnters t c x S p s q ps → Rests (later_trial d x) m r u → ⊥
  rests_later t (Clears target left) c S p m s r q u ps h i = i
  rests_later t (NoneClears left) c S p m s r q u ps h i = h
  rests_later t (Fails o left) c S p m s r q u ps h i = h

  links_alike : (t : BasicType) (n m : ℕ) (present : Option Name) → AreAlike (ShowsLinks t n present) (ShowsLinks t m present)
  links_alike t zero m present p s r q u ps qs h i =
      begins_from q.emitted p.emitted u.emitted (rests_same (trial_at t present p) p s q h.0) (links_grow t m present (later d p) r u qs i)
  links_alike t (suc n) zero present p s r q u ps qs h i =
      let x = trial_at t present p in
      let c = first_true (leaving t p.state) present p.vars in
      let e : trial_at t present (later d p) ≡ later_trial d x = trial_longer d (leaving t p.state) present p.vars p.left (enters_out d t x c (LinksOf t n) p s q ps h) in
      absurd (rests_later t x c (LinksOf t n) p (later d p) s r q u ps h (subst (λ (y : Trial). Rests y (later d p) r u) e i.0))
  links_alike t (suc n) (suc m) present p s r q u ps qs h i =
      let x = trial_at t present p in
      let c = first_true (leaving t p.state) present p.vars in
      let e : trial_at t present (later d p) ≡ later_trial d x = trial_longer d (leaving t p.state) present p.vars p.left (enters_out d t x c (LinksOf t n) p s q ps h) in
      enters_alike t x c (LinksOf t n) (LinksOf t m) (links_grow t m None) (links_alike t n m None) p s r q u ps qs h (subst (λ (y : Trial). ShowsEnters t c y (LinksOf t m) (later d p) r u qs) e i)

  pub reaction_begins : (t : BasicType) (e : Name) → AreAlike (ShowsReaction t e) (ShowsReaction t e)
  reaction_begins t e p s r q u ps qs h i = links_alike t h.1.0 i.1.0 (Some e) p s r q u h.0 i.0 h.1.1 i.1.1
