-- A reaction of a basic block leaves no more steps than it had. With some more steps it leaves fewer than these, or it is the same without them,
-- and it is shown alike.
use Rattle.fb_inspect.proofs.lemmas.Common.{◌≡◌, ◌<◌, ◌≤◌, ◌⊎◌, inl, inr, ℕ, zero, suc, ◌+◌, Bool, true, false, List, [], ◌∷◌, Option, Some, None, Result, Ok, Err, refl, ◌∙◌, ap, subst, arith, Name, End, Went, Returned, Stopped, types_of, Position, Trial, Clears, NoneClears, Fails, Rests, trial_at, is_true, leaving, actions_of, algorithm_of, at_point, emitting, Values, Action, BasicType, Transition, Reason, Steps, first_true, Piece, Showing, Silent, rest_pieces, ShowsAfter, ShowsPerform, ShowsActs, ShowsOr, ShowsEnters, ShowsLinks, ShowsReaction}
use Rattle.fb_types.proofs.Common.{Left, Point, trial_of, by_condition}
use Rattle.fb_inspect.specs.walk.Chains.{Ran}
use Rattle.fb_inspect.proofs.lemmas.reactions.MoreReactions.{Next, later, later_trial}
use Rattle.fb_inspect.proofs.lemmas.runs.LessSteps.{body_falls, body_short, Shorter as ShorterRun}
use Rattle.fb_types.specs.Bodies.{RunsBody}

-- ---- No more steps are left

abbrev Falls : Showing → Type 0
Falls S = (p : Position) (stop : Option Reason) (q : Position) (ps : List Piece) → S p stop q ps → q.left ≤ p.left

same_left : (p q : Position) → q ≡ p → q.left ≤ p.left
same_left p q is = let same : q.left ≡ p.left = ap (λ (x : Position). x.left) is in omega (arith, same)

silent_falls : (how : Option Reason) → Falls (Silent how)
silent_falls how p stop q ps h = same_left p q h.1

after_falls : (e : End) (S : Showing) → Falls S → Falls (ShowsAfter e S)
after_falls Went S f = f
after_falls Left S f = f
after_falls Returned S f = f
after_falls (Stopped r) S f = silent_falls (Some r)

perform_falls : (t : BasicType) (a : Option Name) (S : Showing) → Falls S → Falls (ShowsPerform t a S)
perform_falls t None S f p stop q ps h = f p stop q ps h
perform_falls t (Some a) S f p stop q ps h =
    let first : h.1.left ≤ p.left = body_falls (algorithm_of t a) (types_of t) (record { vars = p.vars; left = p.left }) h.0 h.1 h.3 in
    let second : q.left ≤ h.1.left = after_falls h.0 S f (at_point p h.1) stop q h.2 h.5 in
    omega (arith, first, second)

emitting_left : (t : BasicType) (o : Option Name) (m : Position) → (emitting t o m).left ≡ m.left
emitting_left t None m = refl
emitting_left t (Some e) m = refl

abbrev ActsFall : BasicType → List Action → ℕ → Type 0
ActsFall t actions left = (p : Position) → left ≤ p.left → (stop : Option Reason) (q : Position) (ps : List Piece) → ShowsActs t actions left p stop q ps → q.left ≤ p.left

next_falls : (d : ℕ) (t : BasicType) (others : List Action) (o : Option Name) → ((left : ℕ) → ActsFall t others left) → Falls (Next d t others o)
next_falls d t others o all m stop q ps h =
    let n = emitting t o m in
    let same : n.left ≡ m.left = emitting_left t o m in
    let falls : q.left ≤ n.left = all n.left n (omega arith) stop q h.0 h.2 in
    omega (arith, same, falls)

acts_fall : (t : BasicType) (actions : List Action) (left : ℕ) → ActsFall t actions left
acts_fall t [] left p less stop q ps h = silent_falls None p stop q ps h
acts_fall t (a ∷ others) zero p less stop q ps h = silent_falls (Some Steps) p stop q ps h
acts_fall t (a ∷ others) (suc left) p less stop q ps h =
    let falls : q.left ≤ left = perform_falls t a.algorithm (Next 0 t others a.output) (next_falls 0 t others a.output (acts_fall t others)) (record p { left = left }) stop q ps h in
    omega (arith, falls, less)

or_falls : (s : Option Reason) (S : Showing) → Falls S → Falls (ShowsOr s S)
or_falls None S f = f
or_falls (Some r) S f = silent_falls (Some r)

-- the steps that a trial leaves
abbrev left_in : Trial → ℕ
left_in (Clears target left) = left
left_in (NoneClears left) = left
left_in (Fails r left) = left

by_falls : (a : Result Bool Reason) (target : Name) (left : ℕ) (rest : Trial) → left_in rest ≤ left → left_in (by_condition a target left rest) ≤ left
by_falls (Ok true) target left rest h = omega arith
by_falls (Ok false) target left rest h = h
by_falls (Err r) target left rest h = omega arith

trial_falls : (ts : List Transition) (present : Option Name) (vars : Values) (left : ℕ) → left_in (trial_of ts present vars left) ≤ left
trial_falls [] present vars left = omega arith
trial_falls (t ∷ ts) present vars zero = omega arith
trial_falls (t ∷ ts) present vars (suc left) =
    let falls = by_falls (is_true t.condition present vars) t.to left (trial_of ts present vars left) (trial_falls ts present vars left) in
    omega (arith, falls)

enters_fall : (t : BasicType) (x : Trial) (c : Option Transition) (S : Showing) → Falls S → (p : Position) (stop : Option Reason) (q : Position) (ps : List Piece) → ShowsEnters t c x S p stop q ps → q.left ≤ left_in x
enters_fall t (Clears target left) c S f p stop q ps h =
    let first : h.2.left ≤ left = acts_fall t (actions_of t target) left (record p { state = target; left = left }) (omega arith) h.1 h.2 h.3 h.6 in
    let second : q.left ≤ h.2.left = or_falls h.1 S f h.2 stop q h.4 h.7 in
    omega (arith, first, second)
enters_fall t (NoneClears left) c S f p stop q ps h = absurd h
enters_fall t (Fails r left) c S f p stop q ps h = absurd h

rests_left : (x : Trial) (p : Position) (stop : Option Reason) (q : Position) → Rests x p stop q → q.left ≡ left_in x
rests_left (Clears target left) p stop q h = absurd h
rests_left (NoneClears left) p stop q h = ap (λ (y : Position). y.left) h.1
rests_left (Fails r left) p stop q h = ap (λ (y : Position). y.left) h.1

links_fall : (t : BasicType) (n : ℕ) (present : Option Name) → Falls (ShowsLinks t n present)
links_fall t zero present p stop q ps h =
    let same = rests_left (trial_at t present p) p stop q h.0 in
    let falls = trial_falls (leaving t p.state) present p.vars p.left in
    omega (arith, same, falls)
links_fall t (suc n) present p stop q ps h =
    let first = enters_fall t (trial_at t present p) (first_true (leaving t p.state) present p.vars) (λ m stop q ps. ShowsLinks t n None m stop q ps) (links_fall t n None) p stop q ps h in
    let falls = trial_falls (leaving t p.state) present p.vars p.left in
    omega (arith, first, falls)

pub reaction_falls : (t : BasicType) (e : Name) (p : Position) (stop : Option Reason) (q : Position) (ps : List Piece) → ShowsReaction t e p stop q ps → q.left ≤ p.left
reaction_falls t e p stop q ps h = links_fall t h.1.0 (Some e) p stop q h.0 h.1.1

-- ---- Without some steps

module _ (d : ℕ) where
  -- fewer steps than these are left, or it goes the same way without them, and is shown alike
  abbrev pub Shorter : Showing → Position → Option Reason → Position → List Piece → Type 0
  Shorter S p stop q ps = (q.left < d) ⊎ ((m : Position) × (q ≡ later d m) × S p stop m ps)

  abbrev Shortens : Showing → Type 0
  Shortens S = (p : Position) (stop : Option Reason) (q : Position) (ps : List Piece) → S (later d p) stop q ps → Shorter S p stop q ps

  -- what is said of a shorter movement is said of another one
  shorter_as :
      (S T : Showing) (p n : Position) (stop : Option Reason) (q : Position) (ps qs : List Piece) → ((m : Position) → S p stop m ps → T n stop m qs) → Shorter S p stop q ps → Shorter T n stop q qs
  shorter_as S T p n stop q ps qs f (inl less) = inl less
  shorter_as S T p n stop q ps qs f (inr k) = inr (k.0, k.1, f k.0 k.2)

  silent_short : (how : Option Reason) → Shortens (Silent how)
  silent_short how p stop q ps h = inr (p, h.1, (h.0, refl, h.2))

  after_short : (e : End) (S : Showing) → Shortens S → Shortens (ShowsAfter e S)
  after_short Went S s = s
  after_short Left S s = s
  after_short Returned S s = s
  after_short (Stopped r) S s = silent_short (Some r)

  perform_by :
      (t : BasicType) (a : Name) (S : Showing) → Falls S → Shortens S → (p : Position) (stop : Option Reason) (q : Position) (ps qs : List Piece) (e : End) (m : Point) → ps ≡ Ran a p.vars m.vars ∷ qs
      → ShowsAfter e S (at_point (later d p) m) stop q qs → ShorterRun d (RunsBody (types_of t) (algorithm_of t a)) (record { vars = p.vars; left = p.left }) e m → Shorter (ShowsPerform t (Some a) S) p stop q ps
  perform_by t a S f s p stop q ps qs e m is rest (inl less) =
      let falls : q.left ≤ m.left = after_falls e S f (at_point (later d p) m) stop q qs rest in inl (omega (arith, falls, less))
  perform_by t a S f s p stop q ps qs e m is rest (inr k) =
      shorter_as (ShowsAfter e S) (ShowsPerform t (Some a) S) (at_point p k.0) p stop q qs ps
      (λ n h. (e, k.0, qs, k.2, is ∙ ap (λ (x : Point). Ran a p.vars x.vars ∷ qs) k.1, h))
      (after_short e S s (at_point p k.0) stop q qs (subst (λ (x : Point). ShowsAfter e S (at_point (later d p) x) stop q qs) k.1 rest))

  perform_short : (t : BasicType) (a : Option Name) (S : Showing) → Falls S → Shortens S → Shortens (ShowsPerform t a S)
  perform_short t None S f s p stop q ps h = s p stop q ps h
  perform_short t (Some a) S f s p stop q ps h =
      perform_by t a S f s p stop q ps h.2 h.0 h.1 h.4 h.5 (body_short d (algorithm_of t a) (types_of t) (record { vars = p.vars; left = p.left }) h.0 h.1 h.3)

  abbrev ActsShort : BasicType → List Action → ℕ → Type 0
  ActsShort t actions left =
      (p : Position) (stop : Option Reason) (q : Position) (ps : List Piece) → ShowsActs t actions (left + d) (later d p) stop q ps → Shorter (λ p stop q ps. ShowsActs t actions left p stop q ps) p stop q ps

  next_short : (t : BasicType) (others : List Action) (o : Option Name) → ((left : ℕ) → ActsShort t others left) → Shortens (Next d t others o)
  next_short t others None all m stop q ps h =
      shorter_as (λ p stop q ps. ShowsActs t others m.left p stop q ps) (Next d t others None) m m stop q h.0 ps (λ n k. (h.0, h.1, k)) (all m.left m stop q h.0 h.2)
  next_short t others (Some e) all m stop q ps h =
      shorter_as (λ p stop q ps. ShowsActs t others m.left p stop q ps) (Next d t others (Some e)) (emitting t (Some e) m) m stop q h.0 ps (λ n k. (h.0, h.1, k))
      (all m.left (emitting t (Some e) m) stop q h.0 h.2)

  -- actions with no step but these
  acts_none :
      (t : BasicType) (a : Action) (others : List Action) (p : Position) (stop : Option Reason) (q : Position) (ps : List Piece) (k : ℕ) → d ≡ k → ShowsActs t (a ∷ others) k (later d p) stop q ps
      → Shorter (λ p stop q ps. ShowsActs t (a ∷ others) zero p stop q ps) p stop q ps
  acts_none t a others p stop q ps zero none h = silent_short (Some Steps) p stop q ps h
  acts_none t a others p stop q ps (suc k) some h =
      let falls : q.left ≤ k = perform_falls t a.algorithm (Next d t others a.output) (next_falls d t others a.output (acts_fall t others)) (record (later d p) { left = k }) stop q ps h in
      inl (omega (arith, falls, some))

  acts_short : (t : BasicType) (actions : List Action) (left : ℕ) → ActsShort t actions left
  acts_short t [] left p stop q ps h = silent_short None p stop q ps h
  acts_short t (a ∷ others) zero p stop q ps h =
      let same : zero + d ≡ d = omega arith in acts_none t a others p stop q ps d refl (subst (λ (k : ℕ). ShowsActs t (a ∷ others) k (later d p) stop q ps) same h)
  acts_short t (a ∷ others) (suc left) p stop q ps h =
      let same : suc left + d ≡ suc (left + d) = omega arith in
      shorter_as (ShowsPerform t a.algorithm (Next d t others a.output)) (λ p stop q ps. ShowsActs t (a ∷ others) (suc left) p stop q ps) (record p { left = left }) p stop q ps ps (λ n k. k)
      (perform_short t a.algorithm (Next d t others a.output) (next_falls d t others a.output (acts_fall t others)) (next_short t others a.output (acts_short t others)) (record p { left = left }) stop q ps
      (subst (λ (k : ℕ). ShowsActs t (a ∷ others) k (later d p) stop q ps) same h))

  -- ---- Links

  or_short : (s : Option Reason) (S : Showing) → Shortens S → Shortens (ShowsOr s S)
  or_short None S h = h
  or_short (Some r) S h = silent_short (Some r)

  module _ (t : BasicType) (target : Name) (left : ℕ) (c : Option Transition) (S : Showing) (f : Falls S) (s : Shortens S) (p : Position) (stop : Option Reason) (q : Position) (ps : List Piece)
      (h : ShowsEnters t c (Clears target (left + d)) S (later d p) stop q ps) where
    enters_by : Shorter (λ p stop q ps. ShowsActs t (actions_of t target) left p stop q ps) (record p { state = target; left = left }) h.1 h.2 h.3 → Shorter (ShowsEnters t c (Clears target left) S) p stop q ps
    enters_by (inl less) = let falls : q.left ≤ h.2.left = or_falls h.1 S f h.2 stop q h.4 h.7 in inl (omega (arith, falls, less))
    enters_by (inr k) =
        shorter_as (ShowsOr h.1 S) (ShowsEnters t c (Clears target left) S) k.0 p stop q h.4 ps (λ n r. (h.0, h.1, k.0, h.3, h.4, h.5, k.2, r, h.8))
        (or_short h.1 S s k.0 stop q h.4 (subst (λ (x : Position). ShowsOr h.1 S x stop q h.4) k.1 h.7))

  enters_short : (t : BasicType) (x : Trial) (c : Option Transition) (S : Showing) → Falls S → Shortens S → (p : Position) (stop : Option Reason) (q : Position) (ps : List Piece)
      → ShowsEnters t c (later_trial d x) S (later d p) stop q ps → Shorter (ShowsEnters t c x S) p stop q ps
  enters_short t (Clears target left) c S f s p stop q ps h =
      enters_by t target left c S f s p stop q ps h (acts_short t (actions_of t target) left (record p { state = target; left = left }) h.1 h.2 h.3 h.6)
  enters_short t (NoneClears left) c S f s p stop q ps h = absurd h
  enters_short t (Fails r left) c S f s p stop q ps h = absurd h

  -- a trial leaves fewer steps than these, or it ends the same way without them
  abbrev ShortTrial : (more rest : Trial) → Type 0
  ShortTrial more rest = (left_in more < d) ⊎ (more ≡ later_trial d rest)

  by_short : (a : Result Bool Reason) (target : Name) (left : ℕ) (more rest : Trial) → ShortTrial more rest → ShortTrial (by_condition a target (left + d) more) (by_condition a target left rest)
  by_short (Ok true) target left more rest h = inr refl
  by_short (Ok false) target left more rest h = h
  by_short (Err r) target left more rest h = inr refl

  trial_none : (t : Transition) (ts : List Transition) (present : Option Name) (vars : Values) (k : ℕ) → d ≡ k → ShortTrial (trial_of (t ∷ ts) present vars k) (Fails Steps 0)
  trial_none t ts present vars zero none = let same : 0 ≡ 0 + d = omega (arith, none) in inr (ap (λ (n : ℕ). Fails Steps n) same)
  trial_none t ts present vars (suc k) some =
      let falls = by_falls (is_true t.condition present vars) t.to k (trial_of ts present vars k) (trial_falls ts present vars k) in inl (omega (arith, falls, some))

  trial_short : (ts : List Transition) (present : Option Name) (vars : Values) (left : ℕ) → ShortTrial (trial_of ts present vars (left + d)) (trial_of ts present vars left)
  trial_short [] present vars left = inr refl
  trial_short (t ∷ ts) present vars zero =
      let same : d ≡ zero + d = omega arith in subst (λ (n : ℕ). ShortTrial (trial_of (t ∷ ts) present vars n) (Fails Steps 0)) same (trial_none t ts present vars d refl)
  trial_short (t ∷ ts) present vars (suc left) =
      let same : suc (left + d) ≡ suc left + d = omega arith in
      subst (λ (n : ℕ). ShortTrial (trial_of (t ∷ ts) present vars n) (trial_of (t ∷ ts) present vars (suc left))) same
      (by_short (is_true t.condition present vars) t.to left (trial_of ts present vars (left + d)) (trial_of ts present vars left) (trial_short ts present vars left))

  rests_short : (x : Trial) (p : Position) (stop : Option Reason) (q : Position) → Rests (later_trial d x) (later d p) stop q → (m : Position) × (q ≡ later d m) × Rests x p stop m
  rests_short (Clears target left) p stop q h = absurd h
  rests_short (NoneClears left) p stop q h = (record p { left = left }, h.1, (h.0, refl))
  rests_short (Fails r left) p stop q h = (record p { left = left }, h.1, (h.0, refl))

  rest_shown : (x : Trial) (present : Option Name) (s : Name) → rest_pieces (later_trial d x) present s ≡ rest_pieces x present s
  rest_shown (Clears target left) present s = refl
  rest_shown (NoneClears left) None s = refl
  rest_shown (NoneClears left) (Some e) s = refl
  rest_shown (Fails r left) present s = refl

  links_short : (t : BasicType) (n : ℕ) (present : Option Name) → Shortens (ShowsLinks t n present)
  links_short t zero present p stop q ps h = by (trial_short (leaving t p.state) present p.vars p.left)
    where
      by : ShortTrial (trial_at t present (later d p)) (trial_at t present p) → Shorter (ShowsLinks t zero present) p stop q ps
      by (inl less) = let same = rests_left (trial_at t present (later d p)) (later d p) stop q h.0 in inl (omega (arith, same, less))
      by (inr e) =
          let x = trial_at t present p in
          let m = rests_short x p stop q (subst (λ (y : Trial). Rests y (later d p) stop q) e h.0) in
          inr (m.0, m.1, (m.2, h.1 ∙ ap (λ (y : Trial). rest_pieces y present p.state) e ∙ rest_shown x present p.state))
  links_short t (suc n) present p stop q ps h = by (links_short t n None) (trial_short (leaving t p.state) present p.vars p.left)
    where
      S : Showing
      S = λ m stop q ps. ShowsLinks t n None m stop q ps

      c : Option Transition
      c = first_true (leaving t p.state) present p.vars

      by : Shortens S → ShortTrial (trial_at t present (later d p)) (trial_at t present p) → Shorter (ShowsLinks t (suc n) present) p stop q ps
      by short (inl less) =
          let falls = enters_fall t (trial_at t present (later d p)) c S (links_fall t n None) (later d p) stop q ps h in inl (omega (arith, falls, less))
      by short (inr e) = enters_short t (trial_at t present p) c S (links_fall t n None) short p stop q ps (subst (λ (y : Trial). ShowsEnters t c y S (later d p) stop q ps) e h)

  pub reaction_short : (t : BasicType) (e : Name) (p : Position) (stop : Option Reason) (q : Position) (ps : List Piece) → ShowsReaction t e (later d p) stop q ps → Shorter (ShowsReaction t e) p stop q ps
  reaction_short t e p stop q ps h =
      shorter_as (ShowsLinks t h.1.0 (Some e)) (ShowsReaction t e) p p stop q h.0 ps (λ m k. (h.0, (h.1.0, k), h.2)) (links_short t h.1.0 (Some e) p stop q h.0 h.1.1)
