-- Each movement of a chart goes somewhere, and is shown.
use Rattle.fb_types.proofs.Common.{◌≡◌, ◌<◌, ◌≤◌, ℕ, zero, suc, List, [], ◌∷◌, ◌++◌, Bool, true, false, Option, Some, None, Result, Ok, Err, refl, arith, types_of, End, Went, Left, Returned, Stopped, Position, Trial, Clears, NoneClears, Fails, trial_at, trial_of, by_condition, is_true, leaving, actions_of, algorithm_of, at_point, emitting, Name, Values}
use Rattle.fb_types.specs.declared.library.Action.{Action}
use Rattle.fb_types.specs.declared.library.BasicType.{BasicType}
use Rattle.fb_types.specs.declared.library.Transition.{Transition}
use Rattle.fb_types.specs.declared.value.Reason.{Reason}
use Rattle.fb_types.specs.declared.value.Reason.TheVariants.{Steps}
use Rattle.fb_laws.proofs.lemmas.existence.BodyTotal.{body_total}
use Rattle.fb_inspect.specs.walk.Chains.{Piece, Clears_by, Ran, Showing, ShowsActs, ShowsAfter, ShowsChain, ShowsEmission, ShowsPerform, emission_pieces, rest_pieces}
use Rattle.fb_inspect.proofs.lemmas.reactions.Showing.{chain_fails, chain_goes_on, chain_rests, chain_stops}
use Rattle.fb_inspect.proofs.lemmas.reactions.ShowingLaws.{first_clears}

-- a movement goes on from a position, and leaves no more than this number of steps
abbrev pub Comes : Showing → ℕ → Position → Type 0
Comes S n p = (s : Option Reason) × (q : Position) × (ps : List Piece) × S p s q ps × (q.left ≤ n)

emitting_left : (b : BasicType) (o : Option Name) (p : Position) → (emitting b o p).left ≡ p.left
emitting_left b None p = refl
emitting_left b (Some e) p = refl

after_comes : (e : End) (S : Showing) (n : ℕ) (p : Position) → p.left ≤ n → Comes S n p → Comes (ShowsAfter e S) n p
after_comes Went S n p h d = d
after_comes Left S n p h d = d
after_comes Returned S n p h d = d
after_comes (Stopped r) S n p h d = (Some r, p, [], (refl, refl, refl), h)

perform_comes :
    (b : BasicType) (a : Option Name) (S : Showing) (n : ℕ) (p : Position) → p.left ≤ n → ((m : Position) → m.left ≤ n → Comes S n m) → Comes (ShowsPerform b a S) n p
perform_comes b None S n p h d = d p h
perform_comes b (Some a) S n p h d =
    let x = body_total (algorithm_of b a) (types_of b) (record { vars = p.vars; left = p.left }) in
    let l = x.3 in
    let y = after_comes x.0 S n (at_point p x.1) (omega arith) (d (at_point p x.1) (omega arith)) in
    (y.0, y.1, Ran a p.vars x.1.vars ∷ y.2, (x.0, x.1, y.2, x.2, refl, y.3), y.4)

pub acts_come : (b : BasicType) (all : List Action) (n left : ℕ) (p : Position) → left ≤ n → p.left ≤ n → Comes (ShowsActs b all left) n p
acts_come b [] n left p c h = (None, p, [], (refl, refl, refl), h)
acts_come b (a ∷ others) n zero p c h = (Some Steps, p, [], (refl, refl, refl), h)
acts_come b (a ∷ others) n (suc left) p c h =
    perform_comes b a.algorithm (λ m stop q ps. ShowsEmission b a.output (λ m stop q ps. ShowsActs b others m.left m stop q ps) m stop q ps) n (record p { left = left }) (omega arith)
    (λ m k.
    let e = emitting_left b a.output m in
    let y = acts_come b others n (emitting b a.output m).left (emitting b a.output m) (omega arith) (omega arith) in
    (y.0, y.1, emission_pieces b a.output m ++ y.2, (y.2, refl, y.3), y.4))

-- ---- Chains

-- how many steps a trial leaves
abbrev TrialLeaves : ℕ → Trial → Type 0
TrialLeaves n (Clears target left) = left < n
TrialLeaves n (NoneClears left) = left ≤ n
TrialLeaves n (Fails r left) = left ≤ n

fewer : (n : ℕ) (x : Trial) → TrialLeaves n x → TrialLeaves (suc n) x
fewer n (Clears target left) h = omega arith
fewer n (NoneClears left) h = omega arith
fewer n (Fails r left) h = omega arith

by_leaves : (a : Result Bool Reason) (target : Name) (left : ℕ) (later : Trial) → TrialLeaves left later → TrialLeaves (suc left) (by_condition a target left later)
by_leaves (Ok true) target left later h = omega arith
by_leaves (Ok false) target left later h = fewer left later h
by_leaves (Err r) target left later h = omega arith

trial_leaves : (ts : List Transition) (present : Option Name) (vars : Values) (left : ℕ) → TrialLeaves left (trial_of ts present vars left)
trial_leaves [] present vars left = omega arith
trial_leaves (t ∷ ts) present vars zero = omega arith
trial_leaves (t ∷ ts) present vars (suc left) = by_leaves (is_true t.condition present vars) t.to left (trial_of ts present vars left) (trial_leaves ts present vars left)

module _ (b : BasicType) where
  abbrev pub Chained : Option Name → Position → Type 0
  Chained present p = (s : Option Reason) × (q : Position) × (ps : List Piece) × ShowsChain b present p s q ps

  -- a transition cleared, and the actions of its target end so
  entered :
      (present : Option Name) (p m : Position) (target : Name) (left : ℕ) (s : Option Reason) (ps : List Piece) → trial_at b present p ≡ Clears target left
      → ShowsActs b (actions_of b target) left (record p { state = target; left = left }) s m ps → Chained None m → Chained present p
  entered present p m target left None ps tried acts rest =
      let first = first_clears (leaving b p.state) present p.vars p.left target left tried in
      (rest.0, rest.1, Clears_by first.0 ∷ (ps ++ rest.2), chain_goes_on b present p m rest.1 first.0 target left rest.0 ps rest.2 tried first.1 acts rest.3)
  entered present p m target left (Some r) ps tried acts rest =
      let first = first_clears (leaving b p.state) present p.vars p.left target left tried in
      (Some r, m, Clears_by first.0 ∷ ps, chain_stops b present p m first.0 target left r ps tried first.1 acts)

  tried : (present : Option Name) (p : Position) (t : Trial) → trial_at b present p ≡ t → TrialLeaves p.left t → ((m : Position) → m.left < p.left → Chained None m) → Chained present p
  tried present p (Clears target left) e h rec =
      let x = acts_come b (actions_of b target) left left (record p { state = target; left = left }) (omega arith) (omega arith) in
      let fewer = x.4 in
      entered present p x.1 target left x.0 x.2 e x.3 (rec x.1 (omega arith))
  tried present p (NoneClears left) e h rec = (None, record p { left = left }, rest_pieces (NoneClears left) present p.state, chain_rests b present p left e)
  tried present p (Fails r left) e h rec = (Some r, record p { left = left }, [], chain_fails b present p left r e)

  chained : (fuel : ℕ) (present : Option Name) (p : Position) → p.left ≤ fuel → Chained present p
  chained zero present p h = tried present p (trial_at b present p) refl (trial_leaves (leaving b p.state) present p.vars p.left) (λ m c. absurd (omega arith))
  chained (suc fuel) present p h = tried present p (trial_at b present p) refl (trial_leaves (leaving b p.state) present p.vars p.left) (λ m c. chained fuel None m (omega arith))

  pub chain_comes : (present : Option Name) (p : Position) → Chained present p
  chain_comes present p = chained p.left present p (omega arith)
