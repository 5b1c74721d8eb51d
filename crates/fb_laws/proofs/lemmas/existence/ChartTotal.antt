-- Every chart reacts, and leaves no more steps than there were.
use Rattle.fb_types.proofs.Common.{◌≡◌, ℕ, zero, suc, ◌<◌, ◌≤◌, refl, sym, subst, List, [], ◌∷◌, Bool, true, false, Option, Some, None, Result, Ok, Err, arith, Name, Values, End, Went, Left, Returned, Stopped, types_of, Position, Moving, Performs, AfterBody, Acts, Trial, Clears, NoneClears, Fails, Rests, Enters, Links, ChartReacts, is_true, by_condition, trial_of, trial_at, leaving, actions_of, algorithm_of, at_point, emitting}
use Rattle.fb_types.specs.declared.library.Action.{Action}
use Rattle.fb_types.specs.declared.library.Transition.{Transition}
use Rattle.fb_types.specs.declared.library.BasicType.{BasicType}
use Rattle.fb_types.specs.declared.value.Reason.{Reason}
use Rattle.fb_types.specs.declared.value.Reason.TheVariants.{Steps}
use Rattle.fb_laws.proofs.lemmas.existence.BodyTotal.{body_total}

-- how many steps a trial leaves
abbrev TrialLeaves : ℕ → Trial → Type 0
TrialLeaves n (Clears target left) = left < n
TrialLeaves n (NoneClears left) = left ≤ n
TrialLeaves n (Fails r left) = left ≤ n

fewer : (n : ℕ) (x : Trial) → TrialLeaves n x → TrialLeaves (suc n) x
fewer n (Clears target left) h = omega arith
fewer n (NoneClears left) h = omega arith
fewer n (Fails r left) h = omega arith

by_leaves : (a : Result Bool Reason) (target : Name) (left : ℕ) (later : Trial) → TrialLeaves left later → TrialLeaves (suc left) (by_condition a target left later)
by_leaves (Ok true) target left later h = omega arith
by_leaves (Ok false) target left later h = fewer left later h
by_leaves (Err r) target left later h = omega arith

trial_leaves : (ts : List Transition) (present : Option Name) (vars : Values) (left : ℕ) → TrialLeaves left (trial_of ts present vars left)
trial_leaves [] present vars left = omega arith
trial_leaves (t ∷ ts) present vars zero = omega arith
trial_leaves (t ∷ ts) present vars (suc left) = by_leaves (is_true t.condition present vars) t.to left (trial_of ts present vars left) (trial_leaves ts present vars left)

-- where a chart gets from a position, with at most this number of steps left
abbrev Comes : Moving → ℕ → Position → Type 0
Comes R n p = (s : Option Reason) × (q : Position) × R p s q × (q.left ≤ n)

emitting_left : (b : BasicType) (o : Option Name) (p : Position) → (emitting b o p).left ≡ p.left
emitting_left b None p = refl
emitting_left b (Some e) p = refl

after_body : (e : End) (R : Moving) (n : ℕ) (p : Position) → p.left ≤ n → Comes R n p → Comes (AfterBody e R) n p
after_body Went R n p b d = d
after_body Left R n p b d = d
after_body Returned R n p b d = d
after_body (Stopped r) R n p b d = (Some r, p, (refl, refl), b)

performs_total : (b : BasicType) (a : Option Name) (R : Moving) (n : ℕ) (p : Position) → p.left ≤ n → ((m : Position) → m.left ≤ n → Comes R n m) → Comes (Performs b a R) n p
performs_total b None R n p h d = d p h
performs_total b (Some a) R n p h d =
    let x = body_total (algorithm_of b a) (types_of b) (record { vars = p.vars; left = p.left }) in
    let l = x.3 in
    let y = after_body x.0 R n (at_point p x.1) (omega arith) (d (at_point p x.1) (omega arith)) in
    (y.0, y.1, (x.0, x.1, x.2, y.2), y.3)

acts_within : (b : BasicType) (as' : List Action) (n left : ℕ) (p : Position) → left ≤ n → p.left ≤ n → Comes (Acts b as' left) n p
acts_within b [] n left p c h = (None, p, (refl, refl), h)
acts_within b (a ∷ as') n zero p c h = (Some Steps, p, (refl, refl), h)
acts_within b (a ∷ as') n (suc left) p c h =
    performs_total b a.algorithm _ n (record p { left = left }) (omega arith)
    (λ m k. let e = emitting_left b a.output m in acts_within b as' n (emitting b a.output m).left (emitting b a.output m) (omega arith) (omega arith))

module _ (b : BasicType) where
  abbrev Chained : Option Name → Position → Type 0
  Chained present p = (s : Option Reason) × (q : Position) × ((n : ℕ) × Links b n present p s q) × (q.left ≤ p.left)

  entered : (present : Option Name) (p : Position) (target : Name) (left : ℕ) → trial_at b present p ≡ Clears target left → left < p.left
      → (s : Option Reason) (m : Position) → Acts b (actions_of b target) left (record p { state = target; left = left }) s m → m.left ≤ left
      → ((m : Position) → m.left < p.left → Chained None m) → Chained present p
  entered present p target left e c None m x h rec =
      let y = rec m (omega arith) in
      let l = y.3 in
      (y.0, y.1, (suc y.2.0, subst (λ t. Enters b t (Links b y.2.0 None) p y.0 y.1) (sym e) (None, m, x, y.2.1)), omega arith)
  entered present p target left e c (Some r) m x h rec =
      (Some r, m, (1, subst (λ t. Enters b t (Links b 0 None) p (Some r) m) (sym e) (Some r, m, x, (refl, refl))), omega arith)

  tried : (present : Option Name) (p : Position) (t : Trial) → trial_at b present p ≡ t → TrialLeaves p.left t → ((m : Position) → m.left < p.left → Chained None m) → Chained present p
  tried present p (Clears target left) e h rec =
      let x = acts_within b (actions_of b target) left left (record p { state = target; left = left }) (omega arith) (omega arith) in
      entered present p target left e h x.0 x.1 x.2 x.3 rec
  tried present p (NoneClears left) e h rec =
      (None, record p { left = left }, (0, subst (λ t. Rests t p None (record p { left = left })) (sym e) (refl, refl)), h)
  tried present p (Fails r left) e h rec =
      (Some r, record p { left = left }, (0, subst (λ t. Rests t p (Some r) (record p { left = left })) (sym e) (refl, refl)), h)

  chained : (fuel : ℕ) (present : Option Name) (p : Position) → p.left ≤ fuel → Chained present p
  chained zero present p h = tried present p (trial_at b present p) refl (trial_leaves (leaving b p.state) present p.vars p.left) (λ m c. absurd (omega arith))
  chained (suc fuel) present p h = tried present p (trial_at b present p) refl (trial_leaves (leaving b p.state) present p.vars p.left) (λ m c. chained fuel None m (omega arith))

  pub chart_total : (e : Name) (p : Position) → (s : Option Reason) × (q : Position) × ChartReacts b e p s q × (q.left ≤ p.left)
  chart_total e p = chained p.left (Some e) p (omega arith)
