-- A run leaves no more steps than it had. With some more steps it leaves fewer than these, or it goes the same way without them.
use Rattle.fb_types.proofs.Common.{◌≡◌, ◌<◌, ◌≤◌, ◌⊎◌, ℕ, zero, suc, ◌+◌, ℤ, ◌+ℤ◌, Bool, true, false, not, Result, Ok, Err, ◌∙◌, ap, arith, inl, inr, refl, subst, Name, Stmt, Empty, Exit, Return, Assign, If, Case, For, While, Repeat, Stmts, no_stmt, then_stmts, Choices, no_choice, then_choices, Branches, no_branch, then_branches, Values, Types, value_of, truth_of, and_then, whole, Point, End, Went, Left, Returned, Stopped, Running, Ends, Step, After, Then, Either, Assigns, TurnThen, Loop, passed, Advances, label_fits, Runs, RunsAll, RunsChoice, RunsBranch, RunsBody}
use Rattle.fb_types.specs.declared.value.Value.{Value}
use Rattle.fb_types.specs.declared.value.Reason.{Reason}
use Rattle.fb_types.specs.Bodies.{StepAnd, With, assigned, AfterTurn, Turns}
use Rattle.fb_types.specs.declared.value.Value.TheVariants as value
use Rattle.fb_inspect.proofs.lemmas.runs.MoreSteps.{later}

-- ---- No more steps are left

abbrev pub FallsAt : Running → Point → Type 0
FallsAt R p = (e : End) (q : Point) → R p e q → q.left ≤ p.left

abbrev pub Falls : Running → Type 0
Falls R = (p : Point) → FallsAt R p

same_left : (p q : Point) → q ≡ p → q.left ≤ p.left
same_left p q is = let same : q.left ≡ p.left = ap (λ (x : Point). x.left) is in omega (arith, same)

ends_fall : (how : End) → Falls (λ p e q. Ends p how e q)
ends_fall how p e q h = same_left p q h.1

step_and_falls : (n : ℕ) (vars : Values) (R : Running) → Falls R → (e : End) (q : Point) → StepAnd n vars R e q → q.left ≤ n
step_and_falls zero vars R f e q h = same_left (record { vars = vars; left = 0 }) q h.1
step_and_falls (suc n) vars R f e q h = let less = f (record { vars = vars; left = n }) e q h in omega (arith, less)

step_falls : (R : Running) → Falls R → Falls (Step R)
step_falls R f p = step_and_falls p.left p.vars R f

with_falls : {A : Type 0} (a : Result A Reason) (R : A → Running) (p : Point) → ((x : A) → FallsAt (R x) p) → FallsAt (With a R) p
with_falls (Ok a) R p f = f a
with_falls (Err r) R p f = ends_fall (Stopped r) p

after_falls : (g : End) (R : Running) → Falls R → Falls (After g R)
after_falls Went R f = f
after_falls Left R f = ends_fall Left
after_falls Returned R f = ends_fall Returned
after_falls (Stopped r) R f = ends_fall (Stopped r)

then_falls : (A B : Running) → Falls A → Falls B → Falls (Then A B)
then_falls A B a b p e q h =
    let first = a p h.0 h.1 h.2 in
    let second = after_falls h.0 B b h.1 e q h.3 in
    omega (arith, first, second)

either_falls : (c : Bool) (A B : Running) (p : Point) → FallsAt A p → FallsAt B p → FallsAt (Either c A B) p
either_falls true A B p a b = a
either_falls false A B p a b = b

assigns_fall : (types : Types) (n : Name) (v : Value) → Falls (Assigns types n v)
assigns_fall types n v p = with_falls (assigned (types n) v) _ p (λ w e q h. let same : q.left ≡ p.left = ap (λ (x : Point). x.left) h.1 in omega (arith, same))

after_turn_falls : (g : End) (R : Running) → Falls R → Falls (AfterTurn g R)
after_turn_falls Went R f = f
after_turn_falls Left R f = ends_fall Went
after_turn_falls Returned R f = ends_fall Returned
after_turn_falls (Stopped r) R f = ends_fall (Stopped r)

turn_then_falls : (turn R : Running) → Falls turn → Falls R → Falls (TurnThen turn R)
turn_then_falls turn R a b p e q h =
    let first = a p h.0 h.1 h.2 in
    let second = after_turn_falls h.0 R b h.1 e q h.3 in
    omega (arith, first, second)

turns_fall : (test : Values → Result Bool Reason) (turn : Running) → Falls turn → (n : ℕ) → Falls (Turns test turn n)
turns_fall test turn f zero p =
    with_falls (test p.vars) (λ more p e q. Either more (λ _ _ _. ⊥) (λ p e q. Ends p Went e q) p e q) p
    (λ more. either_falls more (λ _ _ _. ⊥) (λ p e q. Ends p Went e q) p (λ e q h. absurd h) (ends_fall Went p))
turns_fall test turn f (suc n) p = λ e q h. turn_then_falls turn (Turns test turn n) f (turns_fall test turn f n) p e q h.1

loop_falls : (test : Values → Result Bool Reason) (turn : Running) → Falls turn → Falls (Loop test turn)
loop_falls test turn f p e q h = turns_fall test turn f h.0 p e q h.1

advances_fall : (types : Types) (n : Name) (end step : ℤ) → Falls (Advances types n end step)
advances_fall types n end step p =
    let next = whole (p.vars n) +ℤ step in
    either_falls (passed end step next) (λ p e q. Ends p Left e q) (Assigns types n (value.Whole next)) p (ends_fall Left p) (assigns_fall types n (value.Whole next) p)

mutual
  runs_fall : (s : Stmt) (types : Types) → Falls (Runs types s)
  runs_fall Empty types = step_falls _ (ends_fall Went)
  runs_fall Exit types = step_falls _ (ends_fall Left)
  runs_fall Return types = step_falls _ (ends_fall Returned)
  runs_fall (Assign n x) types = step_falls _ (λ p. with_falls (value_of x p.vars) (Assigns types n) p (λ v. assigns_fall types n v p))
  runs_fall (If cs others) types = step_falls _ (choices_fall cs types others (all_fall others types))
  runs_fall (Case x bs others) types =
      step_falls _ (λ p. with_falls (value_of x p.vars) _ p (λ v. branches_fall bs types (whole v) others (all_fall others types) p))
  runs_fall (For n from to by body) types =
      step_falls _ (λ p. with_falls (value_of from p.vars) _ p (λ a. with_falls (value_of to p.vars) _ p (λ b. with_falls (value_of by p.vars) _ p (λ c.
      then_falls (Assigns types n a) _ (assigns_fall types n a)
      (loop_falls (λ vars. Ok (not (passed (whole b) (whole c) (whole (vars n))))) _
      (step_falls _ (then_falls (RunsAll types body) _ (all_fall body types) (advances_fall types n (whole b) (whole c))))) p))))
  runs_fall (While c body) types = step_falls _ (loop_falls (truth_of c) _ (step_falls _ (all_fall body types)))
  runs_fall (Repeat body c) types =
      step_falls _
      (turn_then_falls _ _ (step_falls _ (all_fall body types))
      (loop_falls (λ vars. and_then (truth_of c vars) (λ b. Ok (not b))) _ (step_falls _ (all_fall body types))))

  all_fall : (ss : Stmts) (types : Types) → Falls (RunsAll types ss)
  all_fall no_stmt types = ends_fall Went
  all_fall (then_stmts s rest) types = then_falls (Runs types s) (RunsAll types rest) (runs_fall s types) (all_fall rest types)

  choices_fall : (cs : Choices) (types : Types) (others : Stmts) → Falls (RunsAll types others) → Falls (RunsChoice types cs (RunsAll types others))
  choices_fall no_choice types others f = f
  choices_fall (then_choices c body rest) types others f =
      λ p. with_falls (truth_of c p.vars) _ p (λ b.
      either_falls b (RunsAll types body) (RunsChoice types rest (RunsAll types others)) p (all_fall body types p) (choices_fall rest types others f p))

  branches_fall : (bs : Branches) (types : Types) (z : ℤ) (others : Stmts) → Falls (RunsAll types others) → Falls (RunsBranch types bs z (RunsAll types others))
  branches_fall no_branch types z others f = f
  branches_fall (then_branches ls body rest) types z others f =
      λ p. either_falls (label_fits ls z) (RunsAll types body) (RunsBranch types rest z (RunsAll types others)) p (all_fall body types p)
      (branches_fall rest types z others f p)

-- the iterations of FOR
counts_fall : (n : Name) (body : Stmts) (types : Types) (b c : Value)
    → Falls (Loop (λ vars. Ok (not (passed (whole b) (whole c) (whole (vars n))))) (Step (Then (RunsAll types body) (Advances types n (whole b) (whole c)))))
counts_fall n body types b c =
    loop_falls (λ vars. Ok (not (passed (whole b) (whole c) (whole (vars n))))) _
    (step_falls _ (then_falls (RunsAll types body) _ (all_fall body types) (advances_fall types n (whole b) (whole c))))

pub body_falls : (body : Stmts) (types : Types) → Falls (RunsBody types body)
body_falls body types p e q h = all_fall body types p h.0 q h.1

-- ---- Without some steps

module _ (d : ℕ) where
  -- fewer steps than these are left, or it goes the same way without them
  abbrev pub Shorter : Running → Point → End → Point → Type 0
  Shorter R p e q = (q.left < d) ⊎ ((m : Point) × (q ≡ later d m) × R p e m)

  abbrev pub ShortensAt : Running → Point → Type 0
  ShortensAt R p = (e : End) (q : Point) → R (later d p) e q → Shorter R p e q

  abbrev pub Shortens : Running → Type 0
  Shortens R = (p : Point) → ShortensAt R p

  -- what is said of a shorter run is said of another one
  shorter_as : (R S : Running) (p : Point) (e : End) (q : Point) → ((m : Point) → R p e m → S p e m) → Shorter R p e q → Shorter S p e q
  shorter_as R S p e q f (inl less) = inl less
  shorter_as R S p e q f (inr k) = inr (k.0, k.1, f k.0 k.2)

  ends_short : (how : End) → Shortens (λ p e q. Ends p how e q)
  ends_short how p e q h = inr (p, h.1, (h.0, refl))

  step_and_short : (n : ℕ) (vars : Values) (R : Running) → Falls R → Shortens R → (e : End) (q : Point) → StepAnd (n + d) vars R e q
      → (q.left < d) ⊎ ((m : Point) × (q ≡ later d m) × StepAnd n vars R e m)
  step_and_short zero vars R f s e q h = by d refl
    where
      by : (k : ℕ) → d ≡ k → (q.left < d) ⊎ ((m : Point) × (q ≡ later d m) × StepAnd zero vars R e m)
      by zero none =
          let none_left : zero + d ≡ zero = omega (arith, none) in
          let over : StepAnd zero vars R e q = subst (λ (k : ℕ). StepAnd k vars R e q) none_left h in
          let same : 0 ≡ 0 + d = omega (arith, none) in
          inr (record { vars = vars; left = 0 }, over.1 ∙ ap (λ (k : ℕ). record { vars = vars; left = k }) same, (over.0, refl))
      by (suc k) some =
          let some_left : zero + d ≡ suc k = omega (arith, some) in
          let on : StepAnd (suc k) vars R e q = subst (λ (k : ℕ). StepAnd k vars R e q) some_left h in
          let falls = f (record { vars = vars; left = k }) e q on in
          inl (omega (arith, falls, some))
  step_and_short (suc n) vars R f s e q h =
      let same : suc n + d ≡ suc (n + d) = omega arith in
      s (record { vars = vars; left = n }) e q (subst (λ (k : ℕ). StepAnd k vars R e q) same h)

  step_short : (R : Running) → Falls R → Shortens R → Shortens (Step R)
  step_short R f s p = step_and_short p.left p.vars R f s

  with_short : {A : Type 0} (a : Result A Reason) (R : A → Running) (p : Point) → ((x : A) → ShortensAt (R x) p) → ShortensAt (With a R) p
  with_short (Ok a) R p s = s a
  with_short (Err r) R p s = ends_short (Stopped r) p

  after_short : (g : End) (R : Running) → Shortens R → Shortens (After g R)
  after_short Went R s = s
  after_short Left R s = ends_short Left
  after_short Returned R s = ends_short Returned
  after_short (Stopped r) R s = ends_short (Stopped r)

  then_by : (A B : Running) → Falls B → Shortens B → (p : Point) (e : End) (q : Point) (g : End) (m : Point) → After g B m e q → Shorter A p g m → Shorter (Then A B) p e q
  then_by A B f b p e q g m rest (inl less) = let falls = after_falls g B f m e q rest in inl (omega (arith, falls, less))
  then_by A B f b p e q g m rest (inr k) =
      shorter_at k.0 (after_short g B b k.0 e q (subst (λ (x : Point). After g B x e q) k.1 rest)) k.2
    where
      shorter_at : (n : Point) → Shorter (After g B) n e q → A p g n → Shorter (Then A B) p e q
      shorter_at n (inl less) first = inl less
      shorter_at n (inr j) first = inr (j.0, j.1, (g, n, first, j.2))

  then_short : (A B : Running) → Shortens A → Falls B → Shortens B → Shortens (Then A B)
  then_short A B a f b p e q h = then_by A B f b p e q h.0 h.1 h.3 (a p h.0 h.1 h.2)

  either_short : (c : Bool) (A B : Running) (p : Point) → ShortensAt A p → ShortensAt B p → ShortensAt (Either c A B) p
  either_short true A B p a b = a
  either_short false A B p a b = b

  assigns_short : (types : Types) (n : Name) (v : Value) → Shortens (Assigns types n v)
  assigns_short types n v p = with_short (assigned (types n) v) _ p (λ w e q h. inr (_, h.1, (h.0, refl)))

  -- ---- Loops

  after_turn_short : (g : End) (R : Running) → Shortens R → Shortens (AfterTurn g R)
  after_turn_short Went R s = s
  after_turn_short Left R s = ends_short Went
  after_turn_short Returned R s = ends_short Returned
  after_turn_short (Stopped r) R s = ends_short (Stopped r)

  turn_then_by : (turn R : Running) → Falls R → Shortens R → (p : Point) (e : End) (q : Point) (g : End) (m : Point) → AfterTurn g R m e q → Shorter turn p g m → Shorter (TurnThen turn R) p e q
  turn_then_by turn R f b p e q g m rest (inl less) = let falls = after_turn_falls g R f m e q rest in inl (omega (arith, falls, less))
  turn_then_by turn R f b p e q g m rest (inr k) =
      shorter_at k.0 (after_turn_short g R b k.0 e q (subst (λ (x : Point). AfterTurn g R x e q) k.1 rest)) k.2
    where
      shorter_at : (n : Point) → Shorter (AfterTurn g R) n e q → turn p g n → Shorter (TurnThen turn R) p e q
      shorter_at n (inl less) first = inl less
      shorter_at n (inr j) first = inr (j.0, j.1, (g, n, first, j.2))

  turn_then_short : (turn R : Running) → Shortens turn → Falls R → Shortens R → Shortens (TurnThen turn R)
  turn_then_short turn R a f b p e q h = turn_then_by turn R f b p e q h.0 h.1 h.3 (a p h.0 h.1 h.2)

  turns_short : (test : Values → Result Bool Reason) (turn : Running) → Falls turn → Shortens turn → (n : ℕ) → Shortens (Turns test turn n)
  turns_short test turn f s zero p =
      with_short (test p.vars) (λ more p e q. Either more (λ _ _ _. ⊥) (λ p e q. Ends p Went e q) p e q) p
      (λ more. either_short more (λ _ _ _. ⊥) (λ p e q. Ends p Went e q) p (λ e q h. absurd h) (ends_short Went p))
  turns_short test turn f s (suc n) p = λ e q h.
      shorter_as (TurnThen turn (Turns test turn n)) (Turns test turn (suc n)) p e q (λ m k. (h.0, k))
      (turn_then_short turn (Turns test turn n) s (turns_fall test turn f n) (turns_short test turn f s n) p e q h.1)

  loop_short : (test : Values → Result Bool Reason) (turn : Running) → Falls turn → Shortens turn → Shortens (Loop test turn)
  loop_short test turn f s p e q h = shorter_as (Turns test turn h.0) (Loop test turn) p e q (λ m k. (h.0, k)) (turns_short test turn f s h.0 p e q h.1)

  advances_short : (types : Types) (n : Name) (end step : ℤ) → Shortens (Advances types n end step)
  advances_short types n end step p =
      let next = whole (p.vars n) +ℤ step in
      either_short (passed end step next) (λ p e q. Ends p Left e q) (Assigns types n (value.Whole next)) p (ends_short Left p) (assigns_short types n (value.Whole next) p)

  -- ---- Statements

  mutual
    runs_short : (s : Stmt) (types : Types) → Shortens (Runs types s)
    runs_short Empty types = step_short _ (ends_fall Went) (ends_short Went)
    runs_short Exit types = step_short _ (ends_fall Left) (ends_short Left)
    runs_short Return types = step_short _ (ends_fall Returned) (ends_short Returned)
    runs_short (Assign n x) types =
        step_short (λ p. With (value_of x p.vars) (Assigns types n) p) (λ p. with_falls (value_of x p.vars) (Assigns types n) p (λ v. assigns_fall types n v p))
        (λ p. with_short (value_of x p.vars) (Assigns types n) p (λ v. assigns_short types n v p))
    runs_short (If cs others) types = step_short _ (choices_fall cs types others (all_fall others types)) (choices_short cs types others (all_short others types))
    runs_short (Case x bs others) types =
        step_short (λ p. With (value_of x p.vars) (λ v. RunsBranch types bs (whole v) (RunsAll types others)) p)
        (λ p. with_falls (value_of x p.vars) _ p (λ v. branches_fall bs types (whole v) others (all_fall others types) p))
        (λ p. with_short (value_of x p.vars) _ p (λ v. branches_short bs types (whole v) others (all_short others types) p))
    runs_short (For n from to by body) types =
        step_short
        (λ p. With (value_of from p.vars) (λ a. With (value_of to p.vars) (λ b. With (value_of by p.vars) (λ c.
        Then (Assigns types n a) (Loop (λ vars. Ok (not (passed (whole b) (whole c) (whole (vars n))))) (Step (Then (RunsAll types body) (Advances types n (whole b) (whole c)))))))) p)
        (λ p. with_falls (value_of from p.vars) _ p (λ a. with_falls (value_of to p.vars) _ p (λ b. with_falls (value_of by p.vars) _ p (λ c.
        then_falls (Assigns types n a) _ (assigns_fall types n a) (counts_fall n body types b c) p))))
        (λ p. with_short (value_of from p.vars) _ p (λ a. with_short (value_of to p.vars) _ p (λ b. with_short (value_of by p.vars) _ p (λ c.
        then_short (Assigns types n a) _ (assigns_short types n a) (counts_fall n body types b c)
        (loop_short (λ vars. Ok (not (passed (whole b) (whole c) (whole (vars n))))) _
        (step_falls _ (then_falls (RunsAll types body) _ (all_fall body types) (advances_fall types n (whole b) (whole c))))
        (step_short _ (then_falls (RunsAll types body) _ (all_fall body types) (advances_fall types n (whole b) (whole c)))
        (then_short (RunsAll types body) _ (all_short body types) (advances_fall types n (whole b) (whole c)) (advances_short types n (whole b) (whole c))))) p))))
    runs_short (While c body) types =
        step_short _ (loop_falls (truth_of c) _ (step_falls _ (all_fall body types)))
        (loop_short (truth_of c) _ (step_falls _ (all_fall body types)) (step_short _ (all_fall body types) (all_short body types)))
    runs_short (Repeat body c) types =
        step_short _
        (turn_then_falls _ _ (step_falls _ (all_fall body types)) (loop_falls (λ vars. and_then (truth_of c vars) (λ b. Ok (not b))) _ (step_falls _ (all_fall body types))))
        (turn_then_short _ _ (step_short _ (all_fall body types) (all_short body types))
        (loop_falls (λ vars. and_then (truth_of c vars) (λ b. Ok (not b))) _ (step_falls _ (all_fall body types)))
        (loop_short (λ vars. and_then (truth_of c vars) (λ b. Ok (not b))) _ (step_falls _ (all_fall body types)) (step_short _ (all_fall body types) (all_short body types))))

    all_short : (ss : Stmts) (types : Types) → Shortens (RunsAll types ss)
    all_short no_stmt types = ends_short Went
    all_short (then_stmts s rest) types = then_short (Runs types s) (RunsAll types rest) (runs_short s types) (all_fall rest types) (all_short rest types)

    choices_short : (cs : Choices) (types : Types) (others : Stmts) → Shortens (RunsAll types others) → Shortens (RunsChoice types cs (RunsAll types others))
    choices_short no_choice types others s = s
    choices_short (then_choices c body rest) types others s =
        λ p. with_short (truth_of c p.vars) _ p (λ b.
        either_short b (RunsAll types body) (RunsChoice types rest (RunsAll types others)) p (all_short body types p) (choices_short rest types others s p))

    branches_short : (bs : Branches) (types : Types) (z : ℤ) (others : Stmts) → Shortens (RunsAll types others) → Shortens (RunsBranch types bs z (RunsAll types others))
    branches_short no_branch types z others s = s
    branches_short (then_branches ls body rest) types z others s =
        λ p. either_short (label_fits ls z) (RunsAll types body) (RunsBranch types rest z (RunsAll types others)) p (all_short body types p)
        (branches_short rest types z others s p)

  pub body_short : (body : Stmts) (types : Types) → Shortens (RunsBody types body)
  body_short body types p e q h = bodied (all_short body types p h.0 q h.1)
    where
      bodied : Shorter (RunsAll types body) p h.0 q → Shorter (RunsBody types body) p e q
      bodied (inl less) = inl less
      bodied (inr k) = inr (k.0, k.1, (h.0, k.2, h.2))
