-- A run that does not run out of steps is the same with more of them.
use Rattle.fb_types.proofs.Common.{◌≡◌, ℕ, zero, suc, ◌+◌, ℤ, ◌+ℤ◌, Bool, true, false, not, Result, Ok, Err, ◌∙◌, ap, subst, arith, Name, Stmt, Empty, Exit, Return, Assign, If, Case, For, While, Repeat, Stmts, no_stmt, then_stmts, Choices, no_choice, then_choices, Branches, no_branch, then_branches, Values, Types, value_of, truth_of, and_then, whole, Point, End, Went, Left, Returned, Stopped, Running, Ends, Step, After, Then, Either, Assigns, TurnThen, Loop, passed, Advances, label_fits, Runs, RunsAll, RunsChoice, RunsBranch, RunsBody, ended}
use Rattle.fb_types.specs.declared.value.Value.{Value}
use Rattle.fb_types.specs.declared.value.Reason.{Reason}
use Rattle.fb_types.specs.declared.value.Reason.TheVariants.{Steps}
use Rattle.fb_types.specs.Bodies.{StepAnd, With, assigned, AfterTurn, Turns}
use Rattle.fb_types.specs.declared.value.Value.TheVariants as value

module _ (d : ℕ) where
  -- a point with this many more steps left
  abbrev pub later : Point → Point
  later p = record p { left = p.left + d }

  abbrev pub IsLongerAt : Running → Point → Type 0
  IsLongerAt R p = (e : End) (q : Point) → R p e q → (e ≡ Stopped Steps → ⊥) → R (later p) e (later q)

  -- a run that does not run out of steps goes the same way with more
  abbrev pub IsLonger : Running → Type 0
  IsLonger R = (p : Point) → IsLongerAt R p

  ends_longer : (how : End) → IsLonger (λ p e q. Ends p how e q)
  ends_longer how p e q h s = (h.0, ap later h.1)

  step_and_longer : (n : ℕ) (vars : Values) (R : Running) → IsLonger R → (e : End) (q : Point) → StepAnd n vars R e q → (e ≡ Stopped Steps → ⊥) → StepAnd (n + d) vars R e (later q)
  step_and_longer zero vars R l e q h s = absurd (s h.0)
  step_and_longer (suc n) vars R l e q h s =
      let same : suc (n + d) ≡ suc n + d = omega arith in
      subst (λ (k : ℕ). StepAnd k vars R e (later q)) same (l (record { vars = vars; left = n }) e q h s)

  step_longer : (R : Running) → IsLonger R → IsLonger (Step R)
  step_longer R l p = step_and_longer p.left p.vars R l

  with_longer : {A : Type 0} (a : Result A Reason) (R : A → Running) (p : Point) → ((x : A) → IsLongerAt (R x) p) → IsLongerAt (With a R) p
  with_longer (Ok a) R p l = l a
  with_longer (Err r) R p l = ends_longer (Stopped r) p

  after_longer : (g : End) (R : Running) → IsLonger R → IsLonger (After g R)
  after_longer Went R l = l
  after_longer Left R l = ends_longer Left
  after_longer Returned R l = ends_longer Returned
  after_longer (Stopped r) R l = ends_longer (Stopped r)

  -- what follows a stop stops so
  after_stop : (g : End) (R : Running) (p : Point) (e : End) (q : Point) → After g R p e q → g ≡ Stopped Steps → e ≡ Stopped Steps
  after_stop g R p e q h is = (subst (λ (f : End). After f R p e q) is h).0

  then_longer : (A B : Running) → IsLonger A → IsLonger B → IsLonger (Then A B)
  then_longer A B a b p e q h s =
      (h.0, later h.1, a p h.0 h.1 h.2 (λ is. s (after_stop h.0 B h.1 e q h.3 is)), after_longer h.0 B b h.1 e q h.3 s)

  either_longer : (c : Bool) (A B : Running) (p : Point) → IsLongerAt A p → IsLongerAt B p → IsLongerAt (Either c A B) p
  either_longer true A B p a b = a
  either_longer false A B p a b = b

  assigns_longer : (types : Types) (n : Name) (v : Value) → IsLonger (Assigns types n v)
  assigns_longer types n v p = with_longer (assigned (types n) v) _ p (λ w e q h s. (h.0, ap later h.1))

  -- ---- Loops

  after_turn_longer : (g : End) (R : Running) → IsLonger R → IsLonger (AfterTurn g R)
  after_turn_longer Went R l = l
  after_turn_longer Left R l = ends_longer Went
  after_turn_longer Returned R l = ends_longer Returned
  after_turn_longer (Stopped r) R l = ends_longer (Stopped r)

  after_turn_stop : (g : End) (R : Running) (p : Point) (e : End) (q : Point) → AfterTurn g R p e q → g ≡ Stopped Steps → e ≡ Stopped Steps
  after_turn_stop g R p e q h is = (subst (λ (f : End). AfterTurn f R p e q) is h).0

  turn_then_longer : (turn R : Running) → IsLonger turn → IsLonger R → IsLonger (TurnThen turn R)
  turn_then_longer turn R l a p e q h s =
      (h.0, later h.1, l p h.0 h.1 h.2 (λ is. s (after_turn_stop h.0 R h.1 e q h.3 is)), after_turn_longer h.0 R a h.1 e q h.3 s)

  turns_longer : (test : Values → Result Bool Reason) (turn : Running) → IsLonger turn → (n : ℕ) → IsLonger (Turns test turn n)
  turns_longer test turn l zero p =
      with_longer (test p.vars) (λ more p e q. Either more (λ _ _ _. ⊥) (λ p e q. Ends p Went e q) p e q) p
      (λ more. either_longer more (λ _ _ _. ⊥) (λ p e q. Ends p Went e q) p (λ e q h s. absurd h) (ends_longer Went p))
  turns_longer test turn l (suc n) p = λ e q h s. (h.0, turn_then_longer turn (Turns test turn n) l (turns_longer test turn l n) p e q h.1 s)

  loop_longer : (test : Values → Result Bool Reason) (turn : Running) → IsLonger turn → IsLonger (Loop test turn)
  loop_longer test turn l p e q h s = (h.0, turns_longer test turn l h.0 p e q h.1 s)

  advances_longer : (types : Types) (n : Name) (end step : ℤ) → IsLonger (Advances types n end step)
  advances_longer types n end step p =
      let next = whole (p.vars n) +ℤ step in
      either_longer (passed end step next) (λ p e q. Ends p Left e q) (Assigns types n (value.Whole next)) p (ends_longer Left p) (assigns_longer types n (value.Whole next) p)

  -- ---- Statements

  mutual
    runs_longer : (s : Stmt) (types : Types) → IsLonger (Runs types s)
    runs_longer Empty types = step_longer _ (ends_longer Went)
    runs_longer Exit types = step_longer _ (ends_longer Left)
    runs_longer Return types = step_longer _ (ends_longer Returned)
    runs_longer (Assign n x) types = step_longer _ (λ p. with_longer (value_of x p.vars) (Assigns types n) p (λ v. assigns_longer types n v p))
    runs_longer (If cs others) types = step_longer _ (choices_longer cs types others (all_longer others types))
    runs_longer (Case x bs others) types =
        step_longer _ (λ p. with_longer (value_of x p.vars) _ p (λ v. branches_longer bs types (whole v) others (all_longer others types) p))
    runs_longer (For n from to by body) types =
        step_longer _ (λ p. with_longer (value_of from p.vars) _ p (λ a. with_longer (value_of to p.vars) _ p (λ b. with_longer (value_of by p.vars) _ p (λ c.
        then_longer (Assigns types n a) _ (assigns_longer types n a)
        (loop_longer (λ vars. Ok (not (passed (whole b) (whole c) (whole (vars n))))) _
        (step_longer _ (then_longer (RunsAll types body) _ (all_longer body types) (advances_longer types n (whole b) (whole c))))) p))))
    runs_longer (While c body) types = step_longer _ (loop_longer (truth_of c) _ (step_longer _ (all_longer body types)))
    runs_longer (Repeat body c) types =
        step_longer _
        (turn_then_longer _ _ (step_longer _ (all_longer body types))
        (loop_longer (λ vars. and_then (truth_of c vars) (λ b. Ok (not b))) _ (step_longer _ (all_longer body types))))

    all_longer : (ss : Stmts) (types : Types) → IsLonger (RunsAll types ss)
    all_longer no_stmt types = ends_longer Went
    all_longer (then_stmts s rest) types = then_longer (Runs types s) (RunsAll types rest) (runs_longer s types) (all_longer rest types)

    choices_longer : (cs : Choices) (types : Types) (others : Stmts) → IsLonger (RunsAll types others) → IsLonger (RunsChoice types cs (RunsAll types others))
    choices_longer no_choice types others l = l
    choices_longer (then_choices c body rest) types others l =
        λ p. with_longer (truth_of c p.vars) _ p (λ b.
        either_longer b (RunsAll types body) (RunsChoice types rest (RunsAll types others)) p (all_longer body types p) (choices_longer rest types others l p))

    branches_longer : (bs : Branches) (types : Types) (z : ℤ) (others : Stmts) → IsLonger (RunsAll types others) → IsLonger (RunsBranch types bs z (RunsAll types others))
    branches_longer no_branch types z others l = l
    branches_longer (then_branches ls body rest) types z others l =
        λ p. either_longer (label_fits ls z) (RunsAll types body) (RunsBranch types rest z (RunsAll types others)) p (all_longer body types p)
        (branches_longer rest types z others l p)

  pub body_longer : (body : Stmts) (types : Types) → IsLonger (RunsBody types body)
  body_longer body types p e q h s = (h.0, all_longer body types p h.0 q h.1 (λ is. s (h.2 ∙ ap ended is)), h.2)
