-- What each assignment within the types keeps, a run of a body keeps.
use Rattle.fb_types.proofs.Common.{◌≡◌, ℕ, zero, suc, ℤ, ◌+ℤ◌, sym, refl, subst, Bool, true, false, not, Result, Ok, Err, if◌then◌else◌, Name, with_value, Stmt, Empty, Exit, Return, Assign, If, Case, For, While, Repeat, Stmts, no_stmt, then_stmts, Choices, no_choice, then_choices, Branches, no_branch, then_branches, Values, Types, fits, value_of, truth_of, and_then, whole, Point, End, Went, Left, Returned, Stopped, Running, Ends, Step, After, Then, Either, Assigns, TurnThen, Loop, passed, Advances, label_fits, Runs, RunsAll, RunsChoice, RunsBranch, RunsBody}
use Rattle.fb_types.specs.declared.value.Value.{Value}
use Rattle.fb_types.specs.declared.value.Reason.{Reason}
use Rattle.fb_types.specs.Bodies.{StepAnd, With, AfterTurn, Turns}
use Rattle.fb_types.specs.declared.value.Value.TheVariants as value
use Rattle.fb_types.specs.declared.value.Reason.TheVariants as reason

-- The values that a run leaves are such, if those before it are.
abbrev pub KeepsAt : (Values → Type 0) → Running → Point → Type 0
KeepsAt Good R p = (e : End) (q : Point) → R p e q → Good p.vars → Good q.vars

abbrev pub Keeps : (Values → Type 0) → Running → Type 0
Keeps Good R = (p : Point) → KeepsAt Good R p

module _ (types : Types) (Good : Values → Type 0)
    (assigned : (n : Name) (v : Value) (vars : Values) → fits (types n) v ≡ true → Good vars → Good (with_value n v vars)) where
  ends-keep : (how : End) → Keeps Good (λ p e q. Ends p how e q)
  ends-keep how p e q h good = subst (λ (z : Point). Good z.vars) (sym h.1) good

  step_and-keeps : (n : ℕ) (vars : Values) (R : Running) → Keeps Good R → (e : End) (q : Point) → StepAnd n vars R e q → Good vars → Good q.vars
  step_and-keeps zero vars R k e q h good = subst (λ (z : Point). Good z.vars) (sym h.1) good
  step_and-keeps (suc n) vars R k e q h good = k (record { vars = vars; left = n }) e q h good

  step-keeps : (R : Running) → Keeps Good R → Keeps Good (Step R)
  step-keeps R k p = step_and-keeps p.left p.vars R k

  with-keeps : {A : Type 0} (a : Result A Reason) (R : A → Running) (p : Point) → ((x : A) → KeepsAt Good (R x) p) → KeepsAt Good (With a R) p
  with-keeps (Ok a) R p k = k a
  with-keeps (Err r) R p k = ends-keep (Stopped r) p

  after-keeps : (f : End) (R : Running) → Keeps Good R → Keeps Good (After f R)
  after-keeps Went R k = k
  after-keeps Left R k = ends-keep Left
  after-keeps Returned R k = ends-keep Returned
  after-keeps (Stopped r) R k = ends-keep (Stopped r)

  then-keeps : (A B : Running) → Keeps Good A → Keeps Good B → Keeps Good (Then A B)
  then-keeps A B a b p e q h good = after-keeps h.0 B b h.1 e q h.3 (a p h.0 h.1 h.2 good)

  either-keeps : (c : Bool) (A B : Running) (p : Point) → KeepsAt Good A p → KeepsAt Good B p → KeepsAt Good (Either c A B) p
  either-keeps true A B p a b = a
  either-keeps false A B p a b = b

  judged-keeps : (b : Bool) (n : Name) (v : Value) → fits (types n) v ≡ b
      → Keeps Good (With (if b then Ok v else Err reason.Range) (λ w p e q. Ends (record p { vars = with_value n w p.vars }) Went e q))
  judged-keeps true n v fit p e q h good =
      subst (λ (z : Point). Good z.vars) (sym h.1) (assigned n v p.vars fit good)
  judged-keeps false n v fit p e q h good = ends-keep (Stopped reason.Range) p e q h good

  assigns-keep : (n : Name) (v : Value) → Keeps Good (Assigns types n v)
  assigns-keep n v = judged-keeps (fits (types n) v) n v refl

  -- ---- Loops

  after_turn-keeps : (f : End) (R : Running) → Keeps Good R → Keeps Good (AfterTurn f R)
  after_turn-keeps Went R k = k
  after_turn-keeps Left R k = ends-keep Went
  after_turn-keeps Returned R k = ends-keep Returned
  after_turn-keeps (Stopped r) R k = ends-keep (Stopped r)

  turn_then-keeps : (turn R : Running) → Keeps Good turn → Keeps Good R → Keeps Good (TurnThen turn R)
  turn_then-keeps turn R a b p e q h good = after_turn-keeps h.0 R b h.1 e q h.3 (a p h.0 h.1 h.2 good)

  turns-keep : (test : Values → Result Bool Reason) (turn : Running) → Keeps Good turn → (n : ℕ) → Keeps Good (Turns test turn n)
  turns-keep test turn k zero p e q h good =
      with-keeps (test p.vars) (λ more p e q. Either more (λ _ _ _. ⊥) (λ p e q. Ends p Went e q) p e q) p
      (λ more. either-keeps more (λ _ _ _. ⊥) (λ p e q. Ends p Went e q) p (λ e q h good. absurd h) (ends-keep Went p)) e q h good
  turns-keep test turn k (suc n) p e q h good = turn_then-keeps turn (Turns test turn n) k (turns-keep test turn k n) p e q h.1 good

  loop-keeps : (test : Values → Result Bool Reason) (turn : Running) → Keeps Good turn → Keeps Good (Loop test turn)
  loop-keeps test turn k p e q h good = turns-keep test turn k h.0 p e q h.1 good

  advances-keep : (n : Name) (end step : ℤ) → Keeps Good (Advances types n end step)
  advances-keep n end step p =
      let next = whole (p.vars n) +ℤ step in
      either-keeps (passed end step next) (λ p e q. Ends p Left e q) (Assigns types n (value.Whole next)) p (ends-keep Left p)
      (assigns-keep n (value.Whole next) p)

  -- ---- Statements

  mutual
    runs-keep : (s : Stmt) → Keeps Good (Runs types s)
    runs-keep Empty = step-keeps _ (ends-keep Went)
    runs-keep Exit = step-keeps _ (ends-keep Left)
    runs-keep Return = step-keeps _ (ends-keep Returned)
    runs-keep (Assign n x) = step-keeps _ (λ p. with-keeps (value_of x p.vars) (Assigns types n) p (λ v. assigns-keep n v p))
    runs-keep (If cs others) = step-keeps _ (choices-keep cs others (all-keep others))
    runs-keep (Case x bs others) =
        step-keeps _ (λ p. with-keeps (value_of x p.vars) _ p (λ v. branches-keep bs (whole v) others (all-keep others) p))
    runs-keep (For n from to by body) =
        step-keeps _ (λ p. with-keeps (value_of from p.vars) _ p (λ a. with-keeps (value_of to p.vars) _ p (λ b. with-keeps (value_of by p.vars) _ p (λ c.
        then-keeps (Assigns types n a) _ (assigns-keep n a)
        (loop-keeps (λ vars. Ok (not (passed (whole b) (whole c) (whole (vars n))))) _
        (step-keeps _ (then-keeps (RunsAll types body) _ (all-keep body) (advances-keep n (whole b) (whole c))))) p))))
    runs-keep (While c body) = step-keeps _ (loop-keeps (truth_of c) _ (step-keeps _ (all-keep body)))
    runs-keep (Repeat body c) =
        step-keeps _
        (turn_then-keeps _ _ (step-keeps _ (all-keep body))
        (loop-keeps (λ vars. and_then (truth_of c vars) (λ b. Ok (not b))) _ (step-keeps _ (all-keep body))))

    all-keep : (ss : Stmts) → Keeps Good (RunsAll types ss)
    all-keep no_stmt = ends-keep Went
    all-keep (then_stmts s rest) = then-keeps (Runs types s) (RunsAll types rest) (runs-keep s) (all-keep rest)

    choices-keep : (cs : Choices) (others : Stmts) → Keeps Good (RunsAll types others) → Keeps Good (RunsChoice types cs (RunsAll types others))
    choices-keep no_choice others k = k
    choices-keep (then_choices c body rest) others k =
        λ p. with-keeps (truth_of c p.vars) _ p (λ b.
        either-keeps b (RunsAll types body) (RunsChoice types rest (RunsAll types others)) p (all-keep body p) (choices-keep rest others k p))

    branches-keep : (bs : Branches) (z : ℤ) (others : Stmts) → Keeps Good (RunsAll types others)
        → Keeps Good (RunsBranch types bs z (RunsAll types others))
    branches-keep no_branch z others k = k
    branches-keep (then_branches ls body rest) z others k =
        λ p. either-keeps (label_fits ls z) (RunsAll types body) (RunsBranch types rest z (RunsAll types others)) p (all-keep body p)
        (branches-keep rest z others k p)

  pub body-keeps : (body : Stmts) → Keeps Good (RunsBody types body)
  body-keeps body p e q h good = all-keep body p h.0 q h.1 good
