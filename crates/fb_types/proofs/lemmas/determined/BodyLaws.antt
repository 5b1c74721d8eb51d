-- A body has at most one run.
use Rattle.fb_types.proofs.Common.{◌≡◌, ℕ, zero, suc, ℤ, ◌+ℤ◌, sym, ap, subst, ◌∙◌, Bool, true, false, not, Result, Ok, Err, Name, Stmt, Empty, Exit, Return, Assign, If, Case, For, While, Repeat, Stmts, no_stmt, then_stmts, Choices, no_choice, then_choices, Branches, no_branch, then_branches, Values, Types, value_of, truth_of, and_then, whole, Point, End, Went, Left, Returned, Stopped, Running, Ends, Step, After, Then, Either, Assigns, TurnThen, Loop, passed, Advances, label_fits, Runs, RunsAll, RunsChoice, RunsBranch, RunsBody, ended, Value, Reason}
use Rattle.fb_types.specs.Bodies.{StepAnd, With, assigned, AfterTurn, Turns}
use Rattle.fb_types.specs.declared.value.Value.TheVariants as value

-- Two runs from a point end the same way.
abbrev pub OneEnd : Running → Point → Type 0
OneEnd R p = (e f : End) (q s : Point) → R p e q → R p f s → (e ≡ f) × (q ≡ s)

abbrev pub IsDetermined : Running → Type 0
IsDetermined R = (p : Point) → OneEnd R p

ends-one : (how : End) (p : Point) → OneEnd (λ p e q. Ends p how e q) p
ends-one how p e f q s h i = (h.0 ∙ sym i.0, h.1 ∙ sym i.1)

step_and-one : (n : ℕ) (vars : Values) (R : Running) → IsDetermined R → (e f : End) (q s : Point)
    → StepAnd n vars R e q → StepAnd n vars R f s → (e ≡ f) × (q ≡ s)
step_and-one zero vars R d e f q s h i = (h.0 ∙ sym i.0, h.1 ∙ sym i.1)
step_and-one (suc n) vars R d e f q s h i = d _ e f q s h i

step-one : (R : Running) → IsDetermined R → IsDetermined (Step R)
step-one R d p = step_and-one p.left p.vars R d

with-one : {A : Type 0} (a : Result A Reason) (R : A → Running) (p : Point) → ((x : A) → OneEnd (R x) p) → OneEnd (With a R) p
with-one (Ok a) R p d = d a
with-one (Err r) R p d = ends-one (Stopped r) p

after-one : (g : End) (R : Running) → IsDetermined R → IsDetermined (After g R)
after-one Went R d p = d p
after-one Left R d p = ends-one Left p
after-one Returned R d p = ends-one Returned p
after-one (Stopped r) R d p = ends-one (Stopped r) p

then-one : (A B : Running) → IsDetermined A → IsDetermined B → IsDetermined (Then A B)
then-one A B a b p e f q s h i =
    let x = a p h.0 i.0 h.1 i.1 h.2 i.2 in
    let j = subst (λ m. After h.0 B m f s) (sym x.1) (subst (λ g. After g B i.1 f s) (sym x.0) i.3) in
    after-one h.0 B b h.1 e f q s h.3 j

either-one : (c : Bool) (A B : Running) (p : Point) → OneEnd A p → OneEnd B p → OneEnd (Either c A B) p
either-one true A B p a b = a
either-one false A B p a b = b

assigns-one : (types : Types) (n : Name) (v : Value) → IsDetermined (Assigns types n v)
assigns-one types n v p = with-one (assigned (types n) v) _ p (λ w e f q s h i. (h.0 ∙ sym i.0, h.1 ∙ sym i.1))

-- ---- Loops

-- Two runs from a point end the same way, one of each kind.
abbrev OneEndOf : Running → Running → Type 0
OneEndOf R S = (p : Point) (e f : End) (q s : Point) → R p e q → S p f s → (e ≡ f) × (q ≡ s)

after_turn-one : (g : End) (R S : Running) → OneEndOf R S → OneEndOf (AfterTurn g R) (AfterTurn g S)
after_turn-one Went R S d p = d p
after_turn-one Left R S d p = ends-one Went p
after_turn-one Returned R S d p = ends-one Returned p
after_turn-one (Stopped r) R S d p = ends-one (Stopped r) p

abbrev no_more : Values → Result Bool Reason → Running
no_more vars a = With a (λ more p e q. Either more (λ _ _ _. ⊥) (λ p e q. Ends p Went e q) p e q)

no_more-one : (vars : Values) (a : Result Bool Reason) (p : Point) → OneEnd (no_more vars a) p
no_more-one vars a p =
    with-one a _ p (λ more. either-one more (λ _ _ _. ⊥) (λ p e q. Ends p Went e q) p (λ e f q s h i. absurd h) (ends-one Went p))

-- if there is another iteration, the loop does not end before it
more-goes-on : (vars : Values) (a : Result Bool Reason) (p : Point) (e : End) (q : Point) → a ≡ Ok true → no_more vars a p e q → ⊥
more-goes-on vars a p e q t h = subst (λ b. no_more vars b p e q) t h

turn_then-one : (turn R S : Running) → IsDetermined turn → OneEndOf R S → OneEndOf (TurnThen turn R) (TurnThen turn S)
turn_then-one turn R S d a p e f q s h i =
    let x = d p h.0 i.0 h.1 i.1 h.2 i.2 in
    let j = subst (λ u. AfterTurn h.0 S u f s) (sym x.1) (subst (λ g. AfterTurn g S i.1 f s) (sym x.0) i.3) in
    after_turn-one h.0 R S a h.1 e f q s h.3 j

turns-one : (test : Values → Result Bool Reason) (turn : Running) → IsDetermined turn → (n m : ℕ)
    → OneEndOf (Turns test turn n) (Turns test turn m)
turns-one test turn d zero zero p e f q s h i = no_more-one p.vars (test p.vars) p e f q s h i
turns-one test turn d zero (suc m) p e f q s h i = absurd (more-goes-on p.vars (test p.vars) p e q i.0 h)
turns-one test turn d (suc n) zero p e f q s h i = absurd (more-goes-on p.vars (test p.vars) p f s h.0 i)
turns-one test turn d (suc n) (suc m) p e f q s h i =
    turn_then-one turn (Turns test turn n) (Turns test turn m) d (turns-one test turn d n m) p e f q s h.1 i.1

loop-one : (test : Values → Result Bool Reason) (turn : Running) → IsDetermined turn → IsDetermined (Loop test turn)
loop-one test turn d p e f q s h i = turns-one test turn d h.0 i.0 p e f q s h.1 i.1

advances-one : (types : Types) (n : Name) (end step : ℤ) → IsDetermined (Advances types n end step)
advances-one types n end step p =
    let next = whole (p.vars n) +ℤ step in
    either-one (passed end step next) (λ p e q. Ends p Left e q) (Assigns types n (value.Whole next)) p (ends-one Left p)
    (assigns-one types n (value.Whole next) p)

-- ---- Statements

mutual
  pub runs-one : (s : Stmt) (types : Types) → IsDetermined (Runs types s)
  runs-one Empty types = step-one _ (ends-one Went)
  runs-one Exit types = step-one _ (ends-one Left)
  runs-one Return types = step-one _ (ends-one Returned)
  runs-one (Assign n x) types =
      step-one _ (λ p. with-one (value_of x p.vars) (Assigns types n) p (λ v. assigns-one types n v p))
  runs-one (If cs others) types = step-one _ (choices-one cs types others (all-one others types))
  runs-one (Case x bs others) types =
      step-one _ (λ p. with-one (value_of x p.vars) _ p (λ v. branches-one bs types (whole v) others (all-one others types) p))
  runs-one (For n from to by body) types =
      step-one _ (λ p. with-one (value_of from p.vars) _ p (λ a. with-one (value_of to p.vars) _ p (λ b. with-one (value_of by p.vars) _ p (λ c.
      then-one (Assigns types n a) _ (assigns-one types n a)
      (loop-one (λ vars. Ok (not (passed (whole b) (whole c) (whole (vars n))))) _
      (step-one _ (then-one (RunsAll types body) _ (all-one body types) (advances-one types n (whole b) (whole c))))) p))))
  runs-one (While c body) types = step-one _ (loop-one (truth_of c) _ (step-one _ (all-one body types)))
  runs-one (Repeat body c) types =
      step-one _
      (turn_then-one _ _ _ (step-one _ (all-one body types))
      (loop-one (λ vars. and_then (truth_of c vars) (λ b. Ok (not b))) _ (step-one _ (all-one body types))))

  pub all-one : (ss : Stmts) (types : Types) → IsDetermined (RunsAll types ss)
  all-one no_stmt types = ends-one Went
  all-one (then_stmts s rest) types = then-one (Runs types s) (RunsAll types rest) (runs-one s types) (all-one rest types)

  pub choices-one : (cs : Choices) (types : Types) (others : Stmts) → IsDetermined (RunsAll types others)
      → IsDetermined (RunsChoice types cs (RunsAll types others))
  choices-one no_choice types others d = d
  choices-one (then_choices c body rest) types others d =
      λ p. with-one (truth_of c p.vars) _ p (λ b.
      either-one b (RunsAll types body) (RunsChoice types rest (RunsAll types others)) p (all-one body types p) (choices-one rest types others d p))

  pub branches-one : (bs : Branches) (types : Types) (z : ℤ) (others : Stmts) → IsDetermined (RunsAll types others)
      → IsDetermined (RunsBranch types bs z (RunsAll types others))
  branches-one no_branch types z others d = d
  branches-one (then_branches ls body rest) types z others d =
      λ p. either-one (label_fits ls z) (RunsAll types body) (RunsBranch types rest z (RunsAll types others)) p (all-one body types p)
      (branches-one rest types z others d p)

pub body-one : (body : Stmts) (types : Types) → IsDetermined (RunsBody types body)
body-one body types p e f q s h i =
    let x = all-one body types p h.0 i.0 q s h.1 i.1 in (h.2 ∙ (ap ended x.0 ∙ sym i.2), x.1)
