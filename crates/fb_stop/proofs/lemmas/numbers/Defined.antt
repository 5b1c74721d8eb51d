-- A run with the statement to blame is a run as the definitions have it.
use Rattle.fb_types.proofs.Common.{◌≡◌, ℕ, ℤ, zero, suc, Bool, true, false, not, Option, Some, Result, Ok, Err, ap, ◌+ℤ◌, Name, with_value, Stmt, Empty, Exit, Return, Assign, If, Case, For, While, Repeat, Stmts, no_stmt, then_stmts, Choices, no_choice, then_choices, Branches, no_branch, then_branches, Values, Types, value_of, truth_of, and_then, whole, Point, label_fits, passed}
use Rattle.fb_types.specs.declared.value.Value.{Value}
use Rattle.fb_types.specs.declared.value.Reason.{Reason}
use Rattle.fb_types.specs.Bodies as bodies
use Rattle.fb_types.specs.declared.value.Value.TheVariants as value
use Rattle.fb_stop.specs.Numbers.{next, after, after_all, after_choices, after_branches}
use Rattle.fb_stop.specs.Blamed.{End, Went, Left, Returned, Stopped, plain, Running, Ends, StepAnd, Step, With, After, Then, Either, Assigns, AfterTurn, TurnThen, Turns, Loop, Advances, Counts, Runs, RunsAll, RunsChoice, RunsBranch, placed, fitted, blamed, holds_in, until}

-- what the one runs to with its statements, the other runs to without them
abbrev pub Plain : Running → bodies.Running → Type 0
Plain R S = (p : Point) (e : End) (q : Point) → R p e q → S p (plain e) q

step_left : (R : Running) (S : bodies.Running) → Plain R S → (n left : ℕ) (vars : Values) (e : End) (q : Point) → StepAnd n left vars R e q → bodies.StepAnd left vars S (plain e) q
step_left R S h n zero vars e q run = (ap plain run.0, run.1)
step_left R S h n (suc left) vars e q run = h (record { vars = vars; left = left }) e q run

pub in_step : (n : ℕ) (R : Running) (S : bodies.Running) → Plain R S → Plain (Step n R) (bodies.Step S)
in_step n R S h p e q run = step_left R S h n p.left p.vars e q run

pub in_with : {A : Type 0} (n : ℕ) (a : Result A Reason) (R : A → Running) (S : A → bodies.Running) → ((x : A) → Plain (R x) (S x)) → Plain (With (placed n a) R) (bodies.With a S)
in_with n (Ok x) R S h p e q run = h x p e q run
in_with n (Err r) R S h p e q run = (ap plain run.0, run.1)

in_fitted : (n : ℕ) (x : Value) (a : Result Value Reason) (R : Value → Running) (S : Value → bodies.Running) → ((w : Value) → Plain (R w) (S w)) → Plain (With (fitted n x a) R) (bodies.With a S)
in_fitted n x (Ok w) R S h p e q run = h w p e q run
in_fitted n x (Err r) R S h p e q run = (ap plain run.0, run.1)

pub in_after : (f : End) (R : Running) (S : bodies.Running) → Plain R S → Plain (After f R) (bodies.After (plain f) S)
in_after Went R S h p e q run = h p e q run
in_after Left R S h p e q run = (ap plain run.0, run.1)
in_after Returned R S h p e q run = (ap plain run.0, run.1)
in_after (Stopped f) R S h p e q run = (ap plain run.0, run.1)

pub in_then : (R R' : Running) (S S' : bodies.Running) → Plain R S → Plain R' S' → Plain (Then R R') (bodies.Then S S')
in_then R R' S S' h h' p e q run = (plain run.0, run.1, h p run.0 run.1 run.2, in_after run.0 R' S' h' run.1 e q run.3)

pub in_either : (b : Bool) (R R' : Running) (S S' : bodies.Running) → Plain R S → Plain R' S' → Plain (Either b R R') (bodies.Either b S S')
in_either true R R' S S' h h' p e q run = h p e q run
in_either false R R' S S' h h' p e q run = h' p e q run

pub in_assigns : (T : Types) (n : ℕ) (v : Name) (x : Value) → Plain (Assigns T n v x) (bodies.Assigns T v x)
in_assigns T n v x =
    in_fitted n x (bodies.assigned (T v) x) (λ w p e q. Ends (record p { vars = with_value v w p.vars }) Went e q) (λ w p e q. bodies.Ends (record p { vars = with_value v w p.vars }) bodies.Went e q)
    (λ w p e q run. (ap plain run.0, run.1))

-- ---- Loops

in_after_turn : (f : End) (R : Running) (S : bodies.Running) → Plain R S → Plain (AfterTurn f R) (bodies.AfterTurn (plain f) S)
in_after_turn Went R S h p e q run = h p e q run
in_after_turn Left R S h p e q run = (ap plain run.0, run.1)
in_after_turn Returned R S h p e q run = (ap plain run.0, run.1)
in_after_turn (Stopped f) R S h p e q run = (ap plain run.0, run.1)

in_turn_then : (R R' : Running) (S S' : bodies.Running) → Plain R S → Plain R' S' → Plain (TurnThen R R') (bodies.TurnThen S S')
in_turn_then R R' S S' h h' p e q run = (plain run.0, run.1, h p run.0 run.1 run.2, in_after_turn run.0 R' S' h' run.1 e q run.3)

ok_plainly : (n : ℕ) (a : Result Bool Reason) (b : Bool) → placed n a ≡ Ok b → a ≡ Ok b
ok_plainly n (Ok c) b h = cc
ok_plainly n (Err r) b h = absurd (cc)

module _ (n : ℕ) (test : Values → Result Bool Reason) (R : Running) (S : bodies.Running) (h : Plain R S) where
  last_turn : (a : Result Bool Reason) (p : Point) (e : End) (q : Point)
      → With (placed n a) (λ more p e q. Either more (λ _ _ _. ⊥) (λ p e q. Ends p Went e q) p e q) p e q
      → bodies.With a (λ more p e q. bodies.Either more (λ _ _ _. ⊥) (λ p e q. bodies.Ends p bodies.Went e q) p e q) p (plain e) q
  last_turn (Ok true) p e q run = run
  last_turn (Ok false) p e q run = (ap plain run.0, run.1)
  last_turn (Err r) p e q run = (ap plain run.0, run.1)

  in_turns : (k : ℕ) → Plain (Turns (λ vars. placed n (test vars)) R k) (bodies.Turns test S k)
  in_turns zero p e q run = last_turn (test p.vars) p e q run
  in_turns (suc k) p e q run =
      (ok_plainly n (test p.vars) true run.0, in_turn_then R (Turns (λ vars. placed n (test vars)) R k) S (bodies.Turns test S k) h (in_turns k) p e q run.1)

  pub in_loop : Plain (Loop (λ vars. placed n (test vars)) R) (bodies.Loop test S)
  in_loop p e q run = (run.0, in_turns run.0 p e q run.1)

in_advances : (T : Types) (n : ℕ) (v : Name) (end step : ℤ) → Plain (Advances T n v end step) (bodies.Advances T v end step)
in_advances T n v end step p e q run =
    let to = whole (p.vars v) +ℤ step in
    in_either (passed end step to) (λ p e q. Ends p Left e q) (Assigns T n v (value.Whole to)) (λ p e q. bodies.Ends p bodies.Left e q) (bodies.Assigns T v (value.Whole to))
    (λ p e q run. (ap plain run.0, run.1)) (in_assigns T n v (value.Whole to)) p e q run

in_counts : (T : Types) (n : ℕ) (v : Name) (end step : ℤ) (R : Running) (S : bodies.Running) → Plain R S → Plain (Counts T n v end step R) (bodies.Counts T v end step S)
in_counts T n v end step R S h =
    in_loop n (λ vars. Ok (not (passed end step (whole (vars v))))) (Step n (Then R (Advances T n v end step))) (bodies.Step (bodies.Then S (bodies.Advances T v end step)))
    (in_step n (Then R (Advances T n v end step)) (bodies.Then S (bodies.Advances T v end step)) (in_then R (Advances T n v end step) S (bodies.Advances T v end step) h (in_advances T n v end step)))

-- ---- Statements

mutual
  pub one_plainly : (T : Types) (o : Option ℕ) (n : ℕ) (s : Stmt) → Plain (Runs T o n s) (bodies.Runs T s)
  one_plainly T o n Empty = in_step (blamed o n) (λ p e q. Ends p Went e q) (λ p e q. bodies.Ends p bodies.Went e q) (λ p e q run. (ap plain run.0, run.1))
  one_plainly T o n Exit = in_step (blamed o n) (λ p e q. Ends p Left e q) (λ p e q. bodies.Ends p bodies.Left e q) (λ p e q run. (ap plain run.0, run.1))
  one_plainly T o n Return = in_step (blamed o n) (λ p e q. Ends p Returned e q) (λ p e q. bodies.Ends p bodies.Returned e q) (λ p e q run. (ap plain run.0, run.1))
  one_plainly T o n (Assign v x) =
      in_step (blamed o n) (λ p. With (placed n (value_of x p.vars)) (Assigns T n v) p) (λ p. bodies.With (value_of x p.vars) (bodies.Assigns T v) p)
      (λ p. in_with n (value_of x p.vars) (Assigns T n v) (bodies.Assigns T v) (in_assigns T n v) p)
  one_plainly T o n (If cs others) =
      in_step (blamed o n) (RunsChoice T o n (next n) cs (RunsAll T o (after_choices cs (next n)) others)) (bodies.RunsChoice T cs (bodies.RunsAll T others))
      (choice_plainly T o n (next n) (after_choices cs (next n)) cs others (all_plainly T o (after_choices cs (next n)) others))
  one_plainly T o n (Case x bs others) =
      let R : Value → Running = λ v. RunsBranch T o (next n) bs (whole v) (RunsAll T o (after_branches bs (next n)) others) in
      let S : Value → bodies.Running = λ v. bodies.RunsBranch T bs (whole v) (bodies.RunsAll T others) in
      in_step (blamed o n) (λ p. With (placed n (value_of x p.vars)) R p) (λ p. bodies.With (value_of x p.vars) S p)
      (λ p. in_with n (value_of x p.vars) R S (λ v. branch_plainly T o (next n) (after_branches bs (next n)) bs (whole v) others (all_plainly T o (after_branches bs (next n)) others)) p)
  one_plainly T o n (For v a b c body) =
      let R : Value → Value → Value → Running = λ x y z. Then (Assigns T n v x) (Counts T n v (whole y) (whole z) (RunsAll T (Some n) (next n) body)) in
      let S : Value → Value → Value → bodies.Running = λ x y z. bodies.Then (bodies.Assigns T v x) (bodies.Counts T v (whole y) (whole z) (bodies.RunsAll T body)) in
      in_step (blamed o n) (λ p. With (placed n (value_of a p.vars)) (λ x. With (placed n (value_of b p.vars)) (λ y. With (placed n (value_of c p.vars)) (R x y))) p)
      (λ p. bodies.With (value_of a p.vars) (λ x. bodies.With (value_of b p.vars) (λ y. bodies.With (value_of c p.vars) (S x y))) p)
      (λ p. in_with n (value_of a p.vars) (λ x. With (placed n (value_of b p.vars)) (λ y. With (placed n (value_of c p.vars)) (R x y))) (λ x. bodies.With (value_of b p.vars) (λ y. bodies.With (value_of c p.vars) (S x y)))
      (λ x. in_with n (value_of b p.vars) (λ y. With (placed n (value_of c p.vars)) (R x y)) (λ y. bodies.With (value_of c p.vars) (S x y))
      (λ y. in_with n (value_of c p.vars) (R x y) (S x y)
      (λ z. in_then (Assigns T n v x) (Counts T n v (whole y) (whole z) (RunsAll T (Some n) (next n) body)) (bodies.Assigns T v x) (bodies.Counts T v (whole y) (whole z) (bodies.RunsAll T body))
      (in_assigns T n v x) (in_counts T n v (whole y) (whole z) (RunsAll T (Some n) (next n) body) (bodies.RunsAll T body) (all_plainly T (Some n) (next n) body)))))
      p)
  one_plainly T o n (While c body) =
      let R : Running = Step n (RunsAll T (Some n) (next n) body) in
      let S : bodies.Running = bodies.Step (bodies.RunsAll T body) in
      in_step (blamed o n) (Loop (holds_in n c) R) (bodies.Loop (truth_of c) S)
      (in_loop n (truth_of c) R S (in_step n (RunsAll T (Some n) (next n) body) (bodies.RunsAll T body) (all_plainly T (Some n) (next n) body)))
  one_plainly T o n (Repeat body c) =
      let R : Running = Step n (RunsAll T (Some n) (next n) body) in
      let S : bodies.Running = bodies.Step (bodies.RunsAll T body) in
      let test : Values → Result Bool Reason = λ vars. and_then (truth_of c vars) (λ b. Ok (not b)) in
      let turn : Plain R S = in_step n (RunsAll T (Some n) (next n) body) (bodies.RunsAll T body) (all_plainly T (Some n) (next n) body) in
      in_step (blamed o n) (TurnThen R (Loop (until n c) R)) (bodies.TurnThen S (bodies.Loop test S))
      (in_turn_then R (Loop (until n c) R) S (bodies.Loop test S) turn (in_loop n test R S turn))

  pub all_plainly : (T : Types) (o : Option ℕ) (n : ℕ) (ss : Stmts) → Plain (RunsAll T o n ss) (bodies.RunsAll T ss)
  all_plainly T o n no_stmt = λ p e q run. (ap plain run.0, run.1)
  all_plainly T o n (then_stmts s rest) =
      in_then (Runs T o n s) (RunsAll T o (after s n) rest) (bodies.Runs T s) (bodies.RunsAll T rest) (one_plainly T o n s) (all_plainly T o (after s n) rest)

  choice_plainly : (T : Types) (o : Option ℕ) (n k m : ℕ) (cs : Choices) (others : Stmts) → Plain (RunsAll T o m others) (bodies.RunsAll T others)
      → Plain (RunsChoice T o n k cs (RunsAll T o m others)) (bodies.RunsChoice T cs (bodies.RunsAll T others))
  choice_plainly T o n k m no_choice others h = h
  choice_plainly T o n k m (then_choices c body rest) others h =
      λ p. in_with n (truth_of c p.vars) (λ b. Either b (RunsAll T o k body) (RunsChoice T o n (after_all body k) rest (RunsAll T o m others)))
      (λ b. bodies.Either b (bodies.RunsAll T body) (bodies.RunsChoice T rest (bodies.RunsAll T others)))
      (λ b. in_either b (RunsAll T o k body) (RunsChoice T o n (after_all body k) rest (RunsAll T o m others)) (bodies.RunsAll T body) (bodies.RunsChoice T rest (bodies.RunsAll T others))
      (all_plainly T o k body) (choice_plainly T o n (after_all body k) m rest others h))
      p

  branch_plainly : (T : Types) (o : Option ℕ) (k m : ℕ) (bs : Branches) (z : ℤ) (others : Stmts) → Plain (RunsAll T o m others) (bodies.RunsAll T others)
      → Plain (RunsBranch T o k bs z (RunsAll T o m others)) (bodies.RunsBranch T bs z (bodies.RunsAll T others))
  branch_plainly T o k m no_branch z others h = h
  branch_plainly T o k m (then_branches labels body rest) z others h =
      in_either (label_fits labels z) (RunsAll T o k body) (RunsBranch T o (after_all body k) rest z (RunsAll T o m others)) (bodies.RunsAll T body) (bodies.RunsBranch T rest z (bodies.RunsAll T others))
      (all_plainly T o k body) (branch_plainly T o (after_all body k) m rest z others h)
