-- Runs of the body of an algorithm, as in the definitions, with the statement to blame where a reason stops them (the
-- numbers are this project's own). What a run says without its numbers, the definitions say: `as_defined` of the proofs.
use Rattle.std.specs.Prelude.{◌≡◌, ℕ, zero, suc, ℤ, ◌+ℤ◌, Bool, true, false, not, Option, Some, None, Result, Ok, Err}
use Rattle.fb_types.specs.Names.{Name, with_value}
use Rattle.fb_types.specs.Syntax.{Expr, Stmt, Empty, Exit, Return, Assign, If, Case, For, While, Repeat, Stmts, no_stmt, then_stmts, Choices, no_choice, then_choices, Branches, no_branch, then_branches}
use Rattle.fb_types.specs.Values.{Values, Types, value_of, truth_of, and_then, whole}
use Rattle.fb_types.specs.Bodies.{Point, label_fits, passed}
use Rattle.fb_types.specs.Bodies as bodies
use Rattle.fb_types.specs.declared.value.Value.{Value}
use Rattle.fb_types.specs.declared.value.Value.TheVariants as value
use Rattle.fb_types.specs.declared.value.Reason.{Reason}
use Rattle.fb_types.specs.declared.value.Reason.TheVariants as reason
use Rattle.fb_stop.specs.Numbers.{next, after, after_all, after_choices, after_branches}
use Rattle.fb_stop.specs.declared.fault.Fault.{Fault}

-- How a statement ends, as in the definitions, with the statement to blame for a reason.
pub data End : Type 0 where
  Went : End
  Left : End
  Returned : End
  Stopped : Fault → End

-- without the statement
abbrev pub plain : End → bodies.End
plain Went = bodies.Went
plain Left = bodies.Left
plain Returned = bodies.Returned
plain (Stopped f) = bodies.Stopped f.reason

abbrev pub Running : Type 1
Running = Point → End → Point → Type 0

abbrev pub Ends : Point → End → End → Point → Type 0
Ends p how e q = (e ≡ how) × (q ≡ p)

-- a reason, blamed on a statement
abbrev pub placed : {A : Type 0} → ℕ → Result A Reason → Result A Fault
placed n (Ok a) = Ok a
placed n (Err r) = Err (record { reason = r; number = n; value = None })

-- a value that a variable's type does not hold, blamed on a statement
abbrev pub fitted : ℕ → Value → Result Value Reason → Result Value Fault
fitted n x (Ok w) = Ok w
fitted n x (Err r) = Err (record { reason = r; number = n; value = Some x })

-- Where no step is left, the innermost loop is to blame, or the statement itself if it is in none.
abbrev pub blamed : Option ℕ → ℕ → ℕ
blamed None n = n
blamed (Some around) n = around

abbrev pub StepAnd : ℕ → ℕ → Values → Running → End → Point → Type 0
StepAnd n zero vars rest e q = Ends (record { vars = vars; left = 0 }) (Stopped (record { reason = reason.Steps; number = n; value = None })) e q
StepAnd n (suc left) vars rest e q = rest (record { vars = vars; left = left }) e q

abbrev pub Step : ℕ → Running → Running
Step n rest p e q = StepAnd n p.left p.vars rest e q

abbrev pub With : {A : Type 0} → Result A Fault → (A → Running) → Running
With (Ok a) rest p e q = rest a p e q
With (Err f) rest p e q = Ends p (Stopped f) e q

abbrev pub After : End → Running → Running
After Went rest p e q = rest p e q
After Left rest p e q = Ends p Left e q
After Returned rest p e q = Ends p Returned e q
After (Stopped f) rest p e q = Ends p (Stopped f) e q

abbrev pub Then : Running → Running → Running
Then first rest p e q = (f : End) × (m : Point) × first p f m × After f rest m e q

abbrev pub Either : Bool → Running → Running → Running
Either true a b p e q = a p e q
Either false a b p e q = b p e q

-- ---- Assignment

abbrev pub Assigns : Types → ℕ → Name → Value → Running
Assigns types n v x = With (fitted n x (bodies.assigned (types v) x)) (λ w p e q. Ends (record p { vars = with_value v w p.vars }) Went e q)

-- ---- Loops

abbrev pub AfterTurn : End → Running → Running
AfterTurn Went rest p e q = rest p e q
AfterTurn Left rest p e q = Ends p Went e q
AfterTurn Returned rest p e q = Ends p Returned e q
AfterTurn (Stopped f) rest p e q = Ends p (Stopped f) e q

abbrev pub TurnThen : Running → Running → Running
TurnThen turn rest p e q = (f : End) × (m : Point) × turn p f m × AfterTurn f rest m e q

abbrev pub Turns : (Values → Result Bool Fault) → Running → ℕ → Running
Turns test turn zero p e q = With (test p.vars) (λ more p e q. Either more (λ _ _ _. ⊥) (λ p e q. Ends p Went e q) p e q) p e q
Turns test turn (suc k) p e q = (test p.vars ≡ Ok true) × TurnThen turn (Turns test turn k) p e q

abbrev pub Loop : (Values → Result Bool Fault) → Running → Running
Loop test turn p e q = (k : ℕ) × Turns test turn k p e q

abbrev pub Advances : Types → ℕ → Name → (end step : ℤ) → Running
Advances types n v end step p e q =
    let next = whole (p.vars v) +ℤ step in
    Either (passed end step next) (λ p e q. Ends p Left e q) (Assigns types n v (value.Whole next)) p e q

-- the tests of FOR, WHILE and REPEAT
abbrev pub counts_on : ℕ → Name → (end step : ℤ) → Values → Result Bool Fault
counts_on n v end step vars = placed n (Ok (not (passed end step (whole (vars v)))))

abbrev pub holds_in : ℕ → Expr → Values → Result Bool Fault
holds_in n c vars = placed n (truth_of c vars)

abbrev pub until : ℕ → Expr → Values → Result Bool Fault
until n c vars = placed n (and_then (truth_of c vars) (λ b. Ok (not b)))

abbrev pub Counts : Types → ℕ → Name → (end step : ℤ) → Running → Running
Counts types n v end step body = Loop (counts_on n v end step) (Step n (Then body (Advances types n v end step)))

-- ---- Statements

-- a statement has its number, and the number of the innermost loop around it, if it is in one
abbrev mutual
  pub Runs : Types → (around : Option ℕ) → (number : ℕ) → Stmt → Running
  Runs types o n Empty = Step (blamed o n) (λ p e q. Ends p Went e q)
  Runs types o n Exit = Step (blamed o n) (λ p e q. Ends p Left e q)
  Runs types o n Return = Step (blamed o n) (λ p e q. Ends p Returned e q)
  Runs types o n (Assign v x) = Step (blamed o n) (λ p. With (placed n (value_of x p.vars)) (Assigns types n v) p)
  Runs types o n (If choices others) =
      Step (blamed o n) (RunsChoice types o n (next n) choices (RunsAll types o (after_choices choices (next n)) others))
  Runs types o n (Case x branches others) =
      Step (blamed o n) (λ p. With (placed n (value_of x p.vars)) (λ v.
      RunsBranch types o (next n) branches (whole v) (RunsAll types o (after_branches branches (next n)) others)) p)
  Runs types o n (For v start end step body) =
      Step (blamed o n) (λ p. With (placed n (value_of start p.vars)) (λ a. With (placed n (value_of end p.vars)) (λ b. With (placed n (value_of step p.vars)) (λ c.
      Then (Assigns types n v a) (Counts types n v (whole b) (whole c) (RunsAll types (Some n) (next n) body)))))
      p)
  Runs types o n (While c body) = Step (blamed o n) (Loop (holds_in n c) (Step n (RunsAll types (Some n) (next n) body)))
  Runs types o n (Repeat body c) =
      Step (blamed o n) (TurnThen (Step n (RunsAll types (Some n) (next n) body)) (Loop (until n c) (Step n (RunsAll types (Some n) (next n) body))))

  -- statements, of which the first has this number
  pub RunsAll : Types → (around : Option ℕ) → (first : ℕ) → Stmts → Running
  RunsAll types o n no_stmt = λ p e q. Ends p Went e q
  RunsAll types o n (then_stmts s rest) = Then (Runs types o n s) (RunsAll types o (after s n) rest)

  -- the conditions of the statement of this number
  pub RunsChoice : Types → (around : Option ℕ) → (number first : ℕ) → Choices → Running → Running
  RunsChoice types o n k no_choice others = others
  RunsChoice types o n k (then_choices c body rest) others =
      λ p. With (placed n (truth_of c p.vars)) (λ b. Either b (RunsAll types o k body) (RunsChoice types o n (after_all body k) rest others)) p

  pub RunsBranch : Types → (around : Option ℕ) → (first : ℕ) → Branches → ℤ → Running → Running
  RunsBranch types o k no_branch z others = others
  RunsBranch types o k (then_branches labels body rest) z others =
      Either (label_fits labels z) (RunsAll types o k body) (RunsBranch types o (after_all body k) rest z others)
