-- Runs of the body of an algorithm (IEC 61131-3, 7.3.3; the count of steps is this project's profile).
use Rattle.std.specs.Prelude.{◌≡◌, ℕ, zero, suc, ℤ, ◌+ℤ◌, pos, int_lt, int_le, List, [], ◌∷◌, Bool, true, false, not, ◌&&◌, ◌||◌, if◌then◌else◌, Result, Ok, Err}
use Rattle.fb_types.specs.Names.{Name, with_value}
use Rattle.fb_types.specs.Syntax.{Stmt, Empty, Exit, Return, Assign, If, Case, For, While, Repeat, Stmts, no_stmt, then_stmts, Choices, no_choice, then_choices, Branches, no_branch, then_branches}
use Rattle.fb_types.specs.Values.{Values, Types, value_of, truth_of, and_then, fits, whole}
use Rattle.fb_types.specs.declared.text.Label.{Label}
use Rattle.fb_types.specs.declared.value.Value.{Value}
use Rattle.fb_types.specs.declared.value.Value.TheVariants as value
use Rattle.fb_types.specs.declared.value.Reason.{Reason}
use Rattle.fb_types.specs.declared.value.Reason.TheVariants as reason
use Rattle.fb_types.specs.declared.value.Ty.{Ty}

-- A point of a run: what the variables hold, and how many steps the tick has left.
pub record Point : Type 0 where
  pub vars : Values
  pub left : ℕ

-- How a statement ends: the run continues after it, it left the loop around it, it returned from the algorithm, or a
-- reason stopped it.
pub data End : Type 0 where
  Went : End
  Left : End
  Returned : End
  Stopped : Reason → End

-- A run from one point ends so at another.
abbrev pub Running : Type 1
Running = Point → End → Point → Type 0

-- It ends so, here.
abbrev pub Ends : Point → End → End → Point → Type 0
Ends p how e q = (e ≡ how) × (q ≡ p)

-- A step is begun, and then the rest follows. With none left the run stops.
abbrev pub StepAnd : ℕ → Values → Running → End → Point → Type 0
StepAnd zero vars rest e q = Ends (record { vars = vars; left = 0 }) (Stopped reason.Steps) e q
StepAnd (suc n) vars rest e q = rest (record { vars = vars; left = n }) e q

abbrev pub Step : Running → Running
Step rest p e q = StepAnd p.left p.vars rest e q

-- If there is a value the rest follows, and else its reason stops the run.
abbrev pub With : {A : Type 0} → Result A Reason → (A → Running) → Running
With (Ok a) rest p e q = rest a p e q
With (Err r) rest p e q = Ends p (Stopped r) e q

-- What follows a statement that ended so.
abbrev pub After : End → Running → Running
After Went rest p e q = rest p e q
After Left rest p e q = Ends p Left e q
After Returned rest p e q = Ends p Returned e q
After (Stopped r) rest p e q = Ends p (Stopped r) e q

abbrev pub Then : Running → Running → Running
Then first rest p e q = (f : End) × (m : Point) × first p f m × After f rest m e q

abbrev pub Either : Bool → Running → Running → Running
Either true a b p e q = a p e q
Either false a b p e q = b p e q

-- ---- Assignment

-- A value outside the variable's type is a reason, and the variable keeps its value.
abbrev pub assigned : Ty → Value → Result Value Reason
assigned t v = if fits t v then Ok v else Err reason.Range

abbrev pub Assigns : Types → Name → Value → Running
Assigns types n v = With (assigned (types n) v) (λ w p e q. Ends (record p { vars = with_value n w p.vars }) Went e q)

-- ---- Loops

-- What follows an iteration: one that left the loop ends it.
abbrev pub AfterTurn : End → Running → Running
AfterTurn Went rest p e q = rest p e q
AfterTurn Left rest p e q = Ends p Went e q
AfterTurn Returned rest p e q = Ends p Returned e q
AfterTurn (Stopped r) rest p e q = Ends p (Stopped r) e q

-- an iteration, and what follows it
abbrev pub TurnThen : Running → Running → Running
TurnThen turn rest p e q = (f : End) × (m : Point) × turn p f m × AfterTurn f rest m e q

-- A loop of a number of iterations: before each the test says that there is one, and after the last one no more follows.
abbrev pub Turns : (Values → Result Bool Reason) → Running → ℕ → Running
Turns test turn zero p e q = With (test p.vars) (λ more p e q. Either more (λ _ _ _. ⊥) (λ p e q. Ends p Went e q) p e q) p e q
Turns test turn (suc n) p e q = (test p.vars ≡ Ok true) × TurnThen turn (Turns test turn n) p e q

abbrev pub Loop : (Values → Result Bool Reason) → Running → Running
Loop test turn p e q = (n : ℕ) × Turns test turn n p e q

-- whether a value of the control variable of FOR has passed the end
abbrev pub passed : (end step z : ℤ) → Bool
passed end step z = (int_lt end z && int_lt (pos 0) step) || (int_lt z end && int_lt step (pos 0))

-- After an iteration of FOR: if the next value has passed the end the loop is left, and else it is assigned.
abbrev pub Advances : Types → Name → (end step : ℤ) → Running
Advances types n end step p e q =
    let next = whole (p.vars n) +ℤ step in
    Either (passed end step next) (λ p e q. Ends p Left e q) (Assigns types n (value.Whole next)) p e q

-- The iterations of FOR, after the start is assigned.
abbrev pub Counts : Types → Name → (end step : ℤ) → Running → Running
Counts types n end step body =
    Loop (λ vars. Ok (not (passed end step (whole (vars n))))) (Step (Then body (Advances types n end step)))

-- ---- Statements

-- Whether a label fits. One whose first bound is greater than its last fits nothing.
abbrev pub label_fits : List Label → ℤ → Bool
label_fits [] z = false
label_fits (l ∷ ls) z = (int_le l.first z && int_le z l.last) || label_fits ls z

-- Each statement costs a step when it is begun, and each iteration of a loop one before its body.
abbrev mutual
  pub Runs : Types → Stmt → Running
  Runs types Empty = Step (λ p e q. Ends p Went e q)
  Runs types Exit = Step (λ p e q. Ends p Left e q)
  Runs types Return = Step (λ p e q. Ends p Returned e q)
  Runs types (Assign n x) = Step (λ p. With (value_of x p.vars) (Assigns types n) p)
  Runs types (If choices others) = Step (RunsChoice types choices (RunsAll types others))
  Runs types (Case x branches others) =
      Step (λ p. With (value_of x p.vars) (λ v. RunsBranch types branches (whole v) (RunsAll types others)) p)
  Runs types (For n start end step body) =
      Step (λ p. With (value_of start p.vars) (λ a. With (value_of end p.vars) (λ b. With (value_of step p.vars) (λ c.
      Then (Assigns types n a) (Counts types n (whole b) (whole c) (RunsAll types body)))))
      p)
  Runs types (While c body) = Step (Loop (truth_of c) (Step (RunsAll types body)))
  Runs types (Repeat body c) =
      Step (TurnThen (Step (RunsAll types body)) (Loop (λ vars. and_then (truth_of c vars) (λ b. Ok (not b))) (Step (RunsAll types body))))

  pub RunsAll : Types → Stmts → Running
  RunsAll types no_stmt = λ p e q. Ends p Went e q
  RunsAll types (then_stmts s rest) = Then (Runs types s) (RunsAll types rest)

  -- IF takes the first condition that is true, else ELSE
  pub RunsChoice : Types → Choices → Running → Running
  RunsChoice types no_choice others = others
  RunsChoice types (then_choices c body rest) others =
      λ p. With (truth_of c p.vars) (λ b. Either b (RunsAll types body) (RunsChoice types rest others)) p

  -- CASE takes the first branch with a label that fits, else ELSE
  pub RunsBranch : Types → Branches → ℤ → Running → Running
  RunsBranch types no_branch z others = others
  RunsBranch types (then_branches labels body rest) z others =
      Either (label_fits labels z) (RunsAll types body) (RunsBranch types rest z others)

-- ---- Algorithms

-- RETURN ends only the algorithm
abbrev pub ended : End → End
ended Returned = Went
ended e = e

abbrev pub RunsBody : Types → Stmts → Running
RunsBody types body p e q = (f : End) × RunsAll types body p f q × (e ≡ ended f)
