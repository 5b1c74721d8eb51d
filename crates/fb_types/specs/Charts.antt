-- The reaction of a basic block to an event (IEC 61499-1, 5.2.2; sampling and the count of steps are this project's profile).
use Rattle.std.specs.Prelude.{◌≡◌, ℕ, zero, suc, List, [], ◌∷◌, ◌++◌, Bool, true, false, if◌then◌else◌, Option, Some, None, Result, Ok, Err}
use Rattle.std.specs.List.{filter}
use Rattle.fb_types.specs.Names.{Name, same_name}
use Rattle.fb_types.specs.Syntax.{expr_of, body_of, Stmts, no_stmt}
use Rattle.fb_types.specs.Values.{Values, truth_of}
use Rattle.fb_types.specs.Bodies.{Point, End, Stopped, RunsBody}
use Rattle.fb_types.specs.Blocks.{named, bound, outputs_with, types_of, Emission}
use Rattle.fb_types.specs.declared.text.Expr.{Expr}
use Rattle.fb_types.specs.declared.value.Reason.{Reason}
use Rattle.fb_types.specs.declared.value.Reason.TheVariants.{Steps}
use Rattle.fb_types.specs.declared.library.Action.{Action}
use Rattle.fb_types.specs.declared.library.Condition.{Condition}
use Rattle.fb_types.specs.declared.library.Transition.{Transition}
use Rattle.fb_types.specs.declared.library.BasicType.{BasicType}

-- The position of a chart: its state, its variables, the steps that are left, and what it has emitted, in order.
pub record Position : Type 0 where
  pub state : Name
  pub vars : Values
  pub left : ℕ
  pub emitted : List Emission

-- ---- What the type has

-- the transitions that leave a state, in the order of the text
abbrev pub leaving : BasicType → Name → List Transition
leaving t s = filter (λ x. same_name x.from s) t.transitions

abbrev pub actions_of : BasicType → Name → List Action
actions_of t s = elim (named (λ x. x.name) s t.states) [ None ↦ [] | Some x ↦ x.actions ]

abbrev pub algorithm_of : BasicType → Name → Stmts
algorithm_of t a = elim (named (λ x. x.name) a t.algorithms) [ None ↦ no_stmt | Some x ↦ body_of x.body ]

-- ---- Transitions

-- whether the event that a condition names is the one that is present
abbrev pub is_present : Option Name → Option Name → Bool
is_present None present = true
is_present (Some e) None = false
is_present (Some e) (Some f) = same_name e f

abbrev pub guard_value : Option Expr → Values → Result Bool Reason
guard_value None vars = Ok true
guard_value (Some g) vars = truth_of (expr_of g) vars

-- Whether a condition is true. A guard after an event is evaluated only if that event is present.
abbrev pub is_true : Condition → Option Name → Values → Result Bool Reason
is_true c present vars = if is_present c.event present then guard_value c.guard vars else Ok false

-- The result of trying the transitions, with the steps that are left.
pub data Trial : Type 0 where
  Clears : (target : Name) → (left : ℕ) → Trial
  NoneClears : (left : ℕ) → Trial
  Fails : Reason → (left : ℕ) → Trial

abbrev pub by_condition : Result Bool Reason → Name → ℕ → Trial → Trial
by_condition (Ok true) target left later = Clears target left
by_condition (Ok false) target left later = later
by_condition (Err r) target left later = Fails r left

-- The first true transition, in the order of the text. Each trial costs a step.
abbrev pub trial_of : List Transition → Option Name → Values → ℕ → Trial
trial_of [] present vars left = NoneClears left
trial_of (t ∷ ts) present vars zero = Fails Steps 0
trial_of (t ∷ ts) present vars (suc left) =
    by_condition (is_true t.condition present vars) t.to left (trial_of ts present vars left)

-- ---- Actions

-- A chart moves from one position to another, where it continues or has been stopped by a reason.
abbrev pub Moving : Type 1
Moving = Position → Option Reason → Position → Type 0

abbrev pub Halts : Option Reason → Moving
Halts how p stop q = (stop ≡ how) × (q ≡ p)

-- with the output event of an action, if it has one
abbrev pub emitting : BasicType → Option Name → Position → Position
emitting t None p = p
emitting t (Some e) p =
    record p { emitted = p.emitted ++ record { event = e; values = bound (outputs_with t.ports e) p.vars } ∷ [] }

abbrev pub at_point : Position → Point → Position
at_point p m = record p { vars = m.vars; left = m.left }

abbrev pub AfterBody : End → Moving → Moving
AfterBody (Stopped r) rest p stop q = Halts (Some r) p stop q
AfterBody _ rest p stop q = rest p stop q

-- the algorithm of an action, if it has one, and then what follows
abbrev pub Performs : BasicType → Option Name → Moving → Moving
Performs t None rest p stop q = rest p stop q
Performs t (Some a) rest p stop q =
    (e : End) × (m : Point) × RunsBody (types_of t) (algorithm_of t a) (record { vars = p.vars; left = p.left }) e m
    × AfterBody e rest (at_point p m) stop q

-- The actions in their order. Each costs a step; then its algorithm runs and its event is emitted.
abbrev pub Acts : BasicType → List Action → ℕ → Moving
Acts t [] left p stop q = Halts None p stop q
Acts t (a ∷ as') zero p stop q = Halts (Some Steps) p stop q
Acts t (a ∷ as') (suc left) p stop q =
    Performs t a.algorithm (λ m stop q. let n = emitting t a.output m in Acts t as' n.left n stop q) (record p { left = left }) stop q

-- ---- The chain of states

abbrev pub OrHalts : Option Reason → Moving → Moving
OrHalts None rest p stop q = rest p stop q
OrHalts (Some r) rest p stop q = Halts (Some r) p stop q

-- The chain rests if no transition is true, or a reason stops the trial.
abbrev pub Rests : Trial → Moving
Rests (Clears target left) p stop q = ⊥
Rests (NoneClears left) p stop q = Halts None (record p { left = left }) stop q
Rests (Fails r left) p stop q = Halts (Some r) (record p { left = left }) stop q

-- A link enters the target of the first true transition and performs its actions.
abbrev pub Enters : BasicType → Trial → Moving → Moving
Enters t (Clears target left) rest p stop q =
    (s : Option Reason) × (m : Position) × Acts t (actions_of t target) left (record p { state = target; left = left }) s m
    × OrHalts s rest m stop q
Enters t (NoneClears left) rest p stop q = ⊥
Enters t (Fails r left) rest p stop q = ⊥

abbrev pub trial_at : BasicType → Option Name → Position → Trial
trial_at t present p = trial_of (leaving t p.state) present p.vars p.left

-- A chain of a number of links. The event is present in the first trial only.
abbrev pub Links : BasicType → ℕ → Option Name → Moving
Links t zero present p stop q = Rests (trial_at t present p) p stop q
Links t (suc n) present p stop q = Enters t (trial_at t present p) (Links t n None) p stop q

-- The reaction to an event, once its variables are sampled.
abbrev pub ChartReacts : BasicType → Name → Moving
ChartReacts t e p stop q = (n : ℕ) × Links t n (Some e) p stop q
