-- Where the reaction of a basic block stops (IEC 61499-1, 5.2; that a stop has a place is this project's profile).
use Rattle.std.specs.Prelude.{◌≡◌, ◌≤◌, ◌-◌, ℕ, zero, suc, List, [], ◌∷◌, take, slice_get, Option, Some, None, IfNone, IfSome}
use Rattle.fb_types.specs.Names.{Name}
use Rattle.fb_types.specs.Values.{Types, Values}
use Rattle.fb_types.specs.Syntax.{body_of}
use Rattle.fb_types.specs.Blocks.{types_of}
use Rattle.fb_types.specs.Bodies.{Point, RunsBody}
use Rattle.fb_types.specs.Bodies as bodies
use Rattle.fb_types.specs.Charts.{Position, Trial, Clears, NoneClears, Fails, Acts, trial_of, trial_at, leaving, actions_of, algorithm_of}
use Rattle.fb_types.specs.declared.library.Action.{Action}
use Rattle.fb_types.specs.declared.library.BasicType.{BasicType}
use Rattle.fb_types.specs.declared.library.Transition.{Transition}
use Rattle.fb_types.specs.declared.library.Variable.{Variable}
use Rattle.fb_types.specs.declared.text.Body.{Body}
use Rattle.fb_types.specs.declared.text.Expr.{Expr}
use Rattle.fb_types.specs.declared.value.Reason.{Reason}
use Rattle.fb_st.specs.Frames.{values_of}
use Rattle.fb_st.specs.declared.frame.Slot.{Slot}
use Rattle.fb_ecc.specs.Indexes.{state_at}
use Rattle.fb_stop.specs.Blamed.{RunsAll, Stopped}
use Rattle.fb_stop.specs.Operations.{FaultIn, IsOtherwise}
use Rattle.fb_stop.specs.Statements.{IsInList, IsListOtherwise}
use Rattle.fb_stop.specs.declared.operation.Operation.{Operation}
use Rattle.fb_stop.specs.declared.site.Inside.{Inside}
use Rattle.fb_stop.specs.declared.site.ReactionStop.{ReactionStop}
use Rattle.fb_stop.specs.declared.site.Site.{Site}
use Rattle.fb_stop.specs.declared.site.Site.TheVariants as site

-- ---- One link

-- The operation is the one of the guard of the transition at this index that has no value.
pub record FailsInGuard (ts : List Transition) (j : ℕ) (vars : Values) (r : Reason) (x : Operation) : Type 0 where
  pub transition : Transition
  pub at : slice_get ts j ≡ Some transition
  pub guard : Expr
  pub is : transition.condition.guard ≡ Some guard
  pub fault : FaultIn vars r guard 0 x

-- The guard of the transition at this index, if it has one, has a value, or none for another reason.
abbrev pub IsGuardOtherwise : List Transition → (j : ℕ) → Values → Reason → Type 0
IsGuardOtherwise ts j vars r = (x : Transition) (g : Expr) → slice_get ts j ≡ Some x → x.condition.guard ≡ Some g → IsOtherwise vars r g

-- The transition at this index is the one whose trial gives the reason: those before it were tried, and none cleared.
pub record FailsAt (ts : List Transition) (present : Option Name) (vars : Values) (left : ℕ) (r : Reason) (j : ℕ) : Type 0 where
  pub transition : Transition
  pub at : slice_get ts j ≡ Some transition
  pub before : trial_of (take j ts) present vars left ≡ NoneClears (left - j)
  pub after : ℕ
  pub fails : trial_of (transition ∷ []) present vars (left - j) ≡ Fails r after

-- a variable with the value that it has among others
abbrev pub slot_in : List Slot → Variable → Slot
slot_in slots v = record { name = v.name; ty = v.ty; value = values_of slots v.name }

-- The statements run from these variables, once the action has its step, and the reason stops them at this one. If an
-- operation is said, it is the one of this statement that has no value for the reason, by what the variables hold there, or
-- that of an assignment. If none is said, each expression of the statement has a value there, or none for another reason.
pub record StopsInStatements (types : Types) (body : Body) (vars : Values) (left : ℕ) (r : Reason) (x : Inside) : Type 0 where
  pub rest : ℕ
  pub counted : left ≡ suc rest
  pub end : Point
  pub runs : RunsAll types None 0 (body_of body) (record { vars = vars; left = rest }) (Stopped (record { reason = r; number = x.statement; value = x.value })) end
  pub operation : IfSome x.operation (IsInList end.vars r body.statements 0 x.statement)
  pub otherwise : IfNone x.operation (IsListOtherwise end.vars r body.statements 0 x.statement)

-- Once the action has its step, the reason does not stop the statements that run from these variables.
abbrev pub AreOtherwise : Types → Body → Values → (left : ℕ) → Reason → Type 0
AreOtherwise types body vars left r = (rest : ℕ) (q : Point) → left ≡ suc rest → RunsBody types (body_of body) (record { vars = vars; left = rest }) (bodies.Stopped r) q → ⊥

-- The reason stops the algorithm of the action.
pub record StopsInBody (t : BasicType) (a : Action) (vars : Values) (left : ℕ) (r : Reason) (x : Inside) : Type 0 where
  pub algorithm : Name
  pub named : a.algorithm ≡ Some algorithm
  pub body : Body
  pub is : algorithm_of t algorithm ≡ body_of body
  pub stops : StopsInStatements (types_of t) body vars left r x

-- If the reason stops the action from these variables, no step is left for the action itself.
abbrev pub IsActionOtherwise : BasicType → Action → Values → (left : ℕ) → Reason → Type 0
IsActionOtherwise t a vars left r = (p q : Position) → p.vars ≡ vars → Acts t (a ∷ []) left p (Some r) q → left ≡ 0

-- The action at this index is the one that gives the reason: those before it were performed from p on. If a statement is
-- said, it is the one of its algorithm; if none is said, no step is left for the action itself.
pub record StopsAt (t : BasicType) (actions : List Action) (left : ℕ) (p : Position) (r : Reason) (j : ℕ) (inside : Option Inside) (q : Position) : Type 0 where
  pub between : Position
  pub before : Acts t (take j actions) left p None between
  pub action : Action
  pub at : slice_get actions j ≡ Some action
  pub stops : Acts t (action ∷ []) between.left between (Some r) q
  pub within : IfSome inside (StopsInBody t action between.vars between.left r)
  pub alone : IfNone inside (between.left ≡ 0)

-- where a chart is when it has entered a state
abbrev pub entered : Name → (left : ℕ) → Position → Position
entered s left p = record p { state = s; left = left }

-- A transition that leaves the state stops the link. If an operation is said, it is the one of its guard; if none is said,
-- no step is left for the transition.
pub record StopsByTransition (t : BasicType) (present : Option Name) (p : Position) (r : Reason) (s j : ℕ) (operation : Option Operation) (q : Position) : Type 0 where
  pub state : p.state ≡ state_at t s
  pub here : FailsAt (leaving t p.state) present p.vars p.left r j
  pub within : IfSome operation (FailsInGuard (leaving t p.state) j p.vars r)
  pub alone : IfNone operation (p.left ≤ j)
  pub tried : trial_at t present p ≡ Fails r q.left
  pub stays : q ≡ record p { left = q.left }

-- A transition cleared, and an action of the state that it enters stops the link.
pub record StopsByAction (t : BasicType) (present : Option Name) (p : Position) (r : Reason) (s j : ℕ) (inside : Option Inside) (q : Position) : Type 0 where
  pub left : ℕ
  pub clears : trial_at t present p ≡ Clears (state_at t s) left
  pub here : StopsAt t (actions_of t (state_at t s)) left (entered (state_at t s) left p) r j inside q

-- A link from p stops for the reason, at the site, and then the chart is at q.
abbrev pub StopsThere : BasicType → (present : Option Name) → Position → Reason → Site → Position → Type 0
StopsThere t present p r (site.Transition s j operation) q = StopsByTransition t present p r s j operation q
StopsThere t present p r (site.Action s j inside) q = StopsByAction t present p r s j inside q

-- ---- The chain

-- a link leads on to a position of which this holds
abbrev pub Leads : BasicType → Trial → (Position → Type 0) → Position → Type 0
Leads t (Clears target left) holds p = (m : Position) × Acts t (actions_of t target) left (entered target left p) None m × holds m
Leads t (NoneClears left) holds p = ⊥
Leads t (Fails r left) holds p = ⊥

-- After a number of links the next one stops so. The event is present in the first trial only.
abbrev pub StopsAfter : BasicType → (links : ℕ) → (present : Option Name) → Position → Reason → Site → Position → Type 0
StopsAfter t zero present p r x q = StopsThere t present p r x q
StopsAfter t (suc n) present p r x q = Leads t (trial_at t present p) (λ m. StopsAfter t n None m r x q) p

-- A chain of links from p stops so.
abbrev pub ChainStops : BasicType → (present : Option Name) → Position → ReactionStop → Position → Type 0
ChainStops t present p x q = (n : ℕ) × StopsAfter t n present p x.reason x.site q

-- The reaction to an event stops so, from a position where its variables are sampled.
abbrev pub ReactionStops : BasicType → Name → Position → ReactionStop → Position → Type 0
ReactionStops t e = ChainStops t (Some e)
