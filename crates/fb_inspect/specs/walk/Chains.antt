-- What is shown of the reaction of a basic block, step by step next to the reaction as the definitions have it (`Charts`: `ChartReacts`).
use Rattle.std.specs.Prelude.{◌≡◌, ℕ, zero, suc, List, [], ◌∷◌, ◌++◌, Bool, true, false, Option, Some, None}
use Rattle.fb_types.specs.Names.{Name}
use Rattle.fb_types.specs.Bodies.{Point, End, Went, Left, Returned, Stopped, RunsBody}
use Rattle.fb_types.specs.Blocks.{bound, outputs_with, types_of, Emission}
use Rattle.fb_types.specs.Charts.{Position, Trial, Clears, NoneClears, Fails, Rests, trial_at, leaving, actions_of, algorithm_of, emitting, at_point}
use Rattle.fb_types.specs.EventBlocks as blocks
use Rattle.fb_types.specs.Values.{Values}
use Rattle.fb_types.specs.declared.library.Action.{Action}
use Rattle.fb_types.specs.declared.library.BasicType.{BasicType}
use Rattle.fb_types.specs.declared.library.Transition.{Transition}
use Rattle.fb_types.specs.declared.value.Reason.{Reason}
use Rattle.fb_types.specs.declared.value.Reason.TheVariants.{Steps}
use Rattle.fb_ecc.specs.Steps.{first_true}

-- What is shown of a taking, in order. The line of an emission is one of the trace, the others are between its lines.
pub data Piece : Type 0 where
  -- a transition cleared
  Clears_by : Transition → Piece
  -- the event cleared no transition of this state
  Is_lost : (state : Name) → Piece
  -- an algorithm ran, with the variables before and after it
  Ran : (algorithm : Name) → (before after : Values) → Piece
  -- a reason ended the reaction
  Stops_by : Reason → Piece
  -- an event block remembers this now, and its timer goes off then
  Has : blocks.Memory → (due : Option ℕ) → Piece
  Emits : Emission → Piece

-- the event was lost
abbrev pub is_loss : Piece → Bool
is_loss (Clears_by t) = false
is_loss (Is_lost s) = true
is_loss (Ran a before after) = false
is_loss (Stops_by r) = false
is_loss (Has m due) = false
is_loss (Emits e) = false

-- A chart moves from one position to another, as `Moving`, and these pieces show it.
abbrev pub Showing : Type 1
Showing = Position → Option Reason → Position → List Piece → Type 0

-- nothing happens, and nothing is shown
abbrev pub Silent : Option Reason → Showing
Silent how p stop q ps = (stop ≡ how) × (q ≡ p) × (ps ≡ [])

-- ---- Actions

abbrev pub emission_pieces : BasicType → Option Name → Position → List Piece
emission_pieces t None p = []
emission_pieces t (Some e) p = Emits (record { event = e; values = bound (outputs_with t.ports e) p.vars }) ∷ []

abbrev pub ShowsAfter : End → Showing → Showing
ShowsAfter Went rest p stop q ps = rest p stop q ps
ShowsAfter Left rest p stop q ps = rest p stop q ps
ShowsAfter Returned rest p stop q ps = rest p stop q ps
ShowsAfter (Stopped r) rest p stop q ps = Silent (Some r) p stop q ps

-- the algorithm of an action, if it has one, with what it changed, and then what follows
abbrev pub ShowsPerform : BasicType → Option Name → Showing → Showing
ShowsPerform t None rest p stop q ps = rest p stop q ps
ShowsPerform t (Some a) rest p stop q ps =
    (e : End) × (m : Point) × (qs : List Piece) × RunsBody (types_of t) (algorithm_of t a) (record { vars = p.vars; left = p.left }) e m
    × (ps ≡ Ran a p.vars m.vars ∷ qs) × ShowsAfter e rest (at_point p m) stop q qs

-- an emission, if there is one, and then what follows
abbrev pub ShowsEmission : BasicType → Option Name → Showing → Showing
ShowsEmission t o rest m stop q ps = (qs : List Piece) × (ps ≡ emission_pieces t o m ++ qs) × rest (emitting t o m) stop q qs

abbrev pub ShowsActs : BasicType → List Action → ℕ → Showing
ShowsActs t [] left p stop q ps = Silent None p stop q ps
ShowsActs t (a ∷ others) zero p stop q ps = Silent (Some Steps) p stop q ps
ShowsActs t (a ∷ others) (suc left) p stop q ps =
    ShowsPerform t a.algorithm (λ m stop q ps. ShowsEmission t a.output (λ n stop q ps. ShowsActs t others n.left n stop q ps) m stop q ps)
    (record p { left = left }) stop q ps

-- what actions show, with all steps that are left
abbrev pub Acting : BasicType → List Action → Showing
Acting t actions p stop q ps = ShowsActs t actions p.left p stop q ps

-- ---- Links

-- An event that clears no transition is lost. The end of a chain after other links is not shown.
abbrev pub rest_pieces : Trial → (present : Option Name) → (state : Name) → List Piece
rest_pieces (NoneClears left) (Some e) s = Is_lost s ∷ []
rest_pieces (NoneClears left) None s = []
rest_pieces (Clears target left) present s = []
rest_pieces (Fails r left) present s = []

abbrev pub ShowsOr : Option Reason → Showing → Showing
ShowsOr None rest p stop q ps = rest p stop q ps
ShowsOr (Some r) rest p stop q ps = Silent (Some r) p stop q ps

-- the first true transition, the actions of its target, and then what follows
abbrev pub ShowsEnters : BasicType → Option Transition → Trial → Showing → Showing
ShowsEnters t cleared (Clears target left) rest p stop q ps =
    (x : Transition) × (s : Option Reason) × (m : Position) × (as' : List Piece) × (bs : List Piece) × (cleared ≡ Some x)
    × ShowsActs t (actions_of t target) left (record p { state = target; left = left }) s m as' × ShowsOr s rest m stop q bs
    × (ps ≡ Clears_by x ∷ (as' ++ bs))
ShowsEnters t cleared (NoneClears left) rest p stop q ps = ⊥
ShowsEnters t cleared (Fails r left) rest p stop q ps = ⊥

abbrev pub ShowsLinks : BasicType → ℕ → Option Name → Showing
ShowsLinks t zero present p stop q ps = Rests (trial_at t present p) p stop q × (ps ≡ rest_pieces (trial_at t present p) present p.state)
ShowsLinks t (suc n) present p stop q ps =
    ShowsEnters t (first_true (leaving t p.state) present p.vars) (trial_at t present p) (λ m stop q ps. ShowsLinks t n None m stop q ps) p stop q ps

abbrev pub ShowsChain : BasicType → Option Name → Showing
ShowsChain t present p stop q ps = (n : ℕ) × ShowsLinks t n present p stop q ps

-- ---- The reaction

abbrev pub stop_pieces : Option Reason → List Piece
stop_pieces None = []
stop_pieces (Some r) = Stops_by r ∷ []

-- These pieces show the reaction of a basic block to an event.
abbrev pub ShowsReaction : BasicType → Name → Showing
ShowsReaction t e p stop q ps = (qs : List Piece) × ShowsChain t (Some e) p stop q qs × (ps ≡ qs ++ stop_pieces stop)
