-- What a link of a chain, its trials and its actions came to, as the program goes through them (this project's own).
use Rattle.std.specs.Prelude.{◌≡◌, ◌-◌, ℕ, Option, Some, None}
use Rattle.fb_types.specs.Names.{Name}
use Rattle.fb_types.specs.Charts.{Position, Acts, Rests, trial_at, actions_of, ChartReacts}
use Rattle.fb_types.specs.declared.library.BasicType.{BasicType}
use Rattle.fb_types.specs.declared.value.Reason.{Reason}
use Rattle.fb_types.specs.declared.value.Reason.TheVariants.{Steps, Divide, Range}
use Rattle.fb_ecc.specs.Indexes.{state_at}
use Rattle.fb_stop.specs.Sites.{Leads, ReactionStops, StopsAt, StopsThere}
use Rattle.fb_stop.specs.declared.reaction.LinkEnd.{LinkEnd}
use Rattle.fb_stop.specs.declared.reaction.LinkEnd.TheVariants.{Went, Rested, Stopped}
use Rattle.fb_stop.specs.declared.site.Inside.{Inside}
use Rattle.fb_stop.specs.declared.site.ReactionStop.{ReactionStop}
use Rattle.fb_stop.specs.declared.site.Site.TheVariants as site

-- The index of the transition whose trial fails. Each one that is tried costs a step, so those before it have used all
-- steps where none is left for it, and all but one of the steps that were used where its guard has no value.
abbrev pub failing_index : (before after : ℕ) → Reason → ℕ
failing_index before after Steps = before
failing_index before after Divide = before - after - 1
failing_index before after Range = before - after - 1

-- The actions of the state at an index were performed from p to q, or one of them stopped.
abbrev pub HasPerformed : BasicType → (state : ℕ) → LinkEnd → Position → Position → Type 0
HasPerformed t s Went p q = Acts t (actions_of t (state_at t s)) p.left p None q
HasPerformed t s Rested p q = ⊥
HasPerformed t s (Stopped x) p q =
    (j : ℕ) × (inside : Option Inside) × (x.site ≡ site.Action s j inside) × StopsAt t (actions_of t (state_at t s)) p.left p x.reason j inside q

-- A link led from p to q, or the chain rests, or it stops.
abbrev pub GoesOn : BasicType → (present : Option Name) → LinkEnd → Position → Position → Type 0
GoesOn t present Went p q = Leads t (trial_at t present p) (λ m. m ≡ q) p
GoesOn t present Rested p q = Rests (trial_at t present p) p None q
GoesOn t present (Stopped x) p q = StopsThere t present p x.reason x.site q

-- The reaction stopped so, or rested.
abbrev pub HasReacted : BasicType → Name → Option ReactionStop → Position → Position → Type 0
HasReacted t e (Some x) p q = ReactionStops t e p x q
HasReacted t e None p q = ChartReacts t e p None q
