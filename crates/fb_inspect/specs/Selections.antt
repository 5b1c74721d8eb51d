-- What is shown of a trace: instances, and events by their ticks and by what they do (this project's own).
use Rattle.std.specs.Prelude.{ℕ, nat_eq, nat_le, nat_lt, List, [], ◌∷◌, Bool, true, false, not, ◌&&◌, ◌||◌, Option, Some, None}
use Rattle.std.specs.List.{list_any}
use Rattle.fb_types.specs.Names.{Name, Path}
use Rattle.fb_types.specs.Text.{path_text}
use Rattle.fb_inspect.specs.walk.Chains.{Piece, is_loss}
use Rattle.fb_inspect.specs.walk.Looks.{Taking}
use Rattle.fb_inspect.specs.declared.filter.EventFilter.{EventFilter}
use Rattle.fb_inspect.specs.declared.insides.Inspection.{Inspection}

-- the paths of the instances that are shown, or none where all are, and which events are
pub record Selection : Type 0 where
  pub only : List Name
  pub events : EventFilter

abbrev pub selection_of : Inspection → Selection
selection_of x = record { only = x.only.now; events = x.events }

-- ---- Instances

-- whether nothing is left of a text, or a full stop and more
abbrev pub is_cut_there : List ℕ → Bool
is_cut_there [] = true
is_cut_there (c ∷ cs) = nat_eq c 46

-- whether a text is another one, or that, a full stop and more
abbrev pub is_within : (whole text : List ℕ) → Bool
is_within [] text = is_cut_there text
is_within (b ∷ bs) [] = false
is_within (b ∷ bs) (c ∷ cs) = nat_eq c b && is_within bs cs

-- The instance has one of these paths, or it is a component of one that has; where there is none, each is shown.
abbrev pub is_kept : (only : List Name) → Path → Bool
is_kept [] p = true
is_kept (w ∷ ws) p = list_any (λ v. is_within v (path_text p)) (w ∷ ws)

-- ---- Events

abbrev pub all_events : EventFilter
all_events = record { from = 0; to = None; are_lost = false }

abbrev pub is_before : Option ℕ → (tick : ℕ) → Bool
is_before None t = true
is_before (Some to) t = nat_lt t to

-- the tick is one of those whose events are shown
abbrev pub is_during : EventFilter → (tick : ℕ) → Bool
is_during f t = nat_le f.from t && is_before f.to t

-- all events are shown, or this one cleared no transition
abbrev pub is_wanted : EventFilter → (is_lost : Bool) → Bool
is_wanted f is_lost = not f.are_lost || is_lost

-- an event of an instance is shown, by its tick and by what it gave
abbrev pub is_shown_at : Selection → Path → (tick : ℕ) → List Piece → Bool
is_shown_at w p t ps = is_kept w.only p && is_during w.events t && is_wanted w.events (list_any is_loss ps)

abbrev pub is_shown : Selection → Taking → Bool
is_shown w x = is_shown_at w x.first.at x.first.key.tick x.pieces
