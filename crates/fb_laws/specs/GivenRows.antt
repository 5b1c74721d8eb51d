-- Rows that are given while the simulation goes on (this project's profile).
use Rattle.std.specs.Prelude.{◌≡◌, ℕ, ◌<◌, List, [], ◌∷◌, ◌++◌, length, None}
use Rattle.fb_types.specs.Keys.{Precedes, Map, stimulus_key, with_all}
use Rattle.fb_types.specs.Machines.{Each}
use Rattle.fb_types.specs.Simulation.{Stimulus, Taken, Chain, IsSimulation, last, opening}
use Rattle.fb_types.specs.States.{Config, Event, Stimulated}
use Rattle.fb_types.specs.Systems.{System}
use Rattle.fb_types.specs.declared.key.Key.{Key}

-- what a stimulus at a row puts on the agenda, and its key
abbrev pub row_event : System → (row : ℕ) → Stimulus → Key × Event
row_event sys row s = (stimulus_key s.tick (sys.resource s.port.at) row, Stimulated s.port s.sets)

-- The second has the state of the first, and an event more on its agenda.
pub record HasMore (e : Key × Event) (c d : Config) : Type 0 where
  pub state : d.state ≡ c.state
  pub agenda : (j : Key) → d.agenda j ≡ with_all (e ∷ []) c.agenda j

-- A row was put after all that was taken: the same takings are those of the longer list, and what they lead to has the
-- row's event in addition. Nothing waited under its key.
pub record Follows (sys : System) (limit : ℕ) (ss : List Stimulus) (s : Stimulus) (ts : List Taken) : Type 0 where
  pub chain : Chain sys limit (opening sys (ss ++ s ∷ [])) ts
  pub leads : HasMore (row_event sys (length ss) s) (last (opening sys ss) ts) (last (opening sys (ss ++ s ∷ [])) ts)
  pub new : (last (opening sys ss) ts).agenda (row_event sys (length ss) s).0 ≡ None

-- A row whose key comes after every key taken may still be put. This holds of any system and any list of stimuli: it
-- does not rest on acceptance, and so not on the limit of the count of stimuli.
abbrev pub RowsMayFollow : Type 0
RowsMayFollow =
    (sys : System) (limit : ℕ) (ss : List Stimulus) (s : Stimulus) (ts : List Taken)
    → Chain sys limit (opening sys ss) ts → Each (λ (t : Taken). Precedes t.key (row_event sys (length ss) s).0) ts
    → Follows sys limit ss s ts
