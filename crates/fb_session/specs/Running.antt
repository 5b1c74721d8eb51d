-- Taking events and writing their lines, from where a machine is (this project's profile).
use Rattle.std.specs.Prelude.{◌≡◌, ◌+◌, ◌<◌, ◌≤◌, ◌++◌, ◌∷◌, ℕ, List, [], length, All, IsTrue, Option, Some, None, Result, Ok, Err}
use Rattle.std.specs.Io.KnownBytes.{Appends}
use Rattle.fb_types.specs.Headline.{Inputs, system_of}
use Rattle.fb_types.specs.Keys.{NoneBelow}
use Rattle.fb_types.specs.Machines.{Each}
use Rattle.fb_types.specs.Simulation.{Taken, Chain, AtStop, ending_of, last, lines_of}
use Rattle.fb_types.specs.States.{Config}
use Rattle.fb_types.specs.Systems.{System}
use Rattle.fb_types.specs.Text.{lines_text}
use Rattle.fb_types.specs.declared.run.Form.{Form}
use Rattle.fb_sim_machine.specs.Machines.{IsAt, IsReady}
use Rattle.fb_sim_machine.specs.Pauses.{IsLater, Onward}
use Rattle.fb_sim_machine.specs.declared.machine.Machine.{Machine}
use Rattle.fb_trace.specs.Progress.{IsPartWritten, bounded}
use Rattle.fb_session.specs.Hitting.{IsHitBy, PassBreaks}
use Rattle.fb_session.specs.declared.breaks.Break.{Break}
use Rattle.fb_session.specs.declared.fault.SessionFault.{SessionFault}
use Rattle.fb_session.specs.declared.fault.SessionFault.TheVariants as fault
use Rattle.fb_session.specs.declared.going.Until.{Until}
use Rattle.fb_session.specs.declared.going.Until.TheVariants as until
use Rattle.fb_session.specs.declared.run.Reach.{Reach}

-- the text of the lines of what was taken
abbrev pub text_of : Inputs → Form → List Taken → List ℕ
text_of i form ts = lines_text form (system_of i) (lines_of ts)

-- These events were taken, no line is left to be written, and the writer got their text, of this many bytes.
pub record HasRun (i : Inputs) (o : Reach) (c : Config) (new : Machine) (more : List Taken) (written now : Option (List ℕ)) (n : ℕ) : Type 0 where
  pub chain : Chain (system_of i) o.steps c more
  pub at : IsAt i (last c more).state (last c more).agenda new
  pub none : new.traffic.outbox.lines.items ≡ []
  pub got : Appends written now (text_of i o.form more)
  pub counted : n ≡ bounded (length (text_of i o.form more))

-- where breaks are watched, none is for a line of these events
abbrev pub AreUnbroken : (i : Inputs) (o : Reach) (breaks : List Break) → List Taken → Type 0
AreUnbroken i o breaks ts = IsTrue o.is_watched → PassBreaks (system_of i) breaks ts

-- no break is for a line of an event before the last one
abbrev pub AreUnbrokenUp : (i : Inputs) (o : Reach) (breaks : List Break) → List Taken → Type 0
AreUnbrokenUp i o breaks ts = (before : List Taken) × (t : Taken) × (ts ≡ before ++ t ∷ []) × AreUnbroken i o breaks before

-- How it ends: what was taken is below the tick, and up to a stop no event stops its resource. A break is for a line of the last
-- event and has the least number of those that are, and none is for a line of an event before it.
abbrev pub EndsRun : (i : Inputs) (o : Reach) (breaks : List Break) (c : Config) (old new : Machine) → List Taken → Until → Type 0
EndsRun i o breaks c old new more until.At =
    Each (λ t. t.effect.stop ≡ None) more × All (λ t. t.key.tick < o.to) more × NoneBelow (last c more).agenda o.to
    × ((from : ℕ) → from ≤ o.to → IsReady i o.steps from old → (t : ℕ) × (t ≤ o.to) × IsLater i o.steps from t new more) × AreUnbroken i o breaks more
EndsRun i o breaks c old new more (until.Break number tick) =
    IsTrue o.is_watched × Each (λ t. t.effect.stop ≡ None) more × (before : List Taken) × (t : Taken) × (more ≡ before ++ t ∷ []) × (t.key.tick ≡ tick) × (tick < o.to)
    × Onward i o.to o.steps tick old new more × PassBreaks (system_of i) breaks before × IsHitBy (system_of i) breaks t.effect.lines (Some number)
EndsRun i o breaks c old new more (until.Stop m) =
    (m.resource < length (system_of i).resource_names) × (ending_of o.to more ≡ AtStop m.tick m.resource m.reason) × (m.tick < o.to)
    × Onward i o.to o.steps m.tick old new more × AreUnbrokenUp i o breaks more
EndsRun i o breaks c old new more until.Stopped = ⊥
EndsRun i o breaks c old new more (until.Below r) = ⊥

-- It fails: the writer got whole lines where memory ran out, or else some first bytes of the lines.
abbrev pub FailsRun : (i : Inputs) (o : Reach) (c : Config) → SessionFault → (written now : Option (List ℕ)) → Type 0
FailsRun i o c fault.Memory written now = (more : List Taken) × Chain (system_of i) o.steps c more × Appends written now (text_of i o.form more)
FailsRun i o c (fault.Write n) written now = (more : List Taken) × Chain (system_of i) o.steps c more × IsPartWritten written now (text_of i o.form more) n

abbrev pub RunsOn : (i : Inputs) (o : Reach) (breaks : List Break) (c : Config) (old new : Machine) (written now : Option (List ℕ)) → Result (Until × ℕ) SessionFault → Type 0
RunsOn i o breaks c old new written now (Ok r) = (more : List Taken) × HasRun i o c new more written now r.1 × EndsRun i o breaks c old new more r.0
RunsOn i o breaks c old new written now (Err e) = FailsRun i o c e written now

-- the writer failed in this text, after this many bytes of the call
abbrev pub IsWriteAfter : (old new : Option (List ℕ)) (text : List ℕ) (before : ℕ) → SessionFault → Type 0
IsWriteAfter old new text before fault.Memory = ⊥
IsWriteAfter old new text before (fault.Write n) = (k : ℕ) × IsPartWritten old new text k × (n ≡ bounded (before + k))
