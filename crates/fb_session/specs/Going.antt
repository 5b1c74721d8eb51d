-- Taking events, pausing, and ending (this project's profile).
use Rattle.std.specs.Prelude.{◌≡◌, ◌⊎◌, ◌+◌, ◌^◌, ◌<◌, ◌≤◌, ◌++◌, ℕ, List, [], ◌∷◌, length, IsSome, None, Option, Some, Result, Ok, Err}
use Rattle.std.specs.Io.KnownBytes.{Appends}
use Rattle.fb_types.specs.Headline.{IsTrace, system_of}
use Rattle.fb_types.specs.Keys.{NoneBelow, Precedes}
use Rattle.fb_types.specs.Simulation.{Taken, Chain, Ending, ending_of, lines_of}
use Rattle.fb_types.specs.States.{Config}
use Rattle.fb_types.specs.Text.{last_line, lines_text}
use Rattle.fb_types.specs.declared.key.Key.{Key}
use Rattle.fb_laws.specs.Sound.{AreGood}
use Rattle.fb_trace.specs.End as outcome
use Rattle.fb_trace.specs.Progress.{IsPartWritten, bounded}
use Rattle.fb_session.specs.declared.stage.Stage.TheVariants as stage
use Rattle.fb_session.specs.Hitting.{IsHitBy, PassBreaks}
use Rattle.fb_session.specs.Pasts.{IsOf, Past, StandsBy, Talk, now, stop_text, told, with_rows}
use Rattle.fb_session.specs.declared.fault.SessionFault.{SessionFault}
use Rattle.fb_session.specs.declared.going.End.{End}
use Rattle.fb_session.specs.declared.going.End.TheVariants as end
use Rattle.fb_session.specs.declared.fault.SessionFault.TheVariants as fault
use Rattle.fb_session.specs.declared.going.Until.{Until}
use Rattle.fb_session.specs.declared.going.Until.TheVariants as until
use Rattle.fb_session.specs.declared.going.Next.{Next}
use Rattle.fb_session.specs.declared.going.Next.TheVariants as next

abbrev pub now_of : Talk → Past → Config
now_of t p = now t.inputs p

-- ---- Taking

-- These bytes were written since, and are counted, up to the greatest count.
abbrev pub CountsMore : (old new : Talk) → (bytes : List ℕ) → Type 0
CountsMore old new bytes = bounded new.written ≡ bounded (old.written + length bytes)

-- From where the session stood by a past, more was taken, and the writer got its lines and nothing else.
pub record HasTaken (old new : Talk) (p : Past) (more : List Taken) (written now : Option (List ℕ)) : Type 0 where
  pub of : IsOf old new
  pub rows : new.rows ≡ old.rows
  pub breaks : new.breaks ≡ old.breaks
  pub stands : StandsBy new (record p { taken = p.taken ++ more })
  pub got : Appends written now (lines_text old.form (system_of old.inputs) (lines_of more) ++ stop_text (system_of old.inputs) new.stage)
  pub counted : CountsMore old new (lines_text old.form (system_of old.inputs) (lines_of more) ++ stop_text (system_of old.inputs) new.stage)

-- Where a session that goes on comes to, at most to this tick. It pauses after the first event with a line of a break, and after no
-- other: the break is the one with the least number.
abbrev pub Reaches : (to : ℕ) → (old new : Talk) → Past → List Taken → Until → Type 0
Reaches to old new p more until.At =
    (new.stage ≡ stage.Running) × (new.reached ≡ to) × NoneBelow (now old.inputs (record p { taken = p.taken ++ more })).agenda to × PassBreaks (system_of old.inputs) old.breaks more
Reaches to old new p more (until.Break number tick) =
    (new.stage ≡ stage.Running) × (before : List Taken) × (t : Taken) × (more ≡ before ++ t ∷ []) × (t.key.tick ≡ tick) × (tick < to) × (new.reached ≡ tick + 1)
    × PassBreaks (system_of old.inputs) old.breaks before × IsHitBy (system_of old.inputs) old.breaks t.effect.lines (Some number)
Reaches to old new p more (until.Stop m) =
    (new.stage ≡ stage.Stopped m) × (m.tick < to) × (new.reached ≡ m.tick + 1)
    × ((before : List Taken) × (t : Taken) × (more ≡ before ++ t ∷ []) × PassBreaks (system_of old.inputs) old.breaks before)
Reaches to old new p more until.Stopped = ⊥
Reaches to old new p more (until.Below reached) = ⊥

-- Nothing is written, and nothing changes.
abbrev pub Stays : (old new : Talk) → (written now : Option (List ℕ)) → Type 0
Stays old new written now = (new ≡ old) × (now ≡ written)

-- nothing, or the last line of what ends with these takings at a horizon
abbrev pub IsLastAfter : (old : Talk) → (more : List Taken) → (end : List ℕ) → Type 0
IsLastAfter old more end = (end ≡ []) ⊎ ((horizon : ℕ) × (end ≡ last_line (system_of old.inputs) (ending_of horizon more)))

-- What the writer got, after what was told before, is some of the bytes that the next takings have, with the last line after
-- them, if they end so. Its count is that of the call.
abbrev pub IsBeginning : (old : Talk) → Past → SessionFault → (written now : Option (List ℕ)) → Type 0
IsBeginning old p fault.Memory written now =
    (more : List Taken) × Chain (system_of old.inputs) old.steps (now_of old p) more × Appends written now (lines_text old.form (system_of old.inputs) (lines_of more))
IsBeginning old p (fault.Write n) written now =
    (more : List Taken) × (end : List ℕ) × Chain (system_of old.inputs) old.steps (now_of old p) more × IsLastAfter old more end
    × IsPartWritten written now (lines_text old.form (system_of old.inputs) (lines_of more) ++ end) n

-- The writer got some first bytes of what there would have been, of this length, or of whole lines where memory ran out.
-- The session is then over, and has the fault. A call fails only while the session goes on.
pub record HasFailed (old new : Talk) (e : SessionFault) (written now : Option (List ℕ)) : Type 0 where
  pub running : old.stage ≡ stage.Running
  pub failed : new.stage ≡ stage.Failed e
  pub of : IsOf old new
  pub counted : new.written ≡ old.written
  pub beginning : (p : Past) → StandsBy old p → IsBeginning old p e written now

abbrev pub GoesUntil : (to : ℕ) → (old new : Talk) → (written now : Option (List ℕ)) → Result Until SessionFault → Type 0
GoesUntil to old new written now (Ok until.Stopped) = (old.stage ≡ stage.Running → ⊥) × Stays old new written now
GoesUntil to old new written now (Ok (until.Below n)) = (n ≡ old.reached) × (to < n) × Stays old new written now
GoesUntil to old new written now (Ok u) = (p : Past) → StandsBy old p → (more : List Taken) × HasTaken old new p more written now × Reaches to old new p more u
GoesUntil to old new written now (Err e) = HasFailed old new e written now

-- ---- The end

-- With the horizon at this tick, what was written before and now is the whole trace of the inputs with all rows: the headline,
-- with its texts as they are.
abbrev pub IsWhole : (to : ℕ) → (old new : Talk) → (written now : Option (List ℕ)) → Ending → Type 0
IsWhole to old new written now end =
    (p : Past) → StandsBy old p
    → (bytes : List ℕ) × Appends written now bytes × CountsMore old new bytes × IsTrace (with_rows old.inputs p.given) old.form to old.steps (told old p ++ bytes) end

-- What a session has written is a beginning of the trace of the inputs with all rows, with some horizon.
pub record IsFront (t : Talk) (p : Past) (bytes : List ℕ) : Type 0 where
  pub horizon : ℕ
  pub end : Ending
  pub rest : List ℕ
  pub trace : IsTrace (with_rows t.inputs p.given) t.form horizon t.steps (bytes ++ rest) end

-- Law, over the definitions alone: wherever a session stands, what it told is a beginning, also with rows that are given
-- later (these come after all that was taken, so `rows_may_follow` holds of each).
abbrev pub ToldIsFront : Type 0
ToldIsFront = (t : Talk) (p : Past) → AreGood t.inputs → StandsBy t p → IsFront t p (told t p)

-- ---- One event

-- The least event was taken, whatever breaks there are; or nothing waits below the greatest tick, and nothing is taken or written.
abbrev pub TakesOne : (old new : Talk) → (written now : Option (List ℕ)) → Result Next SessionFault → Type 0
TakesOne old new written now (Ok next.Nothing) =
    (old.stage ≡ stage.Running) × (new.stage ≡ stage.Running) × (new.reached ≡ old.reached)
    × ((p : Past) → StandsBy old p → HasTaken old new p [] written now × NoneBelow (now_of old p).agenda (10 ^ 12))
TakesOne old new written now (Ok (next.Took tick)) =
    (new.stage ≡ stage.Running) × (new.reached ≡ tick + 1)
    × ((p : Past) → StandsBy old p → (t : Taken) × HasTaken old new p (t ∷ []) written now × (t.key.tick ≡ tick))
TakesOne old new written now (Ok (next.Stop m)) =
    (new.stage ≡ stage.Stopped m) × (new.reached ≡ m.tick + 1) × ((p : Past) → StandsBy old p → (t : Taken) × HasTaken old new p (t ∷ []) written now)
TakesOne old new written now (Ok next.Stopped) = (old.stage ≡ stage.Running → ⊥) × Stays old new written now
TakesOne old new written now (Err e) = HasFailed old new e written now

-- ---- The end, and what waits

-- With an end the trace is whole. Below the least tick nothing changes. An error is that of this call, or of the one that has
-- failed before; then nothing changes.
abbrev pub EndsAt : (to : ℕ) → (old new : Talk) → (written now : Option (List ℕ)) → Result End SessionFault → Type 0
EndsAt to old new written now (Ok (end.Below n)) = (n ≡ old.reached) × (to < n) × Stays old new written now
EndsAt to old new written now (Ok (end.Over o)) = IsWhole to old new written now (outcome.ending_of o)
EndsAt to old new written now (Err e) = HasFailed old new e written now ⊎ ((old.stage ≡ stage.Failed e) × Stays old new written now)

-- The least event that waits below the greatest tick, by its tick and its resource.
pub record IsLeastOf (c : Config) (tick resource : ℕ) : Type 0 where
  pub key : Key
  pub waits : IsSome (c.agenda key)
  pub least : (j : Key) → Precedes j key → c.agenda j ≡ None
  pub tick_is : key.tick ≡ tick
  pub resource_is : key.resource ≡ resource

abbrev pub Peeks : Talk → Option (ℕ × ℕ) → Type 0
Peeks t None = t.stage ≡ stage.Running → (p : Past) → StandsBy t p → NoneBelow (now_of t p).agenda (10 ^ 12)
Peeks t (Some f) = (t.stage ≡ stage.Running) × (f.0 < 10 ^ 12) × ((p : Past) → StandsBy t p → IsLeastOf (now_of t p) f.0 f.1)
