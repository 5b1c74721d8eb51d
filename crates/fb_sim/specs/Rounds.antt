-- A run with workers, round after round (this project's profile).
use Rattle.std.specs.Prelude.{◌≡◌, ◌⊎◌, ◌+◌, ◌<◌, ◌^◌, ℕ, List, ◌++◌, map, length, All, Option, Result, Ok, Err, IfSome}
use Rattle.std.specs.Global.{Vec}
use Rattle.std.specs.Io.KnownBytes.{Appends}
use Rattle.fb_types.specs.Headline.{Inputs, system_of, stimuli_of}
use Rattle.fb_types.specs.Simulation.{Taken, IsSimulation, Ending, AtHorizon, AtStop, ending_of, lines_of}
use Rattle.fb_types.specs.Numbers.{line_of}
use Rattle.fb_types.specs.States.{Line}
use Rattle.fb_types.specs.Text.{lines_text}
use Rattle.fb_types.specs.Cores.{CoreStep, IsFloor, opening_core}
use Rattle.fb_types.specs.Cores as model_cores
use Rattle.fb_types.specs.Parts.{machine, count_of}
use Rattle.fb_types.specs.Schedules.{IsAtHorizon, IsLeastStop, IsSchedule}
use Rattle.fb_types.specs.declared.run.Form.{Form}
use Rattle.fb_types.specs.declared.run.Line as run
use Rattle.fb_types.specs.declared.value.Reason.{Reason}
use Rattle.fb_system.specs.Lines.{BelongsTo}
use Rattle.fb_trace.specs.Merging.{Lists, flat}
use Rattle.fb_trace.specs.Progress.{IsPartWritten, bounded}
use Rattle.fb_trace.specs.declared.last.Outcome.{Outcome}
use Rattle.fb_trace.specs.declared.last.Outcome.TheVariants.{End, Stop}
use Rattle.fb_laws.specs.Finality.{HasKept, core_of}
use Rattle.fb_laws.specs.Phases.{Loan, IsPhase}
use Rattle.fb_window.specs.Bounding.{AreGreatest}
use Rattle.fb_window.specs.Settling.{AreLoans, IsMerged, IsUnderWay, after_phase, lists_of}
use Rattle.fb_window.specs.Standing.{IsAt}
use Rattle.fb_window.specs.declared.cores.CoreState.{CoreState}
use Rattle.fb_window.specs.declared.cores.Settled.{Settled}
use Rattle.fb_window.specs.declared.cores.Settled.TheVariants as settled
use Rattle.fb_sim.specs.Given.{Given}
use Rattle.fb_sim.specs.Serial.{AreWithin, AreTrace, IsRightly, WritesPart}
use Rattle.fb_sim.specs.declared.options.Options.{Options}
use Rattle.fb_sim.specs.declared.outcome.RunError.{RunError}
use Rattle.fb_sim.specs.declared.outcome.RunError.TheVariants.{Refused, Memory, Write, BadOption, Failed}
use Rattle.fb_sim.specs.declared.rounds.all_rounds.Finish.{Finish}
use Rattle.fb_sim.specs.declared.rounds.all_rounds.Finish.TheVariants.{AtEnd, AtMark}
use Rattle.fb_sim.specs.Texts.{AreTextsOf}
use Rattle.fb_sim.specs.declared.rounds.unwritten_lines.UnwrittenLines.{UnwrittenLines}
use Rattle.fb_sim.specs.declared.progress.Round.{Round}
use Rattle.fb_sim.specs.declared.progress.Round.TheVariants.{Going, Ended, Stopped}
use Rattle.fb_sim.specs.declared.rounds.tally.Tally.{Tally}
use Rattle.fb_sim.specs.declared.rounds.tally.Written.{Written}
use Rattle.fb_sim.specs.declared.rounds.first_rounds.FirstRounds.{FirstRounds}
use Rattle.fb_sim.specs.declared.rounds.first_rounds.FirstRounds.TheVariants as legs

-- ---- What was handed out

-- The lines are the first ones of the simulation.
pub record Begin (i : Inputs) (limit horizon : ℕ) (ls : List Line) : Type 0 where
  pub takings : List Taken
  pub simulation : IsSimulation (system_of i) (stimuli_of i) horizon limit takings
  pub rest : List Line
  pub split : lines_of takings ≡ ls ++ rest

-- The lines are all of the simulation, and it ends so.
pub record AreAll (i : Inputs) (limit horizon : ℕ) (ls : List Line) (end : Ending) : Type 0 where
  pub takings : List Taken
  pub simulation : IsSimulation (system_of i) (stimuli_of i) horizon limit takings
  pub lines : ls ≡ lines_of takings
  pub ending : end ≡ ending_of horizon takings

-- ---- A round

-- A core of these inputs and this limit, all of whose lines belong to the system.
pub record IsCoreOf (i : Inputs) (limit : ℕ) (core : CoreState) : Type 0 where
  pub inputs : core.system ≡ i
  pub steps : core.steps ≡ limit
  pub kept : All (λ p. All (BelongsTo (system_of i)) p.items) core.pending.items

-- Some steps, each in its turn, led to the core, and these lines were handed out of it.
pub record HasCome (i : Inputs) (limit horizon : ℕ) (core : CoreState) (ls : List Line) : Type 0 where
  pub of : IsCoreOf i limit core
  pub steps : List (CoreStep (machine (system_of i) limit))
  pub way : IsUnderWay i limit horizon steps core.resources.items (lists_of core.pending.items) ls

-- From c to d the least tick of all events has risen, and it was before the horizon: each tick that no event of c precedes is below the
-- horizon, and no event of d precedes the tick after it.
abbrev pub Rises : (i : Inputs) (limit horizon : ℕ) (c d : model_cores.Core (machine (system_of i) limit)) → Type 0
Rises i limit horizon c d = (m : ℕ) → IsFloor (machine (system_of i) limit) c m → (m < horizon) × IsFloor (machine (system_of i) limit) d (m + 1)

-- These lines were handed out after a round of the core c, and it says how far the run is. A run that goes on has come on: so it ends.
abbrev pub IsAfter : (i : Inputs) (limit horizon : ℕ) (c : model_cores.Core (machine (system_of i) limit)) (ls : List Line) → Round → Type 0
IsAfter i limit horizon c ls (Going core) =
    (come : HasCome i limit horizon core ls)
    × (IsAtHorizon (machine (system_of i) limit) (count_of (system_of i)) horizon (core_of i limit come.steps) → ⊥)
    × ((s : ℕ) (reason : Reason) → IsLeastStop (machine (system_of i) limit) (count_of (system_of i)) (core_of i limit come.steps) s reason → ⊥)
    × Rises i limit horizon c (core_of i limit come.steps)
IsAfter i limit horizon c ls (Ended core) =
    (come : HasCome i limit horizon core ls)
    × IsAtHorizon (machine (system_of i) limit) (count_of (system_of i)) horizon (core_of i limit come.steps)
    × AreAll i limit horizon ls (AtHorizon horizon)
IsAfter i limit horizon c ls (Stopped mark) = (mark.resource < count_of (system_of i)) × AreAll i limit horizon ls (AtStop mark.tick mark.resource mark.reason)

abbrev pub text_of : Inputs → Form → List Line → List ℕ
text_of i form ls = lines_text form (system_of i) ls

-- a writer failed, and got the first bytes of a text
abbrev pub WritesPartOf : (old new : Option (List ℕ)) → (text : List ℕ) → RunError → Type 0
WritesPartOf old new text (Write n) = IsPartWritten old new text n
WritesPartOf old new text (Refused r) = ⊥
WritesPartOf old new text Memory = ⊥
WritesPartOf old new text BadOption = ⊥
WritesPartOf old new text Failed = ⊥

-- the error of a later call, after this many bytes
abbrev pub after_bytes : (before : ℕ) → RunError → RunError
after_bytes n (Write m) = Write (bounded (n + m))
after_bytes n (Refused r) = Refused r
after_bytes n Memory = Memory
after_bytes n BadOption = BadOption
after_bytes n Failed = Failed

-- a writer failed and got the first bytes of a text, after this many bytes that were written before
abbrev pub IsShort : (old new : Option (List ℕ)) → (text : List ℕ) → (before : ℕ) → RunError → Type 0
IsShort old new text before (Write n) = (m : ℕ) × IsPartWritten old new text m × (n ≡ bounded (before + m))
IsShort old new text before (Refused r) = ⊥
IsShort old new text before Memory = ⊥
IsShort old new text before BadOption = ⊥
IsShort old new text before Failed = ⊥

-- The steps of one phase after the steps es: each resource that has not stopped has left once, with its greatest legal bound at the cap, and has come back, whichever worker drew it.
pub record IsPhaseAt (i : Inputs) (limit horizon cap : ℕ) (es fs : List (CoreStep (machine (system_of i) limit))) : Type 0 where
  pub bounds : List ℕ
  pub greatest : AreGreatest (system_of i) limit horizon cap (core_of i limit es) bounds
  pub workers : ℕ → ℕ
  pub loans : ℕ → Option (Loan (machine (system_of i) limit))
  pub are_loans : AreLoans i limit horizon (core_of i limit es) bounds workers loans
  pub phase : IsPhase (machine (system_of i) limit) loans fs

-- The core of the round is where these steps have led; or they have led to its stop.
abbrev pub IsBy : (i : Inputs) (limit horizon : ℕ) (c : model_cores.Core (machine (system_of i) limit)) (ls : List Line) (ds : List (CoreStep (machine (system_of i) limit))) (round : Round)
    → IsAfter i limit horizon c ls round → Type 0
IsBy i limit horizon c ls ds (Going core) after = after.0.steps ≡ ds
IsBy i limit horizon c ls ds (Ended core) after = after.0.steps ≡ ds
IsBy i limit horizon c ls ds (Stopped mark) after =
    IsLeastStop (machine (system_of i) limit) (count_of (system_of i)) (core_of i limit ds) mark.resource mark.reason × ((core_of i limit ds mark.resource).clock ≡ mark.tick)

-- One round after the steps es: one phase and one exchange after it, and no other step. So these lines are handed out, and it says how far the run is.
pub record IsOneRound (i : Inputs) (limit horizon cap : ℕ) (es : List (CoreStep (machine (system_of i) limit))) (ls : List Line) (round : Round) : Type 0 where
  pub steps : List (CoreStep (machine (system_of i) limit))
  pub phase : IsPhaseAt i limit horizon cap es steps
  pub after : IsAfter i limit horizon (core_of i limit es) ls round
  pub by : IsBy i limit horizon (core_of i limit es) ls (after_phase i limit es steps) round after

-- Where these lines were handed out of the core after the steps es, one round with windows of 1,024 ticks at most hands out the next ones, and the writer gets their text, or a part of it.
abbrev pub Rounds : (i : Inputs) (o : Options) (es : List (CoreStep (machine (system_of i) o.steps))) (ls : List Line) → (old new : Option (List ℕ)) → Result Round RunError → Type 0
Rounds i o es ls old new (Ok round) = (out : List Line) × IsOneRound i o.steps o.horizon 1024 es (ls ++ out) round × Appends old new (text_of i o.form out)
Rounds i o es ls old new (Err (Write n)) =
    (out : List Line) × ((round : Round) × IsOneRound i o.steps o.horizon 1024 es (ls ++ out) round) × IsPartWritten old new (text_of i o.form out) n
Rounds i o es ls old new (Err Memory) = new ≡ old
Rounds i o es ls old new (Err (Refused r)) = ⊥
Rounds i o es ls old new (Err BadOption) = ⊥
Rounds i o es ls old new (Err Failed) = ⊥

-- A round of a run failed, out of which these lines were handed: the writer got a part of the next ones, or nothing.
abbrev pub FailsRound : (i : Inputs) (o : Options) (ls : List Line) → (old new : Option (List ℕ)) → RunError → Type 0
FailsRound i o ls old new (Write n) = (out : List Line) × Begin i o.steps o.horizon (ls ++ out) × IsPartWritten old new (text_of i o.form out) n
FailsRound i o ls old new Memory = new ≡ old
FailsRound i o ls old new (Refused r) = ⊥
FailsRound i o ls old new BadOption = ⊥
FailsRound i o ls old new Failed = ⊥

-- Lines of the system that are unwritten, and their count.
pub record AreUnwrittenOf (i : Inputs) (unwritten : UnwrittenLines) : Type 0 where
  pub belong : All (λ p. All (BelongsTo (system_of i)) p.items) unwritten.lists.items
  pub counted : unwritten.count ≡ length (flat unwritten.lists.items)
  pub few : unwritten.count < 10 ^ 12
  pub texts : IfSome unwritten.texts (AreTextsOf i unwritten.lists.items)

-- Some steps, each in its turn, led to the core. These lines were handed out of it, and then those that are unwritten, whichever list in the order of the trace they become.
pub record HoldsTo (i : Inputs) (limit horizon : ℕ) (core : CoreState) (unwritten : UnwrittenLines) (ls : List Line) : Type 0 where
  pub of : AreUnwrittenOf i unwritten
  pub come : (all : Vec run.Line) → IsMerged unwritten.lists.items all.items → HasCome i limit horizon core (ls ++ map (line_of (system_of i)) all.items)

-- Where these lines were written, and others are unwritten, some turns of single resources and a round write the unwritten ones: the writer gets their text, of this many bytes and this many lines. The round leaves the next ones unwritten.
abbrev pub RoundsWithCounts : (i : Inputs) (o : Options) (core : CoreState) (unwritten : UnwrittenLines) (ls : List Line) → HoldsTo i o.steps o.horizon core unwritten ls → (old new : Option (List ℕ)) → Result (Round × UnwrittenLines × Tally) RunError → Type 0
RoundsWithCounts i o core unwritten ls holds old new (Ok (round, next, tally)) =
    (all : Vec run.Line)
    × (merged : IsMerged unwritten.lists.items all.items)
    × Appends old new (text_of i o.form (map (line_of (system_of i)) all.items))
    × (tally.bytes ≡ bounded (length (text_of i o.form (map (line_of (system_of i)) all.items))))
    × (tally.final_lines ≡ length all.items)
    × AreUnwrittenOf i next
    × ((later : Vec run.Line) → IsMerged next.lists.items later.items
    → IsAfter i o.steps o.horizon (core_of i o.steps (holds.come all merged).steps) ((ls ++ map (line_of (system_of i)) all.items) ++ map (line_of (system_of i)) later.items) round)
RoundsWithCounts i o core unwritten ls holds old new (Err e) = FailsRound i o ls old new e

-- ---- A run

-- how a run ends, all lines of which are written, but no last line
abbrev pub IsFinished : (i : Inputs) (limit horizon : ℕ) → Finish → (ls : List Line) → Type 0
IsFinished i limit horizon (AtEnd core) ls =
    (come : HasCome i limit horizon core ls)
    × IsAtHorizon (machine (system_of i) limit) (count_of (system_of i)) horizon (core_of i limit come.steps)
    × AreAll i limit horizon ls (AtHorizon horizon)
IsFinished i limit horizon (AtMark mark) ls = (mark.resource < count_of (system_of i)) × AreAll i limit horizon ls (AtStop mark.tick mark.resource mark.reason)

-- how a run to a horizon has ended
abbrev pub outcome_at : (horizon : ℕ) → Finish → Outcome
outcome_at horizon (AtEnd core) = End horizon
outcome_at horizon (AtMark mark) = Stop mark

-- From a core out of which these lines were handed, the rest is run and written.
abbrev pub RunsOn : Inputs → Options → (ls : List Line) → (old new : Option (List ℕ)) → Result (Finish × Written) RunError → Type 0
RunsOn i o ls old new (Ok (finish, w)) =
    (out : List Line)
    × IsFinished i o.steps o.horizon finish (ls ++ out)
    × Appends old new (text_of i o.form out)
    × (w.bytes ≡ bounded (length (text_of i o.form out)))
    × (w.lines ≡ bounded (length out))
RunsOn i o ls old new (Err (Write n)) = (out : List Line) × Begin i o.steps o.horizon (ls ++ out) × IsPartWritten old new (text_of i o.form out) n
RunsOn i o ls old new (Err Memory) = (out : List Line) × Begin i o.steps o.horizon (ls ++ out) × Appends old new (text_of i o.form out)
RunsOn i o ls old new (Err (Refused r)) = ⊥
RunsOn i o ls old new (Err BadOption) = ⊥
RunsOn i o ls old new (Err Failed) = ⊥

-- These lines were handed out of the core, from the opening on; this is their text, and this many bytes and lines.
pub record HasBegun (i : Inputs) (o : Options) (core : CoreState) (w : Written) (text : List ℕ) : Type 0 where
  pub out : List Line
  pub come : HasCome i o.steps o.horizon core out
  pub is : text ≡ text_of i o.form out
  pub counted : w.bytes ≡ bounded (length text)
  pub lined : w.lines ≡ bounded (length out)

-- All lines were handed out; this is their text, and this many bytes and lines.
pub record HasRunOut (i : Inputs) (o : Options) (finish : Finish) (w : Written) (text : List ℕ) : Type 0 where
  pub out : List Line
  pub finished : IsFinished i o.steps o.horizon finish out
  pub is : text ≡ text_of i o.form out
  pub counted : w.bytes ≡ bounded (length text)
  pub lined : w.lines ≡ bounded (length out)

-- where the first rounds have led, with the text of their lines
abbrev pub AreFirstRounds : Inputs → Options → FirstRounds → Written → (text : List ℕ) → Type 0
AreFirstRounds i o (legs.Going core) w text = HasBegun i o core w text
AreFirstRounds i o (legs.Over finish) w text = HasRunOut i o finish w text

-- The writer got the first bytes of the trace, of whole lines.
pub record WritesFront (given : Given) (o : Options) (old new : Option (List ℕ)) : Type 0 where
  pub bytes : List ℕ
  pub rest : List ℕ
  pub end : Ending
  pub got : Appends old new bytes
  pub trace : AreTrace given o (bytes ++ rest) end
  pub lines : List Line
  pub whole : bytes ≡ lines_text o.form (system_of trace.inputs) lines

-- What a writer has where a run with workers failed. Options out of their range come before all else. Memory may run out before a round, when the lines of those before it are written.
abbrev pub FailsRun : Given → Options → (old new : Option (List ℕ)) → RunError → Type 0
FailsRun given o old new BadOption = (AreWithin o → ⊥) × (new ≡ old)
FailsRun given o old new (Write n) = WritesPart given o old new n
FailsRun given o old new (Refused r) = AreWithin o × IsRightly given r × (new ≡ old)
FailsRun given o old new Memory = (AreWithin o × (new ≡ old)) ⊎ WritesFront given o old new
FailsRun given o old new Failed = ⊥

-- ---- Inside a round

-- The writer got all lines of the lists in the order of the trace: this many bytes and lines.
pub record HandsOut (i : Inputs) (form : Form) (lists : Lists) (old new : Option (List ℕ)) (bytes lines : ℕ) : Type 0 where
  pub all : Vec run.Line
  pub merged : IsMerged lists all.items
  pub got : Appends old new (text_of i form (map (line_of (system_of i)) all.items))
  pub counted : bytes ≡ bounded (length (text_of i form (map (line_of (system_of i)) all.items)))
  pub lined : lines ≡ length all.items

-- The writer failed, and got a part of them.
pub record HandsPart (i : Inputs) (form : Form) (lists : Lists) (old new : Option (List ℕ)) (e : RunError) : Type 0 where
  pub all : Vec run.Line
  pub merged : IsMerged lists all.items
  pub part : WritesPartOf old new (text_of i form (map (line_of (system_of i)) all.items)) e

-- Memory ran out before the first byte, or the writer failed.
abbrev pub FailsToHandOut : (i : Inputs) (form : Form) (lists : Lists) (old new : Option (List ℕ)) → RunError → Type 0
FailsToHandOut i form lists old new e = ((e ≡ Memory) × (new ≡ old)) ⊎ HandsPart i form lists old new e

-- All lines of the lists too, where this was written before.
abbrev pub HandsOutAfter : (i : Inputs) (form : Form) (lists : Lists) (old new : Option (List ℕ)) → (before after : Written) → Type 0
HandsOutAfter i form lists old new before after =
    (bytes : ℕ) × (lines : ℕ) × HandsOut i form lists old new bytes lines × (after ≡ record { bytes = bounded (before.bytes + bytes); lines = bounded (before.lines + lines) })

-- An error instead, where this many bytes were written before.
abbrev pub FailsAfter : (i : Inputs) (form : Form) (lists : Lists) (old new : Option (List ℕ)) → (before : ℕ) → RunError → Type 0
FailsAfter i form lists old new before e = (f : RunError) × FailsToHandOut i form lists old new f × (e ≡ after_bytes before f)

-- the round as it ends, and the lines to be written in it
abbrev pub round_of : Settled → Round
round_of (settled.Going core out) = Going core
round_of (settled.Ended core out) = Ended core
round_of (settled.Stopped out mark) = Stopped mark

abbrev pub lines_out : Settled → List run.Line
lines_out (settled.Going core out) = out.items
lines_out (settled.Ended core out) = out.items
lines_out (settled.Stopped out mark) = out.items

-- All are home again after a round of the core c, and these lines are the next ones.
pub record IsHomeAgain (i : Inputs) (limit horizon : ℕ) (c : model_cores.Core (machine (system_of i) limit)) (ls : List Line) (s : Settled) : Type 0 where
  pub belong : All (BelongsTo (system_of i)) (lines_out s)
  pub after : IsAfter i limit horizon c (ls ++ map (line_of (system_of i)) (lines_out s)) (round_of s)

-- All are home again after one round, and these lines are the next ones.
pub record IsHomeOnce (i : Inputs) (limit horizon cap : ℕ) (es : List (CoreStep (machine (system_of i) limit))) (ls : List Line) (s : Settled) : Type 0 where
  pub belong : All (BelongsTo (system_of i)) (lines_out s)
  pub round : IsOneRound i limit horizon cap es (ls ++ map (line_of (system_of i)) (lines_out s)) (round_of s)

-- Some steps, each in its turn, led to the core, and these lines were handed out of it: but of those that it keeps some may be final by now.
pub record IsOnItsWay (i : Inputs) (limit horizon : ℕ) (core : CoreState) (ls : List Line) : Type 0 where
  pub of : IsCoreOf i limit core
  pub steps : List (CoreStep (machine (system_of i) limit))
  pub schedule : IsSchedule (machine (system_of i) limit) horizon (opening_core (system_of i) (stimuli_of i) limit) steps
  pub at : IsAt i limit (core_of i limit steps) core.resources.items
  pub left : HasKept i limit horizon (core_of i limit steps) (lists_of core.pending.items) ls

-- So a core is after some turns of single resources from c, which hand nothing out and lower no floor.
pub record HasTakenTurns (i : Inputs) (limit horizon : ℕ) (c : model_cores.Core (machine (system_of i) limit)) (ls : List Line) (core : CoreState) : Type 0 where
  pub way : IsOnItsWay i limit horizon core ls
  pub floors : (m : ℕ) → IsFloor (machine (system_of i) limit) c m → IsFloor (machine (system_of i) limit) (core_of i limit way.steps) m
