-- What comes of rules at a trace (this project's own).
use Rattle.std.specs.Prelude.{◌≡◌, ◌⊎◌, ℕ, ◌+◌, ◌≤◌, Bool, List, [], ◌∷◌, ◌++◌, length, map, All, Option, Some, None, IfSome}
use Rattle.std.specs.Io.BufRead.{take_through}
use Rattle.std.specs.Io.KnownBytes.{Consumes}
use Rattle.fb_types.specs.declared.run.Form.{Form}
use Rattle.fb_types.specs.declared.run.Form.TheVariants.{One, Two}
use Rattle.fb_expect.specs.Events.{Event, IsLine}
use Rattle.fb_expect.specs.Deciding.{IsApplied, IsDecided, KnowsFirst, Tallies}
use Rattle.fb_expect.specs.Hits.{hits_of}
use Rattle.fb_expect.specs.Paired.{IsPairApplied, IsPairVerdict, KnowsPairs, pair_hits_of, within_of}
use Rattle.fb_expect.specs.Passing.{Covers}
use Rattle.fb_expect.specs.Rules.{IsVerdict}
use Rattle.fb_expect.specs.Sights.{sights_of}
use Rattle.fb_expect.specs.Lines.{IsOneLine}
use Rattle.fb_expect.specs.Traces.{AreBelow, AreLines, EndsAfter, IsLast, IsTrace, RiseFrom, last_tick, tick_of}
use Rattle.fb_expect.specs.Watching.{Knows}
use Rattle.fb_expect.specs.Words.{Text}
use Rattle.fb_expect.specs.declared.ending.End.{End}
use Rattle.fb_expect.specs.declared.fault.TraceError.{TraceError}
use Rattle.fb_expect.specs.declared.fault.TraceError.TheVariants as trace
use Rattle.fb_expect.specs.declared.judging.Cut.{Cut}
use Rattle.fb_expect.specs.declared.judging.Judged.{Judged}
use Rattle.fb_expect.specs.declared.judging.State.{State}
use Rattle.fb_expect.specs.declared.judging.State.TheVariants.{Alone, Paired}
use Rattle.fb_expect.specs.declared.judging.Watcher.{Watcher}
use Rattle.fb_expect.specs.declared.rule.Pairing.{Pairing}
use Rattle.fb_expect.specs.declared.rule.Rule.{Rule}
use Rattle.fb_expect.specs.declared.verdict.Verdict.{Verdict}

-- what comes of a rule that judges each line by itself, and of one that pairs lines
abbrev pub IsVerdictBy : Option Pairing → Rule → List Event → End → Verdict → Type 0
IsVerdictBy None r es end v = IsVerdict r.need (hits_of r es) end v
IsVerdictBy (Some p) r es end v = IsPairVerdict (within_of r.need) p (pair_hits_of r es) end v

-- whether such a rule, which was decided so often or has so many P's, was decided at least once
abbrev pub IsAppliedBy : Option Pairing → Rule → List Event → End → (often : ℕ) → (applied : Bool) → Type 0
IsAppliedBy None r es end often applied = IsApplied r.need (hits_of r es) end often applied
IsAppliedBy (Some p) r es end often applied = IsPairApplied r.need p (pair_hits_of r es) end often applied

-- What came of a rule at the events of a trace with this end.
pub record IsJudged (es : List Event) (end : End) (r : Rule) (j : Judged) : Type 0 where
  pub verdict : IsVerdictBy r.pairing r es end j.verdict
  pub decided : IsDecided r.need (hits_of r es) end j.decided
  pub applied : IsAppliedBy r.pairing r es end j.decided j.is_applied
  pub sights : j.sights ≡ sights_of r es
  pub ended : j.end ≡ end

-- What came of each rule, in their order.
abbrev pub AreJudged : List Event → End → List Rule → List Judged → Type 0
AreJudged es end [] [] = Unit {0}
AreJudged es end [] (j ∷ js) = ⊥
AreJudged es end (r ∷ rs) [] = ⊥
AreJudged es end (r ∷ rs) (j ∷ js) = IsJudged es end r j × AreJudged es end rs js

-- The text is a trace, and this came of each rule.
pub record Judges (cut : Cut) (text : Text) (rules : List Rule) (js : List Judged) : Type 0 where
  pub events : List Event
  pub end : End
  pub trace : IsTrace cut text events end
  pub judged : AreJudged events end rules js

-- ---- A text that is no trace

-- after these lines of a form a line may be one of this form: before the first line, of either
abbrev pub MayHave : (form : Form) → List Event → Form → Type 0
MayHave form [] f = Unit {0}
MayHave form (e ∷ es) f = f ≡ form

-- the line is that of no event that may come after these
abbrev pub HasNoEvent : (form : Form) → List Event → (line : Text) → Type 0
HasNoEvent form es line = (f : Form) (e : Event) → MayHave form es f → IsLine f line e → last_tick 0 es ≤ e.tick → ⊥

-- the line is an end that may come after these
abbrev pub HasEnd : Cut → List Event → (line : Text) → Type 0
HasEnd cut es line = (end : End) × IsLast cut line end × EndsAfter (last_tick 0 es) end

-- The line of this number is not what a trace has there: neither that of an event nor an end that may come there, or one more after the end.
pub record IsRefused (cut : Cut) (text : Text) (number : ℕ) : Type 0 where
  pub form : Form
  pub events : List Event
  pub lines : Text
  pub line : Text
  pub rest : Text
  pub are_lines : AreLines form lines events
  pub rise : RiseFrom 0 events
  pub parts : text ≡ (lines ++ line) ++ rest
  pub whole : line ≡ take_through 10 (line ++ rest)
  pub wrong :
      ((number ≡ length events + 1) × HasNoEvent form events line × (HasEnd cut events line → ⊥))
      ⊎ ((number ≡ length events + 2) × HasEnd cut events line × (rest ≡ [] → ⊥))

-- a trace is refused only for such a line
abbrev pub IsRefusal : Cut → (input : Option Text) → TraceError → Type 0
IsRefusal cut input (trace.Refused number) = IfSome input (λ text. IsRefused cut text number)
IsRefusal cut input trace.Memory = Unit {0}
IsRefusal cut input trace.Read = Unit {0}

-- why an end in the line of this number is refused: it can't come after this tick, or there is more after it
abbrev pub IsEndRefusal : (tick : ℕ) → End → (number : ℕ) → (left : Option Text) → TraceError → Type 0
IsEndRefusal tick end number left (trace.Refused n) =
    ((n ≡ number) × (EndsAfter tick end → ⊥)) ⊎ ((n ≡ number + 1) × EndsAfter tick end × IfSome left (λ rest. rest ≡ [] → ⊥))
IsEndRefusal tick end number left trace.Memory = Unit {0}
IsEndRefusal tick end number left trace.Read = Unit {0}

-- a trace that begins with this line has this form, or is no trace
abbrev pub IsFormOf : Form → (line : Text) → Type 0
IsFormOf One line = (e : Event) → IsLine Two line e → ⊥
IsFormOf Two line = (e : Event) × IsLine Two line e

-- ---- While a trace is read

abbrev pub KnowsStateBy : Option Pairing → Rule → List Event → State → Type 0
KnowsStateBy None r es (Alone w) = Knows r.need (hits_of r es) w
KnowsStateBy (Some p) r es (Paired s) = KnowsPairs (within_of r.need) p (pair_hits_of r es) s
KnowsStateBy None r es (Paired s) = ⊥
KnowsStateBy (Some p) r es (Alone w) = ⊥

-- What its state says of a rule when these events were read.
abbrev pub KnowsState : Rule → List Event → State → Type 0
KnowsState r es s = KnowsStateBy r.pairing r es s

-- The state with one more event, in this line.
abbrev pub StateOn : Rule → (number : ℕ) → Event → (old new : State) → Type 0
StateOn r number e old new =
    (es : List Event) → number ≡ length es + 1 → AreBelow es e.tick → KnowsState r es old → KnowsState r (es ++ e ∷ []) new

-- The whole trace was read, and this is the number of its last line.
abbrev pub Concludes : Rule → State → (number : ℕ) → End → Verdict → Type 0
Concludes r s number end v =
    (es : List Event) → number ≡ length es + 1 → AreBelow es (tick_of end) → KnowsState r es s → IsVerdictBy r.pairing r es end v

-- What is known of a rule when these events were read.
pub record Follows (es : List Event) (w : Watcher) : Type 0 where
  pub knows : KnowsState w.rule.now es w.state
  pub counts : Tallies w.rule.now.need (hits_of w.rule.now es) w.tally
  pub first : KnowsFirst (hits_of w.rule.now es) w.first
  pub saw : w.sights ≡ sights_of w.rule.now es
  pub covers : Covers w.ports.marks w.rule.now

-- The whole trace was read: whether the rule, which was decided so often or has so many P's, was decided at least once.
abbrev pub Applies : Watcher → (often : ℕ) → End → (applied : Bool) → Type 0
Applies w often end applied =
    (es : List Event) → AreBelow es (tick_of end) → Follows es w → IsDecided w.rule.now.need (hits_of w.rule.now es) end often
    → IsAppliedBy w.rule.now.pairing w.rule.now es end often applied

abbrev pub rules_of : List Watcher → List Rule
rules_of ws = map (λ w. w.rule.now) ws

abbrev pub AllFollow : List Event → List Watcher → Type 0
AllFollow es ws = All (Follows es) ws

-- One more event follows those so far, in this line, and no tick falls.
pub record Moves (number : ℕ) (e : Event) (old new : Watcher) : Type 0 where
  pub rule : new.rule ≡ old.rule
  pub follows : (es : List Event) → number ≡ length es + 1 → AreBelow es e.tick → Follows es old → Follows (es ++ e ∷ []) new

abbrev pub AllMove : (number : ℕ) → Event → (old new : List Watcher) → Type 0
AllMove number e old new = (es : List Event) → number ≡ length es + 1 → AreBelow es e.tick → AllFollow es old → AllFollow (es ++ e ∷ []) new

-- All events of a trace were read, and its end is in the line of this number.
pub record IsFollowed (cut : Cut) (input : Option Text) (ws : List Watcher) (number : ℕ) (end : End) : Type 0 where
  pub events : List Event
  pub counted : number ≡ length events + 1
  pub follow : AllFollow events ws
  pub below : AreBelow events (tick_of end)
  pub trace : IfSome input (λ text. IsTrace cut text events end)

-- Events were read, and then the line of this number. The tick is that of the last event.
pub record IsRead (form : Form) (input left : Option Text) (line : Text) (tick number : ℕ) (ws : List Watcher) : Type 0 where
  pub events : List Event
  pub lines : Text
  pub counted : number ≡ length events + 1
  pub follow : AllFollow events ws
  pub are_lines : AreLines form lines events
  pub rise : RiseFrom 0 events
  pub last : tick ≡ last_tick 0 events
  pub read : Consumes input left (lines ++ line)
  pub one : IsOneLine line
  pub whole : (text rest : Text) → input ≡ Some text → left ≡ Some rest → line ≡ take_through 10 (line ++ rest)
  pub first : events ≡ [] → IsFormOf form line
