-- The report of rules at traces, in the form of the Test Anything Protocol, version 14 (docs/FORMATS.md, "The report (TAP)"; this project's own).
use Rattle.std.specs.Prelude.{ℕ, ◌+◌, ◌*◌, Bool, true, false, not, ◌&&◌, ◌||◌, ◌==◌, if◌then◌else◌, nat_le, List, [], ◌∷◌, ◌++◌, Option, Some, None, codes, decimal}
use Rattle.std.specs.List.{list_all}
use Rattle.fb_expect.specs.Shown.{shown}
use Rattle.fb_expect.specs.Words.{Text}
use Rattle.fb_expect.specs.declared.ending.End.{End}
use Rattle.fb_expect.specs.declared.ending.End.TheVariants.{Horizon, Stop, Cut}
use Rattle.fb_expect.specs.declared.judging.Judged.{Judged}
use Rattle.fb_expect.specs.declared.pattern.Pattern.{Pattern}
use Rattle.fb_expect.specs.declared.rule.Need.{Need}
use Rattle.fb_expect.specs.declared.rule.Need.TheVariants.{See, Not, Before, Never, Count}
use Rattle.fb_expect.specs.declared.rule.Rule.{Rule}
use Rattle.fb_expect.specs.declared.sight.Sight.{Sight}
use Rattle.fb_expect.specs.declared.sight.Sight.TheVariants.{Nothing, Port, Named, Fitting, Met}
use Rattle.fb_expect.specs.declared.sight.Sights.{Sights}
use Rattle.fb_expect.specs.declared.tap.Of.{Of}
use Rattle.fb_expect.specs.declared.verdict.Breach.{Breach}
use Rattle.fb_expect.specs.declared.verdict.Fault.{Fault}
use Rattle.fb_expect.specs.declared.verdict.Fault.TheVariants.{Unanswered, Answered, Unprepared, Forbidden, Fewer, More}
use Rattle.fb_expect.specs.declared.verdict.Verdict.{Verdict}
use Rattle.fb_expect.specs.declared.verdict.Verdict.TheVariants.{Holds, Broken, Undecided}

-- ---- Texts

-- One text after the other
abbrev pub joined : List Text → Text
joined [] = []
joined (t ∷ ts) = t ++ joined ts

-- a byte, with a backslash before a backslash and before a mark
abbrev pub escape_byte : (mark : ℕ) → ℕ → Text
escape_byte mark b = if b == 92 || b == mark then 92 ∷ b ∷ [] else b ∷ []

abbrev pub escape_bytes : (mark : ℕ) → Text → Text
escape_bytes mark [] = []
escape_bytes mark (b ∷ z) = escape_byte mark b ++ escape_bytes mark z

-- the same of a text as it is shown
abbrev pub escape : (mark : ℕ) → Text → Text
escape mark z = escape_bytes mark (shown z)

-- ---- Blocks

-- a line of a block: its key, and a text in quotes or a number
unfoldable pub quoted_line : (key value : Text) → Text
quoted_line key value = joined (codes "  " ∷ key ∷ codes ": \"" ∷ escape 34 value ∷ codes "\"\n" ∷ [])

unfoldable pub numbered : (key : Text) → ℕ → Text
numbered key n = joined (codes "  " ∷ key ∷ codes ": " ∷ decimal n ∷ codes "\n" ∷ [])

-- what is said of a fault
abbrev pub message_of : Fault → Text
message_of Unanswered = codes "the expected event does not follow in time"
message_of Answered = codes "this follows too soon"
message_of Unprepared = codes "the expected event does not come before in time"
message_of Forbidden = codes "this event is not allowed here"
message_of Fewer = codes "too few events up to this line"
message_of More = codes "too many with this"

-- what broke a rule, in which trace, and at which line and tick
unfoldable pub breach_block : (trace : Text) → Breach → Text
breach_block trace b =
    joined (codes "  ---\n" ∷ quoted_line (codes "message") (message_of b.fault) ∷ quoted_line (codes "trace") trace ∷ numbered (codes "line") b.line
    ∷ numbered (codes "tick") b.tick ∷ codes "  ...\n" ∷ [])

-- a rule that has to be decided, and is not
unfoldable pub undecided_block : (trace : Text) → Text
undecided_block trace =
    joined (codes "  ---\n" ∷ quoted_line (codes "message") (codes "undecided: the trace ends before that") ∷ quoted_line (codes "trace") trace ∷ codes "  ...\n" ∷ [])

-- a rule that nothing decides
unfoldable pub never_block : (trace : Text) → Text
never_block trace =
    joined (codes "  ---\n" ∷ quoted_line (codes "message") (codes "never applied: no line of the trace decides this rule") ∷ quoted_line (codes "trace") trace ∷ codes "  ...\n" ∷ [])

-- a rule that must hold to the horizon, which the trace does not reach
unfoldable pub stopped_block : (trace : Text) → Text
stopped_block trace =
    joined (codes "  ---\n" ∷ quoted_line (codes "message") (codes "stopped: the rule holds up to the stop that ends the trace") ∷ quoted_line (codes "trace") trace ∷ codes "  ...\n" ∷ [])

-- ---- Points

-- whether a trace ends with a stop
abbrev pub is_stopped : End → Bool
is_stopped (Horizon h) = false
is_stopped (Stop t) = true
is_stopped (Cut t) = false

-- whether a verdict that was decided so often is well
abbrev pub is_well_by : (strict : Bool) → Verdict → (decided : ℕ) → (stopped : Bool) → Bool
is_well_by strict Holds decided stopped = not (strict && ((decided == 0) || stopped))
is_well_by strict Undecided decided stopped = not strict
is_well_by strict (Broken b) decided stopped = false

abbrev pub is_well : (strict : Bool) → Judged → Bool
is_well strict j = is_well_by strict j.verdict j.decided (is_stopped j.end)

abbrev pub are_well : (strict : Bool) → List Judged → Bool
are_well strict js = list_all (is_well strict) js

-- the name of the trace, where points have it
unfoldable pub trace_mark : Of → Text
trace_mark of = if of.is_named then joined (codes " (" ∷ escape 35 of.trace.now ∷ codes ")" ∷ []) else []

-- what a point begins with
abbrev pub first_word : (well : Bool) → Text
first_word well = if well then codes "ok " else codes "not ok "

-- whether it is well, the number, the rule and the trace
unfoldable pub head : (well : Bool) → (number : ℕ) → Rule → Of → Text
head well number r of =
    joined (first_word well ∷ decimal number ∷ codes " - " ∷ escape 35 r.name ∷ trace_mark of ∷ [])

-- the end of the line of a rule that holds, and the block after it
abbrev pub tail_of_held : (strict is_applied stopped : Bool) → (trace : Text) → Text
tail_of_held true true true trace = joined (codes "\n" ∷ stopped_block trace ∷ [])
tail_of_held true true false trace = codes "\n"
tail_of_held false true stopped trace = codes "\n"
tail_of_held true false stopped trace = joined (codes "\n" ∷ never_block trace ∷ [])
tail_of_held false false stopped trace = codes " # SKIP never applied\n"

-- the end of the line, and the block after it
abbrev pub tail : (strict : Bool) → (trace : Text) → Verdict → (decided : ℕ) → (stopped : Bool) → Text
tail strict trace Holds decided stopped = tail_of_held strict (not (decided == 0)) stopped trace
tail strict trace (Broken b) decided stopped = joined (codes "\n" ∷ breach_block trace b ∷ [])
tail true trace Undecided decided stopped = joined (codes "\n" ∷ undecided_block trace ∷ [])
tail false trace Undecided decided stopped = codes " # SKIP undecided\n"

-- ---- How often

abbrev pub times : ℕ → Text
times n = if n == 1 then codes " time" else codes " times"

-- whether a P of the rule may wait for the end of the trace
abbrev pub can_wait : Need → Bool
can_wait (See within) = true
can_wait (Not within) = true
can_wait (Before within) = false
can_wait (Never from_start) = false
can_wait (Count least most every) = false

-- whether P's are left undecided: the last one is, where such a rule is undecided
abbrev pub is_last_open : Need → Verdict → Bool
is_last_open need Undecided = can_wait need
is_last_open need Holds = false
is_last_open need (Broken b) = false

-- what is said of the P's that are left undecided: they are the last ones, or all
abbrev pub what_is_open : (is_applied : Bool) → Text
what_is_open true = codes ", the last is undecided\n"
what_is_open false = codes ", none is decided\n"

abbrev pub how_often_by : (is_open is_applied : Bool) → ℕ → Text
how_often_by true is_applied n = joined (codes "# applied " ∷ decimal n ∷ times n ∷ what_is_open is_applied ∷ [])
how_often_by false is_applied n = joined (codes "# decided " ∷ decimal n ∷ times n ∷ codes "\n" ∷ [])

-- how often the rule was decided, as a comment
abbrev pub how_often : Need → Judged → Text
how_often need j = how_often_by (is_last_open need j.verdict) j.is_applied j.decided

-- ---- How the trace ends

-- what is said of a stop
unfoldable pub stop_words : (tick : ℕ) → Text
stop_words t = joined (codes "the trace ended in a stop at tick " ∷ decimal t ∷ [])

-- the same, as a comment
abbrev pub stop_comment : End → Text
stop_comment (Horizon h) = []
stop_comment (Stop t) = joined (codes "# " ∷ stop_words t ∷ codes "\n" ∷ [])
stop_comment (Cut t) = []

-- ---- What the trace does not have

-- the words for what the trace does not have of a pattern
abbrev pub lack_of : Sight → Option Text
lack_of Nothing = Some (codes "# no line of the trace is of: ")
lack_of Port = Some (codes "# no such line of the trace has the variables of: ")
lack_of Named = Some (codes "# no such line of the trace has values of these kinds: ")
lack_of Fitting = Some (codes "# no such line of the trace meets: ")
lack_of Met = None

abbrev pub lack : (words pattern : Text) → Text
lack words pattern = joined (words ∷ pattern ∷ codes "\n" ∷ [])

abbrev pub comment_by : Option Text → (pattern : Text) → Text
comment_by (Some words) text = lack words text
comment_by None text = []

-- what the trace does not have of a pattern
abbrev pub comment : Pattern → Sight → Text
comment p s = comment_by (lack_of s) p.text

abbrev pub may_comment : Option Pattern → Sight → Text
may_comment None s = []
may_comment (Some p) s = comment p s

-- what the trace does not have of the patterns of a rule
abbrev pub comments : Rule → Sights → Text
comments r s = joined (comment r.first s.first ∷ may_comment r.second s.second ∷ may_comment r.third s.third ∷ [])

-- how often the rule was decided, and a stop
abbrev pub facts : Need → Judged → Text
facts need j = joined (how_often need j ∷ stop_comment j.end ∷ [])

-- The point of a rule at a trace.
unfoldable pub point : (strict : Bool) → Of → (number : ℕ) → Rule → Judged → Text
point strict of number r j =
    joined (head (is_well strict j) number r of ∷ tail strict of.trace.now j.verdict j.decided (is_stopped j.end) ∷ facts r.need j ∷ comment r.first j.sights.first
    ∷ may_comment r.second j.sights.second ∷ may_comment r.third j.sights.third ∷ [])

-- The points of all rules at a trace, numbered after those before.
abbrev pub points : (strict : Bool) → Of → (before : ℕ) → List Rule → List Judged → Text
points strict of before [] js = []
points strict of before (r ∷ rs) [] = []
points strict of before (r ∷ rs) (j ∷ js) = point strict of (before + 1) r j ++ points strict of (before + 1) rs js

-- how many points there are: one for each trace and rule, and with this one more for each rule
abbrev pub all_points : (rules traces : ℕ) → (is_applied : Bool) → ℕ
all_points rules traces is_applied = if is_applied then rules * traces + rules else rules * traces

-- The version, and how many points follow.
unfoldable pub plan : ℕ → Text
plan n = joined (codes "TAP version 14\n1.." ∷ decimal n ∷ codes "\n" ∷ [])
