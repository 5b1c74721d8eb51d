-- The report of rules at traces as JUnit XML: a suite for each trace, a case for each rule (docs/FORMATS.md, "The report (JUnit)"; this project's own).
use Rattle.std.specs.Prelude.{ℕ, ◌+◌, Bool, true, false, not, ◌&&◌, ◌||◌, ◌==◌, if◌then◌else◌, nat_le, nat_lt, List, [], ◌∷◌, ◌++◌, length, count_by, codes, decimal}
use Rattle.fb_expect.specs.Reports.{is_stopped, is_well, joined, message_of, stop_words}
use Rattle.fb_expect.specs.Shown.{shown}
use Rattle.fb_expect.specs.Words.{Text}
use Rattle.fb_expect.specs.declared.ending.End.{End}
use Rattle.fb_expect.specs.declared.ending.End.TheVariants.{Horizon, Stop, Cut}
use Rattle.fb_expect.specs.declared.judging.Judged.{Judged}
use Rattle.fb_expect.specs.declared.rule.Rule.{Rule}
use Rattle.fb_expect.specs.declared.verdict.Breach.{Breach}
use Rattle.fb_expect.specs.declared.verdict.Verdict.{Verdict}
use Rattle.fb_expect.specs.declared.verdict.Verdict.TheVariants.{Holds, Broken, Undecided}

-- ---- Texts

-- a byte in a value in quotes: the signs of XML as entities
abbrev pub xml_byte : ℕ → Text
xml_byte b =
    if b == 38 then codes "&amp;"
    else if b == 60 then codes "&lt;"
    else if b == 62 then codes "&gt;"
    else if b == 34 then codes "&quot;"
    else b ∷ []

abbrev pub xml_bytes : Text → Text
xml_bytes [] = []
xml_bytes (b ∷ z) = xml_byte b ++ xml_bytes z

-- a text as it is shown, in such a value
abbrev pub xml : Text → Text
xml z = xml_bytes (shown z)

-- ---- Cases

-- what a case has inside: nothing, that it was skipped and why, or how it failed
abbrev pub skipped : (why : Text) → Text
skipped why = joined (codes "<skipped message=\"" ∷ why ∷ codes "\"/>" ∷ [])

abbrev pub failed : (why : Text) → Text
failed why = joined (codes "<failure message=\"" ∷ why ∷ codes "\"/>" ∷ [])

unfoldable pub failed_at : Breach → Text
failed_at b =
    joined (codes "<failure message=\"" ∷ message_of b.fault ∷ codes "\">line " ∷ decimal b.line ∷ codes ", tick " ∷ decimal b.tick ∷ codes "</failure>" ∷ [])

abbrev pub or_skipped : (strict : Bool) → (why : Text) → Text
or_skipped strict why = if strict then failed why else skipped why

-- of a rule that holds
abbrev pub held_inside : (strict is_applied stopped : Bool) → Text
held_inside true true true = failed (codes "stopped")
held_inside true true false = []
held_inside false true stopped = []
held_inside strict false stopped = or_skipped strict (codes "never applied")

abbrev pub inside_of : (strict : Bool) → Verdict → (decided : ℕ) → (stopped : Bool) → Text
inside_of strict Holds decided stopped = held_inside strict (not (decided == 0)) stopped
inside_of strict Undecided decided stopped = or_skipped strict (codes "undecided")
inside_of strict (Broken b) decided stopped = failed_at b

-- what is said of a stop
abbrev pub stop_output : End → Text
stop_output (Horizon h) = []
stop_output (Stop t) = joined (codes "<system-out>" ∷ stop_words t ∷ codes "</system-out>" ∷ [])
stop_output (Cut t) = []

-- what a case has inside
unfoldable pub case_inside : (strict : Bool) → Judged → Text
case_inside strict j = joined (inside_of strict j.verdict j.decided (is_stopped j.end) ∷ stop_output j.end ∷ [])

-- what a case begins with
unfoldable pub case_front : (trace : Text) → Rule → (decided : ℕ) → Text
case_front trace r n =
    joined (codes "<testcase classname=\"" ∷ xml trace ∷ codes "\" name=\"" ∷ xml r.name ∷ codes "\" assertions=\"" ∷ decimal n ∷ codes "\">" ∷ [])

-- The case of a rule at a trace. Its assertions are how often the rule was decided.
unfoldable pub case_of : (strict : Bool) → (trace : Text) → Rule → Judged → Text
case_of strict trace r j = joined (case_front trace r j.decided ∷ case_inside strict j ∷ codes "</testcase>\n" ∷ [])

abbrev pub cases_of : (strict : Bool) → (trace : Text) → List Rule → List Judged → Text
cases_of strict trace [] js = []
cases_of strict trace (r ∷ rs) [] = []
cases_of strict trace (r ∷ rs) (j ∷ js) = case_of strict trace r j ++ cases_of strict trace rs js

-- ---- Suites

abbrev pub failures : (strict : Bool) → List Judged → ℕ
failures strict js = count_by (λ j. not (is_well strict j)) js

-- whether a rule was skipped, as a point of the other report is
abbrev pub is_skipped_by : Verdict → (decided : ℕ) → Bool
is_skipped_by Holds decided = decided == 0
is_skipped_by Undecided decided = true
is_skipped_by (Broken b) decided = false

abbrev pub is_skipped : (strict : Bool) → Judged → Bool
is_skipped strict j = not strict && is_skipped_by j.verdict j.decided

abbrev pub skips : (strict : Bool) → List Judged → ℕ
skips strict js = count_by (is_skipped strict) js

-- a number after some words
unfoldable pub with_count : (words : Text) → ℕ → Text
with_count words n = joined (words ∷ decimal n ∷ [])

-- this many cases, failures and skips
unfoldable pub counts_text : (tests failed skipped : ℕ) → Text
counts_text tests failed skipped =
    joined (with_count (codes "\" tests=\"") tests ∷ with_count (codes "\" failures=\"") failed ∷ with_count (codes "\" errors=\"0\" skipped=\"") skipped
    ∷ codes "\">\n" ∷ [])

-- what the suite of a trace begins with that has this many
unfoldable pub suite_head_by : (trace : Text) → (tests failed skipped : ℕ) → Text
suite_head_by trace tests failed skipped = joined (codes "<testsuite name=\"" ∷ xml trace ∷ counts_text tests failed skipped ∷ [])

abbrev pub suite_head : (strict : Bool) → (trace : Text) → List Judged → Text
suite_head strict trace js = suite_head_by trace (length js) (failures strict js) (skips strict js)

-- The suite of a trace.
abbrev pub suite : (strict : Bool) → (trace : Text) → List Rule → List Judged → Text
suite strict trace rs js = suite_head strict trace js ++ (cases_of strict trace rs js ++ codes "</testsuite>\n")

abbrev pub suites_head : Text
suites_head = codes "<?xml version=\"1.0\" encoding=\"UTF-8\"?>\n<testsuites>\n"

abbrev pub suites_tail : Text
suites_tail = codes "</testsuites>\n"
