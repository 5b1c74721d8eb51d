-- In how many of several traces each rule applied (docs/FORMATS.md, "The report (TAP)" and "The report (JUnit)"; this project's own).
use Rattle.std.specs.Prelude.{ℕ, ◌+◌, Bool, false, not, ◌==◌, if◌then◌else◌, List, [], ◌∷◌, ◌++◌, length, map, count_by, slice_index_or, codes, decimal}
use Rattle.std.specs.List.{list_all, list_any, range_with_len}
use Rattle.fb_expect.specs.Reports.{escape, first_word, joined}
use Rattle.fb_expect.specs.Suites.{failed, suite_head_by, xml}
use Rattle.fb_expect.specs.Words.{Text}
use Rattle.fb_expect.specs.declared.judging.Judged.{Judged}
use Rattle.fb_expect.specs.declared.rule.Rule.{Rule}

-- ---- Rules that applied

-- Whether each rule applied in a trace at which this came of it: it was decided there at least once.
abbrev pub marks : List Rule → List Judged → List Bool
marks [] js = []
marks (r ∷ rs) [] = []
marks (r ∷ rs) (j ∷ js) = j.is_applied ∷ marks rs js

abbrev pub applies_at : List Rule → (index : ℕ) → List Judged → Bool
applies_at rules index js = slice_index_or (marks rules js) index false

-- in how many of several traces the rule at an index applied
abbrev pub count_at : List Rule → (all : List (List Judged)) → (index : ℕ) → ℕ
count_at rules all index = count_by (applies_at rules index) all

abbrev pub counts_of : List Rule → (all : List (List Judged)) → List ℕ
counts_of rules all = map (count_at rules all) (range_with_len 0 (length rules))

-- Whether each rule applied in one of the traces or more.
abbrev pub have_applied : List Rule → (all : List (List Judged)) → Bool
have_applied rules all = list_all (λ index. list_any (applies_at rules index) all) (range_with_len 0 (length rules))

-- one more, if a rule applied
abbrev pub one_if : (applied : Bool) → ℕ
one_if applied = if applied then 1 else 0

-- ---- Points

abbrev pub trace_word : (traces : ℕ) → Text
trace_word traces = if traces == 1 then codes " trace" else codes " traces"

-- in how many of how many traces a rule applied
unfoldable pub applied_text : (count traces : ℕ) → Text
applied_text n traces =
    joined (codes "applied in " ∷ decimal n ∷ codes " of " ∷ decimal traces ∷ trace_word traces ∷ [])

-- The point of a rule: it is well if the rule applied in a trace.
unfoldable pub applied_point : (number : ℕ) → Rule → (count traces : ℕ) → Text
applied_point number r n traces =
    joined (first_word (not (n == 0)) ∷ decimal number ∷ codes " - " ∷ escape 35 r.name ∷ codes ": " ∷ applied_text n traces ∷ codes "\n" ∷ [])

-- The points of all rules, numbered after those before.
abbrev pub applied_points : (before : ℕ) → List Rule → (counts : List ℕ) → (traces : ℕ) → Text
applied_points before [] ns traces = []
applied_points before (r ∷ rs) [] traces = []
applied_points before (r ∷ rs) (n ∷ ns) traces = applied_point (before + 1) r n traces ++ applied_points (before + 1) rs ns traces

-- ---- The suite

abbrev pub applied_inside : (count traces : ℕ) → Text
applied_inside n traces = if n == 0 then failed (applied_text n traces) else []

-- The case of a rule. Its assertions are in how many traces the rule applied.
unfoldable pub applied_case : Rule → (count traces : ℕ) → Text
applied_case r n traces =
    joined (codes "<testcase classname=\"applied\" name=\"" ∷ xml r.name ∷ codes "\" assertions=\"" ∷ decimal n ∷ codes "\">" ∷ applied_inside n traces
    ∷ codes "</testcase>\n" ∷ [])

abbrev pub applied_cases : List Rule → (counts : List ℕ) → (traces : ℕ) → Text
applied_cases [] ns traces = []
applied_cases (r ∷ rs) [] traces = []
applied_cases (r ∷ rs) (n ∷ ns) traces = applied_case r n traces ++ applied_cases rs ns traces

-- how many of the rules did not apply
abbrev pub unapplied : (counts : List ℕ) → ℕ
unapplied ns = count_by (λ n. n == 0) ns

-- The suite of all rules, a case for each.
abbrev pub applied_suite : List Rule → (counts : List ℕ) → (traces : ℕ) → Text
applied_suite rs ns traces =
    suite_head_by (codes "applied") (length ns) (unapplied ns) 0 ++ (applied_cases rs ns traces ++ codes "</testsuite>\n")
