-- Labels that a CASE has twice, and internal variables that nothing reads (IEC 61131-3, 7.3.3).
use Rattle.std.specs.Prelude.{ℕ, List, [], ◌∷◌, ◌++◌, flat_map, Bool, false, not, ◌&&◌, ◌||◌, int_le, Option}
use Rattle.std.specs.List.{list_any}
use Rattle.fb_types.specs.Names.{Name}
use Rattle.fb_types.specs.Syntax.{Stmt, Empty, Exit, Return, Assign, If, Case, For, While, Repeat, Choices, no_choice, then_choices, Branches, no_branch, then_branches, body_of, expr_of, step_of}
use Rattle.fb_types.specs.Unknown.{Mention, OfVariable, mentions}
use Rattle.fb_types.specs.declared.library.Algorithm.{Algorithm}
use Rattle.fb_types.specs.declared.library.BasicType.{BasicType}
use Rattle.fb_types.specs.declared.library.Transition.{Transition}
use Rattle.fb_types.specs.declared.library.Variable.{Variable}
use Rattle.fb_types.specs.declared.text.Expr.{Expr}
use Rattle.fb_types.specs.declared.text.Label.{Label}
use Rattle.fb_check.specs.types.Checks.{guard_mentions}
use Rattle.fb_check.specs.types.Statements.{Standing, each_in_body}
use Rattle.fb_lint.specs.Findings.{when, each_from}
use Rattle.fb_lint.specs.Reads.{is_variable}
use Rattle.fb_lint.specs.declared.warning.Warning.{Warning}
use Rattle.fb_lint.specs.declared.warning.Warning.TheVariants.{RepeatedLabel, UnreadInternal}

-- ---- L21

abbrev pub labels_in : Branches → List Label
labels_in no_branch = []
labels_in (then_branches ls body rest) = ls ++ labels_in rest

abbrev pub has_value : Label → Bool
has_value l = int_le l.first l.last

abbrev pub begins_within : Label → Label → Bool
begins_within l m = int_le l.first m.last

abbrev pub crosses : Label → Label → Bool
crosses l m = begins_within l m && begins_within m l

-- two labels have a value in common
abbrev pub meets : Label → Label → Bool
meets l m = has_value l && has_value m && crosses l m

-- two of the labels have
abbrev pub has_repeated : List Label → Bool
has_repeated [] = false
has_repeated (l ∷ ls) = list_any (meets l) ls || has_repeated ls

abbrev pub is_repeating : Stmt → Bool
is_repeating (Case e bs others) = has_repeated (labels_in bs)
is_repeating s = false

abbrev pub repeated_label : (block algorithm : ℕ) → ℕ → Standing → List Warning
repeated_label b a k s = when (is_repeating s.1) (RepeatedLabel b a k)

abbrev pub repeated_in : (block algorithm : ℕ) → List Standing → List Warning
repeated_in b a ss = each_from (repeated_label b a) 0 ss

-- the statements are counted as they begin in the text
abbrev pub repeated_of : (block algorithm : ℕ) → Algorithm → List Warning
repeated_of b a x = repeated_in b a (each_in_body false (body_of x.body))

abbrev pub repeated_labels : (block : ℕ) → List Algorithm → List Warning
repeated_labels b as' = each_from (repeated_of b) 0 as'

-- ---- L22

abbrev pub read_by_conditions : Choices → List Mention
read_by_conditions no_choice = []
read_by_conditions (then_choices c body rest) = mentions c ++ read_by_conditions rest

-- the control of a FOR reads its variable
abbrev pub read_by_control : Name → (start end : Expr) → Option Expr → List Mention
read_by_control n start end step = ((OfVariable n ∷ mentions (expr_of start)) ++ mentions (expr_of end)) ++ mentions (step_of step)

-- what a statement reads by itself
abbrev pub read_by : Stmt → List Mention
read_by Empty = []
read_by Exit = []
read_by Return = []
read_by (Assign n e) = mentions e
read_by (If cs others) = read_by_conditions cs
read_by (Case e bs others) = mentions e
read_by (For n a b c body) = ((OfVariable n ∷ mentions a) ++ mentions b) ++ mentions c
read_by (While c body) = mentions c
read_by (Repeat body c) = mentions c

abbrev pub read_standing : Standing → List Mention
read_standing s = read_by s.1

abbrev pub read_in : Algorithm → List Mention
read_in a = flat_map read_standing (each_in_body false (body_of a.body))

abbrev pub reads_of : List Algorithm → List Transition → List Mention
reads_of as' xs = flat_map read_in as' ++ flat_map guard_mentions xs

abbrev pub unread_internal : (block : ℕ) → List Mention → ℕ → Variable → List Warning
unread_internal b ms k v = when (not (list_any (is_variable v.name) ms)) (UnreadInternal b k)

abbrev pub unread_among : (block : ℕ) → List Mention → List Variable → List Warning
unread_among b ms vs = each_from (unread_internal b ms) 0 vs

abbrev pub unread_internals : (block : ℕ) → BasicType → List Warning
unread_internals b t = unread_among b (reads_of t.algorithms t.transitions) t.internals
