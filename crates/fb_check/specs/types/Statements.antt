-- The statements of an algorithm, and what is required of each by itself (IEC 61131-3, 7.3.3).
use Rattle.std.specs.Prelude.{◌≡◌, ℕ, zero, suc, List, [], ◌∷◌, ◌++◌, map, Bool, true, not, ◌&&◌}
use Rattle.fb_types.specs.Syntax.{Stmt, Empty, Exit, Return, Assign, If, Case, For, While, Repeat, Stmts, no_stmt, then_stmts, Choices, no_choice, then_choices, Branches, no_branch, then_branches, stmt_of}
use Rattle.fb_types.specs.Kinds.{Context, is_value_kind, value_kind_of, value_kind_of_type, same_value_kind, is_whole, is_condition}
use Rattle.fb_types.specs.declared.library.BasicType.{BasicType}
use Rattle.fb_types.specs.declared.value_kind.ValueKind.TheVariants.{WholeNumber}
use Rattle.fb_check.specs.types.Checks.{in_place}
use Rattle.fb_check_names.specs.declared.location.StatementPart.{StatementPart}
use Rattle.fb_check_names.specs.declared.location.StatementPart.TheVariants as part
use Rattle.fb_check.specs.declared.types.statements.Standing as code

-- A statement, and whether it is in a loop.
abbrev pub Standing : Type 0
Standing = Bool × Stmt

-- ---- All statements, in the order in which they begin in the text

abbrev mutual
  pub each_in_body : Bool → Stmts → List Standing
  each_in_body l no_stmt = []
  each_in_body l (then_stmts s rest) = (l, s) ∷ (each_inside l s ++ each_in_body l rest)

  pub each_inside : Bool → Stmt → List Standing
  each_inside l Empty = []
  each_inside l Exit = []
  each_inside l Return = []
  each_inside l (Assign n e) = []
  each_inside l (If cs others) = each_in_choices l cs ++ each_in_body l others
  each_inside l (Case e bs others) = each_in_branches l bs ++ each_in_body l others
  each_inside l (For n a b c body) = each_in_body true body
  each_inside l (While c body) = each_in_body true body
  each_inside l (Repeat body c) = each_in_body true body

  pub each_in_choices : Bool → Choices → List Standing
  each_in_choices l no_choice = []
  each_in_choices l (then_choices c body rest) = each_in_body l body ++ each_in_choices l rest

  pub each_in_branches : Bool → Branches → List Standing
  each_in_branches l no_branch = []
  each_in_branches l (then_branches ls body rest) = each_in_body l body ++ each_in_branches l rest

-- ---- What is required of a statement by itself

abbrev pub conditions_right : Context → Choices → Bool
conditions_right p no_choice = true
conditions_right p (then_choices c body rest) = is_condition p c && conditions_right p rest

abbrev pub choice_right : Context → Choices → ℕ → Bool
choice_right p no_choice k = true
choice_right p (then_choices c body rest) zero = is_condition p c
choice_right p (then_choices c body rest) (suc k) = choice_right p rest k

abbrev pub own_right : Context → Stmt → Bool
own_right p Empty = true
own_right p Exit = p.in_loop
own_right p Return = true
own_right p (Assign n e) = not (p.fixed n) && is_value_kind (value_kind_of_type (p.types n)) (value_kind_of p.types e)
own_right p (If cs others) = conditions_right p cs
own_right p (Case e bs others) = is_whole p e
own_right p (For n a b c body) =
    not (p.fixed n) && same_value_kind WholeNumber (value_kind_of_type (p.types n)) && is_whole p a && is_whole p b && is_whole p c
own_right p (While c body) = is_condition p c
own_right p (Repeat body c) = is_condition p c

-- one part of it: a part that a statement does not have is right
abbrev pub part_right : Context → Stmt → StatementPart → Bool
part_right p Exit part.Exit = p.in_loop
part_right p (Assign n e) part.Assigned = not (p.fixed n)
part_right p (Assign n e) part.Value = is_value_kind (value_kind_of_type (p.types n)) (value_kind_of p.types e)
part_right p (If cs others) (part.Choice k) = choice_right p cs k
part_right p (Case e bs others) part.Selector = is_whole p e
part_right p (For n a b c body) part.Assigned = not (p.fixed n)
part_right p (For n a b c body) part.Control = same_value_kind WholeNumber (value_kind_of_type (p.types n))
part_right p (For n a b c body) part.Start = is_whole p a
part_right p (For n a b c body) part.End = is_whole p b
part_right p (For n a b c body) part.Step = is_whole p c
part_right p (While c body) part.Condition = is_condition p c
part_right p (Repeat body c) part.Until = is_condition p c
part_right p s o = true

abbrev pub stands_right : BasicType → Standing → Bool
stands_right t s = own_right (in_place t s.0) s.1

-- ---- As the code has them

abbrev pub standing_of : code.Standing → Standing
standing_of s = (s.in_loop, stmt_of s.statement.now)

abbrev pub all_standing : List code.Standing → List Standing
all_standing ss = map standing_of ss
