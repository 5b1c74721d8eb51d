-- All locations at which a kind is wrong (E22), in the order of the declaration.
use Rattle.std.specs.Prelude.{ℕ, ◌+◌, List, [], ◌++◌, not, false}
use Rattle.fb_types.specs.Kinds.{Context, declared_right, is_condition, is_value_kind, is_whole, same_value_kind, value_kind_of, value_kind_of_type}
use Rattle.fb_types.specs.Names.{Name}
use Rattle.fb_types.specs.Syntax.{Assign, Case, Choices, Empty, Exit, For, If, Repeat, Return, Stmt, While, body_of, no_choice, then_choices}
use Rattle.fb_types.specs.declared.library.Algorithm.{Algorithm}
use Rattle.fb_types.specs.declared.library.BasicType.{BasicType}
use Rattle.fb_types.specs.declared.library.BlockType.{BlockType}
use Rattle.fb_types.specs.declared.library.BlockType.TheVariants as block
use Rattle.fb_types.specs.declared.library.Library.{Library}
use Rattle.fb_types.specs.declared.library.Transition.{Transition}
use Rattle.fb_types.specs.declared.library.Variable.{Variable}
use Rattle.fb_types.specs.declared.value_kind.ValueKind.TheVariants.{WholeNumber}
use Rattle.fb_check.specs.networks.Parameters.{kinds_wrong_in_network}
use Rattle.fb_check.specs.types.Checks.{in_place, is_guard_right}
use Rattle.fb_check_names.specs.declared.location.KindWrongAt.{KindWrongAt}
use Rattle.fb_check_names.specs.declared.location.KindWrongAt.TheVariants as kind_wrong
use Rattle.fb_check_names.specs.declared.location.Site.TheVariants.{Application, Inside}
use Rattle.fb_check_names.specs.declared.location.StatementPart.{StatementPart}
use Rattle.fb_check_names.specs.declared.location.StatementPart.TheVariants as part
use Rattle.fb_check_names.specs.declared.location.Variables.{Variables}
use Rattle.fb_check_names.specs.declared.location.Variables.TheVariants.{Inputs, Internals, Outputs}
use Rattle.fb_check.specs.declared.types.statements.StatementIndex.{StatementIndex}
use Rattle.fb_check_names.specs.Listed.{each_at, unless}
use Rattle.fb_check_names.specs.Sites.{variables_at}
use Rattle.fb_check.specs.types.Statements.{Standing, each_in_body}

-- ---- Declared values

abbrev pub kind_wrong_initial : ℕ → Variables → ℕ → Variable → List KindWrongAt
kind_wrong_initial b l k v = unless (declared_right v) (kind_wrong.Initial b l k)

abbrev pub kinds_wrong_initial : ℕ → BlockType → List KindWrongAt
kinds_wrong_initial b t =
    each_at (kind_wrong_initial b Inputs) (variables_at Inputs t)
    ++ (each_at (kind_wrong_initial b Outputs) (variables_at Outputs t) ++ each_at (kind_wrong_initial b Internals) (variables_at Internals t))

-- ---- Guards and algorithms

abbrev pub kind_wrong_guard : BasicType → ℕ → ℕ → Transition → List KindWrongAt
kind_wrong_guard t b k x = unless (is_guard_right t x) (kind_wrong.Guard b k)

-- a part of the statement
abbrev pub part_at : StatementIndex → StatementPart → KindWrongAt
part_at i o = kind_wrong.Statement i.block i.algorithm i.statement o

-- the conditions of IF and its ELSIFs
abbrev pub wrong_choices : (StatementPart → KindWrongAt) → Context → ℕ → Choices → List KindWrongAt
wrong_choices at p k no_choice = []
wrong_choices at p k (then_choices c body rest) = unless (is_condition p c) (at (part.Choice k)) ++ wrong_choices at p (k + 1) rest

-- the variable that controls a FOR
abbrev pub wrong_control : (StatementPart → KindWrongAt) → Context → Name → List KindWrongAt
wrong_control at p n =
    unless (not (p.fixed n)) (at part.Assigned) ++ unless (same_value_kind WholeNumber (value_kind_of_type (p.types n))) (at part.Control)

-- the parts of a statement, except for the statements inside it
abbrev pub wrong_parts : (StatementPart → KindWrongAt) → Context → Stmt → List KindWrongAt
wrong_parts at p Empty = []
wrong_parts at p Exit = unless p.in_loop (at part.Exit)
wrong_parts at p Return = []
wrong_parts at p (Assign n e) =
    unless (not (p.fixed n)) (at part.Assigned) ++ unless (is_value_kind (value_kind_of_type (p.types n)) (value_kind_of p.types e)) (at part.Value)
wrong_parts at p (If cs others) = wrong_choices at p 0 cs
wrong_parts at p (Case e bs others) = unless (is_whole p e) (at part.Selector)
wrong_parts at p (For n a b c body) =
    wrong_control at p n ++ (unless (is_whole p a) (at part.Start) ++ (unless (is_whole p b) (at part.End) ++ unless (is_whole p c) (at part.Step)))
wrong_parts at p (While c body) = unless (is_condition p c) (at part.Condition)
wrong_parts at p (Repeat body c) = unless (is_condition p c) (at part.Until)

abbrev pub kinds_wrong_in_statement : BasicType → ℕ → ℕ → ℕ → Standing → List KindWrongAt
kinds_wrong_in_statement t b a k s = wrong_parts (part_at (record { block = b; algorithm = a; statement = k })) (in_place t s.0) s.1

abbrev pub kinds_wrong_in_body : BasicType → ℕ → ℕ → Algorithm → List KindWrongAt
kinds_wrong_in_body t b a x = each_at (kinds_wrong_in_statement t b a) (each_in_body false (body_of x.body))

-- ---- All kinds

abbrev pub kinds_wrong_inside : Library → ℕ → BlockType → List KindWrongAt
kinds_wrong_inside lib b (block.Basic t) = each_at (kind_wrong_guard t b) t.transitions ++ each_at (kinds_wrong_in_body t b) t.algorithms
kinds_wrong_inside lib b (block.Composite t) = kinds_wrong_in_network lib (Inside b) t.network.instances

abbrev pub kinds_wrong_in_block : Library → ℕ → BlockType → List KindWrongAt
kinds_wrong_in_block lib b t = kinds_wrong_initial b t ++ kinds_wrong_inside lib b t

-- the block types, and the application
abbrev pub kinds_wrong_all : Library → List KindWrongAt
kinds_wrong_all lib = each_at (kinds_wrong_in_block lib) lib.blocks ++ kinds_wrong_in_network lib Application lib.application.network.instances
