-- Where an expression, a statement or a value has the wrong kind (E22; IEC 61131-3, 6.4.2 and 7.3; IEC 61499-1, 5.3).
use Rattle.std.specs.Prelude.{◌≡◌, ℕ, Bool, false, ◌&&◌, Some, slice_get}
use Rattle.std.specs.List.{list_all}
use Rattle.fb_types.specs.Blocks.{Kind, ports_of}
use Rattle.fb_types.specs.Flat.{kind_of, kind_of_instance}
use Rattle.fb_types.specs.Kinds.{declared_right, parameter_right, parameters_right}
use Rattle.fb_types.specs.Repeated.{OwnedNetwork}
use Rattle.fb_types.specs.Syntax.{body_of}
use Rattle.fb_types.specs.declared.library.Algorithm.{Algorithm}
use Rattle.fb_types.specs.declared.library.BasicType.{BasicType}
use Rattle.fb_types.specs.declared.library.BlockType.{BlockType}
use Rattle.fb_types.specs.declared.library.Instance.{Instance}
use Rattle.fb_types.specs.declared.library.Library.{Library}
use Rattle.fb_types.specs.declared.library.Network.{Network}
use Rattle.fb_types.specs.declared.library.Parameter.{Parameter}
use Rattle.fb_types.specs.declared.library.Transition.{Transition}
use Rattle.fb_types.specs.declared.library.Variable.{Variable}
use Rattle.fb_check.specs.types.Checks.{in_place, is_guard_right, is_right_block}
use Rattle.fb_check_names.specs.declared.location.KindWrongAt.{KindWrongAt}
use Rattle.fb_check_names.specs.declared.location.KindWrongAt.TheVariants as kind_wrong
use Rattle.fb_check_names.specs.declared.location.StatementPart.{StatementPart}
use Rattle.fb_check_names.specs.declared.location.Site.{Site}
use Rattle.fb_check_names.specs.declared.location.Variables.{Variables}
use Rattle.fb_check_names.specs.Sites.{basic_at, each_inside, network_at, variables_at}
use Rattle.fb_check.specs.types.Statements.{Standing, each_in_body, part_right}

-- ---- Declared values

-- The variable is declared with a value that is not of its type.
pub record IsInitialKindWrong (lib : Library) (b : ℕ) (list : Variables) (k : ℕ) : Type 0 where
  pub in_type : BlockType
  pub at_index : Variable
  pub at : slice_get lib.blocks b ≡ Some in_type
  pub found : slice_get (variables_at list in_type) k ≡ Some at_index
  pub wrong : declared_right at_index ≡ false

-- ---- Parameters

-- The parameter of the instance is not a value of its input's type.
pub record IsParameterKindWrong (lib : Library) (s : Site) (i p : ℕ) : Type 0 where
  pub network : OwnedNetwork
  pub of_instance : Instance
  pub at_index : Parameter
  pub kind : Kind
  pub at : network_at lib s ≡ Some network
  pub instance_is : slice_get network.1.instances i ≡ Some of_instance
  pub found : slice_get of_instance.parameters p ≡ Some at_index
  pub kind_is : kind_of_instance lib of_instance ≡ Some kind
  pub wrong : parameter_right (ports_of kind) at_index ≡ false

-- each parameter of each instance of a network is a value of its input's type
abbrev pub are_set_right : Library → Network → Bool
are_set_right lib net = list_all (parameters_right lib) net.instances

abbrev pub are_set_right_inside : Library → BlockType → Bool
are_set_right_inside lib = each_inside (λ n. are_set_right lib n.1)

-- ---- Guards and algorithms

-- The guard of the transition is not a truth value.
pub record IsGuardKindWrong (lib : Library) (b k : ℕ) : Type 0 where
  pub in_type : BasicType
  pub at_index : Transition
  pub at : basic_at lib b ≡ Some in_type
  pub found : slice_get in_type.transitions k ≡ Some at_index
  pub wrong : is_guard_right in_type at_index ≡ false

-- A part of the statement is wrong.
pub record IsStatementKindWrong (lib : Library) (b a k : ℕ) (part : StatementPart) : Type 0 where
  pub in_type : BasicType
  pub algorithm : Algorithm
  pub at_index : Standing
  pub at : basic_at lib b ≡ Some in_type
  pub algorithm_is : slice_get in_type.algorithms a ≡ Some algorithm
  pub found : slice_get (each_in_body false (body_of algorithm.body)) k ≡ Some at_index
  pub wrong : part_right (in_place in_type at_index.0) at_index.1 part ≡ false

-- ---- All

-- The kind is wrong at this location.
abbrev pub IsKindWrongAt : Library → KindWrongAt → Type 0
IsKindWrongAt lib (kind_wrong.Initial b l k) = IsInitialKindWrong lib b l k
IsKindWrongAt lib (kind_wrong.Parameter s i p) = IsParameterKindWrong lib s i p
IsKindWrongAt lib (kind_wrong.Guard b k) = IsGuardKindWrong lib b k
IsKindWrongAt lib (kind_wrong.Statement b a k part) = IsStatementKindWrong lib b a k part

-- all is right in a block type, including the parameters in its network
abbrev pub is_all_right : Library → BlockType → Bool
is_all_right lib t = is_right_block t && are_set_right_inside lib t
