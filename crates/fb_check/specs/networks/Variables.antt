-- The types of variables by the numbers of block types and the indexes of ports (IEC 61499-1, 5.3).
use Rattle.std.specs.Prelude.{ℕ, List, Option, Some, None, slice_get, option_and_then}
use Rattle.fb_types.specs.Blocks.{ports_of, type_at}
use Rattle.fb_types.specs.declared.value.Ty.{Ty}
use Rattle.fb_types.specs.declared.library.Library.{Library}
use Rattle.fb_types.specs.declared.library.Ports.{Ports}
use Rattle.fb_check_names.specs.declared.numbers.TypeNumber.{TypeNumber}
use Rattle.fb_check_names.specs.declared.numbers.ConnectionEnd.{ConnectionEnd}
use Rattle.fb_check_names.specs.Numbers.{kind_of_number}

-- the types of the data inputs and outputs of a block type
abbrev pub input_type : Library → TypeNumber → ℕ → Option Ty
input_type lib t k = option_and_then (λ kind. type_at (ports_of kind).inputs k) (kind_of_number lib t)

abbrev pub output_type : Library → TypeNumber → ℕ → Option Ty
output_type lib t k = option_and_then (λ kind. type_at (ports_of kind).outputs k) (kind_of_number lib t)

-- the types at the two ends of a data connection: at an output of a component or an input of the boundary, and at an input of a component or an output of the boundary
abbrev pub source_type : Library → Option Ports → List TypeNumber → ConnectionEnd → Option Ty
source_type lib boundary types e =
    elim e.component [
      | None ↦ option_and_then (λ p. type_at p.inputs e.port) boundary
      | Some i ↦ option_and_then (λ t. output_type lib t e.port) (slice_get types i)
    ]

abbrev pub target_type : Library → Option Ports → List TypeNumber → ConnectionEnd → Option Ty
target_type lib boundary types e =
    elim e.component [
      | None ↦ option_and_then (λ p. type_at p.outputs e.port) boundary
      | Some i ↦ option_and_then (λ t. input_type lib t e.port) (slice_get types i)
    ]
