-- The numbers of the refusals of a declaration's text (this project's own).
use Rattle.std.specs.Prelude.{ℕ, Option, Some, None}
use Rattle.fb_read.specs.declared.error.ReadError.{ReadError}
use Rattle.fb_read.specs.declared.error.ReadError.TheVariants as error
use Rattle.fb_read.specs.declared.refused.TextFault.{TextFault}
use Rattle.fb_read.specs.declared.refused.TextFault.TheVariants as text_fault

-- The number of a refusal. Memory has none.
abbrev pub number_of : ReadError → Option ℕ
number_of error.Memory = None
number_of error.Byte = Some 1
number_of error.Token = Some 2
number_of (error.Syntax line) = Some 3
number_of error.TooLong = Some 4
number_of error.Nesting = Some 5

-- the number of a fault of a text
abbrev pub fault_number : TextFault → ℕ
fault_number text_fault.Byte = 1
fault_number text_fault.Token = 2
fault_number text_fault.Syntax = 3
fault_number text_fault.TooLong = 4
fault_number text_fault.Nesting = 5
