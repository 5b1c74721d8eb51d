-- What a reader that failed is reported as (this project's own).
use Rattle.std.specs.Prelude.{◌≡◌, ◌≢◌}
use Rattle.std.specs.declared.io.ErrorKind.{ErrorKind}
use Rattle.std.specs.declared.io.ErrorKind.TheVariants.{OutOfMemory}
use Rattle.fb_expect.specs.declared.fault.TraceError.{TraceError}
use Rattle.fb_expect.specs.declared.fault.TraceError.TheVariants as trace
use Rattle.fb_expect.specs.declared.lines.ReadFault.{ReadFault}
use Rattle.fb_expect.specs.declared.lines.ReadFault.TheVariants.{Memory, Read}
use Rattle.fb_expect.specs.declared.parting.PartFault.{PartFault}
use Rattle.fb_expect.specs.declared.parting.PartFault.TheVariants as part

-- An error of this kind is reported as out of memory if it is that, and otherwise as a fault of the file.
pub record IsFaultOf (kind : ErrorKind) (e : ReadFault) : Type 0 where
  pub memory : kind ≡ OutOfMemory → e ≡ Memory
  pub read : kind ≢ OutOfMemory → e ≡ Read

abbrev pub trace_error : ReadFault → TraceError
trace_error Memory = trace.Memory
trace_error Read = trace.Read

-- the same where the reader is that of one of two texts, which is named so
abbrev pub part_fault : (unread : PartFault) → ReadFault → PartFault
part_fault unread Memory = part.Memory
part_fault unread Read = unread
