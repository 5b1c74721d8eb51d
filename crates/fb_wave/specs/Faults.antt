-- What a reader that failed is reported as (this project's own).
use Rattle.std.specs.Prelude.{◌≡◌, ◌≢◌}
use Rattle.std.specs.declared.io.ErrorKind.{ErrorKind}
use Rattle.std.specs.declared.io.ErrorKind.TheVariants.{OutOfMemory}
use Rattle.fb_wave.specs.declared.error.WaveError.{WaveError}
use Rattle.fb_wave.specs.declared.error.WaveError.TheVariants.{Refused, Names, Memory, Read, Write}

-- An error of this kind is reported as out of memory if it is that, and otherwise as a fault of the file.
pub record IsFaultOf (kind : ErrorKind) (e : WaveError) : Type 0 where
  pub memory : kind ≡ OutOfMemory → e ≡ Memory
  pub read : kind ≢ OutOfMemory → e ≡ Read

-- The reader failed, for memory or otherwise.
abbrev pub IsReadFault : WaveError → Type 0
IsReadFault (Refused line) = ⊥
IsReadFault Names = ⊥
IsReadFault Memory = Unit {0}
IsReadFault Read = Unit {0}
IsReadFault (Write n) = ⊥
