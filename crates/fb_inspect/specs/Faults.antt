-- What a fault of a walk is reported as (this project's own).
use Rattle.fb_inspect.specs.declared.error.InspectError.{InspectError}
use Rattle.fb_inspect.specs.declared.error.InspectError.TheVariants as error
use Rattle.fb_inspect.specs.declared.walk.error.WalkError.{WalkError}
use Rattle.fb_inspect.specs.declared.walk.error.WalkError.TheVariants.{Refused, Memory, Read, Write}

abbrev pub error_of_walk : WalkError → InspectError
error_of_walk (Refused refusal) = error.Refused refusal.number
error_of_walk Memory = error.Memory
error_of_walk Read = error.Read
error_of_walk (Write n) = error.Write n
