-- The links of a reaction's chain of states, as the program makes them (IEC 61499-1, 5.2).
use Rattle.std.specs.Prelude.{ℕ, Bool, true, false, Option, Some, None, Result, Ok, Err}
use Rattle.fb_types.specs.Names.{Name}
use Rattle.fb_types.specs.Charts.{Position, Moving, Links}
use Rattle.fb_types.specs.declared.library.BasicType.{BasicType}
use Rattle.fb_types.specs.declared.run.Halt.{Halt}
use Rattle.fb_types.specs.declared.run.Halt.TheVariants as halt
use Rattle.fb_types.specs.declared.value.Reason.{Reason}

-- a chain of links, where that event is present in the first trial
abbrev pub Chain : BasicType → Option Name → Moving
Chain t present p stop q = (n : ℕ) × Links t n present p stop q

-- one link came so far: the chain that goes on from here goes on from there, or it ended here
abbrev pub Linked : BasicType → Result Bool Halt → Option Name → Position → Position → Type 0
Linked t (Ok true) present p m = (stop : Option Reason) (q : Position) → Chain t None m stop q → Chain t present p stop q
Linked t (Ok false) present p m = Chain t present p None m
Linked t (Err (halt.Stop r)) present p m = Chain t present p (Some r) m
Linked t (Err halt.Memory) present p m = Unit {0}
