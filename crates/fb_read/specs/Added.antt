-- What is added to the items that were found.
use Rattle.std.specs.Prelude.{◌≡◌, List, [], ◌∷◌, ◌++◌, Result, Ok, Err}
use Rattle.fb_read.specs.declared.fault.ParseFault.{ParseFault}
use Rattle.fb_read.specs.declared.fault.ParseFault.TheVariants as fault

-- these are the items that were found, and the one that was read
abbrev pub IsOneMore : {A : Type 0} → List A → Result A ParseFault → List A → Type 0
IsOneMore found (Ok item) all = all ≡ found ++ item ∷ []
IsOneMore found (Err e) all = ⊥

-- the result for what was found and what was read after it, unless memory runs out
abbrev pub Adds : {A : Type 0} → List A → Result A ParseFault → Result (List A) ParseFault → Type 0
Adds found read (Ok all) = IsOneMore found read all
Adds found read (Err fault.Memory) = Unit {0}
Adds found read (Err fault.Syntax) = read ≡ Err fault.Syntax
Adds found read (Err fault.Nesting) = read ≡ Err fault.Nesting
