-- Standard input under the name `-` (this project's own): it is read once.
use Rattle.std.specs.Prelude.{◌≡◌, ◌≢◌, ℕ, Bool, true, false, List, Option, Result, Err, codes}
use Rattle.fbsim_command.specs.declared.files.Opened.{Opened}
use Rattle.fbsim_command.specs.declared.files.Opened.TheVariants.{Named, Input}
use Rattle.fbsim_command.specs.declared.sources.SourceFault.{SourceFault}
use Rattle.fbsim_command.specs.declared.sources.SourceFault.TheVariants.{File, Folder}

-- Reading a file by its name takes standard input, or leaves it; a second time is a fault.
pub record TakesInput {A : Type 0} (had has : Bool) (name : List ℕ) (result : Result A SourceFault) : Type 0 where
  pub input : name ≡ codes "-" → has ≡ true
  pub again : name ≡ codes "-" → had ≡ true → result ≡ Err File
  pub others : name ≢ codes "-" → has ≡ had

-- why a name is not opened as a file: it is that of a folder, or not
abbrev pub fault_of : (is_folder : Bool) → SourceFault
fault_of true = Folder
fault_of false = File

-- the bytes that an open file has left, where they are known
abbrev pub remaining_of : {F I : Type 0} → (F → Option (List ℕ)) → (I → Option (List ℕ)) → Opened F I → Option (List ℕ)
remaining_of file input (Named f) = file f
remaining_of file input (Input i) = input i
