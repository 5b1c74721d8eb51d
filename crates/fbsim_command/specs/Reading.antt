-- The files of a call, in the order in which they are read (this project's own).
use Rattle.std.specs.Prelude.{◌≡◌, ◌⊎◌, ◌+◌, ℕ, Bool, false, List, [], ◌∷◌, ◌++◌, length, map, Option, Some, None, option_map, Result, Ok, Err}
use Rattle.std.specs.Borrow.{Bor}
use Rattle.clap.specs.Words.{Text}
use Rattle.fb_read.specs.Whole.{most_bytes}
use Rattle.fb_inputs.specs.Stimuli as stimuli
use Rattle.fb_sim.specs.Given.{Given}
use Rattle.fbsim_command.specs.Joining.{lines_of_files, text_of}
use Rattle.fbsim_line.specs.declared.line.Action.TheVariants.{Check}
use Rattle.fbsim_line.specs.declared.line.Task.{Task}
use Rattle.fbsim_command.specs.declared.sources.SourceFault.{SourceFault}
use Rattle.fbsim_command.specs.declared.sources.SourceFault.TheVariants as source
use Rattle.fbsim_command.specs.declared.texts.Part.{Part}
use Rattle.fbsim_command.specs.declared.texts.Part.TheVariants.{BlockTypes, Declaration, Deployment, Stimuli}
use Rattle.fbsim_command.specs.declared.join.FileLines.{FileLines}

-- what reading the first bytes of a named file may give, from one state of the source to the next
abbrev pub Reading : Type 0 → Type 1
Reading S = S → Text → ℕ → Result Text SourceFault → S → Type 0

-- one byte more than a text may have, and one more than stimuli
abbrev pub asked : ℕ
asked = most_bytes + 1

abbrev pub asked_stimuli : ℕ
asked_stimuli = stimuli.most_bytes + 1

-- a file is read, where one is named
abbrev pub MayRead : {S : Type 0} → Reading S → Option Text → ℕ → S → Result (Option Text) SourceFault → S → Type 0
MayRead reads None most old (Ok None) new = new ≡ old
MayRead reads None most old (Ok (Some text)) new = ⊥
MayRead reads None most old (Err fault) new = ⊥
MayRead reads (Some name) most old (Ok None) new = ⊥
MayRead reads (Some name) most old (Ok (Some text)) new = reads old name most (Ok text) new
MayRead reads (Some name) most old (Err fault) new = reads old name most (Err fault) new

abbrev pub deploy_named : Task → Option Text
deploy_named c = option_map (λ n. n.now) c.deploy

abbrev pub stimuli_named : Task → Option Text
stimuli_named c = option_map (λ n. n.now) c.stimuli

-- the check of a declaration with its deployment, whose files other calls read
abbrev pub checked : Bor Text → Option (Bor Text) → (why : Bool) → Task
checked declaration deploy why = record { action = Check false; declaration = declaration; deploy = deploy; stimuli = None; why = why }

-- ---- The declaration

-- these files have these texts, read one after the other
abbrev pub AreTextsRead : {S : Type 0} → Reading S → (names : List Text) → (old new : S) → (texts : List Text) → Type 0
AreTextsRead reads [] old new [] = new ≡ old
AreTextsRead reads [] old new (t ∷ ts) = ⊥
AreTextsRead reads (n ∷ ns) old new [] = ⊥
AreTextsRead {S} reads (n ∷ ns) old new (t ∷ ts) = (between : S) × reads old n asked (Ok t) between × AreTextsRead reads ns between new ts

-- The declaration is the text of the files of block types and of its own, which has this name. All are read, and their lines counted.
pub record AreJoined {S : Type 0} (reads : Reading S) (types : List Text) (own : Text) (old new : S) (lines : List FileLines) (text : Text) : Type 0 where
  pub texts : List Text
  pub read : AreTextsRead reads (types ++ own ∷ []) old new texts
  pub joined : text ≡ text_of texts
  pub counted : lines ≡ lines_of_files texts

-- the declaration of the file of this name, after those of block types, if there are any
abbrev pub IsDeclarationRead : {S : Type 0} → Reading S → (types : List Text) → (own : Text) → (old new : S) → (lines : List FileLines) → (text : Text) → Type 0
IsDeclarationRead reads [] own old new lines text = reads old own asked (Ok text) new × (lines ≡ [])
IsDeclarationRead reads (t ∷ ts) own old new lines text = AreJoined reads (t ∷ ts) own old new lines text

-- a file is not read, or memory runs out when it is
abbrev pub LacksText : {S : Type 0} → Reading S → (old new : S) → (name : Text) → SourceFault → Type 0
LacksText reads old new name fault = reads old name asked (Err fault) new ⊎ ((fault ≡ source.Memory) × ((text : Text) × reads old name asked (Ok text) new))

-- These files are read, and then this one is not.
pub record IsNextUnread {S : Type 0} (reads : Reading S) (before : List Text) (name : Text) (old new : S) (fault : SourceFault) : Type 0 where
  pub between : S
  pub texts : List Text
  pub read : AreTextsRead reads before old between texts
  pub unread : LacksText reads between new name fault

-- The file of block types at this index is the first of them that is not read.
pub record IsTypeUnread {S : Type 0} (reads : Reading S) (types : List Text) (index : ℕ) (old new : S) (fault : SourceFault) : Type 0 where
  pub before : List Text
  pub name : Text
  pub following : List Text
  pub parts : types ≡ before ++ name ∷ following
  pub index_is : index ≡ length before
  pub is : IsNextUnread reads before name old new fault

-- the declaration's own file is not read
abbrev pub IsOwnUnread : {S : Type 0} → Reading S → (types : List Text) → (own : Text) → (old new : S) → SourceFault → Type 0
IsOwnUnread reads [] own old new fault = reads old own asked (Err fault) new
IsOwnUnread reads (t ∷ ts) own old new fault = IsNextUnread reads (t ∷ ts) own old new fault

-- ---- All files

-- the declaration, the deployment and the stimuli are read, in this order
pub record AreRead {S : Type 0} (reads : Reading S) (types : List Text) (c : Task) (old new : S) (lines : List FileLines) (given : Given) : Type 0 where
  pub before_deploy : S
  pub before_stimuli : S
  pub declaration : IsDeclarationRead reads types c.declaration.now old before_deploy lines given.declaration
  pub deploy : MayRead reads (deploy_named c) asked before_deploy (Ok given.deploy) before_stimuli
  pub stimuli : MayRead reads (stimuli_named c) asked_stimuli before_stimuli (Ok given.stimuli) new

-- the declaration is read, and the deployment is not
pub record IsDeployUnread {S : Type 0} (reads : Reading S) (types : List Text) (c : Task) (old new : S) (fault : SourceFault) : Type 0 where
  pub between : S
  pub lines : List FileLines
  pub text : Text
  pub declaration : IsDeclarationRead reads types c.declaration.now old between lines text
  pub deploy : MayRead reads (deploy_named c) asked between (Err fault) new

-- the declaration and the deployment are read, and the stimuli are not
pub record AreStimuliUnread {S : Type 0} (reads : Reading S) (types : List Text) (c : Task) (old new : S) (fault : SourceFault) : Type 0 where
  pub before_deploy : S
  pub before_stimuli : S
  pub lines : List FileLines
  pub text : Text
  pub plan : Option Text
  pub declaration : IsDeclarationRead reads types c.declaration.now old before_deploy lines text
  pub deploy : MayRead reads (deploy_named c) asked before_deploy (Ok plan) before_stimuli
  pub stimuli : MayRead reads (stimuli_named c) asked_stimuli before_stimuli (Err fault) new

-- this file of the declaration is the first that is not read, and it is not for this fault
abbrev pub IsDeclarationUnread : {S : Type 0} → Reading S → (types : List Text) → (own : Text) → (old new : S) → Part → SourceFault → Type 0
IsDeclarationUnread reads types own old new (BlockTypes index) fault = IsTypeUnread reads types index old new fault
IsDeclarationUnread reads types own old new Declaration fault = IsOwnUnread reads types own old new fault
IsDeclarationUnread reads types own old new Deployment fault = ⊥
IsDeclarationUnread reads types own old new Stimuli fault = ⊥

-- this file is the first that is not read, and it is not for this fault
abbrev pub IsUnread : {S : Type 0} → Reading S → (types : List Text) → Task → (old new : S) → Part → SourceFault → Type 0
IsUnread reads types c old new (BlockTypes index) fault = IsTypeUnread reads types index old new fault
IsUnread reads types c old new Declaration fault = IsOwnUnread reads types c.declaration.now old new fault
IsUnread reads types c old new Deployment fault = IsDeployUnread reads types c old new fault
IsUnread reads types c old new Stimuli fault = AreStimuliUnread reads types c old new fault
