use Rattle.fbsim_command.proofs.lemmas.Common.{List, ap, refl, sym, ℕ, ◌∙◌, names_of}
use Rattle.fb_why.specs.declared.input_place.InputFile.{InputFile}
use Rattle.fbsim_command.specs.InputNotes.{name_in}
use Rattle.fbsim_command.proofs.lemmas.notes.Noting.{name-or}
use Rattle.fbsim_command.proofs.input_notes.name_in.Goals as goal

pub returns-in-Deployment : goal.returns-in-Deployment
returns-in-Deployment c =
    name-or c.args.names.now.deploy _ c.unwrap_or.result refl c.unwrap_or.ensures ∙ sym (ap (λ (f : InputFile). name_in (names_of c.args.names.now) f) c.in-Deployment.is)

pub returns-in-Stimuli : goal.returns-in-Stimuli
returns-in-Stimuli c =
    name-or c.args.names.now.stimuli _ c.unwrap_or-in-Stimuli.result refl c.unwrap_or-in-Stimuli.ensures ∙ sym (ap (λ (f : InputFile). name_in (names_of c.args.names.now) f) c.in-Stimuli.is)
