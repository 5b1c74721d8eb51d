use Rattle.fbsim_command.proofs.lemmas.Common.{◌≡◌, ◌⊎◌, [], List, ℕ, Option, ap, sym, string_bytes, subst, IfOk, IfSome, Given, naming_of, Place}
use Rattle.fbsim_command.specs.WarningLines.{HasNoLinkPlace, HasNoRowPlace, IsLinkPlace, IsRowPlace, MayBePlaceInRows, MayBePlaceOfLink}
use Rattle.fb_inputs.specs.declared.position.StimuliPosition.TheVariants as in_stimuli
use Rattle.fbsim_command.proofs.lemmas.files.PlacedLines.{declared_shown, link_shown, row_of_warning, row_shown}
use Rattle.fbsim_command.proofs.warning_lines.place_of.Goals as goal

pub returns-in-UnusedLink : goal.returns-in-UnusedLink
returns-in-UnusedLink c = λ library placed.
    let n = naming_of c.args.naming.now in
    let link = c.in-UnusedLink.link in
    link_shown n c.args.inputs.now library (λ s. string_bytes s) c.place_of_link.result c.args.warning.now link c.in-UnusedLink.is
    (subst (λ (d : Option (List ℕ)). IfOk c.place_of_link.result (λ s. IsLinkPlace n d link (string_bytes s) ⊎ (HasNoLinkPlace n d link × (string_bytes s ≡ [])))) (ap (λ (g : Given). g.deploy) c.inputs.view_is) c.place_of_link.ensures)

pub place_of_link-requires : goal.place_of_link-requires
place_of_link-requires c =
    subst (λ (d : Option (List ℕ)). MayBePlaceOfLink d c.in-UnusedLink.link c.args.at.link) (sym (ap (λ (g : Given). g.deploy) c.inputs.view_is)) (c.requires.link c.in-UnusedLink.link c.in-UnusedLink.is)

pub place_of_row-requires : goal.place_of_row-requires
place_of_row-requires c =
    subst (λ (t : Option (List ℕ)). MayBePlaceInRows t (in_stimuli.Row c.in-EarlyStimulus.stimulus) c.args.at.row) (sym (ap (λ (g : Given). g.stimuli) c.inputs.view_is))
    (row_of_warning c.args.inputs.now.stimuli c.args.warning.now c.in-EarlyStimulus.stimulus c.args.at.row c.in-EarlyStimulus.is c.requires.row)

pub returns-in-EarlyStimulus : goal.returns-in-EarlyStimulus
returns-in-EarlyStimulus c = λ library placed.
    let n = naming_of c.args.naming.now in
    let row = c.in-EarlyStimulus.stimulus in
    row_shown n c.args.inputs.now library (λ s. string_bytes s) c.place_of_row.result c.args.warning.now row c.in-EarlyStimulus.is
    (subst (λ (t : Option (List ℕ)). IfOk c.place_of_row.result (λ s. IsRowPlace n t row (string_bytes s) ⊎ (HasNoRowPlace n t row × (string_bytes s ≡ [])))) (ap (λ (g : Given). g.stimuli) c.inputs.view_is) c.place_of_row.ensures)

pub returns-in_default : goal.returns-in_default
returns-in_default c = λ library placed.
    declared_shown (naming_of c.args.naming.now) c.args.inputs.now library (λ s. string_bytes s) c.place_of_declared.result c.args.warning.now c.args.at.declared c.in_default.not-UnusedLink c.in_default.not-EarlyStimulus placed c.place_of_declared.ensures.some
    c.place_of_declared.ensures.none
