use Rattle.fbsim_command.proofs.lemmas.files.PlacedLines.{link_found}
use Rattle.fbsim_command.proofs.link_places.link_place.Goals as goal

pub returns-in-UnusedLink : goal.returns-in-UnusedLink
returns-in-UnusedLink c = link_found c.args.outline.now.text.now c.args.warning.now c.in-UnusedLink.link c.place_in_deployment.result c.in-UnusedLink.is c.place_in_deployment.ensures

pub returns-in_default : goal.returns-in_default
returns-in_default c = λ link is. absurd (c.in_default.not-UnusedLink link is)
