use Rattle.std.proofs.Common.{◌∙◌, ap}
use Rattle.clap.specs.Simple.{app_of_fields}
use Rattle.fbsim_line.proofs.arguments.titled.Goals as goal

pub returns-clause-app : goal.returns-clause-app
returns-clause-app c = ap app_of_fields c.after_help.ensures ∙ ap app_of_fields c.about.ensures ∙ c.new.ensures.app

pub returns-clause-globals : goal.returns-clause-globals
returns-clause-globals c = ap (λ f. f.has_globals) c.after_help.ensures ∙ ap (λ f. f.has_globals) c.about.ensures ∙ c.new.ensures.local
