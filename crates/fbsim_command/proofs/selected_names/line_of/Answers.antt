use Rattle.fb_types.proofs.Common.{IfOk, List, Option, map, string_bytes, subst, sym}
use Rattle.fb_types.specs.Names.{Name}
use Rattle.fbsim_command.specs.SelectedNames.{SaysOf}
use Rattle.fbsim_command.proofs.lemmas.names.KnownNames.{now}
use Rattle.fbsim_command.proofs.selected_names.line_of.Goals as goal

pub returns-in-Some : goal.returns-in-Some
returns-in-Some c =
    subst (λ (o : Option Name). IfOk c.line_of_name.result (λ line. SaysOf c.args.option.now (map now c.args.names.now) o (string_bytes line))) (sym c.in-Some.is) c.line_of_name.ensures

pub returns-in-None : goal.returns-in-None
returns-in-None c = subst (λ (o : Option Name). SaysOf c.args.option.now (map now c.args.names.now) o (string_bytes c.new.result)) (sym c.in-None.is) c.new.ensures.bytes
