use Rattle.std.proofs.Common.{map, refl}
use Rattle.fbsim_command.proofs.lemmas.files.FileNames.{syntax-of}
use Rattle.fbsim_command.proofs.own_lines.syntax_in.Goals as goal

pub returns-in-Some : goal.returns-in-Some
returns-in-Some c =
    syntax-of (map (λ t. t.now) c.args.types.now) c.args.own.now c.args.lines.now c.args.whole c.in-Some.at.file c.in-Some.at.line c.file_name.result.now c.syntax_of_file.result c.in-Some.ensures.found
    c.file_name.ensures c.syntax_of_file.ensures

pub returns-in-None : goal.returns-in-None
returns-in-None c = (refl, c.in-None.ensures.none)
