use Rattle.std.proofs.Common.{map, sym, ◌∙◌}
use Rattle.fbsim_command.specs.OwnLines.{syntax_line}
use Rattle.fbsim_command.proofs.lemmas.files.FileNames.{ends-as, ends-named}
use Rattle.fbsim_command.proofs.own_lines.end_in.Goals as goal

pub returns-in-Some : goal.returns-in-Some
returns-in-Some c =
    ends-named (map (λ t. t.now) c.args.types.now) c.args.own.now c.args.lines.now (syntax_line c.args.end) c.in-Some.whole c.args.end c.syntax_in.result (sym c.syntax_line.ensures ∙ c.in-Some.is)
    c.syntax_in.ensures

pub returns-in-None : goal.returns-in-None
returns-in-None c = ends-as (map (λ t. t.now) c.args.types.now) c.args.own.now c.args.lines.now (syntax_line c.args.end) c.args.end (sym c.syntax_line.ensures ∙ c.in-None.is)
