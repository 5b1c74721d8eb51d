use Rattle.std.proofs.Common.{rules, ◌≡◌, []}
use Rattle.fbsim_command.proofs.lemmas.files.Counting.{lines-first, lines-none}
use Rattle.fbsim_command.proofs.join.lines_of_files.Goals as goal

pub returns-in-Some : goal.returns-in-Some
returns-in-Some c =
    lines-first c.lines_with.result c.args.texts.now c.in-Some.following.now c.in-Some.first.now c.as_slice.result.now c.in-Some.ensures.cases.0 c.as_slice.ensures.value c.lines_with.ensures

pub returns-in-None : goal.returns-in-None
returns-in-None c =
    let empty : c.new.result.items ≡ [] = search rules in
    lines-none c.args.texts.now c.new.result.items c.in-None.ensures.cases empty
