use Rattle.std.proofs.Common.{rules, ◌≡◌, []}
use Rattle.fbsim_command.proofs.lemmas.files.OpenLaws.{joined-first, joined-none}
use Rattle.fbsim_command.proofs.join.joined.Goals as goal

pub returns-in-Some : goal.returns-in-Some
returns-in-Some c =
    joined-first c.join_all.result c.args.texts.now c.in-Some.following.now c.in-Some.first.now c.as_slice.result.now c.in-Some.ensures.cases.0 c.as_slice.ensures.value c.join_all.ensures

pub returns-in-None : goal.returns-in-None
returns-in-None c =
    let empty : c.new.result.items ≡ [] = search rules in
    joined-none c.args.texts.now c.new.result.items c.in-None.ensures.cases empty
