use Rattle.std.proofs.Common.{rules, ◌≡◌, length}
use Rattle.fbsim_command.proofs.lemmas.files.Gathering.{alone-read, alone-unread}
use Rattle.fbsim_command.proofs.texts.read_declaration.Goals as goal

pub returns-then-is_empty-clause-read : goal.returns-then-is_empty-clause-read
returns-then-is_empty-clause-read g c =
    let none : length c.args.types.now ≡ 0 = search rules in
    alone-read g.S.Source.gives c.args.types.now c.args.own.now c.args.source.now c.read_alone.new.source c.read_alone.result none c.read_alone.ensures.read

pub returns-then-is_empty-clause-unread : goal.returns-then-is_empty-clause-unread
returns-then-is_empty-clause-unread g c =
    let none : length c.args.types.now ≡ 0 = search rules in
    alone-unread g.S.Source.gives c.args.types.now c.args.own.now c.args.source.now c.read_alone.new.source c.read_alone.result none c.read_alone.ensures.unread
