use Rattle.fbsim_command.specs.Texts.{given_of, lines_of}
use Rattle.fbsim_command.proofs.lemmas.rules.Declaring.{declares, declares-none, undeclared}
use Rattle.fbsim_command.proofs.expect.read_declared.Goals as goal

pub returns-in_default-clause-read : goal.returns-in_default-clause-read
returns-in_default-clause-read g c = declares-none g.S.Source.gives c.args.expect.now c.args.expect.now.declaration c.args.source.now c.in_default.is

pub returns-in-Ok-clause-read : goal.returns-in-Ok-clause-read
returns-in-Ok-clause-read g c =
    declares g.S.Source.gives c.args.expect.now c.args.expect.now.declaration c.in-Some.declaration c.args.source.now c.read_files.new.source (lines_of c.in-Ok.texts) (given_of c.in-Ok.texts)
    c.as_slice-types.result.now c.files_of.result c.in-Some.is c.as_slice-types.ensures.value c.files_of.ensures c.in-Ok.ensures.read

pub returns-in-Err-clause-unread : goal.returns-in-Err-clause-unread
returns-in-Err-clause-unread g c =
    undeclared g.S.Source.gives c.args.expect.now c.args.expect.now.declaration c.in-Some.declaration c.args.source.now c.read_files.new.source c.in-Err.unread.part c.in-Err.unread.fault
    c.as_slice-types.result.now c.files_of.result c.in-Some.is c.as_slice-types.ensures.value c.files_of.ensures c.in-Err.ensures.unread
