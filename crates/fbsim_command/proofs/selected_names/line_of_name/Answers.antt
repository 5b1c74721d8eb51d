use Rattle.std.proofs.Common.{option_map, string_bytes}
use Rattle.fbsim_command.proofs.lemmas.names.KnownNames.{known-said, unknown-said}
use Rattle.fbsim_command.proofs.selected_names.line_of_name.Goals as goal

pub returns-then-is_one_of : goal.returns-then-is_one_of
returns-then-is_one_of c =
    known-said c.args.option.now c.args.names.now c.args.name.now c.is_one_of.result (string_bytes c.new.result) c.is_one_of.ensures c.if-is_one_of.true c.new.ensures.bytes

pub returns : goal.returns
returns c =
    unknown-said (λ s. string_bytes s) c.unknown_line.result c.args.option.now c.args.names.now c.args.name.now c.as_bytes.result.now (option_map (λ n. n.now) c.in_ok-near.near) c.is_one_of.result c.is_one_of.ensures
    c.if-is_one_of.false c.as_bytes.ensures c.in_ok-near.ensures c.unknown_line.ensures
