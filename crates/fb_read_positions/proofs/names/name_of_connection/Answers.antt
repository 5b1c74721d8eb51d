use Rattle.std.proofs.Common.{sym, ap}
use Rattle.fb_read_positions.specs.Spans.{name_of_connection}
use Rattle.fb_read_positions.specs.declared.position.ConnectionPart.{ConnectionPart}
use Rattle.fb_read_positions.proofs.names.name_of_connection.Goals as goal

pub returns-in-FromPort : goal.returns-in-FromPort
returns-in-FromPort c = sym (ap (λ (p : ConnectionPart). name_of_connection p c.args.connection.now) c.in-FromPort.is)

pub returns-in-ToPort : goal.returns-in-ToPort
returns-in-ToPort c = sym (ap (λ (p : ConnectionPart). name_of_connection p c.args.connection.now) c.in-ToPort.is)
