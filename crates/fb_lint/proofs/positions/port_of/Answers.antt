use Rattle.std.proofs.Common.{sym, ap}
use Rattle.fb_check_names.specs.declared.ports.PortKind.{PortKind}
use Rattle.fb_lint.specs.Positions as spec
use Rattle.fb_lint.proofs.positions.port_of.Goals as goal

pub returns-in-EventInput : goal.returns-in-EventInput
returns-in-EventInput c = sym (ap (λ (k : PortKind). spec.port_of k c.args.port) c.in-EventInput.is)

pub returns-in-EventOutput : goal.returns-in-EventOutput
returns-in-EventOutput c = sym (ap (λ (k : PortKind). spec.port_of k c.args.port) c.in-EventOutput.is)

pub returns-in-Input : goal.returns-in-Input
returns-in-Input c = sym (ap (λ (k : PortKind). spec.port_of k c.args.port) c.in-Input.is)

pub returns-in-Output : goal.returns-in-Output
returns-in-Output c = sym (ap (λ (k : PortKind). spec.port_of k c.args.port) c.in-Output.is)
