use Rattle.std.proofs.Common.{refl}
use Rattle.fb_check_names.proofs.ports.index_among.Goals as goal

pub returns-in-EventInput : goal.returns-in-EventInput
returns-in-EventInput c = rw (c.in-EventInput.is, c.index_named.ensures, c.as_slice.ensures) refl

pub returns-in-EventOutput : goal.returns-in-EventOutput
returns-in-EventOutput c = rw (c.in-EventOutput.is, c.index_named-in-EventOutput.ensures, c.as_slice-in-EventOutput.ensures) refl

pub returns-in-Input : goal.returns-in-Input
returns-in-Input c = rw (c.in-Input.is, c.index_named-in-Input.ensures, c.as_slice-in-Input.ensures) refl

pub returns-in-Output : goal.returns-in-Output
returns-in-Output c = rw (c.in-Output.is, c.index_named-in-Output.ensures, c.as_slice-in-Output.ensures) refl
