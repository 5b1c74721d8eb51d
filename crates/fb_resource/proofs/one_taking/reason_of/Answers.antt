use Rattle.std.proofs.Common.{Err, ◌∙◌, ap}
use Rattle.fb_resource.proofs.one_taking.reason_of.Goals as goal

pub returns-in-Ok : goal.returns-in-Ok
returns-in-Ok c = c.in-Ok.is

pub returns-in-Err-Stop : goal.returns-in-Err-Stop
returns-in-Err-Stop c =
    let inner = rw c.in-Err-Stop.is at c.in-Err-Stop.field-0-is in
    c.in-Err-Stop.is ∙ ap Err inner
