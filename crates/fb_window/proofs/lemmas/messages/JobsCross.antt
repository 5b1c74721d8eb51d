-- Jobs cross threads.
use denote.Param.Send.{IsSend, sendable}
use Rattle.std.proofs.Crossing.{crosses}
use Rattle.fb_resource.proofs.lemmas.Sends.{system_send, resource_send}
use Rattle.fb_window.specs.contracts.job.Job as Job

pub job_send : IsSend Job.the_row
job_send = search (sendable, crosses, system_send, resource_send) depth 40
