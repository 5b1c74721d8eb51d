-- What becomes of jobs crosses threads, with the texts that were made.
use denote.Param.Send.{IsSend, sendable}
use Rattle.std.proofs.Crossing.{crosses}
use Rattle.fb_trace.proofs.marks.MarkedText.TheSendSync as text
use Rattle.fb_resource.proofs.lemmas.Sends.{done_send}
use Rattle.fb_sim.specs.contracts.rounds.workers.JobDone as JobDone

pub texted_send : IsSend (JobDone.the_field).row
texted_send = search (sendable, crosses, done_send, text.the_field_send) depth 40
