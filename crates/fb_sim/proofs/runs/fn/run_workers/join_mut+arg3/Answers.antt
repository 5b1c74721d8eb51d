use denote.Param.Send.{sendable}
use Rattle.fb_window.proofs.lemmas.messages.JobsCross.{job_send}
use Rattle.fb_sim.proofs.lemmas.text.TextedSends.{texted_send}
use Rattle.fb_sim.proofs.runs.fn.run_workers.join_mut+arg3.Goals as goal

pub dismiss-requires-send-W-Job : goal.dismiss-requires-send-W-Job
dismiss-requires-send-W-Job g c κs = search (sendable, job_send) depth 40

pub dismiss-requires-send-W-Done : goal.dismiss-requires-send-W-Done
dismiss-requires-send-W-Done g c κs = search (sendable, texted_send) depth 40
