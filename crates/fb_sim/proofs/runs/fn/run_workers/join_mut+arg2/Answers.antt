use denote.Param.Send.{sendable}
use Rattle.fb_window.proofs.lemmas.messages.JobsCross.{job_send}
use Rattle.fb_sim.proofs.lemmas.text.TextedSends.{texted_send}
use Rattle.fb_sim.proofs.runs.fn.run_workers.join_mut+arg2.Goals as goal

pub serve-requires-send-W-Job : goal.serve-requires-send-W-Job
serve-requires-send-W-Job g c κs = search (sendable, job_send) depth 40

pub serve-requires-send-W-Done : goal.serve-requires-send-W-Done
serve-requires-send-W-Done g c κs = search (sendable, texted_send) depth 40
