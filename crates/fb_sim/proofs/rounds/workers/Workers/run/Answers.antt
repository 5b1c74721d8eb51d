use denote.Param.Send.{sendable}
use Rattle.fb_window.proofs.lemmas.messages.JobsCross.{job_send}
use Rattle.fb_sim.proofs.lemmas.text.TextedSends.{texted_send}
use Rattle.fb_sim.proofs.rounds.workers.Workers.run.Goals as goal

pub run_all-requires-send-W-Job : goal.run_all-requires-send-W-Job
run_all-requires-send-W-Job g c κs within = search (sendable, job_send) depth 40

pub run_all-requires-send-W-Done : goal.run_all-requires-send-W-Done
run_all-requires-send-W-Done g c κs within = search (sendable, texted_send) depth 40

pub run_all-requires-in-None-send-W-Job : goal.run_all-requires-in-None-send-W-Job
run_all-requires-in-None-send-W-Job g c κs within = search (sendable, job_send) depth 40

pub run_all-requires-in-None-send-W-Done : goal.run_all-requires-in-None-send-W-Done
run_all-requires-in-None-send-W-Done g c κs within = search (sendable, texted_send) depth 40
