use denote.Param.Send.{sendable}
use Rattle.fb_window.proofs.lemmas.messages.JobsCross.{job_send}
use Rattle.fb_sim.proofs.lemmas.text.TextedSends.{texted_send}
use Rattle.fb_sim.proofs.rounds.run_round.Goals as goal

pub begin-requires-send-W-Job : goal.begin-requires-send-W-Job
begin-requires-send-W-Job g c κs within = search (sendable, job_send) depth 40

pub begin-requires-send-W-Done : goal.begin-requires-send-W-Done
begin-requires-send-W-Done g c κs within = search (sendable, texted_send) depth 40

pub finish-requires-send-W-Job : goal.finish-requires-send-W-Job
finish-requires-send-W-Job g c κs within = search (sendable, job_send) depth 40

pub finish-requires-send-W-Done : goal.finish-requires-send-W-Done
finish-requires-send-W-Done g c κs within = search (sendable, texted_send) depth 40

pub call_late-requires-send-W-Job : goal.call_late-requires-send-W-Job
call_late-requires-send-W-Job g c κs within = search (sendable, job_send) depth 40

pub call_late-requires-send-W-Done : goal.call_late-requires-send-W-Done
call_late-requires-send-W-Done g c κs within = search (sendable, texted_send) depth 40
