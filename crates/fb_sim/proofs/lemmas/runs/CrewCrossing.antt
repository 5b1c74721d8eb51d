-- The threads of a run share its crew.
use denote.Param.Send.{IsSync, recorded_send}
use Rattle.fb_phase.proofs.crew.Crew.TheSendSync as crew
use Rattle.fb_phase.specs.contracts.crew.Crew as Crew
use Rattle.fb_window.proofs.lemmas.messages.JobsCross.{job_send}
use Rattle.fb_window.specs.contracts.job.Job as Job
use Rattle.fb_sim.proofs.lemmas.text.TextedSends.{texted_send}
use Rattle.fb_sim.specs.contracts.rounds.workers.JobDone as JobDone
use Rattle.fb_sim.specs.contracts.rounds.workers.TextJobs as TextJobs
use Rattle.fb_sim.specs.contracts.rounds.workers.TextJobsDeal.TheImpl.{ghosts}

pub crew_sync : IsSync (Crew.the_row TextJobs.the_row Job.the_row JobDone.the_row ghosts)
crew_sync =
    let done = recorded_send (JobDone.the_field).row _ _ (JobDone.the_type).to_one texted_send in
    crew.the_sync TextJobs.the_row Job.the_row JobDone.the_row ghosts job_send done
