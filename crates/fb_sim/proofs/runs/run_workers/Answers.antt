use denote.Exit.{no}
use denote.Param.Send.{IsSync, arg_send, param_send, recorded_send, recorded_sync, sendable, shr_send, struct_send}
use denote.Struct.Declared.{row, shape}
use denote.Struct.Field.{u64-field}
use denote.Struct.Struct.{Struct}
use denote.Struct.Tuple.{type_at}
use mir.Syntax.{ty_struct, ty_ptr, tcons, tnil, named}
use Rattle.std.proofs.Common.{[]}
use Rattle.std.proofs.Crossing.{sync}
use Rattle.fb_window.proofs.lemmas.messages.JobsCross.{job_send}
use Rattle.fb_sim.proofs.lemmas.text.TextedSends.{texted_send}
use Rattle.fb_sim.proofs.lemmas.runs.CrewCrossing.{crew_sync}
use Rattle.fb_sim.proofs.rounds.workers.TextJobs.TheSendSync as windows
use Rattle.fb_sim.specs.contracts.rounds.workers.TextJobs as TextJobs
use Rattle.fb_sim.proofs.runs.run_workers.Lts.{arg-4-1, name-33, of-20}
use Rattle.fb_sim.proofs.runs.run_workers.Goals as goal

pub new-crew-requires-send-W-Job : goal.new-crew-requires-send-W-Job
new-crew-requires-send-W-Job g c κs = search (sendable, job_send) depth 40

pub new-crew-requires-send-W-Done : goal.new-crew-requires-send-W-Done
new-crew-requires-send-W-Done g c κs = search (sendable, texted_send) depth 40

-- the first closure borrows the crew, the runtime, the allocator, the work, the gate and a number. `search` runs out of
-- steps at its type, so the way to each of them is written out
pub join_mut-ended-requires-send-F : goal.join_mut-ended-requires-send-F
join_mut-ended-requires-send-F g c κs within =
    let number : IsSync (u64-field).row = search sendable in
    let work : IsSync TextJobs.the_row = recorded_sync (TextJobs.the_field).row _ _ (TextJobs.the_type).to_one windows.the_field_sync in
    let T =
    type_at (name-33 g.row.R g.row.W g.row.P g.row.C g.R.laws g.W.laws g.P.laws g.C.laws g.R.Threads-dict g.R.Wait-dict g.W.Write-dict g.P.Gate-dict g.C.Clock-dict g.C.CpuClock-dict)
    (of-20 g.row.R g.row.W g.row.P g.row.C g.R.laws g.W.laws g.P.laws g.C.laws g.R.Threads-dict g.R.Wait-dict g.W.Write-dict g.P.Gate-dict g.C.Clock-dict g.C.CpuClock-dict
    (record { mir = named 8; lft = κs.1.1.1.1.1.1.1.1.0 })
    (record { mir = named 9; lft = κs.1.1.1.1.1.1.1.1.1.0 })
    (record { mir = named 10; lft = κs.1.1.1.1.1.1.1.1.1.1.0 })
    (record { mir = named 11; lft = κs.1.1.1.1.1.1.1.1.1.1.1.0 })
    (record { mir = named 12; lft = κs.1.1.1.1.1.1.1.1.1.1.1.1.0 })
    (record { mir = named 13; lft = κs.1.1.1.1.1.1.1.1.1.1.1.1.1.0 })) in
    param_send 1 (arg-4-1 g.row.R g.row.W g.row.P g.row.C g.R.laws g.W.laws g.P.laws g.C.laws g.R.Threads-dict g.R.Wait-dict g.W.Write-dict g.P.Gate-dict g.C.Clock-dict g.C.CpuClock-dict κs)
    (arg_send (ty_struct [] (tcons ty_ptr (tcons ty_ptr (tcons ty_ptr (tcons ty_ptr (tcons ty_ptr (tcons ty_ptr tnil))))))) no (row T)
    (recorded_send (Struct (shape T)) _ _ T.to_one
    (struct_send (shape T)
    (shr_send _ _ _ crew_sync, (shr_send _ _ _ c.type_bounds.sync-R, (shr_send _ _ _ sync, (shr_send _ _ _ work, (shr_send _ _ _ c.type_bounds.sync-P, (shr_send _ _ _ number, tt)))))))))
