use Rattle.fb_sim.proofs.lemmas.Common.{◌++◌, [], ◌∷◌, List, length, sym, ap, subst, ◌∙◌, append_assoc, arith, AllZip, into_iter_items, WindowDone, Does, JobModel}
use Rattle.fb_sim.proofs.rounds.run_here.Goals as goal

zip_push : (js : List JobModel) (ds : List WindowDone) (j : JobModel) (d : WindowDone) → AllZip Does js ds → Does j d → AllZip Does (js ++ j ∷ []) (ds ++ d ∷ [])
zip_push [] [] j d h one = (one, tt)
zip_push [] (x ∷ ds) j d h one = absurd h
zip_push (x ∷ js) [] j d h one = absurd h
zip_push (x ∷ js) (y ∷ ds) j d h one = (h.0, zip_push js ds j d h.1 one)

pub push_reserved-requires : goal.push_reserved-requires
push_reserved-requires g c =
    let room = c.loop-job.invariant.room in
    let step = c.in-Some.ensures.steps in
    omega (arith, room, step.1)

pub loop-job-preserved : goal.loop-job-preserved
loop-job-preserved g c =
    let inv = c.loop-job.invariant in
    let done = c.loop-job.yielded in
    let x = c.in-Some.job in
    let step = c.in-Some.ensures.steps in
    let rest = ap (λ z. done ++ z) (sym step.0) ∙ inv.rest in
    let one = c.push_reserved.ensures in
    record {
      done =
          subst (λ (ds : List WindowDone). AllZip Does (done ++ x ∷ []) ds) (sym one.items)
          (zip_push done c.loop-job.dones.items x c.run.result inv.done c.run.ensures);
      rest = append_assoc done (x ∷ []) (into_iter_items c.next.new.self) ∙ rest;
      len = let same = ap length step.0 in omega (arith, inv.len, step.1, same);
      room = omega (arith, inv.room, step.1, one.len, one.capacity);
    }
