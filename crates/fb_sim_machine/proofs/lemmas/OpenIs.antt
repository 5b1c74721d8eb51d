-- What a run begins with.
use Rattle.fb_types.proofs.Common.{◌≡◌, ℕ, ◌+◌, ◌≤◌, List, [], ◌∷◌, ◌++◌, length, length-append, replicate, sym, ap, subst, ◌∙◌, Some, None, arith, slice_get, unwrap_or, Inputs, AreAccepted, system_of, stimuli_of, opening_state, world_of}
use Rattle.std.proofs.lemmas.List.{length-replicate}
use Rattle.fb_types.specs.Simulation.{opening_agenda}
use Rattle.fb_net.specs.Worlds.{IsForest}
use Rattle.fb_net.specs.declared.resource.Forest.{Forest}
use Rattle.fb_resource.specs.Counts.{IsMetered}
use Rattle.fb_resource.specs.Openings.{IsOpened}
use Rattle.fb_resource.specs.Posts.{CountsAre}
use Rattle.fb_resource.specs.Takings.{AreReady, IsHere}
use Rattle.fb_resource.specs.declared.tick_counts.TickCounts.{TickCounts}
use Rattle.fb_resource.proofs.lemmas.Begins.{here_opened, metered_opened}
use Rattle.fb_types.proofs.lemmas.lists.ByIndex.{slice_get-push}
use Rattle.fb_resource.proofs.lemmas.Lists.{of_replicate}
use Rattle.fb_sim_machine.specs.Machines.{IsAt, IsReady}
use Rattle.fb_sim_machine.specs.Openings.{AreOpened}
use Rattle.fb_sim_machine.specs.declared.machine.Machine.{Machine}

-- a meter of a resource that took nothing yet
abbrev fresh : TickCounts
fresh = record { tick = None; meter = record { left = 0 }; locals = 0 }

pub at_opened : (i : Inputs) (m : Machine) (n : ℕ) → AreAccepted i → AreOpened i n m.trees.items → m.meters.items ≡ replicate n fresh
    → CountsAre m.traffic.sent.items (opening_state (system_of i)).sent → IsOpened i None m.traffic.agenda
    → IsAt i (opening_state (system_of i)) (opening_agenda (system_of i) (stimuli_of i)) m
at_opened i m n accepted trees meters sent opened = record {
  here = λ r t x its_tree its_meter.
      subst (λ z. IsHere i (opening_state (system_of i)) r 0 t z) (of_replicate n r fresh x (ap (λ xs. slice_get xs r) (sym meters) ∙ its_meter))
      (here_opened i r t accepted (trees.each r t its_tree).0);
  sent = sent;
  agenda = λ j. sym (opened.agenda j);
}

pub ready_opened : (i : Inputs) (limit : ℕ) (m : Machine) → AreOpened i (length (system_of i).resource_names) m.trees.items
    → m.meters.items ≡ replicate (length (system_of i).resource_names) fresh → AreReady i 0 m.traffic → m.traffic.mail.items ≡ []
    → IsReady i limit 0 m
ready_opened i limit m trees meters traffic delivered = record {
  trees_counted = trees.counted;
  trees = λ r t is. (trees.each r t is).1;
  meters_counted = ap length meters ∙ length-replicate (length (system_of i).resource_names) fresh;
  meters = λ r x is. subst (IsMetered limit) (its r x is) (metered_opened limit);
  past = λ r x is. subst (λ (z : TickCounts). unwrap_or z.tick 0 ≤ 0) (its r x is) (omega arith);
  traffic = traffic;
  delivered = delivered;
}
  where
    its : (r : ℕ) (x : TickCounts) → slice_get m.meters.items r ≡ Some x → fresh ≡ x
    its r x is = of_replicate (length (system_of i).resource_names) r fresh x (ap (λ xs. slice_get xs r) (sym meters) ∙ is)

-- the blocks of one resource more
pub opened_more : (i : Inputs) (n : ℕ) (xs ys : List Forest) (t : Forest) → AreOpened i n xs → ys ≡ xs ++ t ∷ []
    → IsForest i t (world_of (opening_state (system_of i)) n) → t.resource ≡ n → AreOpened i (n + 1) ys
opened_more i n xs ys t opened is forest resource = record {
  counted = ap (λ (zs : List Forest). length zs) is ∙ length-append xs (t ∷ []) ∙ ap (λ k. k + 1) opened.counted;
  each = λ r u h.
      slice_get-push (λ k v. IsForest i v (world_of (opening_state (system_of i)) k) × (v.resource ≡ k)) xs t opened.each
      (subst (λ k. IsForest i t (world_of (opening_state (system_of i)) k) × (t.resource ≡ k)) (sym opened.counted) (forest, resource)) r u
      (sym (ap (λ zs. slice_get zs r) is) ∙ h);
}
