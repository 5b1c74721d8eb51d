-- The machine stays one of the system.
use Rattle.fb_types.proofs.Common.{◌≡◌, ℕ, ◌<◌, ◌≤◌, max, List, [], length, ap, subst, ◌∙◌, Some, arith, slice_get, slice_set, unwrap_or, length-set, Inputs}
use Rattle.fb_types.specs.declared.key.Key.{Key}
use Rattle.fb_net.specs.declared.resource.Forest.{Forest}
use Rattle.fb_resource.specs.Counts.{IsMetered}
use Rattle.fb_resource.specs.Takings.{AreReady}
use Rattle.fb_resource.specs.declared.tick_counts.TickCounts.{TickCounts}
use Rattle.fb_resource.proofs.lemmas.Lists.{set_each}
use Rattle.fb_sim_machine.specs.Machines.{IsReady}
use Rattle.fb_sim_machine.specs.declared.machine.Machine.{Machine}

pub ready_after : (i : Inputs) (limit : ℕ) (k : Key) (old new : Machine) (tree : Forest) (before meter : TickCounts) → IsReady i limit k.tick old
    → k.resource < length old.trees.items → k.resource < length old.meters.items → slice_get old.meters.items k.resource ≡ Some before
    → IsMetered limit meter → unwrap_or meter.tick 0 ≤ max (unwrap_or before.tick 0) k.tick → tree.resource ≡ k.resource
    → new.trees.items ≡ slice_set old.trees.items k.resource tree → new.meters.items ≡ slice_set old.meters.items k.resource meter
    → AreReady i k.tick new.traffic → new.traffic.mail.items ≡ []
    → IsReady i limit k.tick new
ready_after i limit k old new tree before meter ready has_tree has_meter was metered tick here trees meters traffic delivered = record {
  trees_counted = ap length trees ∙ length-set old.trees.items k.resource tree ∙ ready.trees_counted;
  trees = λ r x h. set_each (λ q t. t.resource ≡ q) old.trees.items k.resource tree has_tree here (λ q t n had. ready.trees q t had) r x (subst (λ (ts : List Forest). slice_get ts r ≡ Some x) trees h);
  meters_counted = ap length meters ∙ length-set old.meters.items k.resource meter ∙ ready.meters_counted;
  meters = λ r x h. set_each (λ q z. IsMetered limit z) old.meters.items k.resource meter has_meter metered (λ q z n had. ready.meters q z had)
      r x (subst (λ (ms : List TickCounts). slice_get ms r ≡ Some x) meters h);
  past = λ r x h. set_each (λ q z. unwrap_or z.tick 0 ≤ k.tick) old.meters.items k.resource meter has_meter past (λ q z n had. ready.past q z had)
      r x (subst (λ (ms : List TickCounts). slice_get ms r ≡ Some x) meters h);
  traffic = traffic;
  delivered = delivered;
}
  where
    past : unwrap_or meter.tick 0 ≤ k.tick
    past = let no_later = ready.past k.resource before was in omega (arith, tick, no_later)
