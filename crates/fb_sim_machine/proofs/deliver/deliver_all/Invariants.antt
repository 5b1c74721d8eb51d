use Rattle.fb_types.proofs.Common.{◌≡◌, ◌++◌, ◌<◌, ℕ, All, map, found, or_else}
use Rattle.fb_types.specs.declared.key.Key.{Key}
use Rattle.fb_types.specs.declared.run.Message.{Message}
use Rattle.std.specs.Vec.Iter.{drain_items, DrainKeeps}
use Rattle.fb_resource.specs.Posts.{arriving}
use Rattle.fb_resource.specs.Waiting.{IsInOrder, meaning}
use Rattle.fb_sim_machine.proofs.deliver.deliver_all.Given as goal

abbrev pub invariant-loop-message : goal.invariant-loop-message
invariant-loop-message l = record {
  put : (j : Key) → meaning l.system l.agenda j ≡ or_else (found j (map (arriving l.system) l.yielded)) (meaning l.system l.initial.agenda j);
  order : (tick : ℕ) → IsInOrder l.system tick l.initial.agenda → All (λ (m : Message). tick < m.arrives) (drain_items l.initial.message-iterator) → IsInOrder l.system tick l.agenda;
  due : l.agenda.due ≡ l.initial.agenda.due;
  rest : l.yielded ++ drain_items l.message-iterator ≡ drain_items l.initial.message-iterator;
  keeps : DrainKeeps l.initial.message-iterator l.message-iterator;
}
