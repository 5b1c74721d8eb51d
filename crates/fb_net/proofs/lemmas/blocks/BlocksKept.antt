-- That a step leaves each instance of the resource its block, also where memory ran out.
use Rattle.fb_net.proofs.lemmas.Common.{◌≡◌, ℕ, ◌<◌, List, length, map, refl, sym, ◌∙◌, arith, slice_get_within, Inputs, system_of, carried_of, World, Carried, HoldsAll, AreKept, Changes, block_in, with_instance, InForest, IsForest, index_in, Forest}
use Rattle.fb_types.proofs.Common.{hold_all}
use Rattle.fb_types.specs.States as model
use Rattle.fb_net.specs.Worlds.{Stands}

-- nothing has changed
pub kept-same : (i : Inputs) (f : Forest) → AreKept i f f
kept-same i f = record { resource = refl; whole = λ w stood. (w, stood) }

-- one step after the other
pub kept-then : (i : Inputs) (f g h : Forest) → AreKept i f g → AreKept i g h → AreKept i f h
kept-then i f g h first next = record {
  resource = next.resource ∙ first.resource;
  whole = λ w stood. let v = first.whole w stood in next.whole v.0 v.1;
}

-- an instance has changed
pub kept-changed :
    (i : Inputs) (old new : Forest) (k : ℕ) (change : model.Block → model.Block) → Changes i old k change new → InForest i old k → AreKept i old new
kept-changed i old new k change changes here = record {
  resource = changes.resource;
  whole = λ w stood. (with_instance i k (change (block_in i w k)) w, changes.represents w stood here);
}

-- values of other resources have come
pub kept-held : (i : Inputs) (old new : Forest) (carried : List Carried) → HoldsAll i old carried new → AreKept i old new
kept-held i old new carried holds = record {
  resource = holds.resource;
  whole = λ w stood. (record w { held = hold_all (map (carried_of (system_of i)) carried) w.held }, holds.represents w stood);
}

-- the blocks represent some world
pub kept-world : (i : Inputs) (old new : Forest) → new.resource ≡ old.resource → ((w : World) × IsForest i new w) → AreKept i old new
kept-world i old new resource world = record { resource = resource; whole = λ w stood. world }

-- an instance stands after a step that keeps the blocks those of the system
pub stands-kept : (i : Inputs) (old new : Forest) (k : ℕ) → AreKept i old new → Stands i old k → Stands i new k
stands-kept i old new k kept stands = record { here = stands.here ∙ sym kept.resource; whole = kept.whole stands.whole.0 stands.whole.1 }

-- an instance stands after a change of its block
pub stands-changed :
    (i : Inputs) (old new : Forest) (k : ℕ) (change : model.Block → model.Block) → Stands i old k → Changes i old k change new → Stands i new k
stands-changed i old new k change stands changes = stands-kept i old new k (kept-changed i old new k change changes stands.here) stands

-- an instance that stands has its index
pub shell_index-there : (i : Inputs) (t : Forest) (k : ℕ) → k < length (system_of i).paths → Stands i t k → k < length t.shell_indexes
shell_index-there i t k number stands = let has_shells = stands.whole.1.has_shells in omega (arith, number, has_shells)

-- an instance that stands has its shell
pub shell-there : (i : Inputs) (t : Forest) (k : ℕ) → k < length (system_of i).paths → Stands i t k → index_in t.shell_indexes k < length t.shells
shell-there i t k number stands =
    let there = stands.whole.1.shells k number stands.here in slice_get_within t.shells (index_in t.shell_indexes k) there.shell there.stood
