use Rattle.fb_system.proofs.lemmas.Common.{◌<◌, List, length, sym, subst, ports_of_event_block, WithIndexes, AreWithIndexes}
use Rattle.fb_system.proofs.lemmas.types.EventBlocks.{entry_within, entry_stands}
use Rattle.fb_system.proofs.interfaces.Interfaces.of_event_block.Goals as goal

pub bounds-as_slice-index : goal.bounds-as_slice-index
bounds-as_slice-index c =
    subst (λ (l : List WithIndexes). c.index.result < length l) (sym c.as_slice.ensures)
    (entry_within _ _ _ c.requires.1.event_blocks c.index.ensures)

pub returns : goal.returns
returns c =
    let all = c.args.self.now.event_blocks in
    subst (λ (x : WithIndexes). AreWithIndexes (ports_of_event_block c.args.kind) x)
    (sym (rw c.as_slice.ensures at c.index-as_slice-index.is))
    (entry_stands all c.args.kind c.index.result c.index-as_slice-index.result c.requires.1.event_blocks c.index.ensures)
