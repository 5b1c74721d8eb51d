use Rattle.fb_types.proofs.Common.{subst, IfOk}
use Rattle.fb_types.specs.declared.library.Ports.{Ports}
use Rattle.fb_system.specs.IndexLists.{AreWithIndexes}
use Rattle.fb_system.proofs.event_block_with_indexes.of_kind.Goals as goal

pub of_ports-requires : goal.of_ports-requires
of_ports-requires c = (c.args.kind, c.in_ok-ports.ensures)

pub returns : goal.returns
returns c = subst (λ (p : Ports). IfOk c.of_ports.result (AreWithIndexes p)) c.in_ok-ports.ensures c.of_ports.ensures
