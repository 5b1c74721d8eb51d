use Rattle.fb_types.proofs.Common.{◌≡◌, ◌&&◌, drop, list_any, among, same_name}
use Rattle.fb_types.specs.declared.library.EventPort.{EventPort}
use Rattle.fb_system.proofs.event_block_with_indexes.is_with.Given as goal

abbrev pub invariant-loop-port : goal.invariant-loop-port
invariant-loop-port l =
    list_any (λ (p : EventPort). same_name p.name l.event && among p.with l.variable) l.events
    ≡ list_any (λ (p : EventPort). same_name p.name l.event && among p.with l.variable) (drop l.port-index l.events)
