use Rattle.std.proofs.Common.{sym, ap}
use Rattle.fb_types.specs.EventBlocks.{flag}
use Rattle.fb_event.specs.Seen.{seen_memory}
use Rattle.fb_event.specs.declared.memory.EventMemory.{EventMemory}
use Rattle.fb_event.proofs.step.flag.Goals as goal

pub returns-in-Flag : goal.returns-in-Flag
returns-in-Flag c = ap (λ (m : EventMemory). flag (seen_memory m)) (sym c.in-Flag.is)
