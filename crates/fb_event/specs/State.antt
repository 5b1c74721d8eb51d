-- What the contracts see of an event block (this project's profile, in the manner of IEC 61499-1, Annex A).
use Rattle.fb_types.specs.EventBlocks.{Memory}
use Rattle.fb_types.specs.declared.event_kind.EventKind.{EventKind}

-- An event block: its kind, and what it remembers.
pub record State : Type 0 where
  pub kind : EventKind
  pub memory : Memory
