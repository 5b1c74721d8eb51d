use Rattle.fb_types.proofs.Common.{◌≡◌, refl, kind_index, EventKind}
use denote.Enum.Declared.{tag_of}
use Rattle.fb_types.specs.contracts.event_kind.EventKind.{the_type}
use Rattle.fb_types.specs.declared.event_kind.EventKind.TheVariants as kind
use Rattle.fb_types.proofs.event_kind.EventKind.index.Goals as goal

place : (k : EventKind) → tag_of the_type k ≡ kind_index k
place kind.Restart = refl
place kind.Split = refl
place kind.Merge = refl
place kind.Rendezvous = refl
place kind.Permit = refl
place kind.Select = refl
place kind.Switch = refl
place kind.Delay = refl
place kind.Cycle = refl
place kind.SetReset = refl
place kind.DataLatch = refl
place kind.RisingEdge = refl
place kind.FallingEdge = refl
place kind.CountUp = refl

pub returns : goal.returns
returns c = place c.args.self
