use Rattle.fb_types.proofs.Common.{sym, subst}
use Rattle.fb_types.specs.declared.event_kind.EventKind.{EventKind}
use Rattle.fb_event.specs.Reactions.{PassesTo}
use Rattle.fb_event.proofs.lemmas.Performing.{merge_passes}
use Rattle.fb_event.proofs.reaction.passes_to.Goals as goal

pub returns-in-Merge : goal.returns-in-Merge
returns-in-Merge c = subst (λ (k : EventKind). PassesTo k 0) (sym c.in-Merge.is) merge_passes
