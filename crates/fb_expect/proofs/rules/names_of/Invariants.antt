use Rattle.fb_expect.proofs.lemmas.Common.{◌≡◌, drop, map, each}
use Rattle.toml.specs.View.{view}
use Rattle.fb_expect.specs.Drafts.{texts_in}
use Rattle.fb_expect.specs.Needs.{name_of}
use Rattle.fb_expect.proofs.lemmas.documents.EachMayFail.{with_front}
use Rattle.fb_expect.proofs.rules.names_of.Given as goal

abbrev pub invariant-loop-value : goal.invariant-loop-value
invariant-loop-value l = each name_of (texts_in (map view l.values)) ≡ with_front l.names (each name_of (texts_in (map view (drop l.value-index l.values))))
