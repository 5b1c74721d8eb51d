use Rattle.std.proofs.Common.{◌≡◌, drop, map}
use Rattle.toml.specs.View.{view}
use Rattle.fb_expect.specs.Drafts.{are_texts}
use Rattle.fb_expect.proofs.document.are_texts.Given as goal

abbrev pub invariant-loop-value : goal.invariant-loop-value
invariant-loop-value l = are_texts (map view l.values) ≡ are_texts (map view (drop l.value-index l.values))
