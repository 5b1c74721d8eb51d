use Rattle.std.proofs.Common.{◌≡◌, ◌≤◌, drop, length, map, vec_len, vec_capacity}
use Rattle.toml.specs.View.{view}
use Rattle.fb_expect.specs.Drafts.{rule_text, text_of}
use Rattle.fb_expect.specs.Lists.{each}
use Rattle.fb_expect.proofs.lemmas.documents.EachMayFail.{with_front}
use Rattle.fb_expect.proofs.document.each_draft.Given as goal

abbrev pub invariant-loop-value : goal.invariant-loop-value
invariant-loop-value l = record {
  found : each rule_text (map view l.values) ≡ with_front (map text_of l.drafts.items) (each rule_text (map view (drop l.value-index l.values)));
  len : vec_len l.drafts ≡ l.value-index;
  room : length l.values ≤ vec_capacity l.drafts;
}
