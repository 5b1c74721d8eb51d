use Rattle.fb_draw.specs.Resources as spec
use Rattle.fb_text.proofs.lemmas.Adding.{copied_added, list_added}
use Rattle.fb_draw.proofs.resource.put_entries.Goals as goal

pub loop-entry-preserved : goal.loop-entry-preserved
loop-entry-preserved c =
    copied_added spec.entry_text c.args.entries.now c.loop-entry.entry-index _ c.loop-entry.text.items _ _ c.loop-entry-test.true
    c.in_ok-put_entry.ensures c.loop-entry.invariant

pub returns : goal.returns
returns c = list_added spec.entry_text c.args.entries.now c.loop-entry.entry-index _ _ c.loop-entry-test.false c.loop-entry.invariant
