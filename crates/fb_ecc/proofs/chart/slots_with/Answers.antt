use Rattle.fb_types.proofs.Common.{ℕ, Bor, map, ◌∙◌, ap, take_all, Name, among}
use Rattle.fb_ecc.specs.Indexed.{entry_of}
use Rattle.fb_ecc.proofs.lemmas.Located.{limited, slots_made}
use Rattle.fb_ecc.proofs.chart.slots_with.Goals as goal

pub returns : goal.returns
returns c = λ all index few.
    c.loop-entry.invariant
    ∙ ap (map (λ (e : ℕ × Bor Name). limited c.args.first e.0)) (take_all c.loop-entry.entry-index _ c.loop-entry-test.false ∙ c.as_slice-entry-items.ensures.value)
    ∙ slots_made (among c.args.with.now) all c.in_ok-entries.entries.items c.args.first (ap (map entry_of) c.in_ok-entries.ensures ∙ c.in_ok-found.ensures all index) few
