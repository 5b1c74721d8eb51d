use Rattle.std.proofs.Common.{◌≡◌, List, Option, Some, None, map, ap, sym, ◌∙◌}
use Rattle.toml.specs.Data.{Data}
use Rattle.toml.specs.View.{table_view, view}
use Rattle.fb_expect.specs.Drafts.{RuleText, rules_in, text_of, texts_of}
use Rattle.fb_expect.specs.declared.document.Draft.{Draft}
use Rattle.fb_expect.proofs.lemmas.documents.Locating.{list-refused, no-texts, shapes-read, texts-are, texts-located, value-located}
use Rattle.fb_expect.proofs.location.document_location.Goals as goal

pub returns-in_default-clause-exact : goal.returns-in_default-clause-exact
returns-in_default-clause-exact c = list-refused (table_view c.args.keys.now) (sym c.in_default.ensures)

pub returns-in-Some-shape_location-clause-exact : goal.returns-in-Some-shape_location-clause-exact
returns-in-Some-shape_location-clause-exact c =
    let keys = table_view c.args.keys.now in
    let ds = map view c.in-Some.values.now in
    let in-keys : rules_in keys ≡ Some ds = sym c.in-Some.ensures in
    value-located keys ds c.in-Some-shape_location.location in-keys c.in-Some-shape_location.ensures.among

pub returns-in-Some-2-clause-exact : goal.returns-in-Some-2-clause-exact
returns-in-Some-2-clause-exact c =
    let keys = table_view c.args.keys.now in
    let ts = map text_of c.as_slice.result.now in
    let are = texts-are c.in_ok-drafts.field-0 c.in-Some-2.drafts (texts_of keys) c.in_ok-drafts.ensures c.in-Some-2.is in
    let is : texts_of keys ≡ Some ts = are ∙ ap (λ (xs : List Draft). Some (map text_of xs)) (sym c.as_slice.ensures.value) in
    texts-located keys ts c.drafts_location.result is c.drafts_location.ensures.exact

pub returns-in-None-clause-exact : goal.returns-in-None-clause-exact
returns-in-None-clause-exact c =
    let keys = table_view c.args.keys.now in
    let ds = map view c.in-Some.values.now in
    let in-keys : rules_in keys ≡ Some ds = sym c.in-Some.ensures in
    let none : texts_of keys ≡ None = no-texts c.in_ok-drafts.field-0 (texts_of keys) c.in_ok-drafts.ensures c.in-None.is in
    absurd (shapes-read keys ds in-keys c.in_default-shape_location.ensures.none none)
