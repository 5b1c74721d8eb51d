use Rattle.std.proofs.Common.{◌≡◌, ℕ, List, Option, Some, None, length, map, refl, ap, sym, ◌∙◌, arith, rules}
use Rattle.std.specs.Prelude.{is_some, option_map, slice_get}
use Rattle.std.proofs.lemmas.List.{length-map}
use Rattle.fb_expect.specs.Drafts.{text_of}
use Rattle.fb_expect.specs.Locations.{number_at}
use Rattle.fb_expect.specs.declared.location.RulesLocation.{RulesLocation}
use Rattle.fb_expect.proofs.lemmas.documents.Locating.{drafts-read, drafts-refused, patterns-all, patterns-judged}
use Rattle.fb_expect.proofs.location.drafts_location.Goals as goal

pub returns-in-Some-clause-exact : goal.returns-in-Some-clause-exact
returns-in-Some-clause-exact c =
    let ts = map text_of c.args.drafts.now in
    let o = c.in_ok-location.field-0 in
    let p = patterns-judged ts (option_map number_at o) c.in_ok-location.ensures.exact (number_at c.in-Some.location) (ap (λ (q : Option RulesLocation). option_map number_at q) c.in-Some.is) in
    ap (λ (n : ℕ). Some n) p.1 ∙ drafts-refused ts p.0

pub returns-in-None-clause-exact : goal.returns-in-None-clause-exact
returns-in-None-clause-exact c =
    let ts = map text_of c.args.drafts.now in
    let all = patterns-all ts (ap (λ (q : Option RulesLocation). option_map number_at q) (sym c.in-None.is) ∙ c.in_ok-location.ensures.exact) in
    drafts-read ts (option_map number_at c.number_location.result) all (c.number_location.ensures.exact all)
