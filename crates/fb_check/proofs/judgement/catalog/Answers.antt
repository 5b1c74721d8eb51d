use Rattle.fb_check.proofs.lemmas.Common.{rules, ◌≡◌, List, ◌++◌, map, sym, ap, ◌∙◌, inputs_in}
use Rattle.fb_check_names.proofs.lemmas.Listing.{some_says}
use Rattle.fb_check_names.specs.declared.twice.GivenTwice.{GivenTwice}
use Rattle.fb_check_names.specs.Twice.{IsTwiceAt}
use Rattle.fb_check_names.specs.TwiceLists.{twice_all}
use Rattle.fb_check_names.proofs.lemmas.twice.AllTwice.{each_twice, none_twice}
use Rattle.fb_check_names.proofs.lemmas.numbers.Applying.{twice_applies}
use Rattle.fb_check.specs.declared.fault.Fault.TheVariants as of
use Rattle.fb_check.specs.declared.location.Location.TheVariants as at
use Rattle.fb_check.proofs.lemmas.Verdict.{first, least_20, made_so, refused_so}
use Rattle.fb_check.proofs.judgement.catalog.Goals as goal

pub returns-clause-refused : goal.returns-clause-refused
returns-clause-refused c =
    let lib = c.args.case.now.library.now in
    let plan = c.args.case.now.plan.now in
    let ss = c.args.case.now.stimuli.now in
    let found = c.catalog_of.new.found.items in
    let listed : found ≡ twice_all lib plan = c.in_ok-catalog.ensures.found ∙ ap (λ (ps : List GivenTwice). ps ++ twice_all lib plan) c.new-found.ensures.items in
    refused_so c.passed.result (inputs_in c.args.case.now) of.NameTwice (λ (p : GivenTwice). at.NameTwice p) found c.in_ok-locations.locations (search rules)
    (λ some. least_20 lib plan ss (first lib plan ss) (some_says (IsTwiceAt lib plan) (twice_all lib plan) (twice_applies lib plan) (each_twice lib plan) (λ none. some (listed ∙ none))))
    (λ some. ap (map (λ (p : GivenTwice). at.NameTwice p)) listed)
    c.passed.ensures.refused

pub returns-clause-ok : goal.returns-clause-ok
returns-clause-ok c =
    let lib = c.args.case.now.library.now in
    let plan = c.args.case.now.plan.now in
    let ss = c.args.case.now.stimuli.now in
    let found = c.catalog_of.new.found.items in
    let listed : found ≡ twice_all lib plan = c.in_ok-catalog.ensures.found ∙ ap (λ (ps : List GivenTwice). ps ++ twice_all lib plan) c.new-found.ensures.items in
    made_so _ c.passed.result c.in_ok-catalog.catalog (λ (p : GivenTwice). at.NameTwice p) found c.in_ok-locations.locations.items (search rules) (λ none. c.in_ok-catalog.ensures.catalog (none_twice lib plan (sym listed ∙ none))) c.passed.ensures.ok
