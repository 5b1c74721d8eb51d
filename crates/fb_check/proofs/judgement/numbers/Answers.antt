use Rattle.fb_check.proofs.lemmas.Common.{rules, ◌≡◌, List, ◌++◌, map, sym, ap, ◌∙◌, UnknownName, IsUnknownAt, unknown_all, inputs_in}
use Rattle.fb_check_names.proofs.lemmas.Listing.{some_says}
use Rattle.fb_check.proofs.lemmas.types.UnknownApplies.{unknown_applies}
use Rattle.fb_check.proofs.lemmas.types.UnknownWitnesses.{each_unknown}
use Rattle.fb_check.specs.declared.fault.Fault.TheVariants as of
use Rattle.fb_check.specs.declared.location.Location.TheVariants as at
use Rattle.fb_check.proofs.lemmas.Verdict.{first, least_21, made_so, passes_20, refused_so}
use Rattle.fb_check.proofs.judgement.numbers.Goals as goal

pub returns-clause-refused : goal.returns-clause-refused
returns-clause-refused c =
    let lib = c.args.case.now.library.now in
    let plan = c.args.case.now.plan.now in
    let ss = c.args.case.now.stimuli.now in
    let found = c.resolve.new.found.items in
    let listed : found ≡ unknown_all lib plan = c.in_ok-resolved.ensures.listed ∙ ap (λ (ps : List UnknownName). ps ++ unknown_all lib plan) c.new-found.ensures.items in
    refused_so c.passed.result (inputs_in c.args.case.now) of.NameUnknown (λ (p : UnknownName). at.NameUnknown p) found c.in_ok-locations.locations (search rules)
    (λ some. least_21 lib plan ss (passes_20 lib plan ss (first lib plan ss) c.requires.once) (some_says (IsUnknownAt lib plan) (unknown_all lib plan) (unknown_applies lib plan) (each_unknown lib plan) (λ none. some (listed ∙ none))))
    (λ some. ap (map (λ (p : UnknownName). at.NameUnknown p)) listed)
    c.passed.ensures.refused

pub returns-clause-ok : goal.returns-clause-ok
returns-clause-ok c =
    let lib = c.args.case.now.library.now in
    let plan = c.args.case.now.plan.now in
    let ss = c.args.case.now.stimuli.now in
    let found = c.resolve.new.found.items in
    let listed : found ≡ unknown_all lib plan = c.in_ok-resolved.ensures.listed ∙ ap (λ (ps : List UnknownName). ps ++ unknown_all lib plan) c.new-found.ensures.items in
    made_so _ c.passed.result c.in_ok-resolved.resolved (λ (p : UnknownName). at.NameUnknown p) found c.in_ok-locations.locations.items (search rules) (λ none. c.in_ok-resolved.ensures.numbers (sym listed ∙ none)) c.passed.ensures.ok
