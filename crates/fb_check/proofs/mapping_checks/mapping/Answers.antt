use Rattle.fb_check.proofs.lemmas.Common.{rules, ◌≡◌, List, ◌++◌, map, sym, ap, ◌∙◌, arith, NotMappedAt, inputs_in}
use Rattle.fb_check_names.proofs.lemmas.Listing.{some_says}
use Rattle.fb_check.specs.networks.NotMapped.{IsNotMappedAt, not_mapped_all}
use Rattle.fb_check.proofs.lemmas.networks.Mapped.{each_not_mapped, none_not_mapped, not_mapped_applies}
use Rattle.fb_check.specs.declared.fault.Fault.TheVariants as of
use Rattle.fb_check.specs.declared.location.Location.TheVariants as at
use Rattle.fb_check.proofs.lemmas.Verdict.{least_26, made_so, once, passes_26, refused_so}
use Rattle.fb_check.proofs.mapping_checks.mapping.Goals as goal

pub mapping_of-requires : goal.mapping_of-requires
mapping_of-requires c = record { once = λ _. once 26 c.args.case.now.library.now c.args.case.now.plan.now c.args.case.now.stimuli.now (omega arith) c.requires }

pub returns-clause-refused : goal.returns-clause-refused
returns-clause-refused c =
    let lib = c.args.case.now.library.now in
    let plan = c.args.case.now.plan.now in
    let ss = c.args.case.now.stimuli.now in
    let found = c.mapping_of.new.found.items in
    let listed : found ≡ not_mapped_all lib plan = c.in_ok-mapping.ensures.found ∙ ap (λ (ps : List NotMappedAt). ps ++ not_mapped_all lib plan) c.new-found.ensures.items in
    refused_so c.passed.result (inputs_in c.args.case.now) of.NotMapped (λ (p : NotMappedAt). at.NotMapped p) found c.in_ok-locations.locations (search rules)
    (λ some. least_26 lib plan ss c.requires (some_says (IsNotMappedAt lib plan) (not_mapped_all lib plan) (not_mapped_applies lib plan) (each_not_mapped lib plan) (λ none. some (listed ∙ none))))
    (λ some. ap (map (λ (p : NotMappedAt). at.NotMapped p)) listed)
    c.passed.ensures.refused

pub returns-clause-mapping : goal.returns-clause-mapping
returns-clause-mapping c =
    let lib = c.args.case.now.library.now in
    let plan = c.args.case.now.plan.now in
    let ss = c.args.case.now.stimuli.now in
    let found = c.mapping_of.new.found.items in
    let listed : found ≡ not_mapped_all lib plan = c.in_ok-mapping.ensures.found ∙ ap (λ (ps : List NotMappedAt). ps ++ not_mapped_all lib plan) c.new-found.ensures.items in
    made_so _ c.passed.result c.in_ok-mapping.mapping (λ (p : NotMappedAt). at.NotMapped p) found c.in_ok-locations.locations.items (search rules) (λ none. c.in_ok-mapping.ensures.mapping (sym listed ∙ none)) c.passed.ensures.ok

pub returns-clause-ok : goal.returns-clause-ok
returns-clause-ok c =
    let lib = c.args.case.now.library.now in
    let plan = c.args.case.now.plan.now in
    let ss = c.args.case.now.stimuli.now in
    let found = c.mapping_of.new.found.items in
    let listed : found ≡ not_mapped_all lib plan = c.in_ok-mapping.ensures.found ∙ ap (λ (ps : List NotMappedAt). ps ++ not_mapped_all lib plan) c.new-found.ensures.items in
    made_so _ c.passed.result c.in_ok-mapping.mapping (λ (p : NotMappedAt). at.NotMapped p) found c.in_ok-locations.locations.items (search rules) (λ none. passes_26 lib plan ss c.requires (none_not_mapped lib plan (sym listed ∙ none))) c.passed.ensures.ok
