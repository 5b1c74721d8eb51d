use Rattle.fb_check.proofs.lemmas.Common.{◌++◌, List, ℕ, ◌∙◌, ap, None, ResourceEntry, each_at, Application, UnknownName, mapped_unless, sides_unless, unknown_in_block, unknown_in_network}
use Rattle.fb_check.proofs.lemmas.types.NumbersOfNames.{deployment_is, four_added, resolved}
use Rattle.fb_check.proofs.types.resolution.resolve_by.Goals as goal

pub returns-clause-listed : goal.returns-clause-listed
returns-clause-listed c =
    let lib = c.args.types.now.library.now in
    let plan = c.args.plan.now in
    let catalog = c.args.types.now.catalog.now in
    let bs = each_at (unknown_in_block lib) lib.blocks in
    let n = unknown_in_network lib Application (None, lib.application.network) in
    let lists : ℕ → ResourceEntry → List UnknownName = λ r x. each_at (mapped_unless catalog.instances r) x.instances in
    let f0 = c.args.found.now.items in
    four_added f0 c.blocks_of.new.found.items c.network_numbers.new.found.items c.held_of.new.found.items c.links_of.new.found.items bs n (each_at lists c.as_slice-resources.result.now)
    (each_at (sides_unless catalog.resources) c.as_slice.result.now)
    c.in_ok-blocks.ensures.listed c.in_ok-application.ensures.listed c.in_ok-held.ensures.listed c.in_ok-links.ensures.listed
    ∙ ap (λ (ps : List UnknownName). f0 ++ (bs ++ (n ++ ps)))
    (deployment_is lib plan catalog.instances catalog.resources c.as_slice-resources.result.now c.as_slice.result.now c.requires.catalog.instances c.requires.catalog.resources c.as_slice-resources.ensures
    c.as_slice.ensures)

pub returns-clause-numbers : goal.returns-clause-numbers
returns-clause-numbers c =
    let catalog = c.args.types.now.catalog.now in
    resolved c.args.types.now.library.now c.args.plan.now c.in_ok-application.application c.in_ok-blocks.blocks c.in_ok-held.held c.in_ok-links.links catalog.instances catalog.resources
    c.as_slice-resources.result.now c.as_slice.result.now c.requires.catalog.instances c.requires.catalog.resources c.as_slice-resources.ensures c.as_slice.ensures
    c.in_ok-application.ensures.numbers c.in_ok-blocks.ensures.numbers c.in_ok-held.ensures.numbers c.in_ok-links.ensures.numbers
