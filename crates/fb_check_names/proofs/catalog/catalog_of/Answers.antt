use Rattle.fb_types.proofs.Common.{List, ◌++◌, ◌∙◌, ap, map, type_name}
use Rattle.fb_types.specs.declared.library.BlockType.{BlockType}
use Rattle.fb_check_names.specs.Listed.{each_at}
use Rattle.fb_check_names.specs.declared.location.Site.TheVariants as site
use Rattle.fb_check_names.specs.declared.twice.GivenTwice.{GivenTwice}
use Rattle.fb_check_names.specs.TwiceLists.{event_block_at, names_twice, twice_in_block, twice_in_network, twice_in_plan}
use Rattle.fb_check_names.specs.declared.repeats.NameSpace.TheVariants as space
use Rattle.fb_check_names.proofs.lemmas.numbers.Catalogs.{all_added, catalog_made}
use Rattle.fb_check_names.proofs.catalog.catalog_of.Goals as goal

pub returns-clause-found : goal.returns-clause-found
returns-clause-found c =
    let ts : List BlockType = c.as_slice-blocks.result.now in
    let old : List GivenTwice = c.args.found.now.items in
    let application : List GivenTwice = twice_in_network site.Application c.args.library.now.application.network in
    let deployed : List GivenTwice = twice_in_plan c.args.plan.now in
    all_added old (each_at event_block_at ts) (names_twice space.Types (map type_name ts)) (each_at twice_in_block ts) application deployed _ _ _ _ _
    c.in_ok-push_event_blocks.ensures c.in_ok-types.ensures.found c.in_ok-blocks.ensures.found c.in_ok-instances.ensures.found c.in_ok-resources.ensures.found
    ∙ ap (λ (ts : List BlockType). old ++ ((each_at event_block_at ts ++ (names_twice space.Types (map type_name ts) ++ (each_at twice_in_block ts ++ application))) ++ deployed)) c.as_slice-blocks.ensures

pub returns-clause-catalog : goal.returns-clause-catalog
returns-clause-catalog c =
    catalog_made c.args.library.now c.args.plan.now _ _ c.as_slice-blocks.ensures
    c.in_ok-types.ensures.indexes c.in_ok-blocks.ensures.indexes c.in_ok-instances.ensures.indexes c.in_ok-resources.ensures.indexes
