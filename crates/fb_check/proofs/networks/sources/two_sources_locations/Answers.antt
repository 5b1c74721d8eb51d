use Rattle.fb_check.proofs.lemmas.Common.{◌≡◌, ◌++◌, [], List, ◌∙◌, All, BlockType, Connection, Library, each_at, inside_of, Application, two_sources_in}
use Rattle.fb_types.specs.Joined.{TwoSources}
use Rattle.fb_check_names.specs.declared.location.TwoSourcesAt.{TwoSourcesAt}
use Rattle.fb_check.proofs.lemmas.types.GrowingLists.{and_both, ok_joined}
use Rattle.fb_check_names.proofs.lemmas.Listing.{of_list}
use Rattle.fb_check.specs.networks.Sources.{IsTwoSourcesAt, two_sources_all, two_sources_among}
use Rattle.fb_check.proofs.lemmas.networks.Targets.{each_two_sources, none_two_sources}
use Rattle.fb_check.proofs.networks.sources.two_sources_locations.Goals as goal

-- what two calls add to the empty list
are_all :
    (lib : Library) (bs : List BlockType) (cs : List Connection) (f0 f1 f2 : List TwoSourcesAt) → bs ≡ lib.blocks → cs ≡ lib.application.network.data_connections
    → f0 ≡ [] → f1 ≡ f0 ++ each_at (inside_of two_sources_in) bs → f2 ≡ f1 ++ two_sources_among Application cs → f2 ≡ two_sources_all lib
are_all lib bs cs f0 f1 f2 blocks connections empty first second =
    let begun : f1 ≡ each_at (inside_of two_sources_in) lib.blocks = first ∙ (λ i. empty i ++ each_at (inside_of two_sources_in) (blocks i)) in
    second ∙ (λ i. begun i ++ two_sources_among Application (connections i))

pub returns-clause-listed : goal.returns-clause-listed
returns-clause-listed c =
    let lib = c.args.library.now in
    ok_joined _ c.and-2.result c.and.result c.push_in_network.new.found c.and-2.ensures
    (and_both c.and.result c.push_in_blocks.result c.push_in_network.result c.and.ensures
    (λ one two. are_all lib _ _ _ _ _ c.as_slice.ensures c.as_slice-connections.ensures c.new-found.ensures.items one two) c.push_in_blocks.ensures c.push_in_network.ensures)
    (λ are. are)

pub returns-clause-each : goal.returns-clause-each
returns-clause-each c =
    let lib = c.args.library.now in
    of_list c.and-2.result (λ ps. All (IsTwoSourcesAt lib) ps)
    (ok_joined _ c.and-2.result c.and.result c.push_in_network.new.found c.and-2.ensures
    (and_both c.and.result c.push_in_blocks.result c.push_in_network.result c.and.ensures
    (λ one two. are_all lib _ _ _ _ _ c.as_slice.ensures c.as_slice-connections.ensures c.new-found.ensures.items one two) c.push_in_blocks.ensures c.push_in_network.ensures)
    (λ are. are))
    (each_two_sources lib)

pub returns-clause-none : goal.returns-clause-none
returns-clause-none c =
    let lib = c.args.library.now in
    of_list c.and-2.result (λ ps. ps ≡ [] → ¬ (TwoSources lib))
    (ok_joined _ c.and-2.result c.and.result c.push_in_network.new.found c.and-2.ensures
    (and_both c.and.result c.push_in_blocks.result c.push_in_network.result c.and.ensures
    (λ one two. are_all lib _ _ _ _ _ c.as_slice.ensures c.as_slice-connections.ensures c.new-found.ensures.items one two) c.push_in_blocks.ensures c.push_in_network.ensures)
    (λ are. are))
    (none_two_sources lib)
