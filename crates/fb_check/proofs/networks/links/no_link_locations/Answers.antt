use Rattle.fb_check.proofs.lemmas.Common.{◌≡◌, ◌++◌, [], List, Contains, subst, ◌∙◌, All, Link, Plan, Connection, Library, each_at, Events, Data, no_link_at}
use Rattle.fb_types.proofs.Common.{NoLink}
use Rattle.fb_types.proofs.lemmas.lists.Elements.{Contains-nil}
use Rattle.fb_check_names.specs.declared.location.NoLinkAt.{NoLinkAt}
use Rattle.fb_check.proofs.lemmas.types.GrowingLists.{and_both, ok_joined}
use Rattle.fb_check_names.proofs.lemmas.Listing.{of_list}
use Rattle.fb_check.specs.networks.Links.{AreWays, IsNoLinkAt, no_link_all}
use Rattle.fb_check.proofs.lemmas.networks.SetsOfSeen.{has_none, pair_cmp, pair_view}
use Rattle.fb_check.proofs.lemmas.networks.NoLink.{each_no_link, none_no_link, ways_from}
use Rattle.fb_check.proofs.networks.links.no_link_locations.Goals as goal

pub add_ways-requires : goal.add_ways-requires
add_ways-requires c = ways_from [] _ (has_none pair_cmp pair_view (Contains []) c.new-ways.result c.new-ways.ensures.empty (λ y h. Contains-nil y h))

pub push_no_link-requires : goal.push_no_link-requires
push_no_link-requires c =
    let A : List Link → Type 0 = λ ls. AreWays ls c.add_ways.new.ways in
    record { mapping = c.requires.holds; ways = subst A c.as_slice.ensures c.in_ok-add_ways.ensures }

pub push_no_link-requires-2 : goal.push_no_link-requires-2
push_no_link-requires-2 c =
    let A : List Link → Type 0 = λ ls. AreWays ls c.add_ways.new.ways in
    record { mapping = c.requires.holds; ways = subst A c.as_slice.ensures c.in_ok-add_ways.ensures }

-- what two calls add to the empty list
are_all :
    (lib : Library) (plan : Plan) (es ds : List Connection) (f0 f1 f2 : List NoLinkAt) → es ≡ lib.application.network.event_connections
    → ds ≡ lib.application.network.data_connections → f0 ≡ [] → f1 ≡ f0 ++ each_at (no_link_at plan Events) es
    → f2 ≡ f1 ++ each_at (no_link_at plan Data) ds → f2 ≡ no_link_all lib plan
are_all lib plan es ds f0 f1 f2 events values empty first second =
    let begun : f1 ≡ each_at (no_link_at plan Events) lib.application.network.event_connections = first ∙ (λ i. empty i ++ each_at (no_link_at plan Events) (events i)) in
    second ∙ (λ i. begun i ++ each_at (no_link_at plan Data) (values i))

pub returns-clause-listed : goal.returns-clause-listed
returns-clause-listed c =
    let lib = c.args.library.now in
    let plan = c.args.plan.now in
    ok_joined _ c.and-2.result c.and.result c.push_no_link-2.new.found c.and-2.ensures
    (and_both c.and.result c.push_no_link.result c.push_no_link-2.result c.and.ensures
    (λ one two. are_all lib plan _ _ _ _ _ c.as_slice-events.ensures c.as_slice-data.ensures c.new-found.ensures.items one two) c.push_no_link.ensures c.push_no_link-2.ensures)
    (λ are. are)

pub returns-clause-each : goal.returns-clause-each
returns-clause-each c =
    let lib = c.args.library.now in
    let plan = c.args.plan.now in
    of_list c.and-2.result (λ ps. All (IsNoLinkAt lib plan) ps)
    (ok_joined _ c.and-2.result c.and.result c.push_no_link-2.new.found c.and-2.ensures
    (and_both c.and.result c.push_no_link.result c.push_no_link-2.result c.and.ensures
    (λ one two. are_all lib plan _ _ _ _ _ c.as_slice-events.ensures c.as_slice-data.ensures c.new-found.ensures.items one two) c.push_no_link.ensures c.push_no_link-2.ensures)
    (λ are. are))
    (each_no_link lib plan)

pub returns-clause-none : goal.returns-clause-none
returns-clause-none c =
    let lib = c.args.library.now in
    let plan = c.args.plan.now in
    of_list c.and-2.result (λ ps. ps ≡ [] → ¬ (NoLink lib plan))
    (ok_joined _ c.and-2.result c.and.result c.push_no_link-2.new.found c.and-2.ensures
    (and_both c.and.result c.push_no_link.result c.push_no_link-2.result c.and.ensures
    (λ one two. are_all lib plan _ _ _ _ _ c.as_slice-events.ensures c.as_slice-data.ensures c.new-found.ensures.items one two) c.push_no_link.ensures c.push_no_link-2.ensures)
    (λ are. are))
    (none_no_link lib plan)
