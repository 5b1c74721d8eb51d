use Rattle.fb_types.proofs.Common.{List, ◌++◌, ◌∙◌, ap, map, subst, resource_names_of, Twice, link_pairs}
use Rattle.fb_types.specs.declared.deploy.Link.{Link}
use Rattle.fb_types.specs.declared.deploy.ResourceEntry.{ResourceEntry}
use Rattle.fb_check_names.specs.declared.twice.GivenTwice.{GivenTwice}
use Rattle.fb_check_names.specs.Ends.{link_ends}
use Rattle.fb_check_names.specs.Indexes.{IsIndex}
use Rattle.fb_check_names.specs.Pairs.{same_sides}
use Rattle.fb_check_names.specs.TwiceLists.{names_twice, twice_by}
use Rattle.fb_check_names.specs.declared.repeats.NameSpace.TheVariants as space
use Rattle.fb_check_names.proofs.lemmas.numbers.BlockIndexes.{after_one}
use Rattle.fb_check_names.proofs.spaces.resource_indexes.Goals as goal

pub returns-clause-found : goal.returns-clause-found
returns-clause-found c =
    let plan = c.args.plan.now in
    let old : List GivenTwice = c.args.found.now.items in
    after_one old (names_twice space.Resources (resource_names_of plan)) (twice_by space.Links same_sides (link_pairs plan)) _ _
    (c.in_ok-indexes.ensures.found ∙ ap (λ (rs : List ResourceEntry). old ++ names_twice space.Resources (map (λ (r : ResourceEntry). r.name) rs)) c.as_slice-resources.ensures)
    (c.in_ok-push_links.ensures ∙ ap (λ (ls : List Link). c.called_indexes.new.found.items ++ twice_by space.Links same_sides (map link_ends ls)) c.as_slice.ensures)

pub returns-clause-indexes : goal.returns-clause-indexes
returns-clause-indexes c =
    subst (λ (rs : List ResourceEntry). ¬ (Twice (map (λ (r : ResourceEntry). r.name) rs)) → IsIndex (map (λ (r : ResourceEntry). r.name) rs) c.in_ok-indexes.indexes) c.as_slice-resources.ensures
    c.in_ok-indexes.ensures.indexes
