use Rattle.fb_types.proofs.Common.{List, ◌++◌, ◌∙◌, ap, map, subst, inl, Name, Twice, event_pairs, instance_names}
use Rattle.fb_types.specs.declared.library.Instance.{Instance}
use Rattle.fb_check_names.specs.Listed.{each_at}
use Rattle.fb_check_names.specs.declared.twice.GivenTwice.{GivenTwice}
use Rattle.fb_check_names.specs.Indexes.{IsIndex}
use Rattle.fb_check_names.specs.Pairs.{same_ends}
use Rattle.fb_check_names.specs.TwiceLists.{names_twice, parameters_twice, twice_by}
use Rattle.fb_check_names.specs.declared.repeats.NameSpace.TheVariants as space
use Rattle.fb_check_names.proofs.lemmas.numbers.BlockIndexes.{after_two}
use Rattle.fb_check_names.proofs.spaces.network_indexes.Goals as goal

pub returns-clause-found : goal.returns-clause-found
returns-clause-found c =
    let s = c.args.site in
    let net = c.args.network.now in
    let old : List GivenTwice = c.args.found.now.items in
    after_two old (names_twice (space.Instances s) (instance_names net)) (each_at (parameters_twice s) net.instances) (twice_by (space.Connections s) same_ends (event_pairs net)) _ _ _
    (c.in_ok-indexes.ensures.found ∙ ap (λ (is : List Instance). old ++ names_twice (space.Instances s) (map (λ (i : Instance). i.name) is)) c.as_slice-instances.ensures)
    (c.in_ok-push_parameters.ensures ∙ ap (λ (is : List Instance). c.called_indexes.new.found.items ++ each_at (parameters_twice s) is) c.as_slice-instances.ensures)
    c.in_ok-push_connections.ensures

pub returns-clause-indexes : goal.returns-clause-indexes
returns-clause-indexes c = λ once.
    let names : List Instance → List Name = map (λ (i : Instance). i.name) in
    subst (λ (is : List Instance). ¬ (Twice (names is)) → IsIndex (names is) c.in_ok-indexes.indexes) c.as_slice-instances.ensures c.in_ok-indexes.ensures.indexes (λ t. once (inl t))
