use Rattle.fb_types.proofs.Common.{List, ◌++◌, ◌∙◌, ap, map, subst, inl, inr, Twice, algorithm_names, state_names}
use Rattle.fb_types.specs.declared.library.Algorithm.{Algorithm}
use Rattle.fb_types.specs.declared.library.Variable.{Variable}
use Rattle.fb_types.specs.declared.library.State.{State}
use Rattle.fb_check_names.specs.declared.twice.GivenTwice.{GivenTwice}
use Rattle.fb_check_names.specs.GivenTwice.{PortTwice, names_of_ports}
use Rattle.fb_check_names.specs.Indexes.{IsIndex}
use Rattle.fb_check_names.specs.TwiceLists.{names_twice, twice_in_ports}
use Rattle.fb_check_names.specs.declared.repeats.NameSpace.TheVariants as space
use Rattle.fb_check_names.proofs.lemmas.numbers.BlockIndexes.{after_two}
use Rattle.fb_check_names.proofs.lemmas.numbers.LastIndexes.{index_none}
use Rattle.fb_check_names.proofs.spaces.basic_indexes.Goals as goal

pub returns-clause-found : goal.returns-clause-found
returns-clause-found c =
    let b = c.args.block in
    let t = c.args.basic.now in
    let old : List GivenTwice = c.args.found.now.items in
    after_two old (twice_in_ports b t.ports t.internals) (names_twice (space.States b) (state_names t)) (names_twice (space.Algorithms b) (algorithm_names t)) _ _ _
    (c.in_ok-ports.ensures.found ∙ ap (λ (vs : List Variable). old ++ twice_in_ports b t.ports vs) c.as_slice-internals.ensures)
    (c.in_ok-states.ensures.found ∙ ap (λ (xs : List State). c.interface_indexes.new.found.items ++ names_twice (space.States b) (map (λ (x : State). x.name) xs)) c.as_slice-states.ensures)
    (c.in_ok-algorithms.ensures.found
    ∙ ap (λ (xs : List Algorithm). c.called_indexes.new.found.items ++ names_twice (space.Algorithms b) (map (λ (x : Algorithm). x.name) xs)) c.as_slice-algorithms.ensures)

pub returns-clause-indexes : goal.returns-clause-indexes
returns-clause-indexes c = λ once. record {
  ports =
      subst (λ (vs : List Variable). ¬ (PortTwice c.args.basic.now.ports vs) → IsIndex (names_of_ports c.args.basic.now.ports vs) c.in_ok-ports.ports) c.as_slice-internals.ensures
      c.in_ok-ports.ensures.indexes (λ t. once (inl t));
  states =
      subst (λ (xs : List State). ¬ (Twice (map (λ (x : State). x.name) xs)) → IsIndex (map (λ (x : State). x.name) xs) c.in_ok-states.states) c.as_slice-states.ensures
      c.in_ok-states.ensures.indexes (λ t. once (inr (inl t)));
  algorithms =
      subst (λ (xs : List Algorithm). ¬ (Twice (map (λ (x : Algorithm). x.name) xs)) → IsIndex (map (λ (x : Algorithm). x.name) xs) c.in_ok-algorithms.algorithms) c.as_slice-algorithms.ensures
      c.in_ok-algorithms.ensures.indexes (λ t. once (inr (inr t)));
  instances = index_none c.new.result c.new.ensures.empty;
}
