use Rattle.fb_types.proofs.Common.{ℕ, List, ◌++◌, ◌∙◌, ap, map, same_name}
use Rattle.fb_check_names.specs.Repeats.{repeats}
use Rattle.fb_check_names.specs.Indexes.{names_in}
use Rattle.fb_check_names.specs.TwiceLists.{given_in}
use Rattle.fb_check_names.proofs.lemmas.numbers.LastIndexes.{index_of_last}
use Rattle.fb_check_names.proofs.spaces.name_indexes.Goals as goal

pub returns-clause-found : goal.returns-clause-found
returns-clause-found c =
    c.in_ok-push_pairs.ensures
    ∙ ap (λ (ps : List (ℕ × ℕ)). c.args.found.now.items ++ map (given_in c.args.name_space) ps)
    (c.as_slice.ensures.value ∙ c.in_ok-indexes.ensures.again ∙ ap (λ (ps : List (ℕ × ℕ)). ps ++ repeats same_name (names_in c.args.names.now)) c.new-pairs.ensures.items)

pub returns-clause-indexes : goal.returns-clause-indexes
returns-clause-indexes c = index_of_last (names_in c.args.names.now) c.in_ok-indexes.indexes c.in_ok-indexes.ensures.indexes
