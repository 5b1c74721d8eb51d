use Rattle.fb_types.proofs.Common.{ℕ, List, ◌++◌, ◌∙◌, ap, vec_len, same_name}
use Rattle.fb_check_names.specs.Repeats.{repeats}
use Rattle.fb_check_names.specs.Indexes.{names_in}
use Rattle.fb_check_names.proofs.lemmas.numbers.LastIndexes.{index_of_last, no_pairs_say, pairs_say}
use Rattle.fb_check_names.proofs.placing.indexes_of.Goals as goal

pub returns-then-not-is_empty : goal.returns-then-not-is_empty
returns-then-not-is_empty c =
    let ns = names_in c.args.names.now in
    let again = c.last_indexes.new.again in
    pairs_say ns again.items (vec_len again) c.is_empty.result
    (c.in_ok-indexes.ensures.again ∙ ap (λ (ps : List (ℕ × ℕ)). ps ++ repeats same_name ns) c.new-again.ensures.items) again.ok.0 c.is_empty.ensures c.if-not-is_empty.true

pub returns : goal.returns
returns c =
    let ns = names_in c.args.names.now in
    let again = c.last_indexes.new.again in
    index_of_last ns c.in_ok-indexes.indexes c.in_ok-indexes.ensures.indexes
    (no_pairs_say ns again.items (vec_len again) c.is_empty.result
    (c.in_ok-indexes.ensures.again ∙ ap (λ (ps : List (ℕ × ℕ)). ps ++ repeats same_name ns) c.new-again.ensures.items) again.ok.0 c.is_empty.ensures c.if-not-is_empty.false)
