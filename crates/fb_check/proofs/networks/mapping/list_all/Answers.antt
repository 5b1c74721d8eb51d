use Rattle.fb_check.proofs.lemmas.Common.{◌≡◌, ◌++◌, List, ℕ, append_assoc, map, ◌∙◌, ap, subst, flat_map, Name, same_name, each_at, NotMappedAt, Again}
use Rattle.fb_check_names.specs.Indexes.{names_in, AreLastIndexes}
use Rattle.fb_check_names.specs.Repeats.{repeats}
use Rattle.fb_check.proofs.lemmas.types.GrowingLists.{and_both, ok_joined}
use Rattle.fb_check.specs.networks.NotMapped.{unlisted_at}
use Rattle.fb_check.proofs.lemmas.networks.Owners.{unlisted_are}
use Rattle.fb_check.proofs.networks.mapping.list_all.Goals as goal

pub returns-clause-found : goal.returns-clause-found
returns-clause-found c =
    let is = c.args.instances.now in
    let ns : List Name = flat_map (λ r. r.instances) c.args.resources.now in
    let names : names_in c.as_slice.result.now ≡ ns = ap names_in c.as_slice.ensures.value ∙ c.in_ok-names.ensures in
    let indexes : AreLastIndexes ns c.in_ok-indexes.indexes = subst (λ (ns : List Name). AreLastIndexes ns c.in_ok-indexes.indexes) names c.in_ok-indexes.ensures.indexes in
    let pairs : c.as_slice-2.result.now ≡ repeats same_name ns =
    c.as_slice-2.ensures.value ∙ c.in_ok-indexes.ensures.again ∙ ap (λ (rs : List (ℕ × ℕ)). rs ++ repeats same_name (names_in c.as_slice.result.now)) c.new-again.ensures.items ∙ ap (repeats same_name) names in
    let unlisted : List NotMappedAt = each_at (unlisted_at ns) is in
    ok_joined _ c.and-2.result c.and.result _ c.and-2.ensures
    (and_both c.and.result c.push_unlisted.result c.push_again.result c.and.ensures
    (λ one two. two
    ∙ (λ i. (one ∙ ap (λ (us : List NotMappedAt). c.args.found.now.items ++ us) (unlisted_are c.in_ok-indexes.indexes ns is indexes)) i ++ map (λ r. Again r) (pairs i))
    ∙ append_assoc c.args.found.now.items unlisted (map (λ r. Again r) (repeats same_name ns))) c.push_unlisted.ensures c.push_again.ensures)
    (λ are. are)

pub returns-clause-indexes : goal.returns-clause-indexes
returns-clause-indexes c =
    let names = ap names_in c.as_slice.ensures.value ∙ c.in_ok-names.ensures in
    ok_joined _ c.and-2.result c.and.result _ c.and-2.ensures
    (and_both c.and.result c.push_unlisted.result c.push_again.result c.and.ensures
    (λ one two. two) c.push_unlisted.ensures c.push_again.ensures)
    (λ _. subst (λ (ns : List Name). AreLastIndexes ns c.in_ok-indexes.indexes) names c.in_ok-indexes.ensures.indexes)

pub returns-clause-owners : goal.returns-clause-owners
returns-clause-owners c =
    ok_joined _ c.and-2.result c.and.result _ c.and-2.ensures
    (and_both c.and.result c.push_unlisted.result c.push_again.result c.and.ensures
    (λ one two. two) c.push_unlisted.ensures c.push_again.ensures)
    (λ _. c.in_ok-owners.ensures)
