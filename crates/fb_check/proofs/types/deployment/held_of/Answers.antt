use Rattle.fb_check.proofs.lemmas.Common.{◌∷◌, [], ℕ, List, Option, Some, ◌++◌, refl, ◌∙◌, ap, Name, ResourceEntry, index_in, each_some, mapped_unless, some_of, each_at, UnknownName}
use Rattle.fb_check_names.proofs.lemmas.Listing.{each_done, each_more}
use Rattle.fb_check.proofs.lemmas.types.GrowingLists.{list_added, one_added}
use Rattle.fb_check.proofs.types.deployment.held_of.Goals as goal

pub loop-resource-init : goal.loop-resource-init
loop-resource-init c =
    let hold : ResourceEntry → Option (List ℕ) = λ x. Some (each_some (index_in c.args.instances.now) x.instances) in
    (refl, ap (λ (hs : List (List ℕ)). hs ++ each_some hold c.args.resources.now) c.new-held.ensures)

pub loop-resource-preserved : goal.loop-resource-preserved
loop-resource-preserved c =
    let m = c.args.instances.now in
    let hold : ResourceEntry → Option (List ℕ) = λ x. Some (each_some (index_in m) x.instances) in
    let lists : ℕ → ResourceEntry → List UnknownName = λ r x. each_at (mapped_unless m r) x.instances in
    let k = c.loop-resource.resource in
    let x = c.index-resources-resource.result in (
      each_more lists c.args.resources.now k x c.loop-resource.found.items c.listed_of.new.found.items _ c.loop-resource-test.true c.index-resources-resource.is
          (c.in_ok-numbers.ensures.listed ∙ ap (λ (ns : List Name). c.loop-resource.found.items ++ each_at (mapped_unless m k) ns) c.as_slice-names.ensures)
          c.loop-resource.invariant.0,
      one_added (each_some hold) (λ x. some_of (hold x)) c.args.resources.now k x c.loop-resource.held c.push.new.self _ (λ y ys. refl)
          c.loop-resource-test.true c.index-resources-resource.is
          (c.in_ok-push.ensures.ok ∙ ap (λ (ks : List ℕ). c.loop-resource.held ++ ks ∷ []) (c.in_ok-numbers.ensures.numbers ∙ ap (each_some (index_in m)) c.as_slice-names.ensures))
          c.loop-resource.invariant.1,
    )

pub returns-clause-listed : goal.returns-clause-listed
returns-clause-listed c =
    let lists : ℕ → ResourceEntry → List UnknownName = λ r x. each_at (mapped_unless c.args.instances.now r) x.instances in
    each_done lists c.args.resources.now c.loop-resource.resource c.loop-resource.found.items _ c.loop-resource-test.false c.loop-resource.invariant.0

pub returns-clause-numbers : goal.returns-clause-numbers
returns-clause-numbers c =
    let hold : ResourceEntry → Option (List ℕ) = λ x. Some (each_some (index_in c.args.instances.now) x.instances) in
    list_added (each_some hold) c.args.resources.now c.loop-resource.resource c.loop-resource.held _ refl c.loop-resource-test.false c.loop-resource.invariant.1
