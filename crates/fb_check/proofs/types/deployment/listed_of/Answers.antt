use Rattle.fb_check.proofs.lemmas.Common.{ℕ, List, Option, ◌++◌, refl, ◌∙◌, ap, is_some, index_in, each_some, mapped_unless, some_of, unless}
use Rattle.fb_check_names.specs.declared.location.UnknownName.TheVariants as location
use Rattle.fb_check_names.proofs.lemmas.Listing.{each_done, each_more}
use Rattle.fb_check.proofs.lemmas.types.GrowingLists.{list_added, one_added}
use Rattle.fb_check.proofs.types.deployment.listed_of.Goals as goal

pub loop-instance-init : goal.loop-instance-init
loop-instance-init c = (refl, ap (λ (ks : List ℕ). ks ++ each_some (index_in c.args.instances.now) c.args.names.now) c.new-numbers.ensures)

pub loop-instance-preserved : goal.loop-instance-preserved
loop-instance-preserved c =
    let m = c.args.instances.now in
    let k = c.loop-instance.instance in
    let x = c.index-names-instance.result in
    let number = c.index_of_name-number.ensures in (
      each_more (mapped_unless m c.args.resource) c.args.names.now k x c.loop-instance.found.items c.push_found.new.found.items _ c.loop-instance-test.true c.index-names-instance.is
          (c.in_ok-push_found.ensures.listed ∙ ap (λ (o : Option ℕ). c.loop-instance.found.items ++ unless (is_some o) (location.Mapped c.args.resource k)) number)
          c.loop-instance.invariant.0,
      one_added (each_some (index_in m)) (λ x. some_of (index_in m x)) c.args.names.now k x c.loop-instance.numbers c.push_found.new.items _ (λ y ys. refl)
          c.loop-instance-test.true c.index-names-instance.is (c.in_ok-push_found.ensures.item ∙ ap (λ (o : Option ℕ). c.loop-instance.numbers ++ some_of o) number) c.loop-instance.invariant.1,
    )

pub returns-clause-listed : goal.returns-clause-listed
returns-clause-listed c = each_done (mapped_unless c.args.instances.now c.args.resource) c.args.names.now c.loop-instance.instance c.loop-instance.found.items _ c.loop-instance-test.false c.loop-instance.invariant.0

pub returns-clause-numbers : goal.returns-clause-numbers
returns-clause-numbers c = list_added (each_some (index_in c.args.instances.now)) c.args.names.now c.loop-instance.instance c.loop-instance.numbers _ refl c.loop-instance-test.false c.loop-instance.invariant.1
