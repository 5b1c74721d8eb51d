use Rattle.fb_check.proofs.lemmas.Common.{ℕ, List, Option, Some, refl, Instance, TypeNumber, number_in, each_some, some_of, unknown_in_instance}
use Rattle.fb_check.specs.types.Scopes.{inputs_in}
use Rattle.fb_check_names.proofs.lemmas.Listing.{each_done, each_more}
use Rattle.fb_check.proofs.lemmas.types.GrowingLists.{list_added, one_added}
use Rattle.fb_check.proofs.types.networks.push_instances.Goals as goal

pub loop-instance-preserved : goal.loop-instance-preserved
loop-instance-preserved c =
    let lib = c.args.types.now.library.now in
    let kind : Instance → Option TypeNumber = λ i. Some (number_in lib i.block_type) in
    let set : Instance → Option (List ℕ) = λ i. Some (inputs_in lib i) in
    let xs = c.args.instances.now in
    let k = c.loop-instance.instance in
    let x = c.index-instances-instance.result in (
      each_more (unknown_in_instance lib c.args.site) xs k x c.loop-instance.found.items c.push_instance.new.found.items _ c.loop-instance-test.true c.index-instances-instance.is
          c.in_ok-push_instance.ensures.listed c.loop-instance.invariant.0,
      one_added (each_some kind) (λ x. some_of (kind x)) xs k x c.loop-instance.kinds c.push_instance.new.kinds _ (λ y ys. refl) c.loop-instance-test.true c.index-instances-instance.is
          c.in_ok-push_instance.ensures.kind c.loop-instance.invariant.1,
      one_added (each_some set) (λ x. some_of (set x)) xs k x c.loop-instance.inputs c.push_instance.new.inputs _ (λ y ys. refl) c.loop-instance-test.true c.index-instances-instance.is
          c.in_ok-push_instance.ensures.inputs c.loop-instance.invariant.2,
    )

pub returns-clause-listed : goal.returns-clause-listed
returns-clause-listed c =
    each_done (unknown_in_instance c.args.types.now.library.now c.args.site) c.args.instances.now c.loop-instance.instance c.loop-instance.found.items _ c.loop-instance-test.false c.loop-instance.invariant.0

pub returns-clause-kinds : goal.returns-clause-kinds
returns-clause-kinds c =
    let kind : Instance → Option TypeNumber = λ i. Some (number_in c.args.types.now.library.now i.block_type) in
    list_added (each_some kind) c.args.instances.now c.loop-instance.instance c.loop-instance.kinds _ refl c.loop-instance-test.false c.loop-instance.invariant.1

pub returns-clause-inputs : goal.returns-clause-inputs
returns-clause-inputs c =
    let set : Instance → Option (List ℕ) = λ i. Some (inputs_in c.args.types.now.library.now i) in
    list_added (each_some set) c.args.instances.now c.loop-instance.instance c.loop-instance.inputs _ refl c.loop-instance-test.false c.loop-instance.invariant.2
