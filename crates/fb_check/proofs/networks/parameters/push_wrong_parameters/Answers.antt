use Rattle.fb_types.proofs.Common.{◌≡◌, ℕ, List, Some, None, sym, ◌∙◌, ap, slice_get}
use Rattle.fb_types.specs.declared.library.Instance.{Instance}
use Rattle.fb_types.specs.declared.library.Network.{Network}
use Rattle.fb_check_names.proofs.lemmas.Listing.{each_done_of, each_more}
use Rattle.fb_check.specs.networks.Parameters.{kind_wrong_parameters}
use Rattle.fb_check.proofs.lemmas.networks.SearchLoops.{at_element}
use Rattle.fb_check.proofs.lemmas.networks.Valued.{inputs_at_index, type_at_index}
use Rattle.fb_check.proofs.networks.parameters.push_wrong_parameters.Goals as goal

pub returns-in_default : goal.returns-in_default
returns-in_default c =
    let k = c.loop-instance.instance in
    let i = c.index-instances-instance.result in
    let at = ap (λ (n : Network). slice_get n.instances k) c.requires.1 ∙ ap (λ (is : List Instance). slice_get is k) (sym c.as_slice-instances.ensures)
    ∙ at_element c.as_slice-instances.result.now k i c.loop-instance-test.true c.index-instances-instance.is in
    let there = type_at_index c.args.library.now c.requires.0 c.args.numbers.now k i c.requires.2 at in
    absurd (let no : Some there.0 ≡ None = sym there.1 ∙ sym c.in_default.ensures.value in cc)

pub returns-in_default-get : goal.returns-in_default-get
returns-in_default-get c =
    let k = c.loop-instance.instance in
    let i = c.index-instances-instance.result in
    let at = ap (λ (n : Network). slice_get n.instances k) c.requires.1 ∙ ap (λ (is : List Instance). slice_get is k) (sym c.as_slice-instances.ensures)
    ∙ at_element c.as_slice-instances.result.now k i c.loop-instance-test.true c.index-instances-instance.is in
    let there = inputs_at_index c.args.library.now c.requires.0 c.args.numbers.now k i c.requires.2 at in
    absurd (let no : Some there.0 ≡ None = sym there.1 ∙ sym c.in_default-get.ensures.value in cc)

pub push_parameters-requires : goal.push_parameters-requires
push_parameters-requires c =
    let k = c.loop-instance.instance in
    let i = c.index-instances-instance.result in
    let at = ap (λ (n : Network). slice_get n.instances k) c.requires.1 ∙ ap (λ (is : List Instance). slice_get is k) (sym c.as_slice-instances.ensures)
    ∙ at_element c.as_slice-instances.result.now k i c.loop-instance-test.true c.index-instances-instance.is in
    let its = type_at_index c.args.library.now c.requires.0 c.args.numbers.now k i c.requires.2 at in
    let inputs = inputs_at_index c.args.library.now c.requires.0 c.args.numbers.now k i c.requires.2 at in
    record {
      number = its.2 ∙ sym its.1 ∙ sym c.in-Some.ensures.value;
      inputs = inputs.2 ∙ sym inputs.1 ∙ sym c.in-Some-get.ensures.value ∙ ap (λ (ps : List ℕ). Some ps) (sym c.as_slice-inputs.ensures);
    }

pub loop-instance-preserved : goal.loop-instance-preserved
loop-instance-preserved c =
    each_more (kind_wrong_parameters c.args.library.now c.args.site) c.as_slice-instances.result.now c.loop-instance.instance c.index-instances-instance.result c.loop-instance.found.items
    c.push_parameters.new.found.items _ c.loop-instance-test.true c.index-instances-instance.is c.in_ok-push_parameters.ensures c.loop-instance.invariant

pub returns : goal.returns
returns c =
    each_done_of (kind_wrong_parameters c.args.library.now c.args.site) c.as_slice-instances.result.now c.args.network.now.instances c.loop-instance.instance _ c.loop-instance.found.items
    c.as_slice-instances.ensures c.loop-instance-test.false c.loop-instance.invariant
