use Rattle.fb_check.proofs.lemmas.Common.{ℕ, List, ◌++◌, sym, ◌∙◌, ap, slice_get, slice_get_past, Parameter, each_at, KindWrongAt}
use Rattle.fb_check_names.proofs.lemmas.Listing.{each_done, each_more}
use Rattle.fb_check.proofs.lemmas.networks.SearchLoops.{at_element}
use Rattle.fb_check.proofs.lemmas.networks.Valued.{has_input, kind_wrong_parameter, parameter_is, parameters_are}
use Rattle.fb_check.proofs.networks.parameters.push_parameters.Goals as goal

pub returns-in_default : goal.returns-in_default
returns-in_default c =
    let k = c.loop-parameter.parameter in
    let v = c.index-parameters-parameter.result in
    let at = ap (λ (vs : List Parameter). slice_get vs k) (sym c.as_slice-parameters.ensures) ∙ at_element c.as_slice-parameters.result.now k v c.loop-parameter-test.true c.index-parameters-parameter.is in
    absurd (has_input c.args.library.now c.args.declared.now c.args.inputs.now k v c.requires.inputs at (slice_get_past c.args.inputs.now k c.in_default.ensures.lookup.3))

pub loop-parameter-preserved : goal.loop-parameter-preserved
loop-parameter-preserved c =
    let lib = c.args.library.now in
    let x = c.args.declared.now in
    let k = c.loop-parameter.parameter in
    let v = c.index-parameters-parameter.result in
    let input = c.in-Some.input.now in
    let lookup = c.in-Some.ensures.lookup in
    let at = ap (λ (vs : List Parameter). slice_get vs k) (sym c.as_slice-parameters.ensures) ∙ at_element c.as_slice-parameters.result.now k v c.loop-parameter-test.true c.index-parameters-parameter.is in
    let old = c.loop-parameter.found.items in
    each_more (kind_wrong_parameter lib c.args.site c.args.instance x) c.as_slice-parameters.result.now k v old c.push_unless.new.found.items _ c.loop-parameter-test.true c.index-parameters-parameter.is
    (c.in_ok-push_unless.ensures
    ∙ ap (λ (ps : List KindWrongAt). old ++ ps)
    (parameter_is lib c.args.site c.args.instance k x c.args.number c.args.inputs.now v input c.is_right.result c.requires.number c.requires.inputs at
    (at_element c.args.inputs.now k input lookup.3.0 lookup.1) c.is_right.ensures))
    c.loop-parameter.invariant

pub returns : goal.returns
returns c =
    let lib = c.args.library.now in
    let x = c.args.declared.now in
    let f : ℕ → Parameter → List KindWrongAt = kind_wrong_parameter lib c.args.site c.args.instance x in
    each_done f c.as_slice-parameters.result.now c.loop-parameter.parameter c.loop-parameter.found.items _ c.loop-parameter-test.false c.loop-parameter.invariant
    ∙ ap (λ (ps : List KindWrongAt). c.args.found.now.items ++ ps) (ap (each_at f) c.as_slice-parameters.ensures ∙ parameters_are lib c.args.site c.args.instance x)
