use Rattle.fb_check.proofs.lemmas.Common.{◌∷◌, ◌++◌, [], List, Option, ℕ, sym, ◌∙◌, ap, IfOk-equal, data_ins, Parameter, port_number, unless, TypeNumber, UnknownName, each_some}
use Rattle.fb_check_names.specs.declared.numbers.TypeNumber.TheVariants as number
use Rattle.fb_check_names.specs.declared.location.UnknownName.TheVariants as location
use Rattle.fb_check.specs.types.Scopes.{inputs_of_type, number_or, number_past}
use Rattle.fb_check.proofs.lemmas.types.GrowingLists.{and_first, and_last, in_any_case}
use Rattle.fb_check.proofs.lemmas.types.NetworkLocations.{no_parameters}
use Rattle.fb_check.proofs.lemmas.types.NumbersOfNames.{known_instance, no_kind, type_unmet}
use Rattle.fb_check.proofs.types.networks.push_instance.Goals as goal

pub returns-in_ok-set-in-Some-clause-listed : goal.returns-in_ok-set-in-Some-clause-listed
returns-in_ok-set-in-Some-clause-listed c =
    let lib = c.args.types.now.library.now in
    let i = c.args.declared.now in
    in_any_case c.and.result
    (c.in_ok-set-in-Some.ensures.listed
    ∙ ap (λ (ps : List UnknownName). c.args.found.now.items ++ ps)
    (known_instance lib c.args.site c.args.instance i c.in-Some.number c.as_slice-parameters.result.now (sym c.number_of.ensures ∙ c.in-Some.is) c.as_slice-parameters.ensures))

pub returns-in_ok-set-in-Some-clause-kind : goal.returns-in_ok-set-in-Some-clause-kind
returns-in_ok-set-in-Some-clause-kind c =
    let lib = c.args.types.now.library.now in
    let known = sym c.number_of.ensures ∙ c.in-Some.is in
    and_first _ c.and.result c.push.result c.push-in-Some.result c.and.ensures
    (IfOk-equal c.push.result c.push.new.self _ _ c.push.ensures.ok
    (ap (λ (o : Option TypeNumber). c.args.kinds.now ++ number_or (number_past lib) o ∷ []) (sym known)))

pub returns-in_ok-set-in-Some-clause-inputs : goal.returns-in_ok-set-in-Some-clause-inputs
returns-in_ok-set-in-Some-clause-inputs c =
    let lib = c.args.types.now.library.now in
    let i = c.args.declared.now in
    let known = sym c.number_of.ensures ∙ c.in-Some.is in
    let f : Parameter → Option ℕ = λ x. port_number lib c.in-Some.number data_ins x.name in
    and_last _ c.and.result c.push.result c.push-in-Some.result c.and.ensures
    (IfOk-equal c.push-in-Some.result c.push-in-Some.new.self _ _ c.push-in-Some.ensures.ok
    (ap (λ (ks : List ℕ). c.args.inputs.now ++ ks ∷ [])
    (c.in_ok-set-in-Some.ensures.numbers ∙ ap (each_some f) c.as_slice-parameters.ensures ∙ ap (inputs_of_type lib i) (sym known))))

pub returns-in-None-clause-listed : goal.returns-in-None-clause-listed
returns-in-None-clause-listed c =
    let lib = c.args.types.now.library.now in
    let i = c.args.declared.now in
    let unknown = sym c.number_of.ensures ∙ c.in-None.is in
    and_first _ c.and-in-None-2.result c.and-in-None.result c.push-in-None-2.result c.and-in-None-2.ensures
    (and_first _ c.and-in-None.result c.push_one.result c.push-in-None.result c.and-in-None.ensures
    (IfOk-equal c.push_one.result c.push_one.new.all.items _ _ c.push_one.ensures
    (ap (λ b. c.args.found.now.items ++ unless b (location.InstanceType c.args.site c.args.instance)) (sym (type_unmet lib i unknown))
    ∙ no_parameters lib c.args.site c.args.instance i c.args.found.now.items (no_kind lib i unknown))))

pub returns-in-None-clause-kind : goal.returns-in-None-clause-kind
returns-in-None-clause-kind c =
    let lib = c.args.types.now.library.now in
    let unknown = sym c.number_of.ensures ∙ c.in-None.is in
    and_first _ c.and-in-None-2.result c.and-in-None.result c.push-in-None-2.result c.and-in-None-2.ensures
    (and_last _ c.and-in-None.result c.push_one.result c.push-in-None.result c.and-in-None.ensures
    (IfOk-equal c.push-in-None.result c.push-in-None.new.self _ _ c.push-in-None.ensures.ok
    (ap (λ (k : TypeNumber). c.args.kinds.now ++ k ∷ []) (ap (λ (k : ℕ). number.Declared k) c.len.ensures ∙ ap (number_or (number_past lib)) (sym unknown)))))

pub returns-in-None-clause-inputs : goal.returns-in-None-clause-inputs
returns-in-None-clause-inputs c =
    let lib = c.args.types.now.library.now in
    let i = c.args.declared.now in
    let unknown = sym c.number_of.ensures ∙ c.in-None.is in
    and_last _ c.and-in-None-2.result c.and-in-None.result c.push-in-None-2.result c.and-in-None-2.ensures
    (IfOk-equal c.push-in-None-2.result c.push-in-None-2.new.self _ _ c.push-in-None-2.ensures.ok
    (ap (λ (ks : List ℕ). c.args.inputs.now ++ ks ∷ []) (c.new.ensures ∙ ap (inputs_of_type lib i) (sym unknown))))
