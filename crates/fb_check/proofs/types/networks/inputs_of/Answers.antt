use Rattle.fb_check.proofs.lemmas.Common.{ℕ, List, Option, ◌++◌, refl, ◌∙◌, ap, is_some, data_ins, Parameter, port_number, each_some, some_of, unless, UnknownName}
use Rattle.fb_check_names.specs.declared.location.UnknownName.TheVariants as location
use Rattle.fb_check_names.proofs.lemmas.Listing.{each_done, each_more}
use Rattle.fb_check.proofs.lemmas.types.GrowingLists.{list_added, one_added}
use Rattle.fb_check.proofs.types.networks.inputs_of.Goals as goal

pub loop-parameter-init : goal.loop-parameter-init
loop-parameter-init c =
    let f : Parameter → Option ℕ = λ x. port_number c.args.types.now.library.now c.args.number data_ins x.name in
    (refl, ap (λ (ks : List ℕ). ks ++ each_some f c.args.parameters.now) c.new-inputs.ensures)

pub loop-parameter-preserved : goal.loop-parameter-preserved
loop-parameter-preserved c =
    let f : Parameter → Option ℕ = λ x. port_number c.args.types.now.library.now c.args.number data_ins x.name in
    let at : ℕ → UnknownName = λ p. location.Parameter c.args.site c.args.instance p in
    let x = c.index-parameters-parameter.result in (
      each_more (λ p (x : Parameter). unless (is_some (f x)) (at p)) c.args.parameters.now c.loop-parameter.parameter x c.loop-parameter.found.items c.push_found.new.found.items _
          c.loop-parameter-test.true c.index-parameters-parameter.is
          (c.in_ok-push_found.ensures.listed ∙ ap (λ (o : Option ℕ). c.loop-parameter.found.items ++ unless (is_some o) (at c.loop-parameter.parameter)) c.port_of-input.ensures)
          c.loop-parameter.invariant.0,
      one_added (each_some f) (λ x. some_of (f x)) c.args.parameters.now c.loop-parameter.parameter x c.loop-parameter.inputs c.push_found.new.items _ (λ y ys. refl)
          c.loop-parameter-test.true c.index-parameters-parameter.is (c.in_ok-push_found.ensures.item ∙ ap (λ (o : Option ℕ). c.loop-parameter.inputs ++ some_of o) c.port_of-input.ensures) c.loop-parameter.invariant.1,
    )

pub returns-clause-listed : goal.returns-clause-listed
returns-clause-listed c =
    let f : Parameter → Option ℕ = λ x. port_number c.args.types.now.library.now c.args.number data_ins x.name in
    each_done (λ p (x : Parameter). unless (is_some (f x)) (location.Parameter c.args.site c.args.instance p)) c.args.parameters.now c.loop-parameter.parameter c.loop-parameter.found.items _ c.loop-parameter-test.false c.loop-parameter.invariant.0

pub returns-clause-numbers : goal.returns-clause-numbers
returns-clause-numbers c =
    let f : Parameter → Option ℕ = λ x. port_number c.args.types.now.library.now c.args.number data_ins x.name in
    list_added (each_some f) c.args.parameters.now c.loop-parameter.parameter c.loop-parameter.inputs _ refl c.loop-parameter-test.false c.loop-parameter.invariant.1
