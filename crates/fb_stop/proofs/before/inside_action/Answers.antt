use Rattle.fb_types.proofs.Common.{◌≡◌, ◌∙◌, List, sym, ap, subst, find, same_name, body_of}
use Rattle.fb_types.specs.declared.library.Action.{Action}
use Rattle.fb_types.specs.declared.library.Algorithm.{Algorithm}
use Rattle.fb_st.specs.Frames.{Declared, declared_in, types_in, values_of}
use Rattle.fb_st.specs.Known.{AllKnown}
use Rattle.fb_ecc.specs.Sound.{declared_by}
use Rattle.fb_ecc.proofs.lemmas.Actions.{types_declared}
use Rattle.fb_stop.proofs.lemmas.operations.Insides.{action_is, in_algorithm}
use Rattle.fb_stop.proofs.lemmas.numbers.NothingSaid.{found_in, if_none_map, no_action, no_body, no_state, with_body, without_algorithm}
use Rattle.fb_stop.proofs.before.inside_action.Goals as goal

pub returns-in_ok-algorithm-in-Some-clause-found : goal.returns-in_ok-algorithm-in-Some-clause-found
returns-in_ok-algorithm-in-Some-clause-found c a known =
    let block = c.args.block.now in
    let n = c.in-Some.name in
    let found : Action = c.in_ok-found.found.now in
    let same : found ≡ a = action_is block c.args.state c.args.action c.in_ok-get.field-0.now found a c.requires.sound (sym c.in_ok-get.ensures.value) (sym c.in_ok-found.ensures.value) known in
    in_algorithm block a n c.in_ok-algorithm-in-Some.algorithm.now c.args.frame.now c.args.left c.args.reason c.inside_body.result
    (ap (λ (x : Action). x.algorithm) (sym same) ∙ c.in-Some.is)
    (c.in_ok-algorithm-in-Some.ensures ∙ ap (λ (l : List Algorithm). find (λ x. same_name x.name n) l) c.as_slice.ensures)
    c.requires.declared c.inside_body.ensures.found

pub returns-in_err-get-clause-none : goal.returns-in_err-get-clause-none
returns-in_err-get-clause-none c = λ a known. absurd (no_state c.args.block.now c.args.state c.args.action a c.requires.state (sym c.in_err-get.ensures.value) known)

pub returns-in_err-found-clause-none : goal.returns-in_err-found-clause-none
returns-in_err-found-clause-none c = λ a known.
    absurd (no_action c.args.block.now c.args.state c.args.action c.in_ok-get.field-0.now a c.requires.sound (sym c.in_ok-get.ensures.value) (sym c.in_err-found.ensures.value) known)

pub returns-in-None-clause-none : goal.returns-in-None-clause-none
returns-in-None-clause-none c = λ a known.
    let block = c.args.block.now in
    let found : Action = c.in_ok-found.found.now in
    let same : found ≡ a = action_is block c.args.state c.args.action c.in_ok-get.field-0.now found a c.requires.sound (sym c.in_ok-get.ensures.value) (sym c.in_ok-found.ensures.value) known in
    without_algorithm block a (values_of c.args.frame.now) c.args.left c.args.reason (ap (λ (x : Action). x.algorithm) (sym same) ∙ c.in-None.is)

pub returns-in_err-algorithm-in-Some-clause-none : goal.returns-in_err-algorithm-in-Some-clause-none
returns-in_err-algorithm-in-Some-clause-none c = λ a known.
    let block = c.args.block.now in
    let n = c.in-Some.name in
    let found : Action = c.in_ok-found.found.now in
    let same : found ≡ a = action_is block c.args.state c.args.action c.in_ok-get.field-0.now found a c.requires.sound (sym c.in_ok-get.ensures.value) (sym c.in_ok-found.ensures.value) known in
    rw c.from_residual-in_err-algorithm-in-Some.ensures
    (no_body block a n (values_of c.args.frame.now) c.args.left c.args.reason (ap (λ (x : Action). x.algorithm) (sym same) ∙ c.in-Some.is)
    (sym (c.in_err-algorithm-in-Some.ensures ∙ ap (λ (l : List Algorithm). find (λ x. same_name x.name n) l) c.as_slice.ensures)))

pub inside_body-requires : goal.inside_body-requires
inside_body-requires c =
    let block = c.args.block.now in
    let n = c.in-Some.name in
    subst (λ (d : List Declared). AllKnown d (body_of c.in_ok-algorithm-in-Some.algorithm.now.body)) (sym c.requires.declared)
    (found_in (λ (x : Algorithm). AllKnown (declared_by block) (body_of x.body)) n block.algorithms c.in_ok-algorithm-in-Some.algorithm.now c.requires.sound.bodies
    (c.in_ok-algorithm-in-Some.ensures ∙ ap (λ (l : List Algorithm). find (λ x. same_name x.name n) l) c.as_slice.ensures))

pub returns-in_ok-algorithm-in-Some-clause-none : goal.returns-in_ok-algorithm-in-Some-clause-none
returns-in_ok-algorithm-in-Some-clause-none c = λ a known.
    let block = c.args.block.now in
    let n = c.in-Some.name in
    let f = c.args.frame.now in
    let found : Action = c.in_ok-found.found.now in
    let same : found ≡ a = action_is block c.args.state c.args.action c.in_ok-get.field-0.now found a c.requires.sound (sym c.in_ok-get.ensures.value) (sym c.in_ok-found.ensures.value) known in
    if_none_map c.inside_body.result
    (with_body block a n c.in_ok-algorithm-in-Some.algorithm.now (types_in (declared_in f)) (values_of f) c.args.left c.args.reason (ap (λ (x : Action). x.algorithm) (sym same) ∙ c.in-Some.is)
    (c.in_ok-algorithm-in-Some.ensures ∙ ap (λ (l : List Algorithm). find (λ x. same_name x.name n) l) c.as_slice.ensures) (ap types_in c.requires.declared ∙ types_declared block))
    c.inside_body.ensures.none
