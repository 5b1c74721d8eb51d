use Rattle.fb_lint.proofs.lemmas.Common.{◌∷◌, ◌++◌, ◌∙◌, List, [], ℕ, ap, refl, arith, names_are, edges_are}
use Rattle.fb_types.proofs.Common.{Bor, map-append}
use Rattle.fb_lint.specs.declared.reached.Edge.{Edge}
use Rattle.fb_lint.proofs.lemmas.ReachedStates.{ends, fewer, leaving, nothing, reaching_all_at, reaching_first_at, reaching_next_at, staying}
use Rattle.fb_lint.proofs.reached.reached_by.Goals as goal

pub loop-state-init : goal.loop-state-init
loop-state-init c =
    reaching_first_at (edges_are c.args.edges.items) c.args.initial.now _ _ _ refl
    (ap names_are c.in_ok-push.ensures.items ∙ ap (λ (ns : List (Bor (List ℕ))). names_are (ns ++ c.args.initial ∷ [])) c.new-todo.ensures.items)
    (ap names_are c.new-reached.ensures.items)

pub loop-state-smaller : goal.loop-state-smaller
loop-state-smaller c =
    let s = c.in-Some.state.now in
    let todo = c.pop.new.self.items in
    fewer (edges_are c.loop-state.rest.items) (edges_are c.in_ok-rest.rest.items) (names_are c.loop-state.todo.items) (names_are todo) (names_are c.follow.new.todo.items) s
    (ap names_are c.in-Some.ensures.items ∙ map-append (λ (n : Bor (List ℕ)). n.now) todo (c.in-Some.state ∷ []))
    (c.in_ok-rest.ensures.others ∙ ap (λ (es : List Edge). staying s (edges_are es)) c.as_slice.ensures.value)
    (c.in_ok-rest.ensures.todo ∙ ap (λ (es : List Edge). names_are todo ++ ends (leaving s (edges_are es))) c.as_slice.ensures.value)

pub loop-state-preserved : goal.loop-state-preserved
loop-state-preserved c =
    let s = c.in-Some.state.now in
    let todo = c.pop.new.self.items in
    reaching_next_at (edges_are c.args.edges.items) c.args.initial.now (edges_are c.loop-state.rest.items) _ (names_are c.loop-state.todo.items) (names_are todo) _
    (names_are c.loop-state.reached.items) _ s
    (ap names_are c.in-Some.ensures.items ∙ map-append (λ (n : Bor (List ℕ)). n.now) todo (c.in-Some.state ∷ []))
    (c.in_ok-rest.ensures.others ∙ ap (λ (es : List Edge). staying s (edges_are es)) c.as_slice.ensures.value)
    (c.in_ok-rest.ensures.todo ∙ ap (λ (es : List Edge). names_are todo ++ ends (leaving s (edges_are es))) c.as_slice.ensures.value)
    (ap names_are c.in_ok-push-2.ensures.items ∙ map-append (λ (n : Bor (List ℕ)). n.now) c.loop-state.reached.items (c.in-Some.state ∷ []))
    c.loop-state.invariant

pub returns : goal.returns
returns c =
    reaching_all_at (edges_are c.args.edges.items) c.args.initial.now (edges_are c.loop-state.rest.items) (names_are c.loop-state.todo.items) _
    (ap names_are (nothing c.loop-state.todo.items (omega (arith, c.loop-state.todo.ok.0, c.in_default.ensures.cases))))
    c.loop-state.invariant
