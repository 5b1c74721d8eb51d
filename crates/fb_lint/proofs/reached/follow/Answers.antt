use Rattle.fb_types.proofs.Common.{◌≡◌, ℕ, ◌+◌, ◌<◌, ◌≤◌, Bool, true, false, cond, not, List, [], ◌∷◌, ◌++◌, drop, get_or, length, append_assoc, append-nil, refl, sym, ◌∙◌, ap, at_drop_all, at_drop_more, map-append, Name, same_name}
use Rattle.fb_lint.specs.Findings.{names_are}
use Rattle.fb_lint.specs.Reached.{Edge, edge_is, edges_are}
use Rattle.fb_lint.specs.declared.reached.Edge as code
use Rattle.fb_lint.proofs.lemmas.ReachedStates.{ends, leaving, staying}
use Rattle.fb_lint.proofs.reached.follow.Goals as goal
use Rattle.fb_lint.proofs.reached.follow.Goals.{then-is+in_ok-push, else-is+in_ok-push-2}

-- what one element adds to what the rest gives
grown :
    {A B : Type 0} (f : List A → List B) (xs : List A) (i : ℕ) (x : A) (old new add all : List B) → i < length xs → x ≡ get_or xs i x
    → f (x ∷ drop (i + 1) xs) ≡ add ++ f (drop (i + 1) xs) → new ≡ old ++ add → old ++ f (drop i xs) ≡ all → new ++ f (drop (i + 1) xs) ≡ all
grown {A} {B} f xs i x old new add all within is step added before =
    let rest = drop (i + 1) xs in
    let here : f (drop i xs) ≡ add ++ f rest = at_drop_more f xs i x within ∙ ap (λ (y : A). f (y ∷ rest)) (sym is) ∙ step in
    ap (λ (ys : List B). ys ++ f rest) added ∙ append_assoc old add (f rest) ∙ ap (λ (ys : List B). old ++ ys) (sym here) ∙ before

grown_all :
    {A B : Type 0} (f : List A → List B) (xs : List A) (i : ℕ) (new all : List B) → f [] ≡ [] → length xs ≤ i → new ++ f (drop i xs) ≡ all → new ≡ all
grown_all {A} {B} f xs i new all none past before =
    sym (append-nil new) ∙ ap (λ (ys : List B). new ++ ys) (sym (at_drop_all f xs i past ∙ none)) ∙ before

abbrev others_of : Name → List code.Edge → List Edge
others_of s es = staying s (edges_are es)

abbrev ends_of : Name → List code.Edge → List Name
ends_of s es = ends (leaving s (edges_are es))

pub loop-edge-init : goal.loop-edge-init
loop-edge-init c = record {
  others = ap (λ (es : List code.Edge). edges_are es ++ others_of c.args.state.now c.args.edges.now) c.new-others.ensures.items;
  todo = refl;
}

pub loop-edge-preserved : goal.loop-edge-preserved
loop-edge-preserved c =
    let s = c.args.state.now in
    let xs = c.args.edges.now in
    let i = c.loop-edge.edge-index in
    let x : code.Edge = c.edge-item.result in
    let rest = drop (i + 1) xs in
    let others = others_of s rest in
    let left = leaving s (edges_are rest) in
    elim c.if-is.branch [
      | then-is+in_ok-push w ↦
          let same : same_name s x.from.now ≡ true = sym c.is.ensures ∙ w.if-is.true in
          record {
            others = grown (others_of s) xs i x (edges_are c.loop-edge.others.items) (edges_are c.if-is.others.items) [] _ c.loop-edge-test.true c.edge-item.is
                (ap (λ (b : Bool). cond (not b) (edge_is x ∷ others) others) same)
                (ap (λ v. edges_are v.items) w.others-is ∙ sym (append-nil (edges_are c.loop-edge.others.items))) c.loop-edge.invariant.others;
            todo = grown (ends_of s) xs i x (names_are c.loop-edge.todo.items) (names_are c.if-is.todo.items) (x.to.now ∷ []) _ c.loop-edge-test.true c.edge-item.is
                (ap (λ (b : Bool). ends (cond b (edge_is x ∷ left) left)) same)
                (ap (λ v. names_are v.items) w.todo-is ∙ ap names_are w.in_ok-push.ensures.items ∙ map-append (λ n. n.now) c.loop-edge.todo.items (x.to ∷ []))
                c.loop-edge.invariant.todo;
          }
      | else-is+in_ok-push-2 w ↦
          let same : same_name s x.from.now ≡ false = sym c.is.ensures ∙ w.if-is.false in
          record {
            others = grown (others_of s) xs i x (edges_are c.loop-edge.others.items) (edges_are c.if-is.others.items) (edge_is x ∷ []) _ c.loop-edge-test.true c.edge-item.is
                (ap (λ (b : Bool). cond (not b) (edge_is x ∷ others) others) same)
                (ap (λ v. edges_are v.items) w.others-is ∙ ap edges_are w.in_ok-push-2.ensures.items ∙ map-append edge_is c.loop-edge.others.items (x ∷ []))
                c.loop-edge.invariant.others;
            todo = grown (ends_of s) xs i x (names_are c.loop-edge.todo.items) (names_are c.if-is.todo.items) [] _ c.loop-edge-test.true c.edge-item.is
                (ap (λ (b : Bool). ends (cond b (edge_is x ∷ left) left)) same)
                (ap (λ v. names_are v.items) w.todo-is ∙ sym (append-nil (names_are c.loop-edge.todo.items))) c.loop-edge.invariant.todo;
          }
    ]

pub returns-clause-others : goal.returns-clause-others
returns-clause-others c =
    grown_all (others_of c.args.state.now) c.args.edges.now c.loop-edge.edge-index _ _ refl c.loop-edge-test.false c.loop-edge.invariant.others

pub returns-clause-todo : goal.returns-clause-todo
returns-clause-todo c =
    grown_all (ends_of c.args.state.now) c.args.edges.now c.loop-edge.edge-index _ _ refl c.loop-edge-test.false c.loop-edge.invariant.todo
