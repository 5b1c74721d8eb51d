use Rattle.fb_net.proofs.lemmas.Common.{◌≡◌, ℕ, List, Some, ap, sym, subst, ◌∙◌, slice_get, slice_set, Value, IsSet, side_index_of}
use Rattle.fb_net.proofs.lemmas.values.HeldSides.{is_set, none_set}
use Rattle.fb_net.proofs.held_copies.HeldCopies.set.Goals as goal

pub returns-in-Some : goal.returns-in-Some
returns-in-Some c =
    let h = c.args.self.now in
    let x = c.args.variable.now in
    let v = c.args.value in
    let side = c.in-Some.side.now in
    let index = c.side_index_of.ensures in
    let there : slice_get h.sides (side_index_of x) ≡ Some side = ap (slice_get h.sides) (sym index) ∙ sym c.in-Some.ensures.value in
    subst (λ (ss : List (List Value)). IsSet h x v (record { sides = ss }))
    (ap (λ (k : ℕ). slice_set h.sides k (slice_set side x.variable v)) (sym index) ∙ ap (λ (vs : List Value). slice_set h.sides c.side_index_of.result vs) (sym c.set.ensures))
    (is_set h x v side there)

pub returns-in_default : goal.returns-in_default
returns-in_default c =
    let h = c.args.self.now in
    none_set h c.args.variable.now c.args.value (ap (slice_get h.sides) (sym c.side_index_of.ensures) ∙ sym c.in_default.ensures.value)
