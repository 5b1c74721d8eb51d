use Rattle.fb_net.proofs.lemmas.Common.{◌≡◌, ◌<◌, ℕ, List, None, Some, ap, length, sym, subst, ◌∙◌, slice_get, slice_set, Value, side_index_of}
use Rattle.fb_types.proofs.lemmas.lists.ByIndex.{element_at}
use Rattle.fb_net.specs.HeldAt.{IsAdded}
use Rattle.fb_net.proofs.lemmas.values.HeldSides.{is_added}
use Rattle.fb_net.proofs.held_copies.HeldCopies.add.Goals as goal

pub unreachable-requires : goal.unreachable-requires
unreachable-requires c =
    let there = element_at c.make_room.new.sides c.side_index_of-side_index.result c.in_ok-make_room.ensures.long in
    let bad : None ≡ Some there.0 = c.in_default.ensures.value ∙ there.1 in cc

pub returns : goal.returns
returns c =
    let x = c.args.variable.now in
    let room = c.make_room.new.sides in
    let is = c.side_index_of-side_index.ensures in
    let long = subst (λ (k : ℕ). k < length room) is c.in_ok-make_room.ensures.long in
    subst (λ (ss : List (List Value)). IsAdded c.args.self.now x c.args.values (record { sides = ss }))
    (ap (λ (k : ℕ). slice_set room k c.args.values) (sym is))
    (is_added c.args.self.now x c.args.values room long c.in_ok-make_room.ensures.same)
