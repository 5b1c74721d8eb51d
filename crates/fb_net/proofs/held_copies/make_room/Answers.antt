use Rattle.fb_net.proofs.lemmas.Common.{List, ap, ◌∙◌, ◌++◌, ◌∷◌, []}
use Rattle.fb_types.specs.declared.value.Value.{Value}
use Rattle.fb_net.specs.HeldAt.{side_in}
use Rattle.fb_net.proofs.lemmas.values.HeldSides.{room_kept}
use Rattle.fb_net.proofs.held_copies.make_room.Goals as goal

pub loop-sides-preserved : goal.loop-sides-preserved
loop-sides-preserved c = λ other.
    ap (λ ks. side_in ks other) (c.in_ok-push.ensures.ok ∙ ap (λ (none : List Value). c.loop-sides.sides ++ none ∷ []) c.new-none.ensures) ∙ room_kept c.loop-sides.sides other ∙ c.loop-sides.invariant other
