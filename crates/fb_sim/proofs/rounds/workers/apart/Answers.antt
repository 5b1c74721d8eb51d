use Rattle.fb_types.proofs.Common.{◌++◌, [], ◌∷◌, length, sym, ap, ◌∙◌, append_assoc, arith, into_iter_items}
use Rattle.fb_sim.proofs.lemmas.text.TextsAre.{are_apart, dones_push, texts_push}
use Rattle.fb_sim.proofs.rounds.workers.apart.Goals as goal

pub push_reserved-requires : goal.push_reserved-requires
push_reserved-requires c =
    let room = c.loop-one.invariant.dones_room in
    let step = c.in-Some.ensures.steps in
    omega (arith, room, step.1)

pub push_reserved-requires-in-loop-one : goal.push_reserved-requires-in-loop-one
push_reserved-requires-in-loop-one c =
    let room = c.loop-one.invariant.texts_room in
    let step = c.in-Some.ensures.steps in
    omega (arith, room, step.1)

pub loop-one-preserved : goal.loop-one-preserved
loop-one-preserved c =
    let inv = c.loop-one.invariant in
    let done = c.loop-one.yielded in
    let x = c.in-Some.one in
    let step = c.in-Some.ensures.steps in
    let rest = ap (λ z. done ++ z) (sym step.0) ∙ inv.rest in
    let one = c.push_reserved.ensures in
    let other = c.push_reserved-in-loop-one.ensures in
    record {
      dones = one.items ∙ ap (λ z. z ++ x.done ∷ []) inv.dones ∙ sym (dones_push done x);
      texts = other.items ∙ ap (λ z. z ++ x.text ∷ []) inv.texts ∙ sym (texts_push done x);
      rest = append_assoc done (x ∷ []) (into_iter_items c.next.new.self) ∙ rest;
      len = let same = ap length step.0 in omega (arith, inv.len, step.1, same);
      dones_room = omega (arith, inv.dones_room, step.1, one.len, one.capacity);
      texts_room = omega (arith, inv.texts_room, step.1, other.len, other.capacity);
    }

pub returns : goal.returns
returns c js h =
    let inv = c.loop-one.invariant in
    are_apart js c.loop-one.yielded c.args.all.items (into_iter_items c.loop-one.one-iterator) (let none = c.in-None.ensures.steps.0 in omega (arith, inv.len, none)) inv.rest c.loop-one.dones c.loop-one.texts inv.dones inv.texts h
