use Rattle.std.proofs.Common.{◌≡◌, ◌-◌, ◌<◌, ◌==◌, ◌||◌, true, false, length, Some, None, sym, ◌∙◌, subst, rules, arith}
use Rattle.std.proofs.lemmas.Grind.{common_steps}
use Rattle.std.specs.Option.{IfSome}
use Rattle.toml.specs.Parse.{after_element, key_equals}
use Rattle.toml_parser.specs.Lexical.{first, skip_blank}
use Rattle.toml_parser.specs.Reading.{key_view}
use Rattle.fb_deploy_positions.specs.Values.{after_value}
use Rattle.fb_deploy_positions.proofs.lemmas.Tokens.{none_as, some_as}
use Rattle.fb_deploy_positions.proofs.lemmas.Turns.{value_atom, value_deep, value_array, value_table, items_turn, members_turn}
use Rattle.fb_deploy_positions.proofs.values.+value.Goals as goal

pub after_items-returns-then-first-eq93-clause-value : goal.after_items-returns-then-first-eq93-clause-value
after_items-returns-then-first-eq93-clause-value t c n h =
    let l = c.items in
    let (m, room, loop) = l.invariant.2 n h in
    let closing : (first (skip_blank l.rest.now) == 93) ≡ true = grind (arith, common_steps) in
    sym (loop ∙ items_turn (after_value c.args.depth) m l.rest.now (omega arith) ∙ rw (closing, c.skip.ensures.rest, c.skip_blank-start.ensures.rest))

pub after_items-returns-in_default-clause-value : goal.after_items-returns-in_default-clause-value
after_items-returns-in_default-clause-value t c n h =
    let l = c.items in
    let (m, room, loop) = l.invariant.2 n h in
    let other : (first (skip_blank l.rest.now) == 93) ≡ false = grind (arith, common_steps) in
    let bad : after_value c.args.depth (skip_blank l.rest.now) ≡ None = rw c.skip_blank-start.ensures.rest at (none_as _ _ _ c.in_ok-after.ensures.value c.in_default.is) in
    sym (loop ∙ items_turn (after_value c.args.depth) m l.rest.now (omega arith) ∙ rw (other, bad))

pub after_items-returns-in_default-after_element-clause-value : goal.after_items-returns-in_default-after_element-clause-value
after_items-returns-in_default-after_element-clause-value t c n h =
    let l = c.items in
    let (m, room, loop) = l.invariant.2 n h in
    let other : (first (skip_blank l.rest.now) == 93) ≡ false = grind (arith, common_steps) in
    let read : after_value c.args.depth (skip_blank l.rest.now) ≡ Some c.in-Some.after.now = rw c.skip_blank-start.ensures.rest at (some_as _ _ _ _ c.in_ok-after.ensures.value c.in-Some.is) in
    let bad : after_element 93 c.in-Some.after.now ≡ None = sym c.in_default-after_element.ensures.value in
    sym (loop ∙ items_turn (after_value c.args.depth) m l.rest.now (omega arith) ∙ rw (other, read, bad))

pub after_items-items-preserved : goal.after_items-items-preserved
after_items-items-preserved t c =
    let l = c.items in
    let other : (first (skip_blank l.rest.now) == 93) ≡ false = grind (arith, common_steps) in
    let read : after_value c.args.depth (skip_blank l.rest.now) ≡ Some c.in-Some.after.now = rw c.skip_blank-start.ensures.rest at (some_as _ _ _ _ c.in_ok-after.ensures.value c.in-Some.is) in
    let element : after_element 93 c.in-Some.after.now ≡ Some c.in-Some-after_element.next.now = sym c.in-Some-after_element.ensures.value in
    let shorter : length c.in-Some.after.now < length c.skip_blank-start.result.now = subst (λ o. IfSome o (λ r. length r.now < length c.skip_blank-start.result.now)) c.in-Some.is c.in_ok-after.ensures.shorter in
    let within = c.in-Some-after_element.ensures.within in
    let before = c.skip_blank-start.ensures.within in (
      search rules,
      omega (arith, l.invariant.1),
      λ n h.
          let (m, room, loop) = l.invariant.2 n h in
          (m - 1, omega arith, loop ∙ items_turn (after_value c.args.depth) m l.rest.now (omega arith) ∙ rw (other, read, element)),
    )

pub after_members-returns-then-first-eq125-clause-value : goal.after_members-returns-then-first-eq125-clause-value
after_members-returns-then-first-eq125-clause-value t c n h =
    let l = c.members in
    let (m, room, loop) = l.invariant.2 n h in
    let closing : (first (skip_blank l.rest.now) == 125) ≡ true = grind (arith, common_steps) in
    sym (loop ∙ members_turn (after_value c.args.depth) m l.rest.now (omega arith) ∙ rw (closing, c.skip.ensures.rest, c.skip_blank-start.ensures.rest))

pub after_members-returns-in_default-clause-value : goal.after_members-returns-in_default-clause-value
after_members-returns-in_default-clause-value t c n h =
    let l = c.members in
    let (m, room, loop) = l.invariant.2 n h in
    let other : (first (skip_blank l.rest.now) == 125) ≡ false = grind (arith, common_steps) in
    let bad : key_equals (skip_blank l.rest.now) ≡ None = rw c.skip_blank-start.ensures.rest at (none_as _ _ _ c.in_ok-value.ensures.value c.in_default.is) in
    sym (loop ∙ members_turn (after_value c.args.depth) m l.rest.now (omega arith) ∙ rw (other, bad))

pub after_members-returns-in_default-2-clause-value : goal.after_members-returns-in_default-2-clause-value
after_members-returns-in_default-2-clause-value t c n h =
    let l = c.members in
    let (m, room, loop) = l.invariant.2 n h in
    let other : (first (skip_blank l.rest.now) == 125) ≡ false = grind (arith, common_steps) in
    let key : key_equals (skip_blank l.rest.now) ≡ Some (key_view c.in-Some.field-0-0, c.in-Some.value.now) = rw c.skip_blank-start.ensures.rest at (some_as _ _ _ _ c.in_ok-value.ensures.value c.in-Some.is) in
    let bad : after_value c.args.depth c.in-Some.value.now ≡ None = none_as _ _ _ c.in_ok-after.ensures.value c.in_default-2.is in
    sym (loop ∙ members_turn (after_value c.args.depth) m l.rest.now (omega arith) ∙ rw (other, key, bad))

pub after_members-returns-in_default-after_element-clause-value : goal.after_members-returns-in_default-after_element-clause-value
after_members-returns-in_default-after_element-clause-value t c n h =
    let l = c.members in
    let (m, room, loop) = l.invariant.2 n h in
    let other : (first (skip_blank l.rest.now) == 125) ≡ false = grind (arith, common_steps) in
    let key : key_equals (skip_blank l.rest.now) ≡ Some (key_view c.in-Some.field-0-0, c.in-Some.value.now) = rw c.skip_blank-start.ensures.rest at (some_as _ _ _ _ c.in_ok-value.ensures.value c.in-Some.is) in
    let read : after_value c.args.depth c.in-Some.value.now ≡ Some c.in-Some-2.after.now = some_as _ _ _ _ c.in_ok-after.ensures.value c.in-Some-2.is in
    let bad : after_element 125 c.in-Some-2.after.now ≡ None = sym c.in_default-after_element.ensures.value in
    sym (loop ∙ members_turn (after_value c.args.depth) m l.rest.now (omega arith) ∙ rw (other, key, read, bad))

pub after_members-members-preserved : goal.after_members-members-preserved
after_members-members-preserved t c =
    let l = c.members in
    let start = c.skip_blank-start.result.now in
    let other : (first (skip_blank l.rest.now) == 125) ≡ false = grind (arith, common_steps) in
    let key : key_equals (skip_blank l.rest.now) ≡ Some (key_view c.in-Some.field-0-0, c.in-Some.value.now) = rw c.skip_blank-start.ensures.rest at (some_as _ _ _ _ c.in_ok-value.ensures.value c.in-Some.is) in
    let read : after_value c.args.depth c.in-Some.value.now ≡ Some c.in-Some-2.after.now = some_as _ _ _ _ c.in_ok-after.ensures.value c.in-Some-2.is in
    let element : after_element 125 c.in-Some-2.after.now ≡ Some c.in-Some-after_element.next.now = sym c.in-Some-after_element.ensures.value in
    let shorter : length c.in-Some.value.now < length start = subst (λ o. IfSome o (λ p. length p.1.now < length start)) c.in-Some.is c.in_ok-value.ensures.shorter in
    let shorter_again : length c.in-Some-2.after.now < length c.in-Some.value.now = subst (λ o. IfSome o (λ r. length r.now < length c.in-Some.value.now)) c.in-Some-2.is c.in_ok-after.ensures.shorter in
    let within = c.in-Some-after_element.ensures.within in
    let before = c.skip_blank-start.ensures.within in (
      search rules,
      omega (arith, l.invariant.1),
      λ n h.
          let (m, room, loop) = l.invariant.2 n h in
          (m - 1, omega arith, loop ∙ members_turn (after_value c.args.depth) m l.rest.now (omega arith) ∙ rw (other, key, read, element)),
    )

pub after_value-returns-then-byte-ne123-clause-value : goal.after_value-returns-then-byte-ne123-clause-value
after_value-returns-then-byte-ne123-clause-value t c =
    let s = c.args.text.now in
    let a : (first s == 91) ≡ false = grind (arith, common_steps) in
    let b : (first s == 123) ≡ false = grind (arith, common_steps) in
    rw (value_atom c.args.depth s a b) c.after_atom.ensures.value

pub after_value-returns-then-depth-eq0-clause-value : goal.after_value-returns-then-depth-eq0-clause-value
after_value-returns-then-depth-eq0-clause-value t c =
    let s = c.args.text.now in
    let bracket : ((first s == 91) || (first s == 123)) ≡ true = grind (arith, common_steps) in
    let none : c.args.depth ≡ 0 = omega arith in
    rw none (sym (value_deep s bracket))

pub after_value-returns-then-byte-eq91-clause-value : goal.after_value-returns-then-byte-eq91-clause-value
after_value-returns-then-byte-eq91-clause-value t c =
    let s = c.args.text.now in
    let some : 0 < c.args.depth = omega arith in
    let a : (first s == 91) ≡ true = grind (arith, common_steps) in
    rw (value_array c.args.depth s some a, ← c.skip.ensures.rest) (c.after_items.ensures.value (length s) c.skip.ensures.shorter)

pub after_value-returns-else-byte-eq91-clause-value : goal.after_value-returns-else-byte-eq91-clause-value
after_value-returns-else-byte-eq91-clause-value t c =
    let s = c.args.text.now in
    let some : 0 < c.args.depth = omega arith in
    let a : (first s == 91) ≡ false = grind (arith, common_steps) in
    let b : (first s == 123) ≡ true = grind (arith, common_steps) in
    rw (value_table c.args.depth s some a b, ← c.skip-else-byte-eq91.ensures.rest) (c.after_members.ensures.value (length s) c.skip-else-byte-eq91.ensures.shorter)
