use Rattle.std.proofs.Common.{◌≡◌, ◌-◌, ◌<◌, ◌==◌, ◌||◌, true, false, not, length, Some, None, sym, ◌∙◌, subst, rules, arith}
use Rattle.std.proofs.lemmas.Bool.Decides.{nat_tests}
use Rattle.std.proofs.lemmas.Grind.{common_steps}
use Rattle.std.specs.Option.{IfSome}
use Rattle.toml.specs.Parse.{after_element, key_equals}
use Rattle.toml_parser.specs.Lexical.{first, skip_blank}
use Rattle.toml_parser.specs.Reading.{key_view}
use Rattle.fb_deploy_positions.specs.Entries.{begins_with}
use Rattle.fb_deploy_positions.specs.Values.{after_value}
use Rattle.fb_deploy_positions.proofs.lemmas.Tokens.{none_as, some_as}
use Rattle.fb_deploy_positions.proofs.lemmas.Turns.{members_of_none, members_of_table, members_from_turn, named_none, named_turn}
use Rattle.fb_deploy_positions.proofs.values.member_named.Goals as goal

pub returns-then-depth-eq0 : goal.returns-then-depth-eq0
returns-then-depth-eq0 c =
    let none : ((c.args.depth == 0) || not (first c.args.text.now == 123)) ≡ true = grind (arith, nat_tests, common_steps) in
    sym (rw (members_of_none c.args.depth c.args.text.now none) (named_none (c.args.depth - 1) c.args.name.now))

pub members-init : goal.members-init
members-init c =
    let s = c.args.text.now in
    let some : 0 < c.args.depth = grind (arith, nat_tests, common_steps) in
    let opens : (first s == 123) ≡ true = grind (arith, nat_tests, common_steps) in
    (search rules, length s, c.skip-rest.ensures.shorter, rw (members_of_table c.args.depth s some opens, c.skip-rest.ensures.rest))

pub returns-then-first-eq125 : goal.returns-then-first-eq125
returns-then-first-eq125 c =
    let l = c.members in
    let depth = c.args.depth - 1 in
    let (text, m, room, loop) = l.invariant in
    let turn = members_from_turn (after_value depth) m l.rest.now (omega arith) in
    let closing : (first (skip_blank l.rest.now) == 125) ≡ true = grind (arith, common_steps) in
    sym (loop ∙ rw (turn, closing) (named_none depth c.args.name.now))

pub returns-in_default : goal.returns-in_default
returns-in_default c =
    let l = c.members in
    let depth = c.args.depth - 1 in
    let (text, m, room, loop) = l.invariant in
    let turn = members_from_turn (after_value depth) m l.rest.now (omega arith) in
    let other : (first (skip_blank l.rest.now) == 125) ≡ false = grind (arith, common_steps) in
    let bad : key_equals (skip_blank l.rest.now) ≡ None = rw c.skip_blank-start.ensures.rest at (none_as _ _ _ c.in_ok-key.ensures.value c.in_default.is) in
    sym (loop ∙ rw (turn, other, bad) (named_none depth c.args.name.now))

pub returns-in_default-2 : goal.returns-in_default-2
returns-in_default-2 c =
    let l = c.members in
    let depth = c.args.depth - 1 in
    let (text, m, room, loop) = l.invariant in
    let turn = members_from_turn (after_value depth) m l.rest.now (omega arith) in
    let other : (first (skip_blank l.rest.now) == 125) ≡ false = grind (arith, common_steps) in
    let key : key_equals (skip_blank l.rest.now) ≡ Some (key_view c.in-Some.key, c.in-Some.value.now) = rw c.skip_blank-start.ensures.rest at (some_as _ _ _ _ c.in_ok-key.ensures.value c.in-Some.is) in
    let bad : after_value depth c.in-Some.value.now ≡ None = none_as _ _ _ c.in_ok-after.ensures.value c.in_default-2.is in
    sym (loop ∙ rw (turn, other, key, bad) (named_none depth c.args.name.now))

pub returns-then-begins_with : goal.returns-then-begins_with
returns-then-begins_with c =
    let l = c.members in
    let depth = c.args.depth - 1 in
    let (text, m, room, loop) = l.invariant in
    let turn = members_from_turn (after_value depth) m l.rest.now (omega arith) in
    let other : (first (skip_blank l.rest.now) == 125) ≡ false = grind (arith, common_steps) in
    let key : key_equals (skip_blank l.rest.now) ≡ Some (key_view c.in-Some.key, c.in-Some.value.now) = rw c.skip_blank-start.ensures.rest at (some_as _ _ _ _ c.in_ok-key.ensures.value c.in-Some.is) in
    let read : after_value depth c.in-Some.value.now ≡ Some c.in-Some-2.after.now = some_as _ _ _ _ c.in_ok-after.ensures.value c.in-Some-2.is in
    let named : begins_with c.args.name.now (key_view c.in-Some.key) ≡ true = sym c.begins_with.ensures ∙ c.if-begins_with.true in
    sym (loop ∙ rw (turn, other, key, read) (named_turn depth c.args.name.now (skip_blank l.rest.now) _ (key_view c.in-Some.key) c.in-Some.value.now key ∙ rw (named, c.skip_blank-start.ensures.rest)))

pub returns-in_default-after_element : goal.returns-in_default-after_element
returns-in_default-after_element c =
    let l = c.members in
    let depth = c.args.depth - 1 in
    let (text, m, room, loop) = l.invariant in
    let turn = members_from_turn (after_value depth) m l.rest.now (omega arith) in
    let other : (first (skip_blank l.rest.now) == 125) ≡ false = grind (arith, common_steps) in
    let key : key_equals (skip_blank l.rest.now) ≡ Some (key_view c.in-Some.key, c.in-Some.value.now) = rw c.skip_blank-start.ensures.rest at (some_as _ _ _ _ c.in_ok-key.ensures.value c.in-Some.is) in
    let read : after_value depth c.in-Some.value.now ≡ Some c.in-Some-2.after.now = some_as _ _ _ _ c.in_ok-after.ensures.value c.in-Some-2.is in
    let named : begins_with c.args.name.now (key_view c.in-Some.key) ≡ false = sym c.begins_with.ensures ∙ c.if-begins_with.false in
    let bad : after_element 125 c.in-Some-2.after.now ≡ None = sym c.in_default-after_element.ensures.value in
    sym (loop ∙ rw (turn, other, key, read, bad) (named_turn depth c.args.name.now (skip_blank l.rest.now) _ (key_view c.in-Some.key) c.in-Some.value.now key ∙ rw named (named_none depth c.args.name.now)))

pub members-preserved : goal.members-preserved
members-preserved c =
    let l = c.members in
    let depth = c.args.depth - 1 in
    let (text, m, room, loop) = l.invariant in
    let turn = members_from_turn (after_value depth) m l.rest.now (omega arith) in
    let start = c.skip_blank-start.result.now in
    let other : (first (skip_blank l.rest.now) == 125) ≡ false = grind (arith, common_steps) in
    let key : key_equals (skip_blank l.rest.now) ≡ Some (key_view c.in-Some.key, c.in-Some.value.now) = rw c.skip_blank-start.ensures.rest at (some_as _ _ _ _ c.in_ok-key.ensures.value c.in-Some.is) in
    let read : after_value depth c.in-Some.value.now ≡ Some c.in-Some-2.after.now = some_as _ _ _ _ c.in_ok-after.ensures.value c.in-Some-2.is in
    let named : begins_with c.args.name.now (key_view c.in-Some.key) ≡ false = sym c.begins_with.ensures ∙ c.if-begins_with.false in
    let element : after_element 125 c.in-Some-2.after.now ≡ Some c.in-Some-after_element.next.now = sym c.in-Some-after_element.ensures.value in
    let shorter : length c.in-Some.value.now < length start = subst (λ o. IfSome o (λ p. length p.1.now < length start)) c.in-Some.is c.in_ok-key.ensures.shorter in
    let shorter_again : length c.in-Some-2.after.now < length c.in-Some.value.now = subst (λ o. IfSome o (λ r. length r.now < length c.in-Some.value.now)) c.in-Some-2.is c.in_ok-after.ensures.shorter in
    let within = c.in-Some-after_element.ensures.within in
    let before = c.skip_blank-start.ensures.within in
    (search rules, m - 1, omega arith, loop ∙ rw (turn, other, key, read, element) (named_turn depth c.args.name.now (skip_blank l.rest.now) _ (key_view c.in-Some.key) c.in-Some.value.now key ∙ rw named))
