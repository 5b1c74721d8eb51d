use Rattle.std.proofs.Common.{◌≡◌, ◌-◌, ◌<◌, ◌==◌, ◌||◌, true, false, not, length, Some, None, sym, ◌∙◌, subst, rules, arith, append_assoc}
use Rattle.std.proofs.lemmas.Bool.Decides.{nat_tests}
use Rattle.std.proofs.lemmas.Grind.{common_steps}
use Rattle.std.proofs.lemmas.List.{append-nil, map_push}
use Rattle.std.specs.Option.{IfSome}
use Rattle.toml.specs.Parse.{after_element}
use Rattle.toml_parser.specs.Lexical.{first, skip_blank}
use Rattle.fb_deploy_positions.specs.Values.{after_value}
use Rattle.fb_deploy_positions.proofs.lemmas.Tokens.{none_as, some_as}
use Rattle.fb_deploy_positions.proofs.lemmas.Turns.{items_of_none, items_of_array, items_from_turn}
use Rattle.fb_deploy_positions.proofs.values.items_of.Goals as goal

pub returns-then-depth-eq0 : goal.returns-then-depth-eq0
returns-then-depth-eq0 c =
    let none : ((c.args.depth == 0) || not (first c.args.text.now == 91)) ≡ true = grind (arith, nat_tests, common_steps) in
    rw (c.new-found.ensures.items, items_of_none c.args.depth c.args.text.now none)

pub items-init : goal.items-init
items-init c =
    let s = c.args.text.now in
    let some : 0 < c.args.depth = grind (arith, nat_tests, common_steps) in
    let opens : (first s == 91) ≡ true = grind (arith, nat_tests, common_steps) in
    (search rules, length s, c.skip-rest.ensures.shorter, rw (items_of_array c.args.depth s some opens, c.new-found.ensures.items, c.skip-rest.ensures.rest))

pub returns-then-first-eq93 : goal.returns-then-first-eq93
returns-then-first-eq93 c =
    let l = c.items in
    let (text, m, room, loop) = l.invariant in
    let closing : (first (skip_blank l.rest.now) == 93) ≡ true = grind (arith, common_steps) in
    sym (loop ∙ rw (items_from_turn (after_value (c.args.depth - 1)) m l.rest.now (omega arith), closing, append-nil _))

pub returns-in_default : goal.returns-in_default
returns-in_default c =
    let l = c.items in
    let (text, m, room, loop) = l.invariant in
    let other : (first (skip_blank l.rest.now) == 93) ≡ false = grind (arith, common_steps) in
    let bad : after_value (c.args.depth - 1) (skip_blank l.rest.now) ≡ None = rw c.skip_blank-start.ensures.rest at (none_as _ _ _ c.in_ok-after.ensures.value c.in_default.is) in
    sym (loop ∙ rw (items_from_turn (after_value (c.args.depth - 1)) m l.rest.now (omega arith), other, bad, append-nil _))

pub returns-in_default-after_element : goal.returns-in_default-after_element
returns-in_default-after_element c =
    let l = c.items in
    let (text, m, room, loop) = l.invariant in
    let other : (first (skip_blank l.rest.now) == 93) ≡ false = grind (arith, common_steps) in
    let read : after_value (c.args.depth - 1) (skip_blank l.rest.now) ≡ Some c.in-Some.after.now = rw c.skip_blank-start.ensures.rest at (some_as _ _ _ _ c.in_ok-after.ensures.value c.in-Some.is) in
    let bad : after_element 93 c.in-Some.after.now ≡ None = sym c.in_default-after_element.ensures.value in
    sym (loop ∙ rw (items_from_turn (after_value (c.args.depth - 1)) m l.rest.now (omega arith), other, read, bad, c.in_ok-push.ensures.items, map_push (λ r. r.now) l.found.items c.skip_blank-start.result, c.skip_blank-start.ensures.rest))

pub items-preserved : goal.items-preserved
items-preserved c =
    let l = c.items in
    let (text, m, room, loop) = l.invariant in
    let other : (first (skip_blank l.rest.now) == 93) ≡ false = grind (arith, common_steps) in
    let read : after_value (c.args.depth - 1) (skip_blank l.rest.now) ≡ Some c.in-Some.after.now = rw c.skip_blank-start.ensures.rest at (some_as _ _ _ _ c.in_ok-after.ensures.value c.in-Some.is) in
    let element : after_element 93 c.in-Some.after.now ≡ Some c.in-Some-after_element.next.now = sym c.in-Some-after_element.ensures.value in
    let shorter : length c.in-Some.after.now < length c.skip_blank-start.result.now = subst (λ o. IfSome o (λ r. length r.now < length c.skip_blank-start.result.now)) c.in-Some.is c.in_ok-after.ensures.shorter in
    let within = c.in-Some-after_element.ensures.within in
    let before = c.skip_blank-start.ensures.within in
    (search rules, m - 1, omega arith, loop ∙ rw (items_from_turn (after_value (c.args.depth - 1)) m l.rest.now (omega arith), other, read, element, c.in_ok-push.ensures.items, map_push (λ r. r.now) l.found.items c.skip_blank-start.result, append_assoc _ _ _, c.skip_blank-start.ensures.rest))
