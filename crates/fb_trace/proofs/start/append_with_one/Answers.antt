use Rattle.fb_types.proofs.Common.{◌≡◌, ◌++◌, ◌∷◌, [], codes, decimal, take, rules, arith, common_steps, value_text}
use Rattle.fb_trace.proofs.lemmas.lines.PutPieces.{appended-more}
use Rattle.fb_trace.proofs.start.append_with_one.Goals as goal

pub returns-in-Some : goal.returns-in-Some
returns-in-Some c = rw (← c.in-Some.ensures.text) at c.append_with_number.ensures

pub returns : goal.returns
returns c =
    let start = decimal c.args.tick.now ++ codes " " ++ take c.args.head.now.width c.args.head.now.text ++ value_text c.args.value.now in
    let one : c.from_ref.result.now ≡ c.args.value.now ∷ [] = first_of (cc, search rules, search (rules, c.from_ref.ensures.value), grind (arith, common_steps)) in
    appended-more c.args.page.now c.append_start.new.page c.append_byte.new.self start (10 ∷ []) (rw one at c.append_start.ensures.text) c.append_byte.ensures.text
