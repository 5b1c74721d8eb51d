use Rattle.std.proofs.Common.{◌≡◌, ◌++◌, ◌∷◌, [], codes, decimal, take}
use Rattle.fb_trace.proofs.lemmas.lines.PutPieces.{appended-more}
use Rattle.fb_trace.proofs.start.append_with_number.Goals as goal

pub returns : goal.returns
returns c =
    let p = c.args.page.now in
    let d = c.digits_of-digits in
    let start = decimal c.args.tick.now ++ codes " " ++ take c.args.head.now.width c.args.head.now.text in
    let number = decimal c.args.number in
    let begun : c.append_both.new.self ≡ record p { waiting = p.waiting ++ start } = rw (c.text-width.ensures.text, d.ensures.kept) at c.append_both.ensures.text in
    let valued : c.append_front.new.self ≡ record p { waiting = p.waiting ++ (start ++ number) } =
    appended-more p c.append_both.new.self c.append_front.new.self start number begun (rw d.ensures.digits at c.append_front.ensures.text) in
    appended-more p c.append_front.new.self c.append_byte.new.self (start ++ number) (10 ∷ []) valued c.append_byte.ensures.text
