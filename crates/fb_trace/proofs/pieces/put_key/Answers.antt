use Rattle.std.proofs.Common.{decimal, ◌++◌, codes, append_assoc}
use Rattle.fb_trace.proofs.lemmas.lines.PutPieces.{Puts-none, Puts-more, Fails-before, Fails-after, Gathers-after, Gathers-passed}
use Rattle.fb_trace.proofs.pieces.put_key.Goals as goal

pub returns-in_err-put_part-in-Two : goal.returns-in_err-put_part-in-Two
returns-in_err-put_part-in-Two g c =
    rw c.in-Two.is
    (let k = c.args.key.now in
    Gathers-passed _ c.from_residual.ensures.1
    (Fails-before (codes " ") (Fails-before (decimal k.b) (Fails-before (codes " ") (Fails-before (decimal k.a) c.in_err-put_part-in-Two.ensures.part)))))

pub returns-in_err-put_part-in-Two-2 : goal.returns-in_err-put_part-in-Two-2
returns-in_err-put_part-in-Two-2 g c =
    rw c.in-Two.is
    (let k = c.args.key.now in
    Gathers-passed _ c.from_residual-in_err-put_part-in-Two-2.ensures.1
    (Fails-before (codes " ")
    (Fails-before (decimal k.b)
    (rw (append_assoc (decimal k.class ++ codes " ") (decimal k.a) (codes " "))
    (Fails-after c.in_ok-put_part-in-Two.ensures.whole c.in_err-put_part-in-Two-2.ensures.part)))))

pub returns-in-One : goal.returns-in-One
returns-in-One g c = rw c.in-One.is (record { whole = Puts-none _ _; part = tt })

pub returns-in_ok-put_part-in-Two-2 : goal.returns-in_ok-put_part-in-Two-2
returns-in_ok-put_part-in-Two-2 g c =
    rw c.in-Two.is
    (let k = c.args.key.now in
    let before = decimal k.class ++ codes " " in
    rw (append_assoc (before ++ decimal k.a ++ codes " ") (decimal k.b) (codes " "), append_assoc before (decimal k.a) (codes " "))
    (Gathers-after _ (Puts-more c.in_ok-put_part-in-Two.ensures.whole c.in_ok-put_part-in-Two-2.ensures.whole) c.put_part-in-Two-2.ensures))
