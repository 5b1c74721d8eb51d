use Rattle.std.proofs.Common.{List, ℕ, Bool, [], ◌∷◌, codes, if◌then◌else◌}
use Rattle.fb_trace.proofs.lemmas.lines.PutPieces.{Fails-after, Fails-before, Fails-first, Gathers-after, Gathers-passed, Puts-appended, Puts-more}
use Rattle.fb_trace.proofs.pieces.put_long_head.Goals as goal

abbrev sign : Bool → List ℕ
sign taken = if taken then codes " > " else codes " < "

pub returns-in_err-put : goal.returns-in_err-put
returns-in_err-put g c =
    let a = c.args in
    Gathers-passed _ c.from_residual.ensures.1
    (Fails-first (a.resource.now ∷ sign a.taken ∷ a.path.now ∷ codes "." ∷ a.event.now ∷ []) (rw c.text-width.ensures.text at c.in_err-put.ensures.part))

pub returns-in_err-put-2 : goal.returns-in_err-put-2
returns-in_err-put-2 g c =
    let a = c.args in
    Gathers-passed _ c.from_residual-in_err-put-2.ensures.1
    (Fails-first (sign a.taken ∷ a.path.now ∷ codes "." ∷ a.event.now ∷ [])
    (Fails-after (rw c.text-width.ensures.text at c.in_ok-put.ensures.whole) c.in_err-put-2.ensures.part))

pub returns-in_err-make_room : goal.returns-in_err-make_room
returns-in_err-make_room g c =
    let a = c.args in
    Gathers-passed _ c.from_residual-in_err-make_room.ensures.1
    (Fails-first (a.path.now ∷ codes "." ∷ a.event.now ∷ [])
    (Fails-after (Puts-more (rw c.text-width.ensures.text at c.in_ok-put.ensures.whole) c.in_ok-put-2.ensures.whole)
    (Fails-before (sign a.taken) c.in_err-make_room.ensures.text.part)))

pub returns-in_err-put-3 : goal.returns-in_err-put-3
returns-in_err-put-3 g c =
    let a = c.args in
    Gathers-passed _ c.from_residual-in_err-put-3.ensures.1
    (Fails-first (codes "." ∷ a.event.now ∷ [])
    (Fails-after
    (Puts-more
    (Puts-more (rw c.text-width.ensures.text at c.in_ok-put.ensures.whole) c.in_ok-put-2.ensures.whole)
    (Puts-more c.in_ok-make_room.ensures.text.whole (Puts-appended _ c.append_sign.ensures.text)))
    c.in_err-put-3.ensures.part))

pub returns-in_err-put-4 : goal.returns-in_err-put-4
returns-in_err-put-4 g c =
    Gathers-passed _ c.from_residual-in_err-put-4.ensures.1
    (Fails-first (c.args.event.now ∷ [])
    (Fails-after
    (Puts-more
    (Puts-more
    (Puts-more (rw c.text-width.ensures.text at c.in_ok-put.ensures.whole) c.in_ok-put-2.ensures.whole)
    (Puts-more c.in_ok-make_room.ensures.text.whole (Puts-appended _ c.append_sign.ensures.text)))
    c.in_ok-put-3.ensures.whole)
    c.in_err-put-4.ensures.part))

pub returns : goal.returns
returns g c =
    Gathers-after _
    (Puts-more
    (Puts-more
    (Puts-more
    (Puts-more (rw c.text-width.ensures.text at c.in_ok-put.ensures.whole) c.in_ok-put-2.ensures.whole)
    (Puts-more c.in_ok-make_room.ensures.text.whole (Puts-appended _ c.append_sign.ensures.text)))
    c.in_ok-put-3.ensures.whole)
    c.in_ok-put-4.ensures.whole)
    c.put-5.ensures
