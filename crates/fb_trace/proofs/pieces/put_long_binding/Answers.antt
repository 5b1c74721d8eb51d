use Rattle.fb_types.proofs.Common.{[], ◌∷◌, codes, value_text}
use Rattle.fb_trace.proofs.lemmas.lines.PutPieces.{Fails-after, Fails-before, Fails-first, Gathers-passed, Puts-appended, Puts-more}
use Rattle.fb_trace.proofs.pieces.put_long_binding.Goals as goal

pub returns-in_err-put : goal.returns-in_err-put
returns-in_err-put g c =
    Gathers-passed _ c.from_residual.ensures.1
    (Fails-first (c.args.name.now ∷ codes "=" ∷ value_text c.args.value ∷ []) c.in_err-put.ensures.part)

pub returns-in_err-put-2 : goal.returns-in_err-put-2
returns-in_err-put-2 g c =
    Gathers-passed _ c.from_residual-in_err-put-2.ensures.1
    (Fails-first (codes "=" ∷ value_text c.args.value ∷ []) (Fails-after c.in_ok-put.ensures.whole c.in_err-put-2.ensures.part))

pub returns-in_err-make_room : goal.returns-in_err-make_room
returns-in_err-make_room g c =
    Gathers-passed _ c.from_residual-in_err-make_room.ensures.1
    (Fails-first (value_text c.args.value ∷ [])
    (Fails-after (Puts-more c.in_ok-put.ensures.whole c.in_ok-put-2.ensures.whole) (Fails-before (codes "=") c.in_err-make_room.ensures.text.part)))

pub returns : goal.returns
returns g c =
    record {
      whole =
          Puts-more
          (Puts-more (Puts-more c.in_ok-put.ensures.whole c.in_ok-put-2.ensures.whole)
          (Puts-more c.in_ok-make_room.ensures.text.whole (Puts-appended _ c.append.ensures.text)))
          (Puts-appended _ c.append_value.ensures.text);
      part = tt;
    }
