use Rattle.fb_types.proofs.Common.{◌≡◌, Some, refl, sym, ◌∙◌, arith, slice_get, vec_len, eqb-true, slice_get_read}
use Rattle.fb_window.proofs.lemmas.phases.Targets.{empty_all, empty_more}
use Rattle.fb_window.proofs.lemmas.lines.FoundLines.{no_length}
use Rattle.fb_window.proofs.post.are_empty.Goals as goal

pub loop-list-preserved : goal.loop-list-preserved
loop-list-preserved g c =
    let lists = c.args.lists.now in
    let n = c.loop-list.list-index in
    let x = c.list-item.result in
    let at : slice_get lists n ≡ Some x = slice_get_read lists _ n x refl c.loop-list-test.true c.list-item.is in
    empty_more lists n x at (no_length x.items (sym x.ok.0 ∙ eqb-true (vec_len x) 0 (sym c.is_empty.ensures ∙ c.if-not-is_empty.false))) c.loop-list.invariant

pub returns : goal.returns
returns g c = λ t. empty_all c.args.lists.now c.loop-list.list-index (omega (arith, c.loop-list-test.false)) c.loop-list.invariant
