use Rattle.fb_types.proofs.Common.{◌-◌, ◌<◌, length, drop, arith, length-drop, length-take}
use Rattle.fb_read.proofs.lemmas.rules.NextLaws.{at-end, at-front, first-before}
use Rattle.fb_read.proofs.read.span_at.Goals as goal

pub returns-in_default : goal.returns-in_default
returns-in_default c = at-end c.args.text.now c.args.left.now (omega (arith, c.in_default.len_below))

pub slice_bounds-here-start : goal.slice_bounds-here-start
slice_bounds-here-start c =
    let before = first-before c.args.text.now c.args.left.now c.first-item.result _ c.requires c.in-len1-up.len_at_least c.first-item.is in
    omega arith

pub slice_bounds-here-count : goal.slice_bounds-here-count
slice_bounds-here-count c =
    let before = first-before c.args.text.now c.args.left.now c.first-item.result _ c.requires c.in-len1-up.len_at_least c.first-item.is in
    omega arith

pub overflow_add-end : goal.overflow_add-end
overflow_add-end c =
    let start = c.first-item.result.index in
    let before : start < length c.args.text.now = first-before c.args.text.now c.args.left.now c.first-item.result _ c.requires c.in-len1-up.len_at_least c.first-item.is in
    let n = length-drop start c.args.text.now in
    let m = length-take (length c.args.text.now - start) (drop start c.args.text.now) in
    omega (arith, c.in-Ok.ensures.3)

pub returns-in-Ok : goal.returns-in-Ok
returns-in-Ok c =
    let (t, is, some, fits) = c.in-Ok.ensures in
    at-front c.args.text.now c.args.left.now c.first-item.result _ t c.in-Ok.len c.requires c.in-len1-up.len_at_least c.first-item.is is some fits
