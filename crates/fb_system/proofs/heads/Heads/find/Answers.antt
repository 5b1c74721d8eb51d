use Rattle.std.proofs.Common.{◌<◌, ◌^◌, length, arith, sym}
use Rattle.fb_system.specs.Heads.{IsRowAt}
use Rattle.fb_system.proofs.lemmas.rows.KeptHeads.{row_found}
use Rattle.fb_system.proofs.lemmas.rows.InRanges.{found, found_within}
use Rattle.fb_system.proofs.heads.Heads.find.Goals as goal

pub bounds-rows-row : goal.bounds-rows-row
bounds-rows-row c =
    let heads = c.args.self.now in
    let x = c.args.of in
    found_within (IsRowAt c.requires.0) heads.rows _ heads.ranges x.instance x.taken x.event _ _ c.as_slice-rows.ensures c.requires.1 (sym c.in_ok-ranges.ensures.value)
    c.in_ok-row.ensures.at c.in_ok-row.ensures.within

pub offset_bounds-rows-row : goal.offset_bounds-rows-row
offset_bounds-rows-row c =
    let heads = c.args.self.now in
    let x = c.args.of in
    let within : c.in_ok-row.row < length c.as_slice-rows.result.now =
    found_within (IsRowAt c.requires.0) heads.rows _ heads.ranges x.instance x.taken x.event _ _ c.as_slice-rows.ensures c.requires.1 (sym c.in_ok-ranges.ensures.value)
    c.in_ok-row.ensures.at c.in_ok-row.ensures.within in
    let sized = c.as_slice-rows.type_inv in
    omega arith

pub returns-then-head-of : goal.returns-then-head-of
returns-then-head-of c = λ sys all.
    let heads = c.args.self.now in
    let x = c.args.of in
    let number : x.resource < 2 ^ 32 = omega arith in
    row_found sys x _
    (found (IsRowAt sys) heads.rows _ heads.ranges x.instance x.taken x.event _ _ _ c.as_slice-rows.ensures all (sym c.in_ok-ranges.ensures.value)
    c.in_ok-row.ensures.at c.in_ok-row.ensures.within)
    number c.if-head-of.true
