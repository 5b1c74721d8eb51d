use Rattle.fb_system.proofs.lemmas.Common.{◌<◌, length, arith, sym, IsSourceRowAt}
use Rattle.fb_system.proofs.lemmas.rows.InRanges.{found, found_within}
use Rattle.fb_system.proofs.ends.Ends.source.Goals as goal

pub bounds-sources-row : goal.bounds-sources-row
bounds-sources-row c =
    let ends = c.args.self.now in
    let x = c.args.to in
    found_within (IsSourceRowAt c.requires.0) ends.sources _ ends.source_ranges x.instance x.is_output x.variable _ _ c.as_slice-sources.ensures c.requires.1 (sym c.in_ok-ranges.ensures.value)
    c.in_ok-row.ensures.at c.in_ok-row.ensures.within

pub offset_bounds-sources-row : goal.offset_bounds-sources-row
offset_bounds-sources-row c =
    let ends = c.args.self.now in
    let x = c.args.to in
    let within : c.in_ok-row.row < length c.as_slice-sources.result.now =
    found_within (IsSourceRowAt c.requires.0) ends.sources _ ends.source_ranges x.instance x.is_output x.variable _ _ c.as_slice-sources.ensures c.requires.1 (sym c.in_ok-ranges.ensures.value)
    c.in_ok-row.ensures.at c.in_ok-row.ensures.within in
    let sized = c.as_slice-sources.type_inv in
    omega arith

pub returns : goal.returns
returns c = λ sys all.
    let ends = c.args.self.now in
    let x = c.args.to in
    found (IsSourceRowAt sys) ends.sources _ ends.source_ranges x.instance x.is_output x.variable _ _ _ c.as_slice-sources.ensures all (sym c.in_ok-ranges.ensures.value)
    c.in_ok-row.ensures.at c.in_ok-row.ensures.within
