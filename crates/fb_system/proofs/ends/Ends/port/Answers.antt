use Rattle.fb_system.proofs.lemmas.Common.{◌<◌, length, arith, sym, IsPortRowAt}
use Rattle.fb_system.proofs.lemmas.rows.InRanges.{found, found_within}
use Rattle.fb_system.proofs.ends.Ends.port.Goals as goal

pub bounds-ports-row : goal.bounds-ports-row
bounds-ports-row c =
    let ends = c.args.self.now in
    let x = c.args.at in
    found_within (IsPortRowAt c.requires.0) ends.ports _ ends.port_ranges x.instance x.is_output x.event _ _ c.as_slice-ports.ensures c.requires.1 (sym c.in_ok-ranges.ensures.value)
    c.in_ok-row.ensures.at c.in_ok-row.ensures.within

pub offset_bounds-ports-row : goal.offset_bounds-ports-row
offset_bounds-ports-row c =
    let ends = c.args.self.now in
    let x = c.args.at in
    let within : c.in_ok-row.row < length c.as_slice-ports.result.now =
    found_within (IsPortRowAt c.requires.0) ends.ports _ ends.port_ranges x.instance x.is_output x.event _ _ c.as_slice-ports.ensures c.requires.1 (sym c.in_ok-ranges.ensures.value)
    c.in_ok-row.ensures.at c.in_ok-row.ensures.within in
    let sized = c.as_slice-ports.type_inv in
    omega arith

pub returns : goal.returns
returns c = λ i all.
    let ends = c.args.self.now in
    let x = c.args.at in
    found (IsPortRowAt i) ends.ports _ ends.port_ranges x.instance x.is_output x.event _ _ _ c.as_slice-ports.ensures all (sym c.in_ok-ranges.ensures.value)
    c.in_ok-row.ensures.at c.in_ok-row.ensures.within
