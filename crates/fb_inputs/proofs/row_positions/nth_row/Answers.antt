use Rattle.std.proofs.Common.{◌≡◌, ◌≤◌, arith}
use Rattle.fb_inputs.proofs.lemmas.stimuli.RecordsReadOn.{last_row, none_passed, none_there, one_passed}
use Rattle.fb_inputs.proofs.row_positions.nth_row.Goals as goal

pub loop-init : goal.loop-init
loop-init c = none_passed c.args.rows.now c.requires

pub loop-preserved : goal.loop-preserved
loop-preserved c =
    let (z, here, same) = c.loop.invariant in
    one_passed c.args.rows.now c.loop.rows c.next_row.new.rows c.loop.counter c.in-Some.row (z, here, same) (rw c.in-Some.is at (rw c.in_ok-row.was at (c.next_row.ensures z here)))

pub returns-in-None : goal.returns-in-None
returns-in-None c = λ y at.
    let (z, here, same) = c.loop.invariant in
    let within : c.loop.counter ≤ c.args.index = let more = c.loop-test.true in omega (arith, more) in
    none_there c.args.rows.now c.loop.rows c.next_row.new.rows c.loop.counter c.args.index (z, here, same) (rw c.in-None.is at (rw c.in_ok-row.was at (c.next_row.ensures z here))) within y at

pub returns : goal.returns
returns c = λ y at.
    let (z, here, same) = c.loop.invariant in
    let end : c.loop.counter ≡ c.args.index = let none_left = c.loop-test.false in let last = c.loop.auto.counter-end in omega (arith, none_left, last) in
    last_row c.args.rows.now c.loop.rows c.next_row-2.new.rows c.loop.counter c.args.index c.next_row-2.result (z, here, same) (c.next_row-2.ensures z here) end y at
