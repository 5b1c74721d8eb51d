use Rattle.fb_inputs.proofs.lemmas.Common.{err_from_is_err_and, rows_from}
use Rattle.csv.specs.Reading.{strip_bom}
use Rattle.fb_inputs.proofs.lemmas.stimuli.Rows.{no_heading, headed, empty}
use Rattle.fb_inputs.proofs.stimuli.add_after_heading.Goals as goal

pub take_heading-requires : goal.take_heading-requires
take_heading-requires c = let (bytes, opened) = c.requires.opened in (strip_bom bytes, opened)

pub returns-in_err-take_heading : goal.returns-in_err-take_heading
returns-in_err-take_heading c = λ bytes le opened.
    let p = err_from_is_err_and c.from_residual.result c.from_residual.ensures.1 in
    rw (p.1, p.2) (no_heading bytes _ le (rw c.in_err-take_heading.was at (c.take_heading.ensures bytes opened)))

pub add_all-requires : goal.add_all-requires
add_all-requires c =
    let (bytes, opened) = c.requires.opened in
    let s = rw (c.in_ok-take_heading.was, c.if-branch.true) at (c.take_heading.ensures bytes opened) in
    (s.left, s.here)

pub returns-then-branch : goal.returns-then-branch
returns-then-branch c = λ bytes le opened.
    let s = rw (c.in_ok-take_heading.was, c.if-branch.true) at (c.take_heading.ensures bytes opened) in
    let read = headed bytes s.head (rows_from c.take_heading.new.rows.rdr.state s.left) le s.read s.headed in
    rw read (rw c.requires.none at (c.add_all.ensures s.left s.here))

pub returns-else-branch : goal.returns-else-branch
returns-else-branch c = λ bytes le opened.
    rw c.requires.none (empty bytes le (rw (c.in_ok-take_heading.was, c.if-branch.false) at (c.take_heading.ensures bytes opened)))
