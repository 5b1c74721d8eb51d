use Rattle.std.proofs.Common.{arith}
use Rattle.fb_inputs.proofs.lemmas.positions.FieldSpans.{index_below, no_other}
use Rattle.fb_inputs.proofs.near_stimuli.read_field.Goals as goal

pub reads_field-requires-clause-room : goal.reads_field-requires-clause-room
reads_field-requires-clause-room c = let below = index_below c.args.text.now c.args.record_index c.args.field c.args.span c.requires.scanned in omega (arith, below)

pub returns-then-branch-clause-found : goal.returns-then-branch-clause-found
returns-then-branch-clause-found c = record { at = c.requires.scanned; read = rw c.said-value.ensures at (rw c.if-branch.true at c.in_ok-reads_field.ensures.read) }

pub returns-else-branch-clause-found : goal.returns-else-branch-clause-found
returns-else-branch-clause-found c =
    let none = rw c.said-value.ensures at (rw c.if-branch.false at c.in_ok-reads_field.ensures.read) in
    no_other c.args.text.now c.args.record_index c.args.field c.args.span c.requires.scanned none
