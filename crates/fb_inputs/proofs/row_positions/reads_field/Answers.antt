use Rattle.std.proofs.Common.{◌+◌, refl}
use Rattle.fb_inputs.proofs.lemmas.stimuli.RecordsReadOn.{field_read, none_read}
use Rattle.fb_inputs.proofs.row_positions.reads_field.Goals as goal

pub returns-then-not-branch-clause-read : goal.returns-then-not-branch-clause-read
returns-then-not-branch-clause-read c =
    none_read c.args.text.now c.args.record_index (c.args.record_index + 1) c.args.field c.args.value.now refl (rw c.if-not-branch.true at c.in_ok-read_up_to.ensures.all)

pub returns-clause-read : goal.returns-clause-read
returns-clause-read c =
    field_read c.args.text.now c.read_up_to.new.reader c.args.record_index (c.args.record_index + 1) c.args.field c.args.value.now c.is_field.result c.in_ok-read_up_to.ensures.reader refl
    (rw c.if-not-branch.false at c.in_ok-read_up_to.ensures.all) c.is_field.ensures
