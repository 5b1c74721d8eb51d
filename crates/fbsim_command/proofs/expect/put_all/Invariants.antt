use Rattle.std.proofs.Common.{take}
use Rattle.fbsim_command.specs.Expecting.{Puts}
use Rattle.fbsim_command.specs.Notes.{IsUnnoted, noted_of}
use Rattle.fbsim_command.proofs.expect.put_all.Given as goal

abbrev pub invariant-loop-index : goal.invariant-loop-index
invariant-loop-index g l =
    Puts g.S.Streams.opens l.expect l.rules (take l.index l.expect.traces.items) l.initial.source l.source l.initial.text.items l.text.items l.counts.items l.is_well
    × IsUnnoted (noted_of l.note)
