use Rattle.std.proofs.Common.{◌≤◌, map, take}
use Rattle.fbsim_command.specs.Covering.{GoThrough}
use Rattle.fbsim_command.specs.Notes.{IsUnnoted, noted_of}
use Rattle.fbsim_command.proofs.lemmas.calls.CoverageCalls.{now}
use Rattle.fbsim_command.proofs.coverage.cover_all.Given as goal

-- The first traces are gone through, nothing is noted, and no more than these are cut off.
abbrev pub invariant-loop-name : goal.invariant-loop-name
invariant-loop-name g l =
    GoThrough g.S.Streams.opens l.system l.coverage (map now (take l.name-index l.coverage.traces.items)) l.fn.source l.source l.initial.gleaned l.gleaned
    × IsUnnoted (noted_of l.note)
    × (l.gleaned.cut ≤ l.name-index)
