use Rattle.fb_types.proofs.Common.{All, take, system_of}
use Rattle.fb_system.specs.Lines.{BelongsTo}
use Rattle.fb_tests.proofs.tests.parts.belonging.all_belong.Given as goal

abbrev pub invariant-loop-line : goal.invariant-loop-line
invariant-loop-line l = All (BelongsTo (system_of l.system)) (take l.line-index l.lines)
