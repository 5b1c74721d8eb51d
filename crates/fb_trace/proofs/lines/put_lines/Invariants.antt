use Rattle.fb_types.proofs.Common.{take, map, system_of, line_of, lines_text}
use Rattle.fb_trace.specs.Progress.{Puts}
use Rattle.fb_trace.proofs.lines.put_lines.Given as goal

abbrev pub invariant-loop-line : goal.invariant-loop-line
invariant-loop-line g l =
    let sys = system_of l.system in
    Puts (g.W.Write.contents l.initial.out) (g.W.Write.contents l.out) l.initial.page l.page
    (lines_text l.form sys (take l.line-index (map (line_of sys) l.lines)))
