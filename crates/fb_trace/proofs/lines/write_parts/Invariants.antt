use Rattle.fb_types.proofs.Common.{take, map, system_of, line_of, lines_text}
use Rattle.fb_trace.specs.Fronts.{joint}
use Rattle.fb_trace.specs.Progress.{Puts}
use Rattle.fb_trace.proofs.lines.write_parts.Given as goal

abbrev pub invariant-loop-part : goal.invariant-loop-part
invariant-loop-part g l =
    let sys = system_of l.system in
    Puts (g.W.Write.contents l.initial.out) (g.W.Write.contents l.out) l.initial.page l.page
    (lines_text l.form sys (map (line_of sys) (joint (take l.part-index (map (λ q. q.now) l.parts)))))
