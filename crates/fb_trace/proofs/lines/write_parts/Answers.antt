use Rattle.fb_types.proofs.Common.{◌+◌, ◌≤◌, List, Bor, take, drop, map, length, arith, length-map, take_all, system_of, line_of, lines_text}
use Rattle.fb_types.specs.declared.run.Line.{Line}
use Rattle.fb_trace.specs.Fronts.{joint}
use Rattle.fb_trace.proofs.lemmas.lines.WriterEnds.{part_flushed, part_passed, whole_flushed}
use Rattle.fb_trace.proofs.lemmas.lines.PutPieces.{Puts-more, Fails-before, Fails-after}
use Rattle.fb_trace.proofs.lemmas.lines.Texts.{parts_text-more, parts_text-parts}
use Rattle.fb_trace.proofs.lines.write_parts.Goals as goal

pub loop-part-preserved : goal.loop-part-preserved
loop-part-preserved g c =
    rw (parts_text-more c.args.form (system_of c.args.system.now) c.args.parts.now c.loop-part.part-index c.part-item.result c.loop-part-test.true c.part-item.is)
    (Puts-more c.loop-part.invariant c.in_ok-put_lines.ensures.whole)

pub returns-in_err-put_lines-clause-part : goal.returns-in_err-put_lines-clause-part
returns-in_err-put_lines-clause-part g c =
    let sys = system_of c.args.system.now in
    let xss = map (λ (q : Bor (List Line)). q.now) c.args.parts.now in
    let i = c.loop-part.part-index in
    part_passed _ c.from_residual.ensures.1
    (rw (← parts_text-parts c.args.form sys (i + 1) xss)
    (Fails-before {x = lines_text c.args.form sys (map (line_of sys) (joint (take (i + 1) xss)))} (lines_text c.args.form sys (map (line_of sys) (joint (drop (i + 1) xss))))
    (rw (parts_text-more c.args.form sys c.args.parts.now i c.part-item.result c.loop-part-test.true c.part-item.is)
    (Fails-after {x = lines_text c.args.form sys (map (line_of sys) (joint (take i xss)))} (rw c.new-page.ensures at c.loop-part.invariant) c.in_err-put_lines.ensures.part))))

pub returns-clause-whole : goal.returns-clause-whole
returns-clause-whole g c =
    let xss = map (λ (q : Bor (List Line)). q.now) c.args.parts.now in
    let all : length xss ≤ c.loop-part.part-index = omega (arith, c.loop-part-test.false, length-map c.args.parts.now (λ (q : Bor (List Line)). q.now)) in
    whole_flushed _ (rw c.new-page.ensures at (rw (take_all c.loop-part.part-index xss all) at c.loop-part.invariant)) c.flush.ensures.text c.flush.ensures.empty

pub returns-clause-part : goal.returns-clause-part
returns-clause-part g c =
    let xss = map (λ (q : Bor (List Line)). q.now) c.args.parts.now in
    let all : length xss ≤ c.loop-part.part-index = omega (arith, c.loop-part-test.false, length-map c.args.parts.now (λ (q : Bor (List Line)). q.now)) in
    part_flushed _ (rw c.new-page.ensures at (rw (take_all c.loop-part.part-index xss all) at c.loop-part.invariant)) c.flush.ensures.text
