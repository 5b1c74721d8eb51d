use Rattle.fb_types.proofs.Common.{◌≡◌, ℕ, ◌+◌, List, take, drop, map, Option, subst, system_of, line_of, lines_text}
use Rattle.fb_trace.specs.Page.{Page}
use Rattle.fb_trace.specs.Progress.{Puts, Fails}
use Rattle.fb_trace.proofs.lemmas.lines.PutPieces.{Puts-appended, Puts-more, Fails-before, Fails-after, Gathers-passed}
use Rattle.fb_trace.proofs.lemmas.lines.Texts.{lines_text-more, lines_text-parts}
use Rattle.fb_trace.proofs.lines.put_lines.Goals as goal

-- the page is as it was
from_same : {a b : Option (List ℕ)} {p q r : Page} {x : List ℕ} → q ≡ p → Puts a b q r x → Puts a b p r x
from_same {a} {b} {p} {q} {r} {x} same t = subst (λ (z : Page). Puts a b z r x) same t

fails_from_same : {a b : Option (List ℕ)} {p q : Page} {x : List ℕ} {w : ℕ} → q ≡ p → Fails a b q x w → Fails a b p x w
fails_from_same {a} {b} {p} {q} {x} {w} same t = subst (λ (z : Page). Fails a b z x w) same t

pub loop-line-preserved-then-append_line : goal.loop-line-preserved-then-append_line
loop-line-preserved-then-append_line g c =
    rw (lines_text-more c.args.form (system_of c.args.system.now) c.args.lines.now c.loop-line.line-index c.line-item.result c.loop-line-test.true c.line-item.is)
    (Puts-more c.loop-line.invariant (Puts-appended _ (c.append_line.ensures.put c.if-append_line.true)))

pub returns-in_err-put_any : goal.returns-in_err-put_any
returns-in_err-put_any g c =
    let sys = system_of c.args.system.now in
    let ms = map (line_of sys) c.args.lines.now in
    let n = c.loop-line.line-index + 1 in
    Gathers-passed _ c.from_residual.ensures.1
    (rw (← lines_text-parts c.args.form sys n ms)
    (Fails-before {x = lines_text c.args.form sys (take n ms)} (lines_text c.args.form sys (drop n ms))
    (rw (lines_text-more c.args.form sys c.args.lines.now c.loop-line.line-index c.line-item.result c.loop-line-test.true c.line-item.is)
    (Fails-after {x = lines_text c.args.form sys (take c.loop-line.line-index ms)} c.loop-line.invariant
    (fails_from_same (c.append_line.ensures.kept c.if-append_line.false) c.in_err-put_any.ensures.part)))))

pub loop-line-preserved : goal.loop-line-preserved
loop-line-preserved g c =
    rw (lines_text-more c.args.form (system_of c.args.system.now) c.args.lines.now c.loop-line.line-index c.line-item.result c.loop-line-test.true c.line-item.is)
    (Puts-more c.loop-line.invariant (from_same (c.append_line.ensures.kept c.if-append_line.false) c.in_ok-put_any.ensures.whole))
