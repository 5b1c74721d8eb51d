use Rattle.fb_types.proofs.Common.{◌≡◌, [], List, ℕ, ap, arith, drop, length, subst, sym, system_of, line_of, values_text}
use Rattle.fb_system.specs.Lines.{line_variables}
use Rattle.fb_trace.specs.Progress.{Puts}
use Rattle.fb_trace.proofs.lemmas.lines.LineStarts.{no_others}
use Rattle.fb_trace.proofs.lemmas.lines.PutPieces.{Puts-none}
use Rattle.fb_trace.proofs.lines.put_others.Goals as goal

pub returns-then-as_slice-le1-clause-text : goal.returns-then-as_slice-le1-clause-text
returns-then-as_slice-le1-clause-text g c =
    let sys = system_of c.args.system.now in
    let l = c.args.line.now in
    let out = g.W.Write.contents c.args.out.now in
    let page = c.args.page.now in
    let none : values_text (drop 1 (line_of sys l).values) ≡ [] =
    no_others (line_variables sys l) l.values (omega (arith, c.if-as_slice-le1.true, ap length c.as_slice.ensures)) in
    record { whole = subst (λ (t : List ℕ). Puts out out page page t) (sym none) (Puts-none out page); part = tt }
