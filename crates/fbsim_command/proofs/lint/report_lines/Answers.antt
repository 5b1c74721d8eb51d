use Rattle.fb_types.proofs.Common.{◌∙◌, List, ℕ, length, nat_eq, sym, ap, ◌==◌, eqb-true, true≢false}
use Rattle.fbsim_command.proofs.lemmas.calls.Warning.{heard_lines, heard_none, no_lines}
use Rattle.fbsim_command.proofs.lint.report_lines.Goals as goal

pub returns-then-is_empty : goal.returns-then-is_empty
returns-then-is_empty g c =
    let lines = c.args.lines.now in
    heard_none (g.E.Write.contents c.args.err.now) lines (no_lines lines (eqb-true (length lines) 0 (sym c.is_empty.ensures ∙ c.if-is_empty.true)))

pub returns : goal.returns
returns g c =
    let n = c.write_front.result in
    let lines = c.args.lines.now in
    heard_lines (g.E.Write.contents c.args.err.now) (g.E.Write.contents c.write_front.new.out) lines n (nat_eq n (length lines))
    (λ e. true≢false (sym (c.is_empty.ensures ∙ ap (λ (l : List ℕ). length l == 0) e) ∙ c.if-is_empty.false))
    c.write_front.ensures.within c.write_front.ensures.got (eqb-true n (length lines))
