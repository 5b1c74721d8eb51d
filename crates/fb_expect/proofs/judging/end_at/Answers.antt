use Rattle.std.proofs.Common.{◌≡◌, ℕ, Option, Some, sym, subst, ◌∙◌}
use Rattle.std.proofs.lemmas.Bool.{true≢false}
use Rattle.fb_expect.specs.Traces.{EndsAfter, IsLast}
use Rattle.fb_expect.specs.Words.{Text}
use Rattle.fb_expect.specs.declared.ending.End.{End}
use Rattle.fb_expect.specs.declared.ending.End.TheVariants.{Cut}
use Rattle.fb_expect.specs.declared.judging.Cut.{Cut as MayCut}
use Rattle.fb_expect.proofs.lemmas.traces.Gathering.{only-allowed, only-cut, only-refused}
use Rattle.fb_expect.proofs.judging.end_at.Goals as goal

-- an end that may come in the line is this
abbrev IsOnly : (line : Text) → (tick : ℕ) → Option End → MayCut → Type 0
IsOnly line tick r cut = (end : End) → IsLast cut line end → EndsAfter tick end → r ≡ Some end

pub returns-then-is_cut-clause-only : goal.returns-then-is_cut-clause-only
returns-then-is_cut-clause-only c = λ end one.
    subst (IsOnly c.args.line.now c.args.tick (Some (Cut c.args.tick))) (sym c.in-Allowed.is)
    (only-cut c.args.line.now c.args.tick (c.is_cut.ensures.cut c.if-is_cut.true one)) end

pub returns-else-is_cut-clause-only : goal.returns-else-is_cut-clause-only
returns-else-is_cut-clause-only c = λ end one.
    subst (IsOnly c.args.line.now c.args.tick c.read_end.result) (sym c.in-Allowed.is)
    (only-allowed c.args.line.now c.args.tick c.read_end.result c.read_end.ensures.only (λ none. true≢false (sym (c.is_cut.ensures.whole none) ∙ c.if-is_cut.false)))
    end

pub returns-in-Refused-clause-only : goal.returns-in-Refused-clause-only
returns-in-Refused-clause-only c = λ end one.
    subst (IsOnly c.args.line.now c.args.tick c.read_end-in-Refused.result) (sym c.in-Refused.is)
    (only-refused c.args.line.now c.args.tick c.read_end-in-Refused.result c.read_end-in-Refused.ensures.only) end
