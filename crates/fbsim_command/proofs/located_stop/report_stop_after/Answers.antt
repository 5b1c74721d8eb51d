use Rattle.fbsim_command.proofs.lemmas.Common.{◌∙◌, [], Bool, List, Some, ℕ, false, true, inl, inr, map, refl, subst, sym, Hears, Held, given_of, lines_of}
use Rattle.fbsim_command.proofs.lemmas.notes.Located.{hears_after, no-run, no-stop, not-whole, nothing_more, nothing_whole}
use Rattle.fbsim_command.specs.Stops.{SaysStop}
use Rattle.fbsim_command.proofs.located_stop.report_stop_after.Goals as goal

pub returns-then-not-is_heard-clause-reported : goal.returns-then-not-is_heard-clause-reported
returns-then-not-is_heard-clause-reported g c = ([], inl (refl, not-whole), nothing_more c.args.is_heard false (g.E.Write.contents c.args.err.now) c.if-not-is_heard.true)

pub returns-in_default-clause-reported : goal.returns-in_default-clause-reported
returns-in_default-clause-reported g c = (
  [],
  inl (refl, λ whole. no-run (map (λ t. t.now) c.args.types.now) c.args.task.now (lines_of c.args.texts.now) (given_of c.args.texts.now) c.args.end.now c.asked.result c.asked.ensures c.in_default.is),
  nothing_more c.args.is_heard true (g.E.Write.contents c.args.err.now) c.if-not-is_heard.false,
)

pub returns-in-Ok-Some-clause-reported : goal.returns-in-Ok-Some-clause-reported
returns-in-Ok-Some-clause-reported g c = (
  c.as_bytes.result.now,
  inr (record {
    horizon = c.in-Some.horizon;
    steps = c.in-Some.steps;
    asks = sym c.asked.ensures ∙ c.in-Some.is;
    is = subst (λ (line : List ℕ). SaysStop (map (λ t. t.now) c.args.types.now) c.args.task.now.declaration.now (lines_of c.args.texts.now) (given_of c.args.texts.now) c.in-Some.horizon c.in-Some.steps (Some line))
        (sym c.as_bytes.ensures.value) (rw c.in-Ok-Some.field-0-is at c.in-Ok-Some.ensures);
  }),
  λ (old : Held) (first : List ℕ) h.
      hears_after old (g.E.Write.contents c.args.err.now) (g.E.Write.contents c.report_lines.new.err) first c.as_bytes.result.now c.report_lines.result
      (subst (λ (b : Bool). Hears b old (g.E.Write.contents c.args.err.now) first) c.if-not-is_heard.false h) c.report_lines.ensures,
)

pub returns-in-Ok-None-clause-reported : goal.returns-in-Ok-None-clause-reported
returns-in-Ok-None-clause-reported g c = (
  [],
  inl (
    refl,
    λ whole. no-stop (map (λ t. t.now) c.args.types.now) c.args.task.now (lines_of c.args.texts.now) (given_of c.args.texts.now) c.args.end.now c.asked.result c.in-Some.horizon c.in-Some.steps c.asked.ensures c.in-Some.is
        (rw c.in-Ok-None.field-0-is at c.in-Ok-None.ensures),
  ),
  nothing_more c.args.is_heard true (g.E.Write.contents c.args.err.now) c.if-not-is_heard.false,
)

pub returns-in-Err-clause-reported : goal.returns-in-Err-clause-reported
returns-in-Err-clause-reported g c = ([], inl (refl, not-whole), nothing_whole c.args.is_heard (g.E.Write.contents c.args.err.now))
