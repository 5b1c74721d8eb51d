use Rattle.fbsim_command.proofs.lemmas.Common.{◌∙◌, [], Bool, Bor, List, Option, ℕ, ap, false, true, inl, inr, option_map, refl, subst, sym, Hears, Held, given_of}
use Rattle.fbsim_command.proofs.lemmas.notes.Located.{hears_after, no-horizon, no-late, no-stimuli, not-whole, nothing_more, nothing_whole}
use Rattle.fbsim_command.specs.LateRows.{IsLateLine}
use Rattle.fbsim_command.proofs.late_rows.report_rows_after.Goals as goal

abbrev bytes_of : Option (Bor (List ℕ)) → Option (List ℕ)
bytes_of o = option_map (λ b. b.now) o

pub returns-then-not-is_heard : goal.returns-then-not-is_heard
returns-then-not-is_heard g c = ([], inl (refl, not-whole), nothing_more c.args.is_heard false (g.E.Write.contents c.args.err.now) c.if-not-is_heard.true)

pub returns-in_default : goal.returns-in_default
returns-in_default g c = (
  [],
  inl (refl, λ whole. no-horizon c.args.task.now (given_of c.args.texts.now).stimuli c.args.end.now c.asked.result c.asked.ensures c.in_default.is),
  nothing_more c.args.is_heard true (g.E.Write.contents c.args.err.now) c.if-not-is_heard.false,
)

pub returns-in_default-rows : goal.returns-in_default-rows
returns-in_default-rows g c = (
  [],
  inl (refl, λ whole. no-stimuli c.args.task.now (given_of c.args.texts.now).stimuli c.args.end.now (sym c.rows.ensures ∙ ap bytes_of c.in_default-rows.is)),
  nothing_more c.args.is_heard true (g.E.Write.contents c.args.err.now) c.if-not-is_heard.false,
)

pub returns-in-Ok-Some : goal.returns-in-Ok-Some
returns-in-Ok-Some g c = (
  c.as_bytes.result.now,
  inr (record {
    horizon = c.in-Some.horizon;
    asks = sym c.asked.ensures ∙ c.in-Some.is;
    bytes = c.in-Some-rows.bytes.now;
    given = sym c.rows.ensures ∙ ap bytes_of c.in-Some-rows.is;
    is = subst (λ (line : List ℕ). IsLateLine c.in-Some-rows.bytes.now c.in-Some.horizon line) (sym c.as_bytes.ensures.value) (rw c.in-Ok-Some.field-0-is at c.in-Ok-Some.ensures);
  }),
  λ (old : Held) (first : List ℕ) h.
      hears_after old (g.E.Write.contents c.args.err.now) (g.E.Write.contents c.report_lines.new.err) first c.as_bytes.result.now c.report_lines.result
      (subst (λ (b : Bool). Hears b old (g.E.Write.contents c.args.err.now) first) c.if-not-is_heard.false h) c.report_lines.ensures,
)

pub returns-in-Ok-None : goal.returns-in-Ok-None
returns-in-Ok-None g c = (
  [],
  inl (
    refl,
    λ whole. no-late c.args.task.now (given_of c.args.texts.now).stimuli c.args.end.now c.asked.result c.in-Some.horizon c.in-Some-rows.bytes.now c.asked.ensures c.in-Some.is
        (sym c.rows.ensures ∙ ap bytes_of c.in-Some-rows.is) (rw c.in-Ok-None.field-0-is at c.in-Ok-None.ensures),
  ),
  nothing_more c.args.is_heard true (g.E.Write.contents c.args.err.now) c.if-not-is_heard.false,
)

pub returns-in-Err : goal.returns-in-Err
returns-in-Err g c = ([], inl (refl, not-whole), nothing_whole c.args.is_heard (g.E.Write.contents c.args.err.now))
