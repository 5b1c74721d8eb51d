use Rattle.fb_types.proofs.Common.{◌≡◌, ◌&&◌, ◌%◌, ℕ, true, not, sym, ap, ◌∙◌, eq-eqb, false≢true, ne_eqb}
use Rattle.fb_inputs.specs.Counts.{at, count_below}
use Rattle.fb_inputs.specs.Records.{begins_line, is_line_end, is_outside, is_quote}
use Rattle.fb_inputs.proofs.csv_records.begins_record.Goals as goal
use Rattle.fb_inputs.proofs.csv_records.begins_record.Goals.{then-quotes-eq0, else-quotes-eq0}

pub returns-then-begins_line : goal.returns-then-begins_line
returns-then-begins_line c =
    let t = c.args.text.now in
    let n = c.args.at in
    elim c.if-quotes-eq0.branch [
      | then-quotes-eq0 w ↦
          let outside : true ≡ is_outside t n = sym (eq-eqb (count_below (is_quote t) n % 2) 0 (ap (λ (q : ℕ). q % 2) (sym c.requires.counted) ∙ w.if-quotes-eq0.true)) in
          let begins : true ≡ begins_line t n = sym c.if-begins_line.true ∙ w.value-is ∙ w.begins_line.ensures in
          ap not c.is_line_end.ensures ∙ (λ i. outside i && (begins i && not (is_line_end (at t n))))
      | else-quotes-eq0 w ↦ absurd (false≢true (sym (ne_eqb (c.args.quotes % 2) 0 w.if-quotes-eq0.false) ∙ sym w.value-is ∙ c.if-begins_line.true))
    ]
