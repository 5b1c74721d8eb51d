-- A run that goes on to a later tick, with the counts of what it has written.
use Rattle.fb_sim.proofs.lemmas.Common.{◌≡◌, ℕ, ◌+◌, List, ◌++◌, length, Option, refl, ap, ◌∙◌, subst, arith, Ok, Err, Appends, system_of, lines_text, bounded, GoesOn, after_bytes, SimulationView, Outcome, RunError, Refused, Memory, Write, BadOption, Failed, Written}
use Rattle.fb_sim.specs.Advances.{IsNext, RunsTo}
use Rattle.fb_sim.specs.declared.with_progress.ReportTally.{ReportTally}

-- a count, after another
counted_on : (n w k : ℕ) → w ≡ bounded k → bounded (n + w) ≡ bounded (n + k)
counted_on n w k e = omega (arith, e)

module _ (s t : SimulationView) (to : ℕ) (old new : Option (List ℕ)) (n m : ReportTally) where
  pub goes_well : (o : Outcome) (w : Written) → RunsTo s t to old new (Ok (o, w)) → m ≡ record n { bytes = bounded (n.bytes + w.bytes); lines = bounded (n.lines + w.lines) }
      → GoesOn s t to old new n m (Ok o)
  goes_well o w h is = (
    h.0.bytes,
    h.0.is_next,
    h.0.got,
    h.0.now,
    (
      ap (λ (x : ReportTally). x.bytes) is ∙ counted_on n.bytes w.bytes (length (lines_text s.form (system_of s.inputs) h.0.is_next.rest)) h.1,
      ap (λ (x : ReportTally). x.lines) is ∙ counted_on n.lines w.lines (length h.0.is_next.rest) h.2,
      ap (λ (x : ReportTally). x.is_heard) is,
    ),
  )

  pub goes_short : (e : RunError) → RunsTo s t to old new (Err e) → m ≡ n → GoesOn s t to old new n m (Err (after_bytes n.bytes e))
  goes_short Memory h is = (
    h.lines,
    h.rest,
    h.end,
    subst (λ (x : List ℕ). IsNext s to (x ++ h.rest) h.end) h.whole h.is_next,
    subst (λ (x : List ℕ). Appends old new x) h.whole h.got,
    is,
  )
  goes_short (Write k) h is = (h.bytes, h.end, h.is_next, (k, h.got, refl), is)
  goes_short (Refused x) bad is = absurd bad
  goes_short BadOption bad is = absurd bad
  goes_short Failed bad is = absurd bad
