use Rattle.fb_wave.proofs.lemmas.Common.{ℕ, ◌+◌, List, [], ◌∷◌, ◌++◌, map, subst, ◌∙◌, arith, system_of, Value, AreLevels, pairs}
use Rattle.fb_wave.proofs.lemmas.Marking.{line_once, marks_shown}
use Rattle.fb_wave.proofs.lemmas.Handing.{on_ok}
use Rattle.fb_wave.proofs.system_signals.Signals.show.Goals as goal

pub returns-clause-levels : goal.returns-clause-levels
returns-clause-levels c n fires sets touches are =
    let sys = system_of c.args.system.now in
    let l = c.args.line.now in
    let m = c.marks_of-marks.result in
    let more : List Value → List (ℕ × Value) = λ vs. pairs (map (λ k. m.first + k) m.indexes.now) vs in
    let at : List Value → Type 0 =
    λ vs. AreLevels n (fires ++ m.event ∷ []) (sets ++ more vs) ((touches ++ m.event ∷ []) ++ map (λ (p : ℕ × Value). p.0) (more vs)) c.show_all.new.levels
    in
    on_ok c.show_all.result _ _ (c.show_all.ensures.levels n fires sets touches are)
    (λ shown.
    marks_shown sys l m n fires touches sets c.show_all.new.levels (line_once c.args.system.now l c.facts.ensures.accepted) c.marks_of-marks.ensures
    (subst at c.as_slice-values.ensures shown))

pub returns-clause-signals : goal.returns-clause-signals
returns-clause-signals c = record { firsts = c.requires.signals.firsts; counted = c.show_all.ensures.counted ∙ c.requires.signals.counted }

pub show_all-requires-clause-indexes : goal.show_all-requires-clause-indexes
show_all-requires-clause-indexes c = λ k d h. let w = c.marks_of-marks.ensures.within k d h in omega (arith, w, c.requires.signals.counted)
