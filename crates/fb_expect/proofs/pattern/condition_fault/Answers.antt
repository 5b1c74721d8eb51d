use Rattle.fb_expect.proofs.lemmas.Common.{◌+◌, ◌∙◌, Bor, List, ℕ, [], Option, Some, Text, drop, is_some, map, sym, ap, arith, length-map, length-drop, option_map}
use Rattle.fb_expect.specs.Written.{condition}
use Rattle.fb_expect.specs.declared.pattern.Comparison.{Comparison}
use Rattle.fb_expect.specs.declared.pattern.Operand.{Operand}
use Rattle.fb_expect.specs.declared.pattern.PatternFault.{PatternFault}
use Rattle.fb_expect.proofs.lemmas.documents.EachMayFail.{next_at}
use Rattle.fb_expect.proofs.lemmas.patterns.Faulty.{none-left, passes, stops}
use Rattle.fb_expect.proofs.lemmas.texts.JoinedTexts.{part_at}
use Rattle.fb_expect.proofs.pattern.condition_fault.Goals as goal

abbrev now : Bor (List ℕ) → List ℕ
now w = w.now

abbrev none : Bor (List ℕ)
none = record { ref_ptr = (0, 0); now = [] }

pub loop-word-preserved : goal.loop-word-preserved
loop-word-preserved c =
    let ws = c.args.words.now in
    let i = c.loop-word.word-index in
    passes (part_at ws i) (map now (drop (i + 1) ws)) _ _ (next_at now ws i none c.loop-word-test.true) (ap (λ (o : Option (Text × Comparison × Operand)). is_some (option_map condition o)) (sym c.in-Some.ensures)) c.loop-word.invariant

pub returns-in-None : goal.returns-in-None
returns-in-None c =
    let ws = c.args.words.now in
    let i = c.loop-word.word-index in
    let is = stops (part_at ws i) (map now (drop (i + 1) ws)) _ _ (next_at now ws i none c.loop-word-test.true) (ap (option_map condition) (sym c.in-None.ensures)) c.loop-word.invariant in
    sym (is ∙ ap (λ (f : PatternFault). Some f) (sym c.in_ok-fault_at-in-None.ensures))

pub returns : goal.returns
returns c =
    let ws = c.args.words.now in
    sym (none-left (map now (drop c.loop-word.word-index ws)) _
    (omega (arith, length-map (drop c.loop-word.word-index ws) now, length-drop c.loop-word.word-index ws)) c.loop-word.invariant)
