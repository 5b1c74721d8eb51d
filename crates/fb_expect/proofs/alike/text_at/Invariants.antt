use Rattle.std.proofs.Common.{◌≡◌, length}
use Rattle.fb_expect.proofs.lemmas.traces.Alikeness.{texts}
use Rattle.fb_expect.proofs.alike.text_at.Given as goal

abbrev pub invariant-loop-word : goal.invariant-loop-word
invariant-loop-word l = texts l.name l.initial.rest ≡ texts l.name l.rest

abbrev pub decreases-loop-word : goal.decreases-loop-word
decreases-loop-word l = length l.rest
