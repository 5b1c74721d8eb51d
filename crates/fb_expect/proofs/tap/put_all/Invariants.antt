use Rattle.fb_expect.proofs.lemmas.Common.{◌≡◌, ◌++◌, map, take, joined}
use Rattle.fb_expect.proofs.tap.put_all.Given as goal

abbrev pub invariant-loop-part : goal.invariant-loop-part
invariant-loop-part l = l.text.items ≡ l.initial.text.items ++ joined (map (λ p. p.now) (take l.part-index l.parts))
