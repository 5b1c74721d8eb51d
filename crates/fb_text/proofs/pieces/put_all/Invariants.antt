use Rattle.std.proofs.Common.{◌≡◌, ◌++◌, drop, map}
use Rattle.fb_text.specs.Pieces as spec
use Rattle.fb_text.proofs.pieces.put_all.Given as goal

-- with what the rest adds, all is there
abbrev pub invariant-loop-piece : goal.invariant-loop-piece
invariant-loop-piece l =
    l.text.items ++ spec.joined (map (λ p. p.now) (drop l.piece-index l.pieces)) ≡ l.fn.text.items ++ spec.joined (map (λ p. p.now) l.pieces)
