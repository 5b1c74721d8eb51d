use Rattle.std.proofs.Common.{Bor, List, ℕ, map, option_map, sym}
use Rattle.fbsim_line.specs.Line.{declares_nothing}
use Rattle.fbsim_line.proofs.bench_line.declares_nothing.Goals as goal

pub returns-in-None-Some : goal.returns-in-None-Some
returns-in-None-Some c = λ i.
    declares_nothing (option_map (λ (n : Bor (List ℕ)). n.now) ((sym c.in-None-Some.is-0) i)) (option_map (λ (n : Bor (List ℕ)). n.now) ((sym c.in-None-Some.is-1) i))
    (map (λ (t : Bor (List ℕ)). t.now) c.args.types.now)
