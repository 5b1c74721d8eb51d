use Rattle.fb_wave.proofs.lemmas.Common.{◌≡◌, ℕ, ◌+◌, [], subst, arith, AreLevels, size_of}
use Rattle.fb_wave.proofs.lemmas.Handing.{on_ok}
use Rattle.fb_wave.proofs.system_signals.add_ports.Goals as goal

pub returns : goal.returns
returns c n are =
    let a = c.len.result in
    let b = c.len-2.result in
    let d = c.len-3.result in
    let e = c.len-4.result in
    let same : n + a + b + d + e ≡ n + size_of c.args.ports.now = omega (arith, c.len.ensures, c.len-2.ensures, c.len-3.ensures, c.len-4.ensures) in
    on_ok c.add-4.result _ _ (c.add-4.ensures (n + a + b + d) (c.in_ok-add-3.ensures (n + a + b) (c.in_ok-add-2.ensures (n + a) (c.in_ok-add.ensures n are))))
    (λ more. subst (λ (k : ℕ). AreLevels k [] [] [] c.add-4.new.self) same more)
