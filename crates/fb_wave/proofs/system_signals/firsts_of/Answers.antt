use Rattle.fb_wave.proofs.lemmas.Common.{◌≡◌, ◌<◌, ℕ, ◌+◌, [], length, sym, ap, subst, ◌∙◌, arith, system_of, AreLevels, first_signal, size_of}
use Rattle.fb_wave.proofs.lemmas.Numbering.{first_signal-all, first_signal-next, firsts-all, firsts-more}
use Rattle.fb_wave.proofs.system_signals.firsts_of.Goals as goal

pub loop-instance-preserved : goal.loop-instance-preserved
loop-instance-preserved c =
    let sys = system_of c.args.system.now in
    let i = c.loop-instance.instance in
    let within : i < length sys.paths = omega arith in
    let before = c.loop-instance.invariant in
    let next : first_signal sys i + size_of c.ports.result.now ≡ first_signal sys (i + 1) =
    ap (λ its. first_signal sys i + size_of its) c.ports.ensures ∙ sym (first_signal-next sys i within)
    in
    record {
      levels = subst (λ (n : ℕ). AreLevels n [] [] [] c.add_ports.new.levels) next (c.in_ok-add_ports.ensures (first_signal sys i) before.levels);
      before = firsts-more sys i c.count.result c.loop-instance.firsts.items _ before.before (c.count.ensures.counted ∙ before.levels.counted) c.in_ok-push.ensures.items;
    }

pub returns-clause-firsts : goal.returns-clause-firsts
returns-clause-firsts c =
    let sys = system_of c.args.system.now in
    let before = c.loop-instance.invariant in
    firsts-all sys c.loop-instance.instance c.count-2.result c.loop-instance.firsts.items _ before.before (c.count-2.ensures.counted ∙ before.levels.counted) c.count-2.ensures.fits
    c.in_ok-push-2.ensures.items (omega arith)

pub returns-clause-levels : goal.returns-clause-levels
returns-clause-levels c =
    let sys = system_of c.args.system.now in
    subst (λ (n : ℕ). AreLevels n [] [] [] c.loop-instance.levels) (first_signal-all sys c.loop-instance.instance (omega arith)) c.loop-instance.invariant.levels
