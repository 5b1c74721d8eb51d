use Rattle.fb_wave.proofs.lemmas.Common.{◌≡◌, ℕ, true, false, length, ap, subst, ◌∙◌, arith, system_of, Ports, side}
use Rattle.fb_wave.proofs.lemmas.Porting.{HasThose, below_more, no_outputs_yet, none_yet, still_below}
use Rattle.fb_wave.proofs.ports.ports_of.Goals as goal

pub loop-index-preserved : goal.loop-index-preserved
loop-index-preserved c =
    let sys = system_of c.args.system.now in
    let before = c.loop-index.invariant in
    let i = c.loop-index.index in
    let ins : c.len.result ≡ length (side sys i true) = c.len.ensures ∙ ap (λ (its : Ports). length its.event_inputs) c.ports-ports.ensures in
    let outs : c.len-in-loop-index.result ≡ length (side sys i false) = c.len-in-loop-index.ensures ∙ ap (λ (its : Ports). length its.event_outputs) c.ports-ports.ensures in
    let a = c.loop-index.all.items in
    let b = c.push_events.new.all.items in
    let d = c.push_events-in-loop-index.new.all.items in
    let first = c.in_ok-push_events.ensures in
    let second = c.in_ok-push_events-2.ensures in
    record {
      are = second.are sys (omega arith) outs (first.are sys (omega arith) ins before.are);
      has =
          below_more sys a b d i before.has first.kept second.kept (subst (λ (n : ℕ). HasThose b i true n) ins first.pushed) (subst (λ (n : ℕ). HasThose d i false n) outs second.pushed);
      below = still_below a b d i before.below first.added second.added;
      once = second.once (first.once before.once (none_yet a i true before.below)) (no_outputs_yet a b i before.below first.added);
    }
