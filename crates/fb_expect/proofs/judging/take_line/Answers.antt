use Rattle.fb_expect.proofs.lemmas.Common.{◌<◌, Bor, [], ◌∷◌, ◌++◌, length, refl, ap, ◌∙◌, arith, event_of, Watcher, Rule}
use Rattle.std.proofs.Math.Seq.{map-set_same}
use Rattle.fb_expect.proofs.lemmas.rules.Following.{at-all, at-none, at-one}
use Rattle.fb_expect.proofs.judging.take_line.Goals as goal

pub loop-watcher-init : goal.loop-watcher-init
loop-watcher-init c =
    record { rules = refl; moves = λ es counted below all. at-none es (es ++ event_of c.args.entry.now ∷ []) c.args.watchers.now all }

pub loop-watcher-preserved : goal.loop-watcher-preserved
loop-watcher-preserved c =
    let ws = c.loop-watcher.watchers in
    let i = c.loop-watcher.watcher-index in
    let lt : i < length ws = omega (arith, c.loop-watcher-test.true, c.loop-watcher.auto.watchers) in
    record {
      rules =
          map-set_same (λ (w : Watcher). w.rule.now) ws i c.next.new.watcher c.watcher-item.result (ap (λ (r : Bor Rule). r.now) c.in_ok-next.ensures.rule)
          ∙ c.loop-watcher.invariant.rules;
      moves = λ es counted below all.
          at-one c.args.number (event_of c.args.entry.now) es ws i c.watcher-item.result c.next.new.watcher lt c.in_ok-next.ensures counted below
          (c.loop-watcher.invariant.moves es counted below all);
    }

pub returns-clause-rules : goal.returns-clause-rules
returns-clause-rules c = c.loop-watcher.invariant.rules

pub returns-clause-moves : goal.returns-clause-moves
returns-clause-moves c = λ es counted below all.
    at-all es (es ++ event_of c.args.entry.now ∷ []) c.loop-watcher.watcher-index c.loop-watcher.watchers
    (let long = c.loop-watcher.auto.watchers in let end = c.loop-watcher-test.false in omega (arith, long, end)) (c.loop-watcher.invariant.moves es counted below all)
