use Rattle.fb_wave.proofs.lemmas.Common.{◌≡◌, ℕ, ◌+◌, ◌<◌, List, ◌++◌, get_or, length, map, refl, take, subst, ◌∙◌, arith, get_or_default, length-map, take_all, Value, AreLevels, pairs}
use Rattle.fb_wave.proofs.lemmas.Pairing.{length-pairs, pairs-more, shown-more}
use Rattle.fb_wave.proofs.system_signals.show_values.Goals as goal

pub loop-index-preserved : goal.loop-index-preserved
loop-index-preserved c =
    let f : ℕ → ℕ = λ k. c.args.first + k in
    let ks = c.args.indexes.now in
    let vs = c.args.values.now in
    let n = c.loop-index.index in
    let k = get_or ks n 0 in
    let placed : n < length ks = omega arith in
    let valued : n < length vs = omega arith in
    record {
      counted = c.show.ensures.counted ∙ c.loop-index.invariant.counted;
      shown =
          shown-more c.args.levels.now c.loop-index.levels c.show.new.self (take n (pairs (map f ks) vs)) _ (f k) _ c.loop-index.invariant.shown
          (pairs-more f ks vs n k _ placed valued refl (get_or_default vs n _ _ valued)) c.in_ok-show.ensures.levels;
    }

pub returns-clause-levels : goal.returns-clause-levels
returns-clause-levels c n fires sets touches are =
    let f : ℕ → ℕ = λ k. c.args.first + k in
    let ks = c.args.indexes.now in
    let vs = c.args.values.now in
    let ps : List (ℕ × Value) = pairs (map f ks) vs in
    let short = length-pairs (map f ks) vs in
    let long : length (map f ks) ≡ length ks = length-map ks f in
    let all : take c.loop-index.index ps ≡ ps = take_all c.loop-index.index ps (omega arith) in
    subst (λ (qs : List (ℕ × Value)). AreLevels n fires (sets ++ qs) (touches ++ map (λ (p : ℕ × Value). p.0) qs) c.loop-index.levels) all
    (c.loop-index.invariant.shown n fires sets touches are)
