use Rattle.fb_types.proofs.Common.{◌≡◌, ℕ, List, [], ◌∷◌, ◌++◌, get_or, take, sym, subst, arith, take_more}
use Rattle.fb_types.specs.declared.run.Line.{Line}
use Rattle.fb_types.proofs.lemmas.lists.EachLaws.{each_append}
use Rattle.fb_trace.specs.Marks.{IsRun}
use Rattle.fb_trace.specs.Merging.{tick_of}
use Rattle.fb_trace.proofs.marks.run_length.Goals as goal

-- one line more of the tick
longer : (tick : ℕ) (run : List Line) (x : Line) → IsRun tick run → tick_of x ≡ tick → IsRun tick (run ++ x ∷ [])
longer tick [] x are is = absurd are
longer tick (y ∷ ys) x are is = (are.0, each_append (λ (z : Line). tick_of z ≡ tick) ys (x ∷ []) are.1 (is, tt))

pub loop-count-preserved : goal.loop-count-preserved
loop-count-preserved c =
    let lines = c.args.lines.now in
    let n = c.loop-count.count in
    let x = c.index-lines-count.result in
    record {
      within = omega arith;
      some = omega arith;
      run = subst (λ (xs : List Line). IsRun c.args.tick xs) (sym (take_more lines n x c.loop-count-test.true))
          (longer c.args.tick (take n lines) (get_or lines n x) c.loop-count.invariant.run c.if-lines-count.false);
    }
