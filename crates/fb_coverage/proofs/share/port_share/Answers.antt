use Rattle.fb_types.proofs.Common.{◌<◌, ◌≤◌, ◌+◌, ◌∷◌, ℕ, List, [], drop, sym, ap, ◌∙◌, subst, at_drop_all, system_of, Path, path_at}
use Rattle.fb_coverage.specs.Listed.{listed}
use Rattle.fb_coverage.specs.Shares.{added, counted_row, with_rows}
use Rattle.fb_coverage.specs.declared.share.Share.{Share}
use Rattle.fb_coverage.proofs.lemmas.Counting.{row_added}
use Rattle.fb_coverage.proofs.lemmas.Listed.{here_is, listed_here}
use Rattle.fb_coverage.proofs.share.port_share.Goals as goal

pub loop-instance-init : goal.loop-instance-init
loop-instance-init c =
    let lib = c.args.system.now.library in
    let sys = system_of c.args.system.now in
    let f = λ (k : ℕ) (p : Path). counted_row lib sys c.args.marks.now k p ∷ [] in
    ap (λ (s : Share). with_rows s (listed f 0 sys.paths)) c.new-share.ensures

pub loop-instance-preserved : goal.loop-instance-preserved
loop-instance-preserved c =
    let lib = c.args.system.now.library in
    let sys = system_of c.args.system.now in
    let i = c.loop-instance.instance in
    let f = λ (k : ℕ) (p : Path). counted_row lib sys c.args.marks.now k p ∷ [] in
    let share = c.loop-instance.share in
    let within = subst (λ (n : ℕ). i < n) c.count-instance-end.ensures c.loop-instance-test.true in
    ap (λ (s : Share). with_rows s (listed f (i + 1) (drop (i + 1) sys.paths))) (c.add.ensures ∙ ap (added share) c.instance_share-own.ensures ∙ row_added share (counted_row lib sys c.args.marks.now i (path_at sys i)))
    ∙ ap (with_rows share) (sym (listed_here f sys.paths i (path_at sys i) within (here_is sys.paths i [] within)))
    ∙ c.loop-instance.invariant

pub returns : goal.returns
returns c =
    let lib = c.args.system.now.library in
    let sys = system_of c.args.system.now in
    let i = c.loop-instance.instance in
    let f = λ (k : ℕ) (p : Path). counted_row lib sys c.args.marks.now k p ∷ [] in
    let past = subst (λ (n : ℕ). n ≤ i) c.count-instance-end.ensures c.loop-instance-test.false in
    sym (ap (with_rows c.loop-instance.share) (at_drop_all (λ (ys : List Path). listed f i ys) sys.paths i past)) ∙ c.loop-instance.invariant
