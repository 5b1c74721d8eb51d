use Rattle.fb_types.proofs.Common.{◌≡◌, ◌+◌, ◌-◌, ◌<◌, ◌≤◌, List, get_or, length, inr, subst, sym, ℕ, arith}
use Rattle.fbsim_command.specs.Joining.{counts}
use Rattle.fbsim_command.specs.declared.join.FileLines.{FileLines}
use Rattle.fbsim_command.proofs.lemmas.files.Counting.{count-at, length-counts, mark-is, same-item}
use Rattle.fbsim_command.proofs.lemmas.files.LinesLaws.{AreLeft, left-more, left-none}
use Rattle.fbsim_command.proofs.join.line_in_file.Goals as goal

-- what stands beyond the end
abbrev nothing : FileLines
nothing = record { count = 0; mark = 0 }

abbrev own_at : List FileLines → ℕ → FileLines
own_at lines i = get_or lines i nothing

own-count : (lines : List FileLines) (i : ℕ) → i < length lines → (own_at lines i).count ≡ get_or (counts lines) i 0
own-count lines i there = count-at lines i (own_at lines i) there (same-item lines i nothing (own_at lines i) there)

pub loop-i-preserved : goal.loop-i-preserved
loop-i-preserved c =
    let lines = c.args.lines.now in
    let at = own-count lines c.loop-i.i c.loop-i-test.true in
    let within : c.loop-i.i < length (counts lines) = let long = length-counts lines in let test = c.loop-i-test.true in omega (arith, long, test) in
    let over : get_or (counts lines) c.loop-i.i 0 < c.loop-i.left = subst (λ (n : ℕ). n < c.loop-i.left) at c.if-left-own.false in
    subst (λ (n : ℕ). AreLeft (counts lines) c.args.whole (c.loop-i.i + 1) (c.loop-i.left - n)) (sym at) (left-more (counts lines) c.args.whole c.loop-i.i c.loop-i.left within over c.loop-i.invariant)

pub returns-clause-none : goal.returns-clause-none
returns-clause-none c =
    let lines = c.args.lines.now in
    let past : length (counts lines) ≤ c.loop-i.i = let long = length-counts lines in let test = c.loop-i-test.false in omega (arith, long, test) in
    inr (left-none (counts lines) c.args.whole c.loop-i.i c.loop-i.left past c.loop-i.invariant)

pub returns-then-left-own-clause-found : goal.returns-then-left-own-clause-found
returns-then-left-own-clause-found c =
    let lines = c.args.lines.now in
    record {
      there = let long = length-counts lines in let test = c.loop-i-test.true in omega (arith, long, test);
      first = c.loop-i.invariant.0;
      last = subst (λ (n : ℕ). c.loop-i.left ≤ n) (own-count lines c.loop-i.i c.loop-i-test.true) c.if-left-own.true;
      sum_is = c.loop-i.invariant.1;
    }

pub returns-then-left-own-clause-mark : goal.returns-then-left-own-clause-mark
returns-then-left-own-clause-mark c =
    let lines = c.args.lines.now in
    mark-is lines c.loop-i.i c.loop-i.left (own_at lines c.loop-i.i) c.mark_in.result c.loop-i-test.true (same-item lines c.loop-i.i nothing (own_at lines c.loop-i.i) c.loop-i-test.true) c.mark_in.ensures
