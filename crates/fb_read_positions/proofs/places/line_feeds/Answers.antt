use Rattle.fb_types.proofs.Common.{◌≤◌, ◌==◌, ℕ, List, count_by, length, take, ap, ◌∙◌, arith, length-take-le, take_all}
use Rattle.std.proofs.lemmas.List.Sums.{count_by-le-length}
use Rattle.fb_read_positions.proofs.lemmas.LinesAndColumns.{lines_passed}
use Rattle.fb_read_positions.proofs.places.line_feeds.Goals as goal

pub overflow_add-found : goal.overflow_add-found
overflow_add-found c =
    let to = c.min-to.result in
    let ordered : c.loop-from.from ≤ to = omega arith in
    let within : to ≤ length c.args.bytes.now = omega arith in
    let lines = lines_passed c.args.bytes.now c.loop-from.from to ordered in
    let few = count_by-le-length (λ b. b == 10) (take to c.args.bytes.now) in
    let len = length-take-le to c.args.bytes.now within in
    omega (arith, lines, few, len, c.few_line_feeds.ensures)

pub loop-from-preserved : goal.loop-from-preserved
loop-from-preserved c =
    let to = c.min-to.result in
    let ordered : c.loop-from.from ≤ to = omega arith in
    let lines = lines_passed c.args.bytes.now c.loop-from.from to ordered in
    (omega (arith, lines, c.few_line_feeds.ensures), omega arith)

pub returns : goal.returns
returns c =
    let bytes = c.args.bytes.now in
    c.loop-from.invariant.0 ∙ ap (λ (xs : List ℕ). count_by (λ b. b == 10) xs) (take_all c.loop-from.from bytes (omega arith))
