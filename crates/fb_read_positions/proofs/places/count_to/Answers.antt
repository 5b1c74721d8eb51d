use Rattle.fb_types.proofs.Common.{◌≤◌, ◌==◌, length, take, arith, length-take-le}
use Rattle.std.proofs.lemmas.List.Sums.{count_by-le-length, suffix_len-le-length}
use Rattle.fb_read_positions.proofs.lemmas.LinesAndColumns.{column_on, column_past, is_other, lines_passed}
use Rattle.fb_read_positions.proofs.places.count_to.Goals as goal

pub overflow_add-line : goal.overflow_add-line
overflow_add-line c =
    let text = c.args.text.now in
    let len = length-take-le c.args.to text c.requires.within in
    let lines = lines_passed text c.args.from c.args.to c.requires.ordered in
    let few = count_by-le-length (λ b. b == 10) (take c.args.to text) in
    omega (arith, len, lines, few, c.requires.there.line)

pub overflow_add-result : goal.overflow_add-result
overflow_add-result c =
    let text = c.args.text.now in
    let before : c.args.from ≤ length text = omega (arith, c.requires.ordered, c.requires.within) in
    let len = length-take-le c.args.from text before in
    let few = suffix_len-le-length is_other (take c.args.from text) in
    omega (arith, len, few, c.requires.there.column)

pub returns-in-Some : goal.returns-in-Some
returns-in-Some c =
    let lines = lines_passed c.args.text.now c.args.from c.args.to c.requires.ordered in
    let columns = column_past c.args.text.now c.args.from c.args.to c.in-Some.at c.requires.ordered c.requires.within c.in-Some.ensures.0.high c.in-Some.ensures.1 c.in-Some.ensures.0.after in
    let high = c.in-Some.ensures.0.high in
    record { line = omega (arith, lines, c.requires.there.line); column = omega (arith, columns, high) }

pub returns-in-None : goal.returns-in-None
returns-in-None c =
    let lines = lines_passed c.args.text.now c.args.from c.args.to c.requires.ordered in
    let columns = column_on c.args.text.now c.args.from c.args.to c.requires.ordered c.requires.within c.in-None.ensures in
    record { line = omega (arith, lines, c.requires.there.line); column = omega (arith, columns, c.requires.there.column) }
