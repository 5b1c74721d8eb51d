use Rattle.fb_read.proofs.lemmas.Common.{◌≡◌, List, Ok, Err, refl, subst, err_from_is_err_and, Reads, run_after, block, library}
use Rattle.fb_types.specs.declared.library.BlockType.{BlockType}
use Rattle.fb_read.specs.declared.token.Mark.TheVariants as mark
use Rattle.fb_read.proofs.lemmas.rules.Reading.{stops, stops_later, went_on}
use Rattle.fb_read.proofs.block.LibraryRule.read.Goals as goal

pub returns-in_err-before : goal.returns-in_err-before
unfolding library
returns-in_err-before c =
    let p = err_from_is_err_and c.from_residual.result c.from_residual.ensures.1 in
    let first = subst (λ (found : List BlockType). Reads (run_after block mark.FunctionBlock found c.args.cursor.now) (Err c.in_err-before.field-0.0) c.run_after.new.cursor) c.no_items-none.ensures c.in_err-before.ensures in
    rw (p.1, p.2) (stops _ _ _ _ first)

pub returns-in_err-application : goal.returns-in_err-application
unfolding library
returns-in_err-application c =
    let p = err_from_is_err_and c.from_residual-in_err-application.result c.from_residual-in_err-application.ensures.1 in
    let first = subst (λ (found : List BlockType). run_after block mark.FunctionBlock found c.args.cursor.now ≡ Ok (c.in_ok-before.before, c.run_after.new.cursor)) c.no_items-none.ensures c.in_ok-before.ensures in
    rw (p.1, p.2) (stops_later _ _ _ _ _ _ first (stops _ _ _ _ c.in_err-application.ensures))

pub returns-in_err-blocks : goal.returns-in_err-blocks
unfolding library
returns-in_err-blocks c =
    let p = err_from_is_err_and c.from_residual-in_err-blocks.result c.from_residual-in_err-blocks.ensures.1 in
    let first = subst (λ (found : List BlockType). run_after block mark.FunctionBlock found c.args.cursor.now ≡ Ok (c.in_ok-before.before, c.run_after.new.cursor)) c.no_items-none.ensures c.in_ok-before.ensures in
    rw (p.1, p.2) (stops_later _ _ _ _ _ _ first (stops_later _ _ _ _ _ _ c.in_ok-application.ensures (stops _ _ _ _ c.in_err-blocks.ensures)))

pub returns : goal.returns
unfolding library
returns c =
    let first = subst (λ (found : List BlockType). run_after block mark.FunctionBlock found c.args.cursor.now ≡ Ok (c.in_ok-before.before, c.run_after.new.cursor)) c.no_items-none.ensures c.in_ok-before.ensures in
    went_on _ _ _ _ _ first (went_on _ _ _ _ _ c.in_ok-application.ensures (went_on _ _ _ _ _ c.in_ok-blocks.ensures refl))
