use Rattle.fb_check.specs.declared.types.statements.Standing as code
use Rattle.fb_check.proofs.lemmas.Common.{kinds_wrong_in_statement, standing_of}
use Rattle.fb_check_names.proofs.lemmas.Listing.{each_done, each_more}
use Rattle.fb_check.proofs.types.statements.push_in_statements.Goals as goal

pub loop-statement-preserved : goal.loop-statement-preserved
loop-statement-preserved c =
    each_more (λ k (s : code.Standing). kinds_wrong_in_statement c.args.scope.now c.args.block c.args.algorithm k (standing_of s)) c.args.statements.now c.loop-statement.statement c.index-statements-statement.result c.loop-statement.found.items c.push_parts.new.found.items _
    c.loop-statement-test.true c.index-statements-statement.is c.in_ok-push_parts.ensures c.loop-statement.invariant

pub returns : goal.returns
returns c = each_done (λ k (s : code.Standing). kinds_wrong_in_statement c.args.scope.now c.args.block c.args.algorithm k (standing_of s)) c.args.statements.now c.loop-statement.statement c.loop-statement.found.items _ c.loop-statement-test.false c.loop-statement.invariant
