use Rattle.fb_lint.proofs.lemmas.Common.{◌++◌, List, sym, ◌∙◌, ap, standing_of, Warning}
use Rattle.fb_lint.specs.Constants as spec
use Rattle.fb_lint.proofs.lemmas.WarningLists.{all_found, each_from-map, next_found}
use Rattle.fb_lint.proofs.constants.push_constants.Goals as goal

pub loop-statement-preserved : goal.loop-statement-preserved
loop-statement-preserved c =
    next_found (λ k s. spec.constants_of c.args.at.now.basic.now c.args.at.now.block c.args.at.now.algorithm k (standing_of s)) c.args.statements.now c.loop-statement.statement c.index-statements-statement.result c.loop-statement.all.items _ _ c.loop-statement-test.true c.index-statements-statement.is
    c.in_ok-push_constants_of.ensures
    c.loop-statement.invariant

pub returns : goal.returns
returns c =
    all_found (λ k s. spec.constants_of c.args.at.now.basic.now c.args.at.now.block c.args.at.now.algorithm k (standing_of s)) c.args.statements.now c.loop-statement.statement _ _ c.loop-statement-test.false c.loop-statement.invariant
    ∙ ap (λ (ws : List Warning). c.args.all.now.items ++ ws) (sym (each_from-map (spec.constants_of c.args.at.now.basic.now c.args.at.now.block c.args.at.now.algorithm) standing_of 0 c.args.statements.now))
