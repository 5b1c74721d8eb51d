use Rattle.fb_lint.proofs.lemmas.Common.{◌++◌, Bool, List, sym, ◌∙◌, ap, when, standing_of, Warning}
use Rattle.fb_lint.specs.declared.warning.Warning.TheVariants.{RepeatedLabel}
use Rattle.fb_lint.specs.Statements as spec
use Rattle.fb_lint.proofs.lemmas.WarningLists.{all_found, each_from-map, next_found}
use Rattle.fb_lint.proofs.statements.push_repeated.Goals as goal

pub loop-statement-preserved : goal.loop-statement-preserved
loop-statement-preserved c =
    next_found (λ k s. spec.repeated_label c.args.at.block c.args.at.algorithm k (standing_of s)) c.args.statements.now c.loop-statement.statement c.index-statements-statement.result c.loop-statement.all.items _ _ c.loop-statement-test.true c.index-statements-statement.is
    (c.in_ok-push_if.ensures ∙ ap (λ (b : Bool). c.loop-statement.all.items ++ when b (RepeatedLabel c.args.at.block c.args.at.algorithm c.loop-statement.statement)) c.in_ok-applies.ensures)
    c.loop-statement.invariant

pub returns : goal.returns
returns c =
    all_found (λ k s. spec.repeated_label c.args.at.block c.args.at.algorithm k (standing_of s)) c.args.statements.now c.loop-statement.statement _ _ c.loop-statement-test.false c.loop-statement.invariant
    ∙ ap (λ (ws : List Warning). c.args.all.now.items ++ ws) (sym (each_from-map (spec.repeated_label c.args.at.block c.args.at.algorithm) standing_of 0 c.args.statements.now))
