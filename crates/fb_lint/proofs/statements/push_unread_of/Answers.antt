use Rattle.fb_lint.proofs.lemmas.Common.{◌++◌, Bool, not, ◌∙◌, ap, when, meant_all}
use Rattle.fb_lint.specs.declared.warning.Warning.TheVariants.{UnreadInternal}
use Rattle.fb_lint.specs.Statements as spec
use Rattle.fb_lint.proofs.lemmas.WarningLists.{all_found, next_found}
use Rattle.fb_lint.proofs.statements.push_unread_of.Goals as goal

pub loop-internal-preserved : goal.loop-internal-preserved
loop-internal-preserved c =
    next_found (spec.unread_internal c.args.block (meant_all c.args.reads.now)) c.args.internals.now c.loop-internal.internal c.index-internals-internal.result c.loop-internal.all.items _ _ c.loop-internal-test.true c.index-internals-internal.is
    (c.in_ok-push_if.ensures ∙ ap (λ (b : Bool). c.loop-internal.all.items ++ when (not b) (UnreadInternal c.args.block c.loop-internal.internal)) c.is_mentioned-is_unread.ensures)
    c.loop-internal.invariant

pub returns : goal.returns
returns c = all_found (spec.unread_internal c.args.block (meant_all c.args.reads.now)) c.args.internals.now c.loop-internal.internal _ _ c.loop-internal-test.false c.loop-internal.invariant
