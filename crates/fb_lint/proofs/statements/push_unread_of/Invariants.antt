use Rattle.fb_lint.proofs.lemmas.Common.{◌≡◌, ◌++◌, drop, each_from, meant_all}
use Rattle.fb_lint.specs.Statements as spec
use Rattle.fb_lint.proofs.statements.push_unread_of.Given as goal

-- with what is found in the rest, all is there
abbrev pub invariant-loop-internal : goal.invariant-loop-internal
invariant-loop-internal l =
    l.all.items ++ each_from (spec.unread_internal l.block (meant_all l.reads)) l.internal (drop l.internal l.internals) ≡ l.fn.all.items ++ each_from (spec.unread_internal l.block (meant_all l.reads)) 0 l.internals
