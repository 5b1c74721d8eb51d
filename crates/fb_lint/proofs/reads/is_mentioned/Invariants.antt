use Rattle.fb_lint.proofs.lemmas.Common.{◌≡◌, drop, list_any, meant_all}
use Rattle.fb_lint.specs.Reads.{is_variable}
use Rattle.fb_lint.proofs.reads.is_mentioned.Given as goal

abbrev pub invariant-loop-mention : goal.invariant-loop-mention
invariant-loop-mention l = list_any (is_variable l.name) (meant_all l.mentions) ≡ list_any (is_variable l.name) (meant_all (drop l.mention-index l.mentions))
