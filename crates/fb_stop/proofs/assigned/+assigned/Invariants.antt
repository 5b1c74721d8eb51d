use Rattle.std.proofs.Common.{◌*◌, ◌+◌, max}
use denote.Param.Weighed.{most}
use Rattle.fb_types.proofs.text.Branch.TheLaws as branch
use Rattle.fb_types.proofs.text.Choice.TheLaws as choice
use Rattle.fb_types.proofs.text.Stmt.TheLaws as stmt
use Rattle.fb_stop.proofs.assigned.+assigned.Given as goal

-- how deep the trees are
abbrev pub decreases-in_statement : goal.decreases-in_statement
decreases-in_statement l = 6 * stmt.the_size l.statement.now

abbrev pub decreases-in_list : goal.decreases-in_list
decreases-in_list l = 6 * most stmt.the_size l.statements.now + 1

-- the depth of ELSE counts as well
abbrev pub decreases-in_choices : goal.decreases-in_choices
decreases-in_choices l = max (6 * most choice.the_size l.choices.now) (6 * most stmt.the_size l.others.now + 3)

abbrev pub decreases-in_branches : goal.decreases-in_branches
decreases-in_branches l = max (6 * most branch.the_size l.branches.now) (6 * most stmt.the_size l.others.now + 3)
