use Rattle.fb_st.proofs.lemmas.Common.{map, take, stmt_of, branch_of, choice_of, SaysAll}
use Rattle.fb_st.specs.Made.{SaysBranches, SaysChoices}
use Rattle.fb_st.proofs.compile_stmt.+compile_stmt.Given as goal

abbrev pub invariant-compile_all-loop-statement : goal.invariant-compile_all-loop-statement
invariant-compile_all-loop-statement l = SaysAll l.scope.layout.now (map stmt_of (take l.statement-index l.statements)) l.compiled

abbrev pub invariant-compile_choices-loop-choice : goal.invariant-compile_choices-loop-choice
invariant-compile_choices-loop-choice l = SaysChoices l.scope.layout.now (map choice_of (take l.choice-index l.choices)) l.compiled

abbrev pub invariant-compile_branches-loop-branch : goal.invariant-compile_branches-loop-branch
invariant-compile_branches-loop-branch l = SaysBranches l.scope.layout.now (map branch_of (take l.branch-index l.branches)) l.compiled
