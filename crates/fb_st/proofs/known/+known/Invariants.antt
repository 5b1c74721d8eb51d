use Rattle.fb_st.proofs.lemmas.Common.{drop, all_of, branches_of, choices_of, declared_in, AllKnown, BranchesKnown, ChoicesKnown}
use Rattle.std.proofs.Common.{◌↔◌}
use Rattle.fb_st.proofs.known.+known.Given as goal

-- all are known where the rest is
abbrev pub invariant-knows_all-loop-statement : goal.invariant-knows_all-loop-statement
invariant-knows_all-loop-statement l = AllKnown (declared_in l.frame) (all_of l.statements) ↔ AllKnown (declared_in l.frame) (all_of (drop l.statement-index l.statements))

abbrev pub invariant-knows_choices-loop-choice : goal.invariant-knows_choices-loop-choice
invariant-knows_choices-loop-choice l = ChoicesKnown (declared_in l.frame) (choices_of l.choices) ↔ ChoicesKnown (declared_in l.frame) (choices_of (drop l.choice-index l.choices))

abbrev pub invariant-knows_branches-loop-branch : goal.invariant-knows_branches-loop-branch
invariant-knows_branches-loop-branch l = BranchesKnown (declared_in l.frame) (branches_of l.branches) ↔ BranchesKnown (declared_in l.frame) (branches_of (drop l.branch-index l.branches))
