-- Whether each variable that a statement assigns is one of the frame (this project's profile).
use Rattle.std.specs.Prelude.{◌≡◌, List, true}
use Rattle.fb_types.specs.Syntax.{Stmt, Empty, Exit, Return, Assign, If, Case, For, While, Repeat, Stmts, no_stmt, then_stmts, Choices, no_choice, then_choices, Branches, no_branch, then_branches}
use Rattle.fb_st.specs.Frames.{Declared, is_declared}

abbrev mutual
  pub AssignsKnown : List Declared → Stmt → Type 0
  AssignsKnown ds Empty = Unit {0}
  AssignsKnown ds Exit = Unit {0}
  AssignsKnown ds Return = Unit {0}
  AssignsKnown ds (Assign n e) = is_declared ds n ≡ true
  AssignsKnown ds (If cs others) = ChoicesKnown ds cs × AllKnown ds others
  AssignsKnown ds (Case e bs others) = BranchesKnown ds bs × AllKnown ds others
  AssignsKnown ds (For n a b c body) = (is_declared ds n ≡ true) × AllKnown ds body
  AssignsKnown ds (While c body) = AllKnown ds body
  AssignsKnown ds (Repeat body c) = AllKnown ds body

  pub AllKnown : List Declared → Stmts → Type 0
  AllKnown ds no_stmt = Unit {0}
  AllKnown ds (then_stmts s rest) = AssignsKnown ds s × AllKnown ds rest

  pub ChoicesKnown : List Declared → Choices → Type 0
  ChoicesKnown ds no_choice = Unit {0}
  ChoicesKnown ds (then_choices c body rest) = AllKnown ds body × ChoicesKnown ds rest

  pub BranchesKnown : List Declared → Branches → Type 0
  BranchesKnown ds no_branch = Unit {0}
  BranchesKnown ds (then_branches ls body rest) = AllKnown ds body × BranchesKnown ds rest
