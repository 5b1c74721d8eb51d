-- The statements inside statements, each by its parts.
use Rattle.fb_check.proofs.lemmas.Common.{◌≡◌, Bool, true, List, Option, ◌++◌, ◌∙◌, ap, inl, inr, ◌⊎◌, Name, stmt_of, Expr, Branch, Choice, Stmt, all_of, branch_of, branches_of, choice_of, choices_of, each_in_body, each_in_branches, each_in_choices}
use Rattle.fb_types.specs.declared.text.Branch.{out-Branch}
use Rattle.fb_types.specs.declared.text.Choice.{out-Choice}
use Rattle.fb_types.specs.declared.text.Stmt as read
use Rattle.fb_check.specs.types.Statements.{Standing, each_inside}
use Rattle.fb_check.proofs.lemmas.types.Meanings.{branch_says, case_says, choice_says, for_says, if_says, repeat_says, while_says}

abbrev inside : Bool → Stmt → List Standing
inside l s = each_inside l (stmt_of s)

abbrev each_in : Bool → List Stmt → List Standing
each_in l ss = each_in_body l (all_of ss)

pub inside_if :
    (l : Bool) (s : Stmt) (cs : List Choice) (os : List Stmt) → s ≡ read.If cs os → inside l s ≡ each_in_choices l (choices_of cs) ++ each_in l os
inside_if l s cs os is = ap (inside l) is ∙ ap (each_inside l) (if_says cs os)

pub inside_case :
    (l : Bool) (s : Stmt) (e : Expr) (bs : List Branch) (os : List Stmt) → s ≡ read.Case e bs os → inside l s ≡ each_in_branches l (branches_of bs) ++ each_in l os
inside_case l s e bs os is = ap (inside l) is ∙ ap (each_inside l) (case_says e bs os)

-- a loop, whichever it is
pub inside_loop :
    (l : Bool) (s : Stmt) (os : List Stmt)
    → ((n : Name) × (a : Expr) × (b : Expr) × (c : Option Expr) × (s ≡ read.For n a b c os)) ⊎ (((c : Expr) × (s ≡ read.While c os)) ⊎ ((c : Expr) × (s ≡ read.Repeat os c)))
    → inside l s ≡ each_in true os
inside_loop l s os (inl (n, a, b, c, is)) = ap (inside l) is ∙ ap (each_inside l) (for_says n a b c os)
inside_loop l s os (inr (inl (c, is))) = ap (inside l) is ∙ ap (each_inside l) (while_says c os)
inside_loop l s os (inr (inr (c, is))) = ap (inside l) is ∙ ap (each_inside l) (repeat_says os c)

-- after a condition and after labels
pub inside_choice : (l : Bool) (c : Choice) → each_in_body l (choice_of c).1 ≡ each_in l (out-Choice c).body
inside_choice l c = ap (λ r. each_in_body l r.1) (choice_says c)

pub inside_branch : (l : Bool) (b : Branch) → each_in_body l (branch_of b).1 ≡ each_in l (out-Branch b).body
inside_branch l b = ap (λ r. each_in_body l r.1) (branch_says b)
