-- What expressions and statements name, each by its parts.
use Rattle.fb_check.proofs.lemmas.Common.{◌≡◌, List, [], ◌∷◌, ◌++◌, Option, None, Some, sym, ◌∙◌, ap, Name, expr_of, stmt_of, Mention, is_known, mentions, mentions_body, BasicType, Expr, Branch, Choice, Stmt, all_of, arguments_of, branch_of, branches_of, choice_of, choices_of, Naming, each_at, unless, meant, meant_all, mention_in, unknown_mentions}
use Rattle.fb_types.specs.declared.text.BinaryOperator.{BinaryOperator}
use Rattle.fb_types.specs.declared.text.UnaryOperator.{UnaryOperator}
use Rattle.fb_types.specs.declared.text.Branch.{out-Branch}
use Rattle.fb_types.specs.declared.text.Choice.{out-Choice}
use Rattle.fb_types.specs.Unknown.{OfFunction, OfVariable, mentions_all, mentions_branches, mentions_choices, mentions_in}
use Rattle.fb_types.specs.declared.text.Expr as expr
use Rattle.fb_types.specs.declared.text.Stmt as read
use Rattle.fb_check.specs.declared.types.mentions.Mention as gathered
use Rattle.fb_check.specs.types.Mentions.{mentions_of_control}
use Rattle.fb_check_names.proofs.lemmas.Listing.{each_from-map}
use Rattle.fb_check.proofs.lemmas.types.Meanings.{assign_says, binary_says, branch_says, call_says, case_says, choice_says, for_says, group_says, if_says, repeat_says, unary_says, variable_says, while_says}

-- ---- Expressions

abbrev names_of : Expr → List Mention
names_of e = mentions (expr_of e)

pub variable_names : (e : Expr) (n v : Name) → e ≡ expr.Variable v → n ≡ v → names_of e ≡ OfVariable n ∷ []
variable_names e n v is same = ap names_of is ∙ ap mentions (variable_says v) ∙ ap (λ (n : Name). OfVariable n ∷ []) (sym same)

-- the operands are those that the code uses
pub group_names : (e a b : Expr) → e ≡ expr.Group b → a ≡ b → names_of e ≡ names_of a
group_names e a b is same = ap names_of is ∙ ap mentions (group_says b) ∙ ap names_of (sym same)

pub unary_names : (e : Expr) (o : UnaryOperator) (a b : Expr) → e ≡ expr.Unary o b → a ≡ b → names_of e ≡ names_of a
unary_names e o a b is same = ap names_of is ∙ ap mentions (unary_says o b) ∙ ap names_of (sym same)

pub binary_names :
    (e : Expr) (o : BinaryOperator) (a b c d : Expr) → e ≡ expr.Binary o b d → a ≡ b → c ≡ d → names_of e ≡ names_of a ++ names_of c
binary_names e o a b c d is left right =
    ap names_of is ∙ ap mentions (binary_says o b d) ∙ (λ i. names_of (sym left i) ++ names_of (sym right i))

pub call_names :
    (e : Expr) (f : Name) (es : List Expr) → e ≡ expr.Call f es → names_of e ≡ (OfFunction f ∷ []) ++ mentions_all (arguments_of es)
call_names e f es is = ap names_of is ∙ ap mentions (call_says f es)

-- ---- Statements

abbrev named : Stmt → List Mention
named s = mentions_in (stmt_of s)

abbrev named_in : List Stmt → List Mention
named_in ss = mentions_body (all_of ss)

pub assign_names : (s : Stmt) (n v : Name) (e : Expr) → s ≡ read.Assign v e → n ≡ v → named s ≡ OfVariable n ∷ mentions (expr_of e)
assign_names s n v e is same = ap named is ∙ ap mentions_in (assign_says v e) ∙ ap (λ (n : Name). OfVariable n ∷ mentions (expr_of e)) (sym same)

pub if_names : (s : Stmt) (cs : List Choice) (os : List Stmt) → s ≡ read.If cs os → named s ≡ mentions_choices (choices_of cs) ++ named_in os
if_names s cs os is = ap named is ∙ ap mentions_in (if_says cs os)

pub case_names :
    (s : Stmt) (e : Expr) (bs : List Branch) (os : List Stmt) → s ≡ read.Case e bs os
    → named s ≡ (mentions (expr_of e) ++ mentions_branches (branches_of bs)) ++ named_in os
case_names s e bs os is = ap named is ∙ ap mentions_in (case_says e bs os)

pub for_names :
    (s : Stmt) (n : Name) (a b : Expr) (c : Option Expr) (os : List Stmt) → s ≡ read.For n a b c os → named s ≡ mentions_of_control n a b c ++ named_in os
for_names s n a b c os is = ap named is ∙ ap mentions_in (for_says n a b c os)

pub while_names : (s : Stmt) (c : Expr) (os : List Stmt) → s ≡ read.While c os → named s ≡ mentions (expr_of c) ++ named_in os
while_names s c os is = ap named is ∙ ap mentions_in (while_says c os)

pub repeat_names : (s : Stmt) (os : List Stmt) (c : Expr) → s ≡ read.Repeat os c → named s ≡ named_in os ++ mentions (expr_of c)
repeat_names s os c is = ap named is ∙ ap mentions_in (repeat_says os c)

-- a condition and the statements after it, and those after labels
pub choice_names :
    (c : Choice) → mentions (choice_of c).0 ++ mentions_body (choice_of c).1 ≡ mentions (expr_of (out-Choice c).condition) ++ named_in (out-Choice c).body
choice_names c = ap (λ r. mentions r.0 ++ mentions_body r.1) (choice_says c)

pub branch_names : (b : Branch) → mentions_body (branch_of b).1 ≡ named_in (out-Branch b).body
branch_names b = ap (λ r. mentions_body r.1) (branch_says b)

-- ---- Those that are unknown

-- what a guard names, if there is one
abbrev pub mentions_of : Option Expr → List Mention
mentions_of o = elim o [ None ↦ [] | Some g ↦ mentions (expr_of g) ]

-- the mentions are those that the code gathered
pub mentions_are :
    (t : BasicType) (text : Naming) (gs : List gathered.Mention) (ms : List Mention) → meant_all gs ≡ ms
    → unknown_mentions t text ms ≡ each_at (λ m x. unless (is_known t (meant x)) (mention_in text m)) gs
mentions_are t text gs ms are = ap (unknown_mentions t text) (sym are) ∙ each_from-map (λ m x. unless (is_known t x) (mention_in text m)) meant gs 0
