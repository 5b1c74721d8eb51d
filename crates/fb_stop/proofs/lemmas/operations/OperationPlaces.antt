-- Where the operation of a statement is, put together on the way to it.
use Rattle.fb_types.proofs.Common.{◌≡◌, ◌∙◌, ◌∷◌, ◌++◌, ◌+◌, ◌<◌, ◌≤◌, [], ℕ, zero, suc, arith, List, Option, Some, None, take, length, get_or, refl, sym, ap, subst, slice_get, IfSome, ◌⊎◌, inl, inr, Name, take_more, Values, stmt_of}
use Rattle.fb_types.specs.declared.text.Branch.{Branch, out-Branch}
use Rattle.fb_types.specs.declared.text.Choice.{Choice, out-Choice}
use Rattle.fb_types.specs.declared.text.Expr.{Expr}
use Rattle.fb_types.specs.declared.value.Reason.{Reason}
use Rattle.fb_types.specs.declared.text.Stmt as read
use Rattle.fb_st.specs.Flows.{all_of, branch_of, branches_of, choice_of, choices_of}
use Rattle.fb_stop.specs.Numbers.{next, after, after_all, after_branches, after_choices}
use Rattle.fb_stop.specs.Statements.{HasOwn, IsExpression, IsInBranches, IsInChoices, IsInList, IsInStatement, IsInside, IsNumbered, IsOfChoices}
use Rattle.fb_stop.specs.Statements as spec
use Rattle.fb_stop.specs.Operations.{FaultIn, IsUnfit}
use Rattle.fb_stop.specs.declared.statement.Anchor.{Anchor}
use Rattle.fb_stop.specs.declared.statement.Anchor.TheVariants.{Beginning}
use Rattle.fb_stop.specs.declared.statement.Placed.{Placed}

pub if_some_map : {A : Type 0} (P Q : A → Type 0) (o : Option A) → ((a : A) → P a → Q a) → IfSome o P → IfSome o Q
if_some_map P Q None f h = h
if_some_map P Q (Some a) f h = f a h

-- ---- The numbers after the first of a list

all_append : (xs ys : List read.Stmt) (n : ℕ) → after_all (all_of (xs ++ ys)) n ≡ after_all (all_of ys) (after_all (all_of xs) n)
all_append [] ys n = refl
all_append (x ∷ xs) ys n = all_append xs ys (after (stmt_of x) n)

pub all_more : (ss : List read.Stmt) (i n k l : ℕ) (s : read.Stmt) → i < length ss → s ≡ get_or ss i s → l ≡ after (stmt_of s) k → k ≡ after_all (all_of (take i ss)) n
    → l ≡ after_all (all_of (take (i + 1) ss)) n
all_more ss i n k l s within is counted before =
    counted ∙ ap (after (stmt_of s)) before ∙ ap (λ (x : read.Stmt). after (stmt_of x) (after_all (all_of (take i ss)) n)) is
    ∙ sym (all_append (take i ss) (get_or ss i s ∷ []) n) ∙ sym (ap (λ (xs : List read.Stmt). after_all (all_of xs) n) (take_more ss i s within))

choices_append : (xs ys : List Choice) (n : ℕ) → after_choices (choices_of (xs ++ ys)) n ≡ after_choices (choices_of ys) (after_choices (choices_of xs) n)
choices_append [] ys n = refl
choices_append (x ∷ xs) ys n = choices_append xs ys (after_all (choice_of x).1 n)

pub choices_more : (cs : List Choice) (i n k l : ℕ) (c : Choice) → i < length cs → c ≡ get_or cs i c → l ≡ after_all (choice_of c).1 k → k ≡ after_choices (choices_of (take i cs)) n
    → l ≡ after_choices (choices_of (take (i + 1) cs)) n
choices_more cs i n k l c within is counted before =
    counted ∙ ap (after_all (choice_of c).1) before ∙ ap (λ (x : Choice). after_all (choice_of x).1 (after_choices (choices_of (take i cs)) n)) is
    ∙ sym (choices_append (take i cs) (get_or cs i c ∷ []) n) ∙ sym (ap (λ (xs : List Choice). after_choices (choices_of xs) n) (take_more cs i c within))

branches_append : (xs ys : List Branch) (n : ℕ) → after_branches (branches_of (xs ++ ys)) n ≡ after_branches (branches_of ys) (after_branches (branches_of xs) n)
branches_append [] ys n = refl
branches_append (x ∷ xs) ys n = branches_append xs ys (after_all (branch_of x).1 n)

pub branches_more : (bs : List Branch) (i n k l : ℕ) (b : Branch) → i < length bs → b ≡ get_or bs i b → l ≡ after_all (branch_of b).1 k → k ≡ after_branches (branches_of (take i bs)) n
    → l ≡ after_branches (branches_of (take (i + 1) bs)) n
branches_more bs i n k l b within is counted before =
    counted ∙ ap (after_all (branch_of b).1) before ∙ ap (λ (x : Branch). after_all (branch_of x).1 (after_branches (branches_of (take i bs)) n)) is
    ∙ sym (branches_append (take i bs) (get_or bs i b ∷ []) n) ∙ sym (ap (λ (xs : List Branch). after_branches (branches_of xs) n) (take_more bs i b within))

-- ---- One level out

module _ (vars : Values) (r : Reason) (number : ℕ) where
  pub in_this : (ss : List read.Stmt) (first at i : ℕ) (s : read.Stmt) (x : Placed) → slice_get ss i ≡ Some s → at ≡ after_all (all_of (take i ss)) first
      → IsInStatement vars r s at number x → IsInList vars r ss first number x
  in_this ss first at i s x there counted h = record {
    statement = h.statement;
    there = spec.among ss first i s h.statement number there (subst (λ (n : ℕ). IsNumbered s n h.statement number) counted h.there);
    own = h.own;
  }

  pub in_body : (s : read.Stmt) (at : ℕ) (body : List read.Stmt) (from : ℕ) (x : Placed) → IsInside s at body from → IsInList vars r body from number x → IsInStatement vars r s at number x
  in_body s at body from x inside h = record {
    statement = h.statement;
    there = spec.inside s at body from h.statement number inside h.there;
    own = h.own;
  }

  pub in_choice : (cs : List Choice) (others : List read.Stmt) (first at i : ℕ) (c : Choice) (body : List read.Stmt) (x : Placed) → slice_get cs i ≡ Some c → body ≡ (out-Choice c).body
      → at ≡ after_choices (choices_of (take i cs)) first → IsInList vars r body at number x → IsInChoices vars r cs others first number x
  in_choice cs others first at i c body x there same counted h = record {
    body = (out-Choice c).body;
    from = after_choices (choices_of (take i cs)) first;
    of = spec.of_condition i c there;
    found = subst (λ (b : List read.Stmt). IsInList vars r b (after_choices (choices_of (take i cs)) first) number x) same (subst (λ (n : ℕ). IsInList vars r body n number x) counted h);
  }

  pub in_else : (cs : List Choice) (others : List read.Stmt) (first at : ℕ) (x : Placed) → at ≡ after_choices (choices_of cs) first → IsInList vars r others at number x → IsInChoices vars r cs others first number x
  in_else cs others first at x counted h = record {
    body = others;
    from = after_choices (choices_of cs) first;
    of = spec.of_else;
    found = subst (λ (n : ℕ). IsInList vars r others n number x) counted h;
  }

  pub in_label : (bs : List Branch) (others : List read.Stmt) (first at i : ℕ) (b : Branch) (body : List read.Stmt) (x : Placed) → slice_get bs i ≡ Some b → body ≡ (out-Branch b).body
      → at ≡ after_branches (branches_of (take i bs)) first → IsInList vars r body at number x → IsInBranches vars r bs others first number x
  in_label bs others first at i b body x there same counted h = record {
    body = (out-Branch b).body;
    from = after_branches (branches_of (take i bs)) first;
    of = spec.of_label i b there;
    found = subst (λ (z : List read.Stmt). IsInList vars r z (after_branches (branches_of (take i bs)) first) number x) same (subst (λ (n : ℕ). IsInList vars r body n number x) counted h);
  }

  pub in_no_label : (bs : List Branch) (others : List read.Stmt) (first at : ℕ) (x : Placed) → at ≡ after_branches (branches_of bs) first → IsInList vars r others at number x → IsInBranches vars r bs others first number x
  in_no_label bs others first at x counted h = record {
    body = others;
    from = after_branches (branches_of bs) first;
    of = spec.of_no_label;
    found = subst (λ (n : ℕ). IsInList vars r others n number x) counted h;
  }

  -- ---- .. from the parts of a statement

  pub of_if : (s : read.Stmt) (at k : ℕ) (cs cs' : List Choice) (others others' : List read.Stmt) (o : Option Placed) → s ≡ read.If cs others → cs' ≡ cs → others' ≡ others → k ≡ next at
      → IfSome o (IsInChoices vars r cs' others' k number) → IfSome o (IsInStatement vars r s at number)
  of_if s at k cs cs' others others' o is same_choices same_others counted h =
      if_some_map (IsInChoices vars r cs' others' k number) (IsInStatement vars r s at number) o
      (λ x z.
      let y : IsInChoices vars r cs others (next at) number x =
      subst (λ (l : List Choice). IsInChoices vars r l others (next at) number x) same_choices
      (subst (λ (l : List read.Stmt). IsInChoices vars r cs' l (next at) number x) same_others
      (subst (λ (j : ℕ). IsInChoices vars r cs' others' j number x) counted z)) in
      in_body s at y.body y.from x (subst (λ (u : read.Stmt). IsInside u at y.body y.from) (sym is) (spec.in_if cs others at y.body y.from y.of)) y.found)
      h

  pub of_case : (s : read.Stmt) (at k : ℕ) (e : Expr) (bs bs' : List Branch) (others others' : List read.Stmt) (o : Option Placed) → s ≡ read.Case e bs others → bs' ≡ bs → others' ≡ others → k ≡ next at
      → IfSome o (IsInBranches vars r bs' others' k number) → IfSome o (IsInStatement vars r s at number)
  of_case s at k e bs bs' others others' o is same_branches same_others counted h =
      if_some_map (IsInBranches vars r bs' others' k number) (IsInStatement vars r s at number) o
      (λ x z.
      let y : IsInBranches vars r bs others (next at) number x =
      subst (λ (l : List Branch). IsInBranches vars r l others (next at) number x) same_branches
      (subst (λ (l : List read.Stmt). IsInBranches vars r bs' l (next at) number x) same_others
      (subst (λ (j : ℕ). IsInBranches vars r bs' others' j number x) counted z)) in
      in_body s at y.body y.from x (subst (λ (u : read.Stmt). IsInside u at y.body y.from) (sym is) (spec.in_case e bs others at y.body y.from y.of)) y.found)
      h

  pub of_loop : (s u : read.Stmt) (at k : ℕ) (body body' : List read.Stmt) (o : Option Placed) → s ≡ u → IsInside u at body (next at) → body' ≡ body → k ≡ next at
      → IfSome o (IsInList vars r body' k number) → IfSome o (IsInStatement vars r s at number)
  of_loop s u at k body body' o is inside same counted h =
      if_some_map (IsInList vars r body' k number) (IsInStatement vars r s at number) o
      (λ x z. in_body s at body (next at) x (subst (λ (w : read.Stmt). IsInside w at body (next at)) (sym is) inside)
      (subst (λ (l : List read.Stmt). IsInList vars r l (next at) number x) same (subst (λ (j : ℕ). IsInList vars r body' j number x) counted z)))
      h

  pub of_itself : (s : read.Stmt) (at : ℕ) (o : Option Placed) → number ≡ at → IfSome o (HasOwn vars r s) → IfSome o (IsInStatement vars r s at number)
  of_itself s at o same h =
      if_some_map (HasOwn vars r s) (IsInStatement vars r s at number) o
      (λ x own. record { statement = s; there = subst (λ (n : ℕ). IsNumbered s at s n) (sym same) (spec.itself s at); own = own }) h

-- ---- The expressions of a statement itself

module _ (vars : Values) (r : Reason) where
  pub own_of : (s u : read.Stmt) (a : Anchor) (n : ℕ) (e : Expr) (o : Option Placed) → s ≡ u → IsExpression u a n e → IfSome o (λ x. x.anchor ≡ a) → IfSome o (λ x. FaultIn vars r e n x.operation)
      → IfSome o (HasOwn vars r s)
  own_of s u a n e None is at anchor fault = tt
  own_of s u a n e (Some x) is at anchor fault = record {
    expression = e;
    first = n;
    is = subst (λ (w : read.Stmt). IsExpression w x.anchor n e) (sym is) (subst (λ (b : Anchor). IsExpression u b n e) (sym anchor) at);
    fault = inl fault;
  }

  -- .. and of an assignment, whose value may not fit
  pub own_of_assigned : (s : read.Stmt) (v : Name) (e : Expr) (o : Option Placed) → s ≡ read.Assign v e → IfSome o (λ x. x.anchor ≡ Beginning)
      → IfSome o (λ x. FaultIn vars r e 2 x.operation ⊎ IsUnfit vars r e 2 x.operation) → IfSome o (HasOwn vars r s)
  own_of_assigned s v e None is anchor fault = tt
  own_of_assigned s v e (Some x) is anchor fault = record {
    expression = e;
    first = 2;
    is = subst (λ (w : read.Stmt). IsExpression w x.anchor 2 e) (sym is) (subst (λ (b : Anchor). IsExpression (read.Assign v e) b 2 e) (sym anchor) (spec.assigned v e));
    fault = elim fault [ inl f ↦ inl f | inr u ↦ inr (v, is, u) ];
  }

  pub own_of_if : (s : read.Stmt) (cs cs' : List Choice) (others : List read.Stmt) (o : Option Placed) → s ≡ read.If cs others → cs' ≡ cs → IfSome o (IsOfChoices vars r cs') → IfSome o (HasOwn vars r s)
  own_of_if s cs cs' others o is same h =
      if_some_map (IsOfChoices vars r cs') (HasOwn vars r s) o
      (λ x found.
      let y : IsOfChoices vars r cs x = subst (λ (l : List Choice). IsOfChoices vars r l x) same found in
      record {
        expression = (out-Choice y.choice).condition;
        first = 1;
        is = subst (λ (w : read.Stmt). IsExpression w x.anchor 1 (out-Choice y.choice).condition) (sym is)
            (subst (λ (b : Anchor). IsExpression (read.If cs others) b 1 (out-Choice y.choice).condition) (sym y.anchor) (spec.condition cs others y.index y.choice y.at));
        fault = inl y.fault;
      })
      h

-- all of a list is taken
pub all_taken : {A : Type 0} (xs : List A) (i : ℕ) → length xs ≤ i → take i xs ≡ xs
all_taken [] zero h = refl
all_taken [] (suc i) h = refl
all_taken (x ∷ xs) zero h = absurd (omega arith)
all_taken (x ∷ xs) (suc i) h = ap (λ l. x ∷ l) (all_taken xs i (omega arith))
