-- Where no operation is answered, no expression of the statement of the number lacks a value for the reason.
use Rattle.fb_types.proofs.Common.{◌≡◌, ◌∙◌, ◌<◌, ◌≤◌, ◌⊎◌, inl, inr, ℕ, max, min, arith, List, Option, Some, IfNone, take, length, refl, sym, ap, subst, ◌-◌, ◌^◌, slice_get, slice_get_within, Name, Stmts, stmt_of, Values}
use Rattle.fb_types.specs.declared.text.Branch.{Branch, out-Branch}
use Rattle.fb_types.specs.declared.text.Choice.{Choice, out-Choice}
use Rattle.fb_types.specs.declared.text.Expr.{Expr}
use Rattle.fb_types.specs.declared.text.Label.{Label}
use Rattle.fb_types.specs.declared.text.Stmt.TheOpen.{Stmt-F}
use Rattle.fb_types.specs.declared.value.Reason.{Reason}
use Rattle.fb_types.specs.Syntax.{Expr as Said}
use Rattle.fb_types.specs.declared.text.Stmt as read
use Rattle.fb_types.specs.declared.text.Stmt.TheVariants as variants
use Rattle.fb_types.specs.declared.text.Stmt.TheViews.{out-Stmt, out-roll-Stmt}
use Rattle.fb_st.specs.Flows.{all_of, branch_of, branches_of, choice_of, choices_of}
use Rattle.fb_st.proofs.lemmas.Runs.{branch_says, choice_says}
use Rattle.fb_stop.specs.Numbers.{IsReached, next, after, after_all, after_branches, after_choices}
use Rattle.fb_stop.specs.Operations.{IsOtherwise}
use Rattle.fb_stop.specs.Statements.{AreBranchesOtherwise, AreChoicesOtherwise, IsAmong, IsExpression, IsInside, IsListOtherwise, IsNumbered, IsOfCase, IsOfIf, IsOwnOtherwise, IsStatementOtherwise}
use Rattle.fb_stop.specs.Statements as spec
use Rattle.fb_stop.specs.declared.statement.Anchor.{Anchor}
use Rattle.fb_stop.specs.declared.statement.Placed.{Placed}
use Rattle.fb_stop.proofs.lemmas.numbers.NumbersAlone.{all_before, all_rise, among_parts, among_within, branches_before, branches_rise, choices_before, choices_rise, inside_within, numbered_parts, numbered_within, one_place, only, passed}
use Rattle.fb_stop.proofs.lemmas.operations.FirstWithoutValue.{if_none_map}
use Rattle.fb_stop.proofs.lemmas.operations.OperationPlaces.{all_taken}

-- ---- What is in a statement, by what it is made of

pub layer_if : (cs : List Choice) (others : List read.Stmt) → out-Stmt (read.If cs others) ≡ Stmt-F.If cs others
layer_if cs others = ap out-Stmt (sym (variants.rolls-If cs others)) ∙ out-roll-Stmt (Stmt-F.If cs others)

pub layer_assign : (v : Name) (e : Expr) → out-Stmt (read.Assign v e) ≡ Stmt-F.Assign v e
layer_assign v e = ap out-Stmt (sym (variants.rolls-Assign v e)) ∙ out-roll-Stmt (Stmt-F.Assign v e)

layer_empty : out-Stmt read.Empty ≡ Stmt-F.Empty
layer_empty = ap out-Stmt (sym variants.rolls-Empty) ∙ out-roll-Stmt Stmt-F.Empty

layer_exit : out-Stmt read.Exit ≡ Stmt-F.Exit
layer_exit = ap out-Stmt (sym variants.rolls-Exit) ∙ out-roll-Stmt Stmt-F.Exit

layer_return : out-Stmt read.Return ≡ Stmt-F.Return
layer_return = ap out-Stmt (sym variants.rolls-Return) ∙ out-roll-Stmt Stmt-F.Return

pub layer_case : (e : Expr) (bs : List Branch) (others : List read.Stmt) → out-Stmt (read.Case e bs others) ≡ Stmt-F.Case e bs others
layer_case e bs others = ap out-Stmt (sym (variants.rolls-Case e bs others)) ∙ out-roll-Stmt (Stmt-F.Case e bs others)

pub layer_for : (v : Name) (a b : Expr) (c : Option Expr) (body : List read.Stmt) → out-Stmt (read.For v a b c body) ≡ Stmt-F.For v a b c body
layer_for v a b c body = ap out-Stmt (sym (variants.rolls-For v a b c body)) ∙ out-roll-Stmt (Stmt-F.For v a b c body)

pub layer_while : (c : Expr) (body : List read.Stmt) → out-Stmt (read.While c body) ≡ Stmt-F.While c body
layer_while c body = ap out-Stmt (sym (variants.rolls-While c body)) ∙ out-roll-Stmt (Stmt-F.While c body)

pub layer_repeat : (body : List read.Stmt) (c : Expr) → out-Stmt (read.Repeat body c) ≡ Stmt-F.Repeat body c
layer_repeat body c = ap out-Stmt (sym (variants.rolls-Repeat body c)) ∙ out-roll-Stmt (Stmt-F.Repeat body c)

-- what holds of each expression of a statement itself
abbrev pub each_own : (Expr → Type 0) → Stmt-F read.Stmt Branch Choice → Type 0
each_own P Stmt-F.Empty = Unit {0}
each_own P Stmt-F.Exit = Unit {0}
each_own P Stmt-F.Return = Unit {0}
each_own P (Stmt-F.Assign v e) = P e
each_own P (Stmt-F.If cs others) = (k : ℕ) (c : Choice) → slice_get cs k ≡ Some c → P (out-Choice c).condition
each_own P (Stmt-F.Case e bs others) = P e
each_own P (Stmt-F.For v a b c body) = P a × P b × ((e : Expr) → c ≡ Some e → P e)
each_own P (Stmt-F.While c body) = P c
each_own P (Stmt-F.Repeat body c) = P c

own_by_layer : (P : Expr → Type 0) (s : read.Stmt) (a : Anchor) (n : ℕ) (e : Expr) → IsExpression s a n e → each_own P (out-Stmt s) → P e
own_by_layer P s a n e (spec.assigned v x) each = subst (each_own P) (layer_assign v x) each
own_by_layer P s a n e (spec.condition cs others k c there) each = (subst (each_own P) (layer_if cs others) each) k c there
own_by_layer P s a n e (spec.selector x bs others) each = subst (each_own P) (layer_case x bs others) each
own_by_layer P s a n e (spec.start v x y z body) each = (subst (each_own P) (layer_for v x y z body) each).0
own_by_layer P s a n e (spec.end v x y z body) each = (subst (each_own P) (layer_for v x y z body) each).1
own_by_layer P s a n e (spec.step v x y z body) each = (subst (each_own P) (layer_for v x y (Some z) body) each).2 z refl
own_by_layer P s a n e (spec.while c body) each = subst (each_own P) (layer_while c body) each
own_by_layer P s a n e (spec.until body c) each = subst (each_own P) (layer_repeat body c) each

-- what holds of the statements inside a statement of a number, and the number of the first of them
abbrev pub each_inside : (List read.Stmt → ℕ → Type 0) → ℕ → Stmt-F read.Stmt Branch Choice → Type 0
each_inside P n Stmt-F.Empty = Unit {0}
each_inside P n Stmt-F.Exit = Unit {0}
each_inside P n Stmt-F.Return = Unit {0}
each_inside P n (Stmt-F.Assign v e) = Unit {0}
each_inside P n (Stmt-F.If cs others) = (body : List read.Stmt) (m : ℕ) → IsOfIf cs others (next n) body m → P body m
each_inside P n (Stmt-F.Case e bs others) = (body : List read.Stmt) (m : ℕ) → IsOfCase bs others (next n) body m → P body m
each_inside P n (Stmt-F.For v a b c body) = P body (next n)
each_inside P n (Stmt-F.While c body) = P body (next n)
each_inside P n (Stmt-F.Repeat body c) = P body (next n)

inside_by_layer : (P : List read.Stmt → ℕ → Type 0) (s : read.Stmt) (n : ℕ) (body : List read.Stmt) (m : ℕ) → IsInside s n body m → each_inside P n (out-Stmt s) → P body m
inside_by_layer P s n body m (spec.in_if cs others k b j of) each = (subst (each_inside P k) (layer_if cs others) each) b j of
inside_by_layer P s n body m (spec.in_case e bs others k b j of) each = (subst (each_inside P k) (layer_case e bs others) each) b j of
inside_by_layer P s n body m (spec.in_for v x y z b k) each = subst (each_inside P k) (layer_for v x y z b) each
inside_by_layer P s n body m (spec.in_while c b k) each = subst (each_inside P k) (layer_while c b) each
inside_by_layer P s n body m (spec.in_repeat b c k) each = subst (each_inside P k) (layer_repeat b c) each

-- ---- The statement itself

pub own_otherwise : (vars : Values) (r : Reason) (s : read.Stmt) (l : Stmt-F read.Stmt Branch Choice) → out-Stmt s ≡ l → each_own (IsOtherwise vars r) l → IsOwnOtherwise vars r s
own_otherwise vars r s l is each a n e at = own_by_layer (IsOtherwise vars r) s a n e at (subst (each_own (IsOtherwise vars r)) (sym is) each)

module _ (vars : Values) (r : Reason) (number : ℕ) where
  pub itself_otherwise : (s : read.Stmt) (at : ℕ) (o : Option Placed) → number ≡ at → IfNone o (IsOwnOtherwise vars r s) → IfNone o (IsStatementOtherwise vars r s at number)
  itself_otherwise s at o same h = if_none_map o (λ own reached t numbered. go own reached t (numbered_parts s at t number numbered)) h
    where
      go : IsOwnOtherwise vars r s → IsReached number → (t : read.Stmt) → ((t ≡ s) × (number ≡ at)) ⊎ ((body : List read.Stmt) × (m : ℕ) × IsInside s at body m × IsAmong body m t number) → IsOwnOtherwise vars r t
      go own reached t (inl p) = subst (IsOwnOtherwise vars r) (sym p.0) own
      go own reached t (inr q) =
          let w = inside_within s at q.0 q.1 q.2 in
          let h = among_within q.0 q.1 t number q.3 reached in
          absurd (omega (arith, w.0, h.0))

  -- ---- .. and what is inside

  abbrev pub ListNone : List read.Stmt → ℕ → Type 0
  ListNone body m = IsListOtherwise vars r body m number

  pub inside_otherwise : (s : read.Stmt) (at : ℕ) (l : Stmt-F read.Stmt Branch Choice) → out-Stmt s ≡ l → (number ≡ at → ⊥) → each_inside ListNone at l → IsStatementOtherwise vars r s at number
  inside_otherwise s at l is other each reached t numbered = go (numbered_parts s at t number numbered)
    where
      go : ((t ≡ s) × (number ≡ at)) ⊎ ((body : List read.Stmt) × (m : ℕ) × IsInside s at body m × IsAmong body m t number) → IsOwnOtherwise vars r t
      go (inl p) = absurd (other p.1)
      go (inr q) = inside_by_layer ListNone s at q.0 q.1 q.2 (subst (each_inside ListNone at) (sym is) each) reached t q.3

  -- a statement that holds no statements
  pub leaf_otherwise : (s : read.Stmt) (at : ℕ) → (s ≡ read.Empty) ⊎ ((s ≡ read.Exit) ⊎ ((s ≡ read.Return) ⊎ ((v : Name) × (e : Expr) × (s ≡ read.Assign v e)))) → (number ≡ at → ⊥) → IsStatementOtherwise vars r s at number
  leaf_otherwise s at (inl is) other = inside_otherwise s at Stmt-F.Empty (ap out-Stmt is ∙ layer_empty) other tt
  leaf_otherwise s at (inr (inl is)) other = inside_otherwise s at Stmt-F.Exit (ap out-Stmt is ∙ layer_exit) other tt
  leaf_otherwise s at (inr (inr (inl is))) other = inside_otherwise s at Stmt-F.Return (ap out-Stmt is ∙ layer_return) other tt
  leaf_otherwise s at (inr (inr (inr a))) other = inside_otherwise s at (Stmt-F.Assign a.0 a.1) (ap out-Stmt a.2 ∙ layer_assign a.0 a.1) other tt

  pub if_otherwise : (s : read.Stmt) (at k : ℕ) (cs cs' : List Choice) (others others' : List read.Stmt) (o : Option Placed) → s ≡ read.If cs others → cs' ≡ cs → others' ≡ others → k ≡ next at → (number ≡ at → ⊥)
      → IfNone o (AreChoicesOtherwise vars r cs' others' k number) → IfNone o (IsStatementOtherwise vars r s at number)
  if_otherwise s at k cs cs' others others' o is same_choices same_others counted other h =
      if_none_map o (λ none.
      inside_otherwise s at (Stmt-F.If cs others) (ap out-Stmt is ∙ layer_if cs others) other
      (subst (λ (l : List Choice). AreChoicesOtherwise vars r l others (next at) number) same_choices
      (subst (λ (l : List read.Stmt). AreChoicesOtherwise vars r cs' l (next at) number) same_others
      (subst (λ (j : ℕ). AreChoicesOtherwise vars r cs' others' j number) counted none))))
      h

  pub case_otherwise : (s : read.Stmt) (at k : ℕ) (e : Expr) (bs bs' : List Branch) (others others' : List read.Stmt) (o : Option Placed) → s ≡ read.Case e bs others → bs' ≡ bs → others' ≡ others → k ≡ next at
      → (number ≡ at → ⊥) → IfNone o (AreBranchesOtherwise vars r bs' others' k number) → IfNone o (IsStatementOtherwise vars r s at number)
  case_otherwise s at k e bs bs' others others' o is same_branches same_others counted other h =
      if_none_map o (λ none.
      inside_otherwise s at (Stmt-F.Case e bs others) (ap out-Stmt is ∙ layer_case e bs others) other
      (subst (λ (l : List Branch). AreBranchesOtherwise vars r l others (next at) number) same_branches
      (subst (λ (l : List read.Stmt). AreBranchesOtherwise vars r bs' l (next at) number) same_others
      (subst (λ (j : ℕ). AreBranchesOtherwise vars r bs' others' j number) counted none))))
      h

  pub loop_otherwise : (s : read.Stmt) (l : Stmt-F read.Stmt Branch Choice) (at k : ℕ) (body body' : List read.Stmt) (o : Option Placed) → out-Stmt s ≡ l → (ListNone body (next at) → each_inside ListNone at l)
      → body' ≡ body → k ≡ next at → (number ≡ at → ⊥) → IfNone o (IsListOtherwise vars r body' k number) → IfNone o (IsStatementOtherwise vars r s at number)
  loop_otherwise s l at k body body' o is of same counted other h =
      if_none_map o (λ none.
      inside_otherwise s at l is other
      (of (subst (λ (z : List read.Stmt). IsListOtherwise vars r z (next at) number) same (subst (λ (j : ℕ). IsListOtherwise vars r body' j number) counted none))))
      h

  -- ---- Statements, one after the other

  pub list_otherwise : (ss : List read.Stmt) (first at i : ℕ) (s : read.Stmt) → slice_get ss i ≡ Some s → at ≡ after_all (all_of (take i ss)) first → at ≤ max first number → number < after (stmt_of s) at
      → IsStatementOtherwise vars r s at number → IsListOtherwise vars r ss first number
  list_otherwise ss first at i s here counted begun below none reached t found =
      let p = among_parts ss first t number found in
      let from : ℕ = after_all (all_of (take i ss)) first in
      let from' : ℕ = after_all (all_of (take p.0 ss)) first in
      let w = numbered_within p.1 from' t number p.3 reached in
      let same : p.0 ≡ i =
      only i p.0 first number from from' (after (stmt_of s) from) (after (stmt_of p.1) from') (λ h. all_before ss p.0 i first p.1 h p.2) (λ h. all_before ss i p.0 first s h here) (all_rise (all_of (take p.0 ss)) first)
      reached (subst (λ (m : ℕ). m ≤ max first number) counted begun) (subst (λ (m : ℕ). number < after (stmt_of s) m) counted below) w.0 w.1 in
      none reached t
      (subst (λ (m : ℕ). IsNumbered s m t number) (ap (λ (j : ℕ). after_all (all_of (take j ss)) first) same ∙ sym counted)
      (subst (λ (z : read.Stmt). IsNumbered z from' t number) (one_place ss i p.0 s p.1 p.2 same here) p.3))

  pub list_passed : (ss : List read.Stmt) (first at i : ℕ) → length ss ≤ i → at ≡ after_all (all_of (take i ss)) first → at ≤ max first number → IsListOtherwise vars r ss first number
  list_passed ss first at i over counted begun reached t found =
      let p = among_parts ss first t number found in
      let from' : ℕ = after_all (all_of (take p.0 ss)) first in
      let w = numbered_within p.1 from' t number p.3 reached in
      let within : p.0 < length ss = slice_get_within ss p.0 p.1 p.2 in
      absurd (passed first number (after_all (all_of (take i ss)) first) from' (after (stmt_of p.1) from') (all_before ss p.0 i first p.1 (omega arith) p.2) (all_rise (all_of (take p.0 ss)) first) reached
      (subst (λ (m : ℕ). m ≤ max first number) counted begun) w.0 w.1)

  -- ---- IF

  -- the end of the statements of a condition, as the numbers of a list have it
  choice_end : (c : Choice) (m : ℕ) → after_all (all_of (out-Choice c).body) m ≡ after_all (choice_of c).1 m
  choice_end c m = sym (ap (λ (x : Said × Stmts). after_all x.1 m) (choice_says c))

  pub choice_otherwise : (cs : List Choice) (others : List read.Stmt) (first at i : ℕ) (c : Choice) (body : List read.Stmt) → slice_get cs i ≡ Some c → body ≡ (out-Choice c).body → at ≡ after_choices (choices_of (take i cs)) first
      → at ≤ max first number → number < after_all (all_of body) at → IsListOtherwise vars r body at number → AreChoicesOtherwise vars r cs others first number
  choice_otherwise cs others first at i c body here same counted begun below none b j of reached t found = go b j of found
    where
      begun' : (after_choices (choices_of (take i cs)) first) ≤ max first number
      begun' = subst (λ (m : ℕ). m ≤ max first number) counted begun

      below' : number < after_all (choice_of c).1 (after_choices (choices_of (take i cs)) first)
      below' =
          subst (λ (m : ℕ). number < m) (ap (λ (m : ℕ). after_all (all_of body) m) counted ∙ ap (λ (l : List read.Stmt). after_all (all_of l) (after_choices (choices_of (take i cs)) first)) same
          ∙ choice_end c (after_choices (choices_of (take i cs)) first)) below

      go : (b : List read.Stmt) (j : ℕ) → IsOfIf cs others first b j → IsAmong b j t number → IsOwnOtherwise vars r t
      go b j (spec.of_condition k e there) found =
          let from' : ℕ = after_choices (choices_of (take k cs)) first in
          let w = among_within (out-Choice e).body from' t number found reached in
          let index : k ≡ i =
          only i k first number (after_choices (choices_of (take i cs)) first) from' (after_all (choice_of c).1 (after_choices (choices_of (take i cs)) first)) (after_all (choice_of e).1 from') (λ h. choices_before cs k i first e h there) (λ h. choices_before cs i k first c h here)
          (choices_rise (choices_of (take k cs)) first) reached begun' below' w.0 (subst (λ (m : ℕ). number < m) (choice_end e from') w.1) in
          none reached t
          (subst (λ (l : List read.Stmt). IsAmong l at t number) (ap (λ (x : Choice). (out-Choice x).body) (one_place cs i k c e there index here) ∙ sym same)
          (subst (λ (m : ℕ). IsAmong (out-Choice e).body m t number) (ap (λ (z : ℕ). after_choices (choices_of (take z cs)) first) index ∙ sym counted) found))
      go b j spec.of_else found =
          let w = among_within others (after_choices (choices_of cs) first) t number found reached in
          let upto : min (after_all (choice_of c).1 (after_choices (choices_of (take i cs)) first)) (2 ^ 64 - 1) ≤ after_choices (choices_of (take (length cs) cs)) first = choices_before cs i (length cs) first c (slice_get_within cs i c here) here in
          let whole = ap (λ (l : List Choice). after_choices (choices_of l) first) (all_taken cs (length cs) (omega arith)) in
          absurd (omega (arith, w.0, upto, whole, below', reached))

  pub else_otherwise : (cs : List Choice) (others : List read.Stmt) (first at i : ℕ) → length cs ≤ i → at ≡ after_choices (choices_of (take i cs)) first → at ≤ max first number
      → IsListOtherwise vars r others at number → AreChoicesOtherwise vars r cs others first number
  else_otherwise cs others first at i over counted begun none b j (spec.of_condition k e there) reached t found =
      let from' : ℕ = after_choices (choices_of (take k cs)) first in
      let w = among_within (out-Choice e).body from' t number found reached in
      let within : k < length cs = slice_get_within cs k e there in
      absurd (passed first number (after_choices (choices_of (take i cs)) first) from' (after_all (choice_of e).1 from') (choices_before cs k i first e (omega arith) there) (choices_rise (choices_of (take k cs)) first) reached
      (subst (λ (m : ℕ). m ≤ max first number) counted begun) w.0 (subst (λ (m : ℕ). number < m) (choice_end e from') w.1))
  else_otherwise cs others first at i over counted begun none b j spec.of_else reached t found =
      none reached t (subst (λ (m : ℕ). IsAmong others m t number) (sym (counted ∙ ap (λ (l : List Choice). after_choices (choices_of l) first) (all_taken cs i over))) found)

  -- ---- CASE

  -- the end of the statements of a label, as the numbers of a list have it
  branch_end : (c : Branch) (m : ℕ) → after_all (all_of (out-Branch c).body) m ≡ after_all (branch_of c).1 m
  branch_end c m = sym (ap (λ (x : List Label × Stmts). after_all x.1 m) (branch_says c))

  pub branch_otherwise : (bs : List Branch) (others : List read.Stmt) (first at i : ℕ) (c : Branch) (body : List read.Stmt) → slice_get bs i ≡ Some c → body ≡ (out-Branch c).body → at ≡ after_branches (branches_of (take i bs)) first
      → at ≤ max first number → number < after_all (all_of body) at → IsListOtherwise vars r body at number → AreBranchesOtherwise vars r bs others first number
  branch_otherwise bs others first at i c body here same counted begun below none d j of reached t found = go d j of found
    where
      begun' : (after_branches (branches_of (take i bs)) first) ≤ max first number
      begun' = subst (λ (m : ℕ). m ≤ max first number) counted begun

      below' : number < after_all (branch_of c).1 (after_branches (branches_of (take i bs)) first)
      below' =
          subst (λ (m : ℕ). number < m) (ap (λ (m : ℕ). after_all (all_of body) m) counted ∙ ap (λ (l : List read.Stmt). after_all (all_of l) (after_branches (branches_of (take i bs)) first)) same
          ∙ branch_end c (after_branches (branches_of (take i bs)) first)) below

      go : (d : List read.Stmt) (j : ℕ) → IsOfCase bs others first d j → IsAmong d j t number → IsOwnOtherwise vars r t
      go d j (spec.of_label k e there) found =
          let from' : ℕ = after_branches (branches_of (take k bs)) first in
          let w = among_within (out-Branch e).body from' t number found reached in
          let index : k ≡ i =
          only i k first number (after_branches (branches_of (take i bs)) first) from' (after_all (branch_of c).1 (after_branches (branches_of (take i bs)) first)) (after_all (branch_of e).1 from') (λ h. branches_before bs k i first e h there) (λ h. branches_before bs i k first c h here)
          (branches_rise (branches_of (take k bs)) first) reached begun' below' w.0 (subst (λ (m : ℕ). number < m) (branch_end e from') w.1) in
          none reached t
          (subst (λ (l : List read.Stmt). IsAmong l at t number) (ap (λ (x : Branch). (out-Branch x).body) (one_place bs i k c e there index here) ∙ sym same)
          (subst (λ (m : ℕ). IsAmong (out-Branch e).body m t number) (ap (λ (z : ℕ). after_branches (branches_of (take z bs)) first) index ∙ sym counted) found))
      go d j spec.of_no_label found =
          let w = among_within others (after_branches (branches_of bs) first) t number found reached in
          let upto : min (after_all (branch_of c).1 (after_branches (branches_of (take i bs)) first)) (2 ^ 64 - 1) ≤ after_branches (branches_of (take (length bs) bs)) first = branches_before bs i (length bs) first c (slice_get_within bs i c here) here in
          let whole = ap (λ (l : List Branch). after_branches (branches_of l) first) (all_taken bs (length bs) (omega arith)) in
          absurd (omega (arith, w.0, upto, whole, below', reached))

  pub no_label_otherwise : (bs : List Branch) (others : List read.Stmt) (first at i : ℕ) → length bs ≤ i → at ≡ after_branches (branches_of (take i bs)) first → at ≤ max first number
      → IsListOtherwise vars r others at number → AreBranchesOtherwise vars r bs others first number
  no_label_otherwise bs others first at i over counted begun none d j (spec.of_label k e there) reached t found =
      let from' : ℕ = after_branches (branches_of (take k bs)) first in
      let w = among_within (out-Branch e).body from' t number found reached in
      let within : k < length bs = slice_get_within bs k e there in
      absurd (passed first number (after_branches (branches_of (take i bs)) first) from' (after_all (branch_of e).1 from') (branches_before bs k i first e (omega arith) there) (branches_rise (branches_of (take k bs)) first) reached
      (subst (λ (m : ℕ). m ≤ max first number) counted begun) w.0 (subst (λ (m : ℕ). number < m) (branch_end e from') w.1))
  no_label_otherwise bs others first at i over counted begun none d j spec.of_no_label reached t found =
      none reached t (subst (λ (m : ℕ). IsAmong others m t number) (sym (counted ∙ ap (λ (l : List Branch). after_branches (branches_of l) first) (all_taken bs i over))) found)
