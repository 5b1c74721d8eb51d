-- A number that a text reaches is that of one statement alone: numbers rise from statement to statement.
use Rattle.fb_types.proofs.Common.{◌≡◌, ◌∙◌, ◌∷◌, ◌<◌, ◌≤◌, ◌⊎◌, inl, inr, [], ℕ, zero, suc, min, max, arith, List, Some, take, length, refl, sym, ap, subst, ◌-◌, ◌^◌, slice_get, slice_get_within, Stmt, Empty, Exit, Return, Assign, If, Case, For, While, Repeat, Stmts, no_stmt, then_stmts, Choices, no_choice, then_choices, Branches, no_branch, then_branches, stmt_of}
use Rattle.fb_types.specs.declared.text.Branch.{Branch}
use Rattle.fb_types.specs.declared.text.Choice.{Choice}
use Rattle.fb_types.specs.declared.text.Label.{Label}
use Rattle.fb_types.specs.Syntax.{Expr as Said}
use Rattle.fb_types.specs.declared.text.Stmt as read
use Rattle.fb_st.specs.Flows.{all_of, branch_of, branches_of, choice_of, choices_of}
use Rattle.fb_st.proofs.lemmas.Runs.{branch_says, case_says, choice_says, for_says, if_says, repeat_says, while_says}
use Rattle.fb_stop.specs.Numbers.{IsReached, next, after, after_all, after_branches, after_choices}
use Rattle.fb_stop.specs.Statements.{IsAmong, IsInside, IsNumbered, IsOfCase, IsOfIf}
use Rattle.fb_stop.specs.Statements as spec
use Rattle.fb_stop.proofs.lemmas.operations.OperationPlaces.{all_taken}

-- ---- Numbers rise

mutual
  statement_rises : (s : Stmt) (n : ℕ) → next n ≤ after s n
  statement_rises Empty n = omega arith
  statement_rises Exit n = omega arith
  statement_rises Return n = omega arith
  statement_rises (Assign v x) n = omega arith
  statement_rises (If choices others) n = omega (arith, choices_rise choices (next n), all_rise others (after_choices choices (next n)))
  statement_rises (Case x branches others) n = omega (arith, branches_rise branches (next n), all_rise others (after_branches branches (next n)))
  statement_rises (For v a b c body) n = omega (arith, all_rise body (next n))
  statement_rises (While c body) n = omega (arith, all_rise body (next n))
  statement_rises (Repeat body c) n = omega (arith, all_rise body (next n))

  pub all_rise : (ss : Stmts) (n : ℕ) → min n (2 ^ 64 - 1) ≤ after_all ss n
  all_rise no_stmt n = omega arith
  all_rise (then_stmts s rest) n = omega (arith, statement_rises s n, all_rise rest (after s n))

  pub choices_rise : (cs : Choices) (n : ℕ) → min n (2 ^ 64 - 1) ≤ after_choices cs n
  choices_rise no_choice n = omega arith
  choices_rise (then_choices c body rest) n = omega (arith, all_rise body n, choices_rise rest (after_all body n))

  pub branches_rise : (bs : Branches) (n : ℕ) → min n (2 ^ 64 - 1) ≤ after_branches bs n
  branches_rise no_branch n = omega arith
  branches_rise (then_branches labels body rest) n = omega (arith, all_rise body n, branches_rise rest (after_all body n))

-- what is numbered before a place of a list
pub all_before : (ss : List read.Stmt) (j i n : ℕ) (s : read.Stmt) → j < i → slice_get ss j ≡ Some s
    → min (after (stmt_of s) (after_all (all_of (take j ss)) n)) (2 ^ 64 - 1) ≤ after_all (all_of (take i ss)) n
all_before [] j i n s lower at = absurd (cc)
all_before (x ∷ ss) j zero n s lower at = absurd (omega arith)
all_before (x ∷ ss) zero (suc i) n s lower at =
    let same : x ≡ s = cc in
    subst (λ (z : read.Stmt). min (after (stmt_of z) n) (2 ^ 64 - 1) ≤ after_all (all_of (take i ss)) (after (stmt_of x) n)) same (all_rise (all_of (take i ss)) (after (stmt_of x) n))
all_before (x ∷ ss) (suc j) (suc i) n s lower at = all_before ss j i (after (stmt_of x) n) s (omega arith) at

pub choices_before : (cs : List Choice) (j i n : ℕ) (c : Choice) → j < i → slice_get cs j ≡ Some c
    → min (after_all (choice_of c).1 (after_choices (choices_of (take j cs)) n)) (2 ^ 64 - 1) ≤ after_choices (choices_of (take i cs)) n
choices_before [] j i n c lower at = absurd (cc)
choices_before (x ∷ cs) j zero n c lower at = absurd (omega arith)
choices_before (x ∷ cs) zero (suc i) n c lower at =
    let same : x ≡ c = cc in
    subst (λ (z : Choice). min (after_all (choice_of z).1 n) (2 ^ 64 - 1) ≤ after_choices (choices_of (take i cs)) (after_all (choice_of x).1 n)) same (choices_rise (choices_of (take i cs)) (after_all (choice_of x).1 n))
choices_before (x ∷ cs) (suc j) (suc i) n c lower at = choices_before cs j i (after_all (choice_of x).1 n) c (omega arith) at

pub branches_before : (bs : List Branch) (j i n : ℕ) (b : Branch) → j < i → slice_get bs j ≡ Some b
    → min (after_all (branch_of b).1 (after_branches (branches_of (take j bs)) n)) (2 ^ 64 - 1) ≤ after_branches (branches_of (take i bs)) n
branches_before [] j i n b lower at = absurd (cc)
branches_before (x ∷ bs) j zero n b lower at = absurd (omega arith)
branches_before (x ∷ bs) zero (suc i) n b lower at =
    let same : x ≡ b = cc in
    subst (λ (z : Branch). min (after_all (branch_of z).1 n) (2 ^ 64 - 1) ≤ after_branches (branches_of (take i bs)) (after_all (branch_of x).1 n)) same (branches_rise (branches_of (take i bs)) (after_all (branch_of x).1 n))
branches_before (x ∷ bs) (suc j) (suc i) n b lower at = branches_before bs j i (after_all (branch_of x).1 n) b (omega arith) at

-- ---- The numbers of what is inside

if_within : (cs : List Choice) (others : List read.Stmt) (n : ℕ) (body : List read.Stmt) (m : ℕ) → IsOfIf cs others n body m
    → (min n (2 ^ 64 - 1) ≤ m) × (min (after_all (all_of body) m) (2 ^ 64 - 1) ≤ after_all (all_of others) (after_choices (choices_of cs) n))
if_within cs others n body m (spec.of_condition k c there) =
    let from : ℕ = after_choices (choices_of (take k cs)) n in
    let upto : min (after_all (choice_of c).1 from) (2 ^ 64 - 1) ≤ after_choices (choices_of (take (length cs) cs)) n = choices_before cs k (length cs) n c (slice_get_within cs k c there) there in
    let whole = ap (λ (l : List Choice). after_choices (choices_of l) n) (all_taken cs (length cs) (omega arith)) in
    let own = ap (λ (x : Said × Stmts). after_all x.1 from) (choice_says c) in
    let others_rise = all_rise (all_of others) (after_choices (choices_of cs) n) in
    (choices_rise (choices_of (take k cs)) n, omega arith)
if_within cs others n body m spec.of_else = (choices_rise (choices_of cs) n, omega arith)

case_within : (bs : List Branch) (others : List read.Stmt) (n : ℕ) (body : List read.Stmt) (m : ℕ) → IsOfCase bs others n body m
    → (min n (2 ^ 64 - 1) ≤ m) × (min (after_all (all_of body) m) (2 ^ 64 - 1) ≤ after_all (all_of others) (after_branches (branches_of bs) n))
case_within bs others n body m (spec.of_label k b there) =
    let from : ℕ = after_branches (branches_of (take k bs)) n in
    let upto : min (after_all (branch_of b).1 from) (2 ^ 64 - 1) ≤ after_branches (branches_of (take (length bs) bs)) n = branches_before bs k (length bs) n b (slice_get_within bs k b there) there in
    let whole = ap (λ (l : List Branch). after_branches (branches_of l) n) (all_taken bs (length bs) (omega arith)) in
    let own = ap (λ (x : List Label × Stmts). after_all x.1 from) (branch_says b) in
    let others_rise = all_rise (all_of others) (after_branches (branches_of bs) n) in
    (branches_rise (branches_of (take k bs)) n, omega arith)
case_within bs others n body m spec.of_no_label = (branches_rise (branches_of bs) n, omega arith)

pub inside_within : (s : read.Stmt) (n : ℕ) (body : List read.Stmt) (m : ℕ) → IsInside s n body m → (next n ≤ m) × (min (after_all (all_of body) m) (2 ^ 64 - 1) ≤ after (stmt_of s) n)
inside_within s n body m (spec.in_if cs others k b j of) =
    let w = if_within cs others (next k) b j of in
    let says : after (stmt_of (read.If cs others)) k ≡ after_all (all_of others) (after_choices (choices_of cs) (next k)) = ap (λ z. after z k) (if_says cs others) in
    (omega (arith, w.0), omega (arith, w.1, says))
inside_within s n body m (spec.in_case e bs others k b j of) =
    let w = case_within bs others (next k) b j of in
    let says : after (stmt_of (read.Case e bs others)) k ≡ after_all (all_of others) (after_branches (branches_of bs) (next k)) = ap (λ z. after z k) (case_says e bs others) in
    (omega (arith, w.0), omega (arith, w.1, says))
inside_within s n body m (spec.in_for v a c d b k) =
    let says : after (stmt_of (read.For v a c d b)) k ≡ after_all (all_of b) (next k) = ap (λ z. after z k) (for_says v a c d b) in
    (omega arith, omega (arith, says))
inside_within s n body m (spec.in_while c b k) =
    let says : after (stmt_of (read.While c b)) k ≡ after_all (all_of b) (next k) = ap (λ z. after z k) (while_says c b) in
    (omega arith, omega (arith, says))
inside_within s n body m (spec.in_repeat b c k) =
    let says : after (stmt_of (read.Repeat b c)) k ≡ after_all (all_of b) (next k) = ap (λ z. after z k) (repeat_says b c) in
    (omega arith, omega (arith, says))

mutual
  pub numbered_within : (s : read.Stmt) (n : ℕ) (t : read.Stmt) (k : ℕ) → IsNumbered s n t k → IsReached k → (n ≤ k) × (k < after (stmt_of s) n)
  numbered_within s n t k (spec.itself u m) reached = (omega arith, omega (arith, statement_rises (stmt_of u) m))
  numbered_within s n t k (spec.inside u m body from v l inside there) reached =
      let w = inside_within u m body from inside in
      let h = among_within body from v l there reached in
      (omega (arith, w.0, h.0), omega (arith, w.1, h.1))

  pub among_within : (ss : List read.Stmt) (n : ℕ) (t : read.Stmt) (k : ℕ) → IsAmong ss n t k → IsReached k → (n ≤ k) × (k < after_all (all_of ss) n)
  among_within ss n t k (spec.among xs m i s u l there numbered) reached =
      let h = numbered_within s (after_all (all_of (take i xs)) m) u l numbered reached in
      let upto = all_before xs i (length xs) m s (slice_get_within xs i s there) there in
      let whole = ap (λ (z : List read.Stmt). after_all (all_of z) m) (all_taken xs (length xs) (omega arith)) in
      let from = all_rise (all_of (take i xs)) m in
      (omega (arith, h.0, from), omega (arith, h.1, upto, whole))

-- ---- One place alone

order : (j i : ℕ) → (j < i) ⊎ ((i < j) ⊎ (j ≡ i))
order zero zero = inr (inr refl)
order zero (suc i) = inl (omega arith)
order (suc j) zero = inr (inl (omega arith))
order (suc j) (suc i) = go (order j i)
  where
    go : (j < i) ⊎ ((i < j) ⊎ (j ≡ i)) → (suc j < suc i) ⊎ ((suc i < suc j) ⊎ (suc j ≡ suc i))
    go (inl h) = inl (omega arith)
    go (inr (inl h)) = inr (inl (omega arith))
    go (inr (inr same)) = inr (inr (ap suc same))

-- Two places of a list have one number: what is numbered before the later one has a lower number.
pub only : (i j first number from from' end end' : ℕ) → (j < i → min end' (2 ^ 64 - 1) ≤ from) → (i < j → min end (2 ^ 64 - 1) ≤ from') → min first (2 ^ 64 - 1) ≤ from' → IsReached number
    → from ≤ max first number → number < end → from' ≤ number → number < end' → j ≡ i
only i j first number from from' end end' sooner later least reached begun below begun' below' = go (order j i)
  where
    go : (j < i) ⊎ ((i < j) ⊎ (j ≡ i)) → j ≡ i
    go (inl h) = let above = sooner h in absurd (omega arith)
    go (inr (inl h)) = let above = later h in absurd (omega arith)
    go (inr (inr same)) = same

-- A place that the search has passed does not have the number.
pub passed : (first number from from' end : ℕ) → min end (2 ^ 64 - 1) ≤ from → min first (2 ^ 64 - 1) ≤ from' → IsReached number → from ≤ max first number → from' ≤ number → number < end → ⊥
passed first number from from' end sooner least reached begun begun' below = omega arith

pub one_place : {A : Type 0} (xs : List A) (i j : ℕ) (a b : A) → slice_get xs j ≡ Some b → j ≡ i → slice_get xs i ≡ Some a → b ≡ a
one_place xs i j a b there same here = let both : Some b ≡ Some a = sym there ∙ ap (slice_get xs) same ∙ here in cc

-- ---- What a statement with a number is

pub numbered_parts : (s : read.Stmt) (n : ℕ) (t : read.Stmt) (k : ℕ) → IsNumbered s n t k
    → ((t ≡ s) × (k ≡ n)) ⊎ ((body : List read.Stmt) × (m : ℕ) × IsInside s n body m × IsAmong body m t k)
numbered_parts s n t k (spec.itself u m) = inl (refl, refl)
numbered_parts s n t k (spec.inside u m body from v l inside there) = inr (body, from, inside, there)

pub among_parts : (ss : List read.Stmt) (n : ℕ) (t : read.Stmt) (k : ℕ) → IsAmong ss n t k
    → (i : ℕ) × (s : read.Stmt) × (slice_get ss i ≡ Some s) × IsNumbered s (after_all (all_of (take i ss)) n) t k
among_parts ss n t k (spec.among xs m i s u l there numbered) = (i, s, there, numbered)
