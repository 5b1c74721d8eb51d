-- Compiled statements say what their texts say.
use Rattle.fb_st.proofs.lemmas.Common.{◌≡◌, ℕ, ℤ, zero, suc, ◌+◌, ◌<◌, ◌≤◌, ◌&&◌, Bool, true, false, length, take, get_or, List, [], ◌∷◌, ◌++◌, map, refl, sym, ◌∙◌, ap, subst, rules, arith, slice_get, true≢false, Name, Label, Ty, Declared, CountExpr, TruthExpr, CompiledStmt, CompiledChoice, number_said, truth_said, arm_right, code_right, codes_right, is_truth_type, is_within_type, name_at, right_number, right_truth, ty_or, SaysAll, SaysTruth}
use Rattle.fb_types.specs.Syntax as syntax
use Rattle.fb_types.specs.declared.value.Ty.TheVariants as ty
use Rattle.fb_types.proofs.lemmas.lists.LoopSteps.{map_take_more}
use Rattle.fb_st.specs.Variables.{least_of, most_of}
use Rattle.fb_st.specs.declared.compiled.NumberExpr.{NumberExpr}
use Rattle.fb_st.specs.declared.compiled.CompiledStmt.{fold-roll-CompiledStmt}
use Rattle.fb_st.specs.declared.compiled.CompiledStmt.TheVariants as variants
use Rattle.fb_st.specs.declared.compiled.CompiledChoice.{out-CompiledChoice, fold_out-CompiledChoice}
use Rattle.fb_st.specs.declared.compiled.CompiledBranch.{CompiledBranch, out-CompiledBranch, fold_out-CompiledBranch}
use Rattle.fb_st.specs.Fitting.{all_right, arm_said, arms_right, count_right, fork_right, fork_said, forks_right, is_long, is_long_type, is_truth, is_within, ty_at}
use Rattle.fb_st.specs.Made.{SaysBranches, SaysChoices, SaysCount, SaysNumber, SaysStmt}
use Rattle.fb_st.proofs.lemmas.Comes.{both_true}
use Rattle.fb_st.proofs.lemmas.Assigning.{there}
use Rattle.fb_st.proofs.lemmas.CodeRuns.{arm_says, case_says, fork_says, for_says, if_says, long_says, repeat_says, truth_says, while_says, within_says}
use Rattle.fb_st.proofs.lemmas.Making.{both, truth_slot_type}

-- ---- Lists

more_right : {C : Type 0} (f : C → Bool) (cs : List C) (c : C) → all_right (map f cs) ≡ true → f c ≡ true → all_right (map f (cs ++ c ∷ [])) ≡ true
more_right f [] c h k = both (f c) true k refl
more_right f (x ∷ cs) c h k =
    let p = both_true (f x) (all_right (map f cs)) h in
    both (f x) (all_right (map f (cs ++ c ∷ []))) p.0 (more_right f cs c p.1 k)

more_said : {B C : Type 0} (g : C → B) (cs : List C) (c : C) → map g (cs ++ c ∷ []) ≡ map g cs ++ g c ∷ []
more_said g [] c = refl
more_said g (x ∷ cs) c = ap (λ l. g x ∷ l) (more_said g cs c)

pub one_more : {A B C : Type 0} (f : C → Bool) (g : C → B) (h : A → B) (xs : List A) (i : ℕ) (x : A) (cs all : List C) (c : C) → i < length xs → x ≡ get_or xs i x → all ≡ cs ++ c ∷ []
    → all_right (map f cs) ≡ true → map g cs ≡ map h (take i xs) → f c ≡ true → g c ≡ h x
    → (all_right (map f all) ≡ true) × (map g all ≡ map h (take (i + 1) xs))
one_more {A} {B} {C} f g h xs i x cs all c within here pushed right says fits same = (
  subst (λ (l : List C). all_right (map f l) ≡ true) (sym pushed) (more_right f cs c right fits),
  ap (map g) pushed ∙ more_said g cs c ∙ (λ j. says j ++ same j ∷ []) ∙ sym (map_take_more h xs i x within here),
)

pub taken_all : {A : Type 0} (xs : List A) (i : ℕ) → length xs ≤ i → take i xs ≡ xs
taken_all [] zero h = refl
taken_all [] (suc i) h = refl
taken_all (x ∷ xs) zero h = absurd (omega arith)
taken_all (x ∷ xs) (suc i) h = ap (λ l. x ∷ l) (taken_all xs i (omega arith))

-- ---- Assignments

long_slot_type : (ds : List Declared) (i : ℕ) → i < length ds → is_long (ty_at ds i) ≡ true → is_long_type (slice_get ds i) ≡ true
long_slot_type ds i within h = let at = there ds i within in ap is_long_type at.1 ∙ ap (λ o. is_long (ty_or o)) (sym at.1) ∙ h

within_slot_type : (ds : List Declared) (i : ℕ) (least most : ℤ) → i < length ds → is_within least most (ty_at ds i) ≡ true → is_within_type least most (slice_get ds i) ≡ true
within_slot_type ds i least most within h = let at = there ds i within in ap (is_within_type least most) at.1 ∙ ap (λ o. is_within least most (ty_or o)) (sym at.1) ∙ h

own_range : (t : Ty) → is_truth t ≡ false → is_within (least_of t) (most_of t) t ≡ true
own_range ty.Bool h = absurd (true≢false h)
own_range ty.Sint h = refl
own_range ty.Int h = refl
own_range ty.Dint h = refl
own_range ty.Lint h = refl
own_range ty.Usint h = refl
own_range ty.Uint h = refl
own_range ty.Udint h = refl
own_range ty.Ulint h = refl
own_range ty.Time h = refl

range_of : (t : Ty) (least most : ℤ) → least ≡ least_of t → most ≡ most_of t → is_truth t ≡ false → is_within least most t ≡ true
range_of t least most from to h = (λ j. is_within (from j) (to j) t) ∙ own_range t h

pub long_made : (ds : List Declared) (i : ℕ) (t : Ty) (n : Name) (e : syntax.Expr) (x : NumberExpr) → i < length ds → t ≡ ty_at ds i → is_long t ≡ true → name_at ds i ≡ n → SaysNumber ds e x
    → SaysStmt ds (syntax.Assign n e) (variants.AssignLong i x)
long_made ds i t n e x within is h named a =
    let right : code_right ds (variants.AssignLong i x) ≡ (is_long_type (slice_get ds i) && right_number ds (number_said x)) = rw (← variants.rolls-AssignLong i x) (rw fold-roll-CompiledStmt refl) in
    record {
      right = right ∙ both (is_long_type (slice_get ds i)) (right_number ds (number_said x)) (long_slot_type ds i within (ap is_long (sym is) ∙ h)) a.right;
      says = long_says ds i x ∙ (λ j. syntax.Assign (named j) (a.says j));
    }

pub within_made : (ds : List Declared) (i : ℕ) (t : Ty) (least most : ℤ) (n : Name) (e : syntax.Expr) (x : NumberExpr) → i < length ds → t ≡ ty_at ds i → is_truth t ≡ false → least ≡ least_of t → most ≡ most_of t → name_at ds i ≡ n
    → SaysNumber ds e x → SaysStmt ds (syntax.Assign n e) (variants.AssignWithin i least most x)
within_made ds i t least most n e x within is h from to named a =
    let right : code_right ds (variants.AssignWithin i least most x) ≡ (is_within_type least most (slice_get ds i) && right_number ds (number_said x)) = rw (← variants.rolls-AssignWithin i least most x) (rw fold-roll-CompiledStmt refl) in
    record {
      right = right ∙ both (is_within_type least most (slice_get ds i)) (right_number ds (number_said x)) (within_slot_type ds i least most within (ap (is_within least most) (sym is) ∙ range_of t least most from to h)) a.right;
      says = within_says ds i least most x ∙ (λ j. syntax.Assign (named j) (a.says j));
    }

pub truth_made : (ds : List Declared) (i : ℕ) (t : Ty) (n : Name) (e : syntax.Expr) (x : TruthExpr) → i < length ds → t ≡ ty_at ds i → is_truth t ≡ true → name_at ds i ≡ n → SaysTruth ds e x
    → SaysStmt ds (syntax.Assign n e) (variants.AssignTruth i x)
truth_made ds i t n e x within is h named a =
    let right : code_right ds (variants.AssignTruth i x) ≡ (is_truth_type (slice_get ds i) && right_truth ds (truth_said x)) = rw (← variants.rolls-AssignTruth i x) (rw fold-roll-CompiledStmt refl) in
    record {
      right = right ∙ both (is_truth_type (slice_get ds i)) (right_truth ds (truth_said x)) (truth_slot_type ds i within (ap is_truth (sym is) ∙ h)) a.right;
      says = truth_says ds i x ∙ (λ j. syntax.Assign (named j) (a.says j));
    }

pub count_made : (ds : List Declared) (t : Ty) (k : CountExpr) (n : Name) (a b c : syntax.Expr) → k.slot < length ds → t ≡ ty_at ds k.slot → is_truth t ≡ false → k.least ≡ least_of t → k.most ≡ most_of t → name_at ds k.slot ≡ n
    → SaysNumber ds a k.start → SaysNumber ds b k.end → SaysNumber ds c k.step → SaysCount ds n a b c k
count_made ds t k n a b c within is h from to named sa sb sc =
    let w = is_within_type k.least k.most (slice_get ds k.slot) in
    let x = right_number ds (number_said k.start) in
    let y = right_number ds (number_said k.end) in
    let z = right_number ds (number_said k.step) in
    record {
      right = both (w && x && y) z
          (both (w && x) y (both w x (within_slot_type ds k.slot k.least k.most within (ap (is_within k.least k.most) (sym is) ∙ range_of t k.least k.most from to h)) sa.right) sb.right) sc.right;
      variable = named;
      starts = sa.says;
      ends = sb.says;
      steps = sc.says;
    }

-- ---- Statements with statements inside

pub if_made : (ds : List Declared) (cs : List (syntax.Expr × syntax.Stmts)) (others : List syntax.Stmt) (arms : List CompiledChoice) (codes : List CompiledStmt) → SaysChoices ds cs arms → SaysAll ds others codes
    → SaysStmt ds (syntax.If (syntax.choices cs) (syntax.stmts others)) (variants.If arms codes)
if_made ds cs others arms codes a b =
    let right : code_right ds (variants.If arms codes) ≡ (arms_right ds arms && codes_right ds codes) = rw (← variants.rolls-If arms codes) (rw fold-roll-CompiledStmt refl) in
    record {
      right = right ∙ both (arms_right ds arms) (codes_right ds codes) a.right b.right;
      says = if_says ds arms codes ∙ (λ j. syntax.If (syntax.choices (a.says j)) (syntax.stmts (b.says j)));
    }

pub case_made : (ds : List Declared) (e : syntax.Expr) (bs : List (List Label × syntax.Stmts)) (others : List syntax.Stmt) (x : NumberExpr) (forks : List CompiledBranch) (codes : List CompiledStmt)
    → SaysNumber ds e x → SaysBranches ds bs forks → SaysAll ds others codes → SaysStmt ds (syntax.Case e (syntax.branches bs) (syntax.stmts others)) (variants.Case x forks codes)
case_made ds e bs others x forks codes s a b =
    let right : code_right ds (variants.Case x forks codes) ≡ (right_number ds (number_said x) && forks_right ds forks && codes_right ds codes) = rw (← variants.rolls-Case x forks codes) (rw fold-roll-CompiledStmt refl) in
    record {
      right = right ∙ both (right_number ds (number_said x) && forks_right ds forks) (codes_right ds codes) (both (right_number ds (number_said x)) (forks_right ds forks) s.right a.right) b.right;
      says = case_says ds x forks codes ∙ (λ j. syntax.Case (s.says j) (syntax.branches (a.says j)) (syntax.stmts (b.says j)));
    }

pub for_made : (ds : List Declared) (n : Name) (a b c : syntax.Expr) (body : List syntax.Stmt) (k : CountExpr) (codes : List CompiledStmt) → SaysCount ds n a b c k → SaysAll ds body codes
    → SaysStmt ds (syntax.For n a b c (syntax.stmts body)) (variants.For k codes)
for_made ds n a b c body k codes s t =
    let right : code_right ds (variants.For k codes) ≡ (count_right ds k && codes_right ds codes) = rw (← variants.rolls-For k codes) (rw fold-roll-CompiledStmt refl) in
    record {
      right = right ∙ both (count_right ds k) (codes_right ds codes) s.right t.right;
      says = for_says ds k codes ∙ (λ j. syntax.For (s.variable j) (s.starts j) (s.ends j) (s.steps j) (syntax.stmts (t.says j)));
    }

pub while_made : (ds : List Declared) (e : syntax.Expr) (body : List syntax.Stmt) (x : TruthExpr) (codes : List CompiledStmt) → SaysTruth ds e x → SaysAll ds body codes
    → SaysStmt ds (syntax.While e (syntax.stmts body)) (variants.While x codes)
while_made ds e body x codes s t =
    let right : code_right ds (variants.While x codes) ≡ (right_truth ds (truth_said x) && codes_right ds codes) = rw (← variants.rolls-While x codes) (rw fold-roll-CompiledStmt refl) in
    record {
      right = right ∙ both (right_truth ds (truth_said x)) (codes_right ds codes) s.right t.right;
      says = while_says ds x codes ∙ (λ j. syntax.While (s.says j) (syntax.stmts (t.says j)));
    }

pub repeat_made : (ds : List Declared) (e : syntax.Expr) (body : List syntax.Stmt) (x : TruthExpr) (codes : List CompiledStmt) → SaysTruth ds e x → SaysAll ds body codes
    → SaysStmt ds (syntax.Repeat (syntax.stmts body) e) (variants.Repeat codes x)
repeat_made ds e body x codes s t =
    let right : code_right ds (variants.Repeat codes x) ≡ (codes_right ds codes && right_truth ds (truth_said x)) = rw (← variants.rolls-Repeat codes x) (rw fold-roll-CompiledStmt refl) in
    record {
      right = right ∙ both (codes_right ds codes) (right_truth ds (truth_said x)) t.right s.right;
      says = repeat_says ds codes x ∙ (λ j. syntax.Repeat (syntax.stmts (t.says j)) (s.says j));
    }

-- ---- A choice and a branch

pub arm_made : (ds : List Declared) (arm : CompiledChoice) (e : syntax.Expr) (body : List syntax.Stmt) → SaysTruth ds e (out-CompiledChoice arm).condition → SaysAll ds body (out-CompiledChoice arm).body
    → (arm_right ds arm ≡ true) × (arm_said ds arm ≡ (e, syntax.stmts body))
arm_made ds arm e body s t =
    let right : arm_right ds arm ≡ (right_truth ds (truth_said (out-CompiledChoice arm).condition) && codes_right ds (out-CompiledChoice arm).body) = search (rules, fold_out-CompiledChoice) in (
      right ∙ both (right_truth ds (truth_said (out-CompiledChoice arm).condition)) (codes_right ds (out-CompiledChoice arm).body) s.right t.right,
      arm_says ds arm ∙ (λ j. (s.says j, syntax.stmts (t.says j))),
    )

pub fork_made : (ds : List Declared) (fork : CompiledBranch) (labels : List Label) (body : List syntax.Stmt) → (out-CompiledBranch fork).labels ≡ labels → SaysAll ds body (out-CompiledBranch fork).body
    → (fork_right ds fork ≡ true) × (fork_said ds fork ≡ (labels, syntax.stmts body))
fork_made ds fork labels body same t =
    let right : fork_right ds fork ≡ codes_right ds (out-CompiledBranch fork).body = search (rules, fold_out-CompiledBranch) in
    (right ∙ t.right, fork_says ds fork ∙ (λ j. (same j, syntax.stmts (t.says j))))
