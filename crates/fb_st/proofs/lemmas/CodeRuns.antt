-- Runs of compiled statements and iterations, put together from their parts. The layout stays, so all is said of one list of variables.
use Rattle.fb_st.proofs.lemmas.Common.{◌≡◌, ℕ, ℤ, suc, ◌+◌, ◌<◌, ◌&&◌, rules, Bool, true, false, List, drop, length, get_or, map, Option, Some, None, Result, Ok, Err, refl, sym, ◌∙◌, ap, subst, slice_get, slice_set, false≢true, with_value, Twice, Stmt, Stmts, Assign, If, Case, For, While, Repeat, Types, Values, truth_of, value_of, whole, Point, End, Went, Stopped, Running, Runs, RunsAll, RunsChoice, RunsBranch, Label, Reason, Value, Expr, Declared, CountExpr, TruthExpr, CompiledStmt, CompiledChoice, number_said, truth_said, fits_truth, fits_number, spot, values_at, name_at, codes_said, expr_of_number, expr_of_truth, value_of_word, kinds_truth, kinds_number, right_truth, right_number, is_within_type, code_right, codes_right, arm_right}
use Rattle.fb_types.proofs.Common.{Branches, After, label_fits}
use Rattle.fb_types.specs.declared.value.Value.TheVariants as value
use Rattle.fb_st.specs.declared.meter.Meter.{Meter}
use Rattle.fb_st.specs.declared.compiled.NumberExpr.{NumberExpr}
use Rattle.fb_st.specs.declared.compiled.CompiledStmt.{fold-roll-CompiledStmt}
use Rattle.fb_st.specs.declared.compiled.CompiledStmt.TheVariants as variants
use Rattle.fb_st.specs.declared.compiled.CompiledChoice.{out-CompiledChoice, fold_out-CompiledChoice}
use Rattle.fb_st.specs.declared.compiled.CompiledBranch.{CompiledBranch, out-CompiledBranch, fold_out-CompiledBranch}
use Rattle.fb_st.specs.Compiled.{truth_at}
use Rattle.fb_st.specs.Fitting.{all_right, is_long_type, code_said, arm_said, arms_said, fork_said, forks_said, count_right, forks_right}
use Rattle.fb_st.proofs.lemmas.Comes.{both_true, condition_comes}
use Rattle.fb_st.proofs.lemmas.Runs.{Leads, cut_at, written}
use Rattle.fb_st.proofs.lemmas.Words.{word_written}

-- ---- What is right of each is right of one and of the rest

pub one_right : {A : Type 0} (f : A → Bool) (xs : List A) (i : ℕ) (x : A) → i < length xs → x ≡ get_or xs i x → all_right (map f (drop i xs)) ≡ true
    → (f x ≡ true) × (all_right (map f (drop (i + 1) xs)) ≡ true)
one_right {A} f xs i x within is right =
    both_true (f x) (all_right (map f (drop (i + 1) xs))) (subst (λ (l : List A). all_right (map f l) ≡ true) (cut_at xs i x within is) right)

-- ---- Statements, one after the other

pub codes_go_on : (ds : List Declared) (T : Types) (ss : List CompiledStmt) (i : ℕ) (s : CompiledStmt) (p m : Point) → i < length ss → s ≡ get_or ss i s → Runs T (code_said ds s) p Went m
    → Leads (RunsAll T (codes_said ds (drop (i + 1) ss))) m (RunsAll T (codes_said ds (drop i ss))) p
codes_go_on ds T ss i s p m within is run e q rest =
    subst (λ (l : List CompiledStmt). RunsAll T (codes_said ds l) p e q) (sym (cut_at ss i s within is)) (Went, m, run, rest)

pub codes_end : (ds : List Declared) (T : Types) (ss : List CompiledStmt) (i : ℕ) (s : CompiledStmt) (p m : Point) (f : End) → i < length ss → s ≡ get_or ss i s → Runs T (code_said ds s) p f m
    → After f (RunsAll T (codes_said ds (drop (i + 1) ss))) m f m → RunsAll T (codes_said ds (drop i ss)) p f m
codes_end ds T ss i s p m f within is run after =
    subst (λ (l : List CompiledStmt). RunsAll T (codes_said ds l) p f m) (sym (cut_at ss i s within is)) (f, m, run, after)

-- ---- What a choice and a branch say

pub arm_says : (ds : List Declared) (c : CompiledChoice) → arm_said ds c ≡ (expr_of_truth ds (truth_said (out-CompiledChoice c).condition), codes_said ds (out-CompiledChoice c).body)
arm_says ds c = search (rules, fold_out-CompiledChoice)

pub fork_says : (ds : List Declared) (b : CompiledBranch) → fork_said ds b ≡ ((out-CompiledBranch b).labels, codes_said ds (out-CompiledBranch b).body)
fork_says ds b = search (rules, fold_out-CompiledBranch)

-- ---- The first condition that is true, and the first label that fits

pub arm_taken : (ds : List Declared) (T : Types) (cs : List CompiledChoice) (i : ℕ) (c : CompiledChoice) (others : Running) (p : Point) → i < length cs → c ≡ get_or cs i c
    → truth_of (arm_said ds c).0 p.vars ≡ Ok true → Leads (RunsAll T (arm_said ds c).1) p (RunsChoice T (arms_said ds (drop i cs)) others) p
arm_taken ds T cs i c others p within is holds e q run =
    subst (λ (l : List CompiledChoice). RunsChoice T (arms_said ds l) others p e q) (sym (cut_at cs i c within is)) (rw holds run)

pub arm_passed : (ds : List Declared) (T : Types) (cs : List CompiledChoice) (i : ℕ) (c : CompiledChoice) (others : Running) (p : Point) → i < length cs → c ≡ get_or cs i c
    → truth_of (arm_said ds c).0 p.vars ≡ Ok false → Leads (RunsChoice T (arms_said ds (drop (i + 1) cs)) others) p (RunsChoice T (arms_said ds (drop i cs)) others) p
arm_passed ds T cs i c others p within is fails e q run =
    subst (λ (l : List CompiledChoice). RunsChoice T (arms_said ds l) others p e q) (sym (cut_at cs i c within is)) (rw fails run)

pub arm_stops : (ds : List Declared) (T : Types) (cs : List CompiledChoice) (i : ℕ) (c : CompiledChoice) (others : Running) (p : Point) (r : Reason) → i < length cs → c ≡ get_or cs i c
    → truth_of (arm_said ds c).0 p.vars ≡ Err r → RunsChoice T (arms_said ds (drop i cs)) others p (Stopped r) p
arm_stops ds T cs i c others p r within is stops =
    subst (λ (l : List CompiledChoice). RunsChoice T (arms_said ds l) others p (Stopped r) p) (sym (cut_at cs i c within is)) (rw stops (refl, refl))

pub fork_taken : (ds : List Declared) (T : Types) (bs : List CompiledBranch) (i : ℕ) (b : CompiledBranch) (z : ℤ) (others : Running) (p : Point) → i < length bs → b ≡ get_or bs i b
    → label_fits (fork_said ds b).0 z ≡ true → Leads (RunsAll T (fork_said ds b).1) p (RunsBranch T (forks_said ds (drop i bs)) z others) p
fork_taken ds T bs i b z others p within is fits e q run =
    subst (λ (l : List CompiledBranch). RunsBranch T (forks_said ds l) z others p e q) (sym (cut_at bs i b within is)) (rw fits run)

pub fork_passed : (ds : List Declared) (T : Types) (bs : List CompiledBranch) (i : ℕ) (b : CompiledBranch) (z : ℤ) (others : Running) (p : Point) → i < length bs → b ≡ get_or bs i b
    → label_fits (fork_said ds b).0 z ≡ false → Leads (RunsBranch T (forks_said ds (drop (i + 1) bs)) z others) p (RunsBranch T (forks_said ds (drop i bs)) z others) p
fork_passed ds T bs i b z others p within is fails e q run =
    subst (λ (l : List CompiledBranch). RunsBranch T (forks_said ds l) z others p e q) (sym (cut_at bs i b within is)) (rw fails run)

-- ---- What is known of a loop's words, said of those that it began with

pub codes_as : (ds : List Declared) (T : Types) (ws vs : List ℤ) (m n : Meter) (xs ys : List CompiledStmt) (e : End) (q : Point) → ws ≡ vs → m ≡ n → xs ≡ ys
    → RunsAll T (codes_said ds xs) (spot ds ws m) e q → RunsAll T (codes_said ds ys) (spot ds vs n) e q
codes_as ds T ws vs m n xs ys e q same_words same_meter same run =
    subst (λ (l : List CompiledStmt). RunsAll T (codes_said ds l) (spot ds vs n) e q) same
    (subst (λ (k : Meter). RunsAll T (codes_said ds xs) (spot ds vs k) e q) same_meter
    (subst (λ (h : List ℤ). RunsAll T (codes_said ds xs) (spot ds h m) e q) same_words run))

pub ends_here : (ds : List Declared) (R : Running) (p : Point) (e : End) (ws vs : List ℤ) (m n : Meter) → ws ≡ vs → m ≡ n → R p e (spot ds vs n) → R p e (spot ds ws m)
ends_here ds R p e ws vs m n same_words same_meter run =
    subst (λ (h : List ℤ). R p e (spot ds h m)) (sym same_words) (subst (λ (k : Meter). R p e (spot ds vs k)) (sym same_meter) run)

pub arm_holds : (ds : List Declared) (c : CompiledChoice) (ws vs : List ℤ) (r s : Result Bool Reason) → length ws ≡ length ds → ¬ (Twice (map (λ d. d.0) ds)) → ws ≡ vs
    → kinds_truth ds (truth_said (out-CompiledChoice c).condition) ≡ true → r ≡ truth_at (truth_said (out-CompiledChoice c).condition) ws → r ≡ s
    → truth_of (arm_said ds c).0 (values_at ds vs) ≡ s
arm_holds ds c ws vs r s len once same kinds is known_so =
    ap (λ x. truth_of x.0 (values_at ds vs)) (arm_says ds c)
    ∙ ap (λ h. truth_of (expr_of_truth ds (truth_said (out-CompiledChoice c).condition)) (values_at ds h)) (sym same)
    ∙ condition_comes ds ws len once (truth_said (out-CompiledChoice c).condition) kinds ∙ sym is ∙ known_so

pub arm_ran : (ds : List Declared) (T : Types) (c : CompiledChoice) (ws vs : List ℤ) (m n : Meter) (xs : List CompiledStmt) (e : End) (q : Point) → ws ≡ vs → m ≡ n → xs ≡ (out-CompiledChoice c).body
    → RunsAll T (codes_said ds xs) (spot ds ws m) e q → RunsAll T (arm_said ds c).1 (spot ds vs n) e q
arm_ran ds T c ws vs m n xs e q same_words same_meter same run =
    subst (λ (x : Expr × Stmts). RunsAll T x.1 (spot ds vs n) e q) (sym (arm_says ds c))
    (codes_as ds T ws vs m n xs (out-CompiledChoice c).body e q same_words same_meter same run)

pub fork_fits : (ds : List Declared) (b : CompiledBranch) (labels : List Label) (z : ℤ) (r s : Bool) → labels ≡ (out-CompiledBranch b).labels → r ≡ label_fits labels z → r ≡ s
    → label_fits (fork_said ds b).0 z ≡ s
fork_fits ds b labels z r s same is known_so =
    ap (λ x. label_fits x.0 z) (fork_says ds b) ∙ ap (λ l. label_fits l z) (sym same) ∙ sym is ∙ known_so

pub fork_ran : (ds : List Declared) (T : Types) (b : CompiledBranch) (ws vs : List ℤ) (m n : Meter) (xs : List CompiledStmt) (e : End) (q : Point) → ws ≡ vs → m ≡ n → xs ≡ (out-CompiledBranch b).body
    → RunsAll T (codes_said ds xs) (spot ds ws m) e q → RunsAll T (fork_said ds b).1 (spot ds vs n) e q
fork_ran ds T b ws vs m n xs e q same_words same_meter same run =
    subst (λ (x : List Label × Stmts). RunsAll T x.1 (spot ds vs n) e q) (sym (fork_says ds b))
    (codes_as ds T ws vs m n xs (out-CompiledBranch b).body e q same_words same_meter same run)

-- ---- What each statement says

pub long_says : (ds : List Declared) (i : ℕ) (e : NumberExpr) → code_said ds (variants.AssignLong i e) ≡ Assign (name_at ds i) (expr_of_number ds (number_said e))
long_says ds i e = rw (← variants.rolls-AssignLong i e) (rw fold-roll-CompiledStmt refl)

pub if_says : (ds : List Declared) (cs : List CompiledChoice) (others : List CompiledStmt) → code_said ds (variants.If cs others) ≡ If (arms_said ds cs) (codes_said ds others)
if_says ds cs others = rw (← variants.rolls-If cs others) (rw fold-roll-CompiledStmt refl)

pub case_says : (ds : List Declared) (e : NumberExpr) (bs : List CompiledBranch) (others : List CompiledStmt)
    → code_said ds (variants.Case e bs others) ≡ Case (expr_of_number ds (number_said e)) (forks_said ds bs) (codes_said ds others)
case_says ds e bs others = rw (← variants.rolls-Case e bs others) (rw fold-roll-CompiledStmt refl)

pub while_says : (ds : List Declared) (c : TruthExpr) (body : List CompiledStmt) → code_said ds (variants.While c body) ≡ While (expr_of_truth ds (truth_said c)) (codes_said ds body)
while_says ds c body = rw (← variants.rolls-While c body) (rw fold-roll-CompiledStmt refl)

pub repeat_says : (ds : List Declared) (body : List CompiledStmt) (c : TruthExpr) → code_said ds (variants.Repeat body c) ≡ Repeat (codes_said ds body) (expr_of_truth ds (truth_said c))
repeat_says ds body c = rw (← variants.rolls-Repeat body c) (rw fold-roll-CompiledStmt refl)

pub within_says : (ds : List Declared) (i : ℕ) (least most : ℤ) (e : NumberExpr) → code_said ds (variants.AssignWithin i least most e) ≡ Assign (name_at ds i) (expr_of_number ds (number_said e))
within_says ds i least most e = rw (← variants.rolls-AssignWithin i least most e) (rw fold-roll-CompiledStmt refl)

pub truth_says : (ds : List Declared) (i : ℕ) (c : TruthExpr) → code_said ds (variants.AssignTruth i c) ≡ Assign (name_at ds i) (expr_of_truth ds (truth_said c))
truth_says ds i c = rw (← variants.rolls-AssignTruth i c) (rw fold-roll-CompiledStmt refl)

pub for_says : (ds : List Declared) (c : CountExpr) (body : List CompiledStmt)
    → code_said ds (variants.For c body) ≡ For (name_at ds c.slot) (expr_of_number ds (number_said c.start)) (expr_of_number ds (number_said c.end)) (expr_of_number ds (number_said c.step)) (codes_said ds body)
for_says ds c body = rw (← variants.rolls-For c body) (rw fold-roll-CompiledStmt refl)

-- ---- What is right of a choice, and of a branch

pub arm_parts : (ds : List Declared) (c : CompiledChoice) → arm_right ds c ≡ true
    → (fits_truth (length ds) (truth_said (out-CompiledChoice c).condition) ≡ true) × (kinds_truth ds (truth_said (out-CompiledChoice c).condition) ≡ true) × (codes_right ds (out-CompiledChoice c).body ≡ true)
arm_parts ds c right =
    let says : arm_right ds c ≡ (right_truth ds (truth_said (out-CompiledChoice c).condition) && codes_right ds (out-CompiledChoice c).body) = search (rules, fold_out-CompiledChoice) in
    let parts = both_true (right_truth ds (truth_said (out-CompiledChoice c).condition)) (codes_right ds (out-CompiledChoice c).body) (sym says ∙ right) in
    let condition = both_true (fits_truth (length ds) (truth_said (out-CompiledChoice c).condition)) (kinds_truth ds (truth_said (out-CompiledChoice c).condition)) parts.0 in
    (condition.0, condition.1, parts.1)

-- what the compiler has made sure of for an assignment: the type of the variable, and then the expression
pub long_right : (ds : List Declared) (i : ℕ) (e : NumberExpr) → code_right ds (variants.AssignLong i e) ≡ true
    → (is_long_type (slice_get ds i) ≡ true) × (right_number ds (number_said e) ≡ true) × (fits_number (length ds) (number_said e) ≡ true) × (kinds_number ds (number_said e) ≡ true)
long_right ds i e right =
    let says : code_right ds (variants.AssignLong i e) ≡ (is_long_type (slice_get ds i) && right_number ds (number_said e)) = rw (← variants.rolls-AssignLong i e) (rw fold-roll-CompiledStmt refl) in
    let parts = both_true (is_long_type (slice_get ds i)) (right_number ds (number_said e)) (sym says ∙ right) in
    let rest = both_true (fits_number (length ds) (number_said e)) (kinds_number ds (number_said e)) parts.1 in
    (parts.0, parts.1, rest.0, rest.1)

pub within_right : (ds : List Declared) (i : ℕ) (least most : ℤ) (e : NumberExpr) → code_right ds (variants.AssignWithin i least most e) ≡ true
    → (is_within_type least most (slice_get ds i) ≡ true) × (right_number ds (number_said e) ≡ true) × (fits_number (length ds) (number_said e) ≡ true) × (kinds_number ds (number_said e) ≡ true)
within_right ds i least most e right =
    let says : code_right ds (variants.AssignWithin i least most e) ≡ (is_within_type least most (slice_get ds i) && right_number ds (number_said e)) =
    rw (← variants.rolls-AssignWithin i least most e) (rw fold-roll-CompiledStmt refl) in
    let parts = both_true (is_within_type least most (slice_get ds i)) (right_number ds (number_said e)) (sym says ∙ right) in
    let rest = both_true (fits_number (length ds) (number_said e)) (kinds_number ds (number_said e)) parts.1 in
    (parts.0, parts.1, rest.0, rest.1)

pub for_right : (ds : List Declared) (k : CountExpr) (body : List CompiledStmt) → code_right ds (variants.For k body) ≡ true → (count_right ds k ≡ true) × (codes_right ds body ≡ true)
for_right ds k body right =
    let says : code_right ds (variants.For k body) ≡ (count_right ds k && codes_right ds body) = rw (← variants.rolls-For k body) (rw fold-roll-CompiledStmt refl) in
    both_true (count_right ds k) (codes_right ds body) (sym says ∙ right)

pub while_right : (ds : List Declared) (e : TruthExpr) (body : List CompiledStmt) → code_right ds (variants.While e body) ≡ true → (right_truth ds (truth_said e) ≡ true) × (codes_right ds body ≡ true)
while_right ds e body right =
    let says : code_right ds (variants.While e body) ≡ (right_truth ds (truth_said e) && codes_right ds body) = rw (← variants.rolls-While e body) (rw fold-roll-CompiledStmt refl) in
    both_true (right_truth ds (truth_said e)) (codes_right ds body) (sym says ∙ right)

pub repeat_right : (ds : List Declared) (body : List CompiledStmt) (e : TruthExpr) → code_right ds (variants.Repeat body e) ≡ true → (codes_right ds body ≡ true) × (right_truth ds (truth_said e) ≡ true)
repeat_right ds body e right =
    let says : code_right ds (variants.Repeat body e) ≡ (codes_right ds body && right_truth ds (truth_said e)) = rw (← variants.rolls-Repeat body e) (rw fold-roll-CompiledStmt refl) in
    both_true (codes_right ds body) (right_truth ds (truth_said e)) (sym says ∙ right)

-- ---- What is right of a CASE, and of FOR

pub case_part : (ds : List Declared) (e : NumberExpr) (bs : List CompiledBranch) (others : List CompiledStmt) → code_right ds (variants.Case e bs others) ≡ true
    → right_number ds (number_said e) ≡ true
case_part ds e bs others right =
    let says : code_right ds (variants.Case e bs others) ≡ (right_number ds (number_said e) && forks_right ds bs && codes_right ds others) = rw (← variants.rolls-Case e bs others) (rw fold-roll-CompiledStmt refl) in
    let first = both_true (right_number ds (number_said e) && forks_right ds bs) (codes_right ds others) (sym says ∙ right) in
    (both_true (right_number ds (number_said e)) (forks_right ds bs) first.0).0

-- the slot of the variable of FOR, and its numbers, are what they should be
pub record CountParts (ds : List Declared) (k : CountExpr) : Type 0 where
  pub within : is_within_type k.least k.most (slice_get ds k.slot) ≡ true
  pub start : kinds_number ds (number_said k.start) ≡ true
  pub end : kinds_number ds (number_said k.end) ≡ true
  pub step : kinds_number ds (number_said k.step) ≡ true
  pub start_fits : fits_number (length ds) (number_said k.start) ≡ true
  pub end_fits : fits_number (length ds) (number_said k.end) ≡ true
  pub step_fits : fits_number (length ds) (number_said k.step) ≡ true

kinds_part : (ds : List Declared) (e : NumberExpr) → right_number ds (number_said e) ≡ true → kinds_number ds (number_said e) ≡ true
kinds_part ds e right = (both_true (fits_number (length ds) (number_said e)) (kinds_number ds (number_said e)) right).1

fits_part : (ds : List Declared) (e : NumberExpr) → right_number ds (number_said e) ≡ true → fits_number (length ds) (number_said e) ≡ true
fits_part ds e right = (both_true (fits_number (length ds) (number_said e)) (kinds_number ds (number_said e)) right).0

pub count_parts : (ds : List Declared) (k : CountExpr) → count_right ds k ≡ true → CountParts ds k
count_parts ds k right =
    let w = is_within_type k.least k.most (slice_get ds k.slot) in
    let a = right_number ds (number_said k.start) in
    let b = right_number ds (number_said k.end) in
    let c = right_number ds (number_said k.step) in
    let last = both_true (w && a && b) c right in
    let third = both_true (w && a) b last.0 in
    let second = both_true w a third.0 in
    record {
      within = second.0;
      start = kinds_part ds k.start second.1;
      end = kinds_part ds k.end third.1;
      step = kinds_part ds k.step last.1;
      start_fits = fits_part ds k.start second.1;
      end_fits = fits_part ds k.end third.1;
      step_fits = fits_part ds k.step last.1;
    }

pub within_there : (least most : ℤ) (o : Option Declared) → is_within_type least most o ≡ true → (d : Declared) × (o ≡ Some d)
within_there least most None h = absurd (false≢true h)
within_there least most (Some d) h = (d, refl)

-- ---- FOR whose numbers have a reason

abbrev pub counted : List Declared → CountExpr → List CompiledStmt → Stmt
counted ds k body = For (name_at ds k.slot) (expr_of_number ds (number_said k.start)) (expr_of_number ds (number_said k.end)) (expr_of_number ds (number_said k.step)) (codes_said ds body)

abbrev counting : List Declared → CountExpr → Stmts → Stmt
counting ds k body = For (name_at ds k.slot) (expr_of_number ds (number_said k.start)) (expr_of_number ds (number_said k.end)) (expr_of_number ds (number_said k.step)) body

pub for_no_start : (T : Types) (ds : List Declared) (k : CountExpr) (body : Stmts) (vars : Values) (left : ℕ) (r : Reason) → value_of (expr_of_number ds (number_said k.start)) vars ≡ Err r
    → Runs T (counting ds k body) (record { vars = vars; left = suc left }) (Stopped r) (record { vars = vars; left = left })
for_no_start T ds k body vars left r ha = rw ha (refl, refl)

pub for_no_end : (T : Types) (ds : List Declared) (k : CountExpr) (body : Stmts) (vars : Values) (left : ℕ) (first : Value) (r : Reason)
    → value_of (expr_of_number ds (number_said k.start)) vars ≡ Ok first → value_of (expr_of_number ds (number_said k.end)) vars ≡ Err r
    → Runs T (counting ds k body) (record { vars = vars; left = suc left }) (Stopped r) (record { vars = vars; left = left })
for_no_end T ds k body vars left first r ha hb = rw (ha, hb) (refl, refl)

pub for_no_step : (T : Types) (ds : List Declared) (k : CountExpr) (body : Stmts) (vars : Values) (left : ℕ) (first end : Value) (r : Reason)
    → value_of (expr_of_number ds (number_said k.start)) vars ≡ Ok first → value_of (expr_of_number ds (number_said k.end)) vars ≡ Ok end
    → value_of (expr_of_number ds (number_said k.step)) vars ≡ Err r
    → Runs T (counting ds k body) (record { vars = vars; left = suc left }) (Stopped r) (record { vars = vars; left = left })
for_no_step T ds k body vars left first end r ha hb hc = rw (ha, hb, hc) (refl, refl)

-- CASE whose selector has a reason
pub case_stops : (T : Types) (e : Expr) (bs : Branches) (others : Stmts) (vars : Values) (left : ℕ) (r : Reason) → value_of e vars ≡ Err r
    → Runs T (Case e bs others) (record { vars = vars; left = suc left }) (Stopped r) (record { vars = vars; left = left })
case_stops T e bs others vars left r is = rw is (refl, refl)

-- ---- The variable of FOR, once its first word is written

module _ (ds : List Declared) (ws : List ℤ) (len : length ws ≡ length ds) (once : ¬ (Twice (map (λ d. d.0) ds))) (i : ℕ) (d : Declared) (at : slice_get ds i ≡ Some d) (z first : ℤ) (stands : value_of_word d.1 z ≡ value.Whole first) where
  pub first_set : values_at ds (slice_set ws i z) ≡ with_value (name_at ds i) (value.Whole first) (values_at ds ws)
  first_set = word_written ds ws len once i d at z ∙ ap (λ v. with_value (name_at ds i) v (values_at ds ws)) stands

  pub first_read : whole (values_at ds (slice_set ws i z) (name_at ds i)) ≡ first
  first_read = ap whole (written (name_at ds i) (value.Whole first) (values_at ds ws) (values_at ds (slice_set ws i z)) first_set)
