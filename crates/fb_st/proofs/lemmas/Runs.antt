-- Runs of statements and iterations, put together from their parts.
use Rattle.fb_st.proofs.lemmas.Common.{◌≡◌, ℕ, ℤ, zero, suc, ◌+◌, ◌<◌, ◌≤◌, arith, Bool, true, false, cond, not, ◌&&◌, ◌||◌, List, [], ◌∷◌, Option, drop, length, get_or, Result, Ok, Err, refl, sym, ◌∙◌, ap, subst, rules, int_le, list_any, Name, with_value, Stmt, Assign, If, Case, For, While, Repeat, Stmts, expr_of, step_of, stmt_of, Values, Types, truth_of, and_then, value_of, whole, fits, Point, End, Went, Left, Stopped, Running, Step, Runs, RunsAll, RunsChoice, RunsBranch, Advances, Label, Choice, Branch, Value, Reason, Expr, Declared, declared_in, types_in, values_of, end_of, point, all_of, choices_of, branches_of, choice_of, branch_of, Slot, AllKnown, ChoicesKnown, BranchesKnown}
use Rattle.fb_types.proofs.Common.{add-one, drop-cons, Branches, Returned, After, Then, TurnThen, Loop, Assigns, label_fits}
use Rattle.fb_types.specs.declared.text.Choice.{out-Choice}
use Rattle.fb_types.specs.declared.text.Branch.{out-Branch}
use Rattle.fb_types.specs.Bodies.{Counts}
use Rattle.fb_types.specs.declared.text.Expr as expr
use Rattle.fb_types.specs.declared.text.Stmt as read
use Rattle.fb_types.specs.declared.text.Stmt.{fold-roll-Stmt}
use Rattle.fb_types.specs.declared.text.Stmt.TheVariants as variants
use Rattle.fb_types.specs.declared.text.Choice.{fold_out-Choice}
use Rattle.fb_types.specs.declared.text.Branch.{fold_out-Branch}
use Rattle.fb_types.specs.declared.value.Reason.TheVariants as reason
use Rattle.fb_types.proofs.lemmas.names.NameLaws.{same_name-itself}
use Rattle.fb_st.specs.declared.meter.Meter.{Meter}
use Rattle.fb_st.specs.declared.meter.Flow.{Flow}
use Rattle.fb_st.specs.Known.{AssignsKnown}

-- what the one runs to from here, the other runs to from there
abbrev pub Leads : Running → Point → Running → Point → Type 0
Leads rest m all p = (e : End) (q : Point) → rest m e q → all p e q

-- ---- Lists

pub cut_at : {A : Type 0} (xs : List A) (i : ℕ) (x : A) → i < length xs → x ≡ get_or xs i x → drop i xs ≡ x ∷ drop (i + 1) xs
cut_at xs i x within is = drop-cons xs i x within ∙ rw (← is) (rw add-one refl)

pub nothing_left : {A : Type 0} (xs : List A) (i : ℕ) → length xs ≤ i → drop i xs ≡ []
nothing_left [] zero h = refl
nothing_left [] (suc i) h = refl
nothing_left (x ∷ xs) zero h = absurd (omega arith)
nothing_left (x ∷ xs) (suc i) h = nothing_left xs i (omega arith)

-- ---- Statements, one after the other

pub all_goes_on : (T : Types) (ss : List read.Stmt) (i : ℕ) (s : read.Stmt) (p m : Point) → i < length ss → s ≡ get_or ss i s → Runs T (stmt_of s) p Went m
    → Leads (RunsAll T (all_of (drop (i + 1) ss))) m (RunsAll T (all_of (drop i ss))) p
all_goes_on T ss i s p m within is run e q rest =
    subst (λ (l : List read.Stmt). RunsAll T (all_of l) p e q) (sym (cut_at ss i s within is)) (Went, m, run, rest)

pub all_ends : (T : Types) (ss : List read.Stmt) (i : ℕ) (s : read.Stmt) (p m : Point) (f : End) → i < length ss → s ≡ get_or ss i s → Runs T (stmt_of s) p f m
    → After f (RunsAll T (all_of (drop (i + 1) ss))) m f m → RunsAll T (all_of (drop i ss)) p f m
all_ends T ss i s p m f within is run after =
    subst (λ (l : List read.Stmt). RunsAll T (all_of l) p f m) (sym (cut_at ss i s within is)) (f, m, run, after)

pub all_known : (ds : List Declared) (ss : List read.Stmt) (i : ℕ) (s : read.Stmt) → i < length ss → s ≡ get_or ss i s → AllKnown ds (all_of (drop i ss))
    → AssignsKnown ds (stmt_of s) × AllKnown ds (all_of (drop (i + 1) ss))
all_known ds ss i s within is known =
    subst (λ (l : List read.Stmt). AllKnown ds (all_of l)) (cut_at ss i s within is) known

-- ---- The first condition that is true, and the first label that fits

pub choice_taken : (T : Types) (cs : List Choice) (i : ℕ) (c : Choice) (others : Running) (p : Point) → i < length cs → c ≡ get_or cs i c
    → truth_of (choice_of c).0 p.vars ≡ Ok true → Leads (RunsAll T (choice_of c).1) p (RunsChoice T (choices_of (drop i cs)) others) p
choice_taken T cs i c others p within is holds e q run =
    subst (λ (l : List Choice). RunsChoice T (choices_of l) others p e q) (sym (cut_at cs i c within is)) (rw holds run)

pub choice_passed : (T : Types) (cs : List Choice) (i : ℕ) (c : Choice) (others : Running) (p : Point) → i < length cs → c ≡ get_or cs i c
    → truth_of (choice_of c).0 p.vars ≡ Ok false → Leads (RunsChoice T (choices_of (drop (i + 1) cs)) others) p (RunsChoice T (choices_of (drop i cs)) others) p
choice_passed T cs i c others p within is fails e q run =
    subst (λ (l : List Choice). RunsChoice T (choices_of l) others p e q) (sym (cut_at cs i c within is)) (rw fails run)

pub choice_stops : (T : Types) (cs : List Choice) (i : ℕ) (c : Choice) (others : Running) (p : Point) (r : Reason) → i < length cs → c ≡ get_or cs i c
    → truth_of (choice_of c).0 p.vars ≡ Err r → RunsChoice T (choices_of (drop i cs)) others p (Stopped r) p
choice_stops T cs i c others p r within is stops =
    subst (λ (l : List Choice). RunsChoice T (choices_of l) others p (Stopped r) p) (sym (cut_at cs i c within is)) (rw stops (refl, refl))

pub choices_known : (ds : List Declared) (cs : List Choice) (i : ℕ) (c : Choice) → i < length cs → c ≡ get_or cs i c → ChoicesKnown ds (choices_of (drop i cs))
    → AllKnown ds (choice_of c).1 × ChoicesKnown ds (choices_of (drop (i + 1) cs))
choices_known ds cs i c within is known =
    subst (λ (l : List Choice). ChoicesKnown ds (choices_of l)) (cut_at cs i c within is) known

-- whether a label fits, as a test of the whole list
pub labels_any : (ls : List Label) (z : ℤ) → label_fits ls z ≡ list_any (λ l. int_le l.first z && int_le z l.last) ls
labels_any [] z = refl
labels_any (l ∷ ls) z = ap (λ b. (int_le l.first z && int_le z l.last) || b) (labels_any ls z)

pub branch_taken : (T : Types) (bs : List Branch) (i : ℕ) (b : Branch) (z : ℤ) (others : Running) (p : Point) → i < length bs → b ≡ get_or bs i b
    → label_fits (branch_of b).0 z ≡ true → Leads (RunsAll T (branch_of b).1) p (RunsBranch T (branches_of (drop i bs)) z others) p
branch_taken T bs i b z others p within is fits e q run =
    subst (λ (l : List Branch). RunsBranch T (branches_of l) z others p e q) (sym (cut_at bs i b within is)) (rw fits run)

pub branch_passed : (T : Types) (bs : List Branch) (i : ℕ) (b : Branch) (z : ℤ) (others : Running) (p : Point) → i < length bs → b ≡ get_or bs i b
    → label_fits (branch_of b).0 z ≡ false → Leads (RunsBranch T (branches_of (drop (i + 1) bs)) z others) p (RunsBranch T (branches_of (drop i bs)) z others) p
branch_passed T bs i b z others p within is fails e q run =
    subst (λ (l : List Branch). RunsBranch T (branches_of l) z others p e q) (sym (cut_at bs i b within is)) (rw fails run)

pub branches_known : (ds : List Declared) (bs : List Branch) (i : ℕ) (b : Branch) → i < length bs → b ≡ get_or bs i b → BranchesKnown ds (branches_of (drop i bs))
    → AllKnown ds (branch_of b).1 × BranchesKnown ds (branches_of (drop (i + 1) bs))
branches_known ds bs i b within is known =
    subst (λ (l : List Branch). BranchesKnown ds (branches_of l)) (cut_at bs i b within is) known

-- ---- Loops

module _ (test : Values → Result Bool Reason) (turn : Running) where
  pub loop_over : (p : Point) → test p.vars ≡ Ok false → Loop test turn p Went p
  loop_over p h = (zero, rw h (refl, refl))

  pub loop_stops : (p : Point) (r : Reason) → test p.vars ≡ Err r → Loop test turn p (Stopped r) p
  loop_stops p r h = (zero, rw h (refl, refl))

  pub loop_goes_on : (p m : Point) → test p.vars ≡ Ok true → turn p Went m → Leads (Loop test turn) m (Loop test turn) p
  loop_goes_on p m h run e q rest = (suc rest.0, (h, (Went, m, run, rest.1)))

  pub loop_left : (p m : Point) → test p.vars ≡ Ok true → turn p Left m → Loop test turn p Went m
  loop_left p m h run = (suc zero, (h, (Left, m, run, (refl, refl))))

  pub loop_returned : (p m : Point) → test p.vars ≡ Ok true → turn p Returned m → Loop test turn p Returned m
  loop_returned p m h run = (suc zero, (h, (Returned, m, run, (refl, refl))))

  pub loop_stopped : (p m : Point) (r : Reason) → test p.vars ≡ Ok true → turn p (Stopped r) m → Loop test turn p (Stopped r) m
  loop_stopped p m r h run = (suc zero, (h, (Stopped r, m, run, (refl, refl))))

-- the test of REPEAT, and its iterations
abbrev pub until : Expr → Values → Result Bool Reason
until c vars = and_then (truth_of c vars) (λ b. Ok (not b))

abbrev pub repeats : Expr → Running → Running
repeats c turn = TurnThen turn (Loop (until c) turn)

-- an iteration that goes on, and then what the rest runs to
turns_again : (test : Values → Result Bool Reason) (turn : Running) (m : Point) → test m.vars ≡ Ok true → Leads (TurnThen turn (Loop test turn)) m (Loop test turn) m
turns_again test turn m h e q (Went, n, run, rest) = (suc rest.0, (h, (Went, n, run, rest.1)))
turns_again test turn m h e q (Left, n, run, rest) = (suc zero, (h, (Left, n, run, rest)))
turns_again test turn m h e q (Returned, n, run, rest) = (suc zero, (h, (Returned, n, run, rest)))
turns_again test turn m h e q (Stopped r, n, run, rest) = (suc zero, (h, (Stopped r, n, run, rest)))

module _ (c : Expr) (turn : Running) where
  pub repeat_goes_on : (p m : Point) → turn p Went m → truth_of c m.vars ≡ Ok false → Leads (repeats c turn) m (repeats c turn) p
  repeat_goes_on p m run h e q rest =
      let again : until c m.vars ≡ Ok true = ap (λ r. and_then r (λ b. Ok (not b))) h in
      (Went, m, run, turns_again (until c) turn m again e q rest)

  pub repeat_over : (p m : Point) → turn p Went m → truth_of c m.vars ≡ Ok true → repeats c turn p Went m
  repeat_over p m run h = (Went, m, run, loop_over (until c) turn m (ap (λ r. and_then r (λ b. Ok (not b))) h))

  pub repeat_stops : (p m : Point) (r : Reason) → turn p Went m → truth_of c m.vars ≡ Err r → repeats c turn p (Stopped r) m
  repeat_stops p m r run h = (Went, m, run, loop_stops (until c) turn m r (ap (λ s. and_then s (λ b. Ok (not b))) h))

  pub repeat_left : (p m : Point) → turn p Left m → repeats c turn p Went m
  repeat_left p m run = (Left, m, run, (refl, refl))

  pub repeat_returned : (p m : Point) → turn p Returned m → repeats c turn p Returned m
  repeat_returned p m run = (Returned, m, run, (refl, refl))

  pub repeat_stopped : (p m : Point) (r : Reason) → turn p (Stopped r) m → repeats c turn p (Stopped r) m
  repeat_stopped p m r run = (Stopped r, m, run, (refl, refl))

-- ---- Statements, once their step is begun

pub began : (T : Types) (s other : Stmt) (vars : Values) (left less : ℕ) (e : End) (q : Point) → s ≡ other → left ≡ suc less
    → Runs T other (record { vars = vars; left = suc less }) e q → Runs T s (record { vars = vars; left = left }) e q
began T s other vars left less e q said fewer run =
    subst (λ (t : Stmt). Runs T t (record { vars = vars; left = left }) e q) (sym said)
    (subst (λ (n : ℕ). Runs T other (record { vars = vars; left = n }) e q) (sym fewer) run)

-- what is written is read
pub written : (n : Name) (v : Value) (vars after : Values) → after ≡ with_value n v vars → after n ≡ v
written n v vars after is = ap (λ (vs : Values). vs n) is ∙ ap (λ b. cond b v (vars n)) (same_name-itself n)

pub assigns : (T : Types) (n : Name) (v : Value) (vars after : Values) (left : ℕ) → fits (T n) v ≡ true → after ≡ with_value n v vars
    → Assigns T n v (record { vars = vars; left = left }) Went (record { vars = after; left = left })
assigns T n v vars after left fit is = rw fit (refl, ap (λ (vs : Values). record { vars = vs; left = left }) is)

pub assigns_not : (T : Types) (n : Name) (v : Value) (vars : Values) (left : ℕ) → fits (T n) v ≡ false
    → Assigns T n v (record { vars = vars; left = left }) (Stopped reason.Range) (record { vars = vars; left = left })
assigns_not T n v vars left fit = rw fit (refl, refl)

pub for_counts : (T : Types) (n : Name) (a b c : Expr) (body : Stmts) (vars after : Values) (left : ℕ) (first last by : Value) (end step : ℤ) (e : End) (q : Point)
    → value_of a vars ≡ Ok first → value_of b vars ≡ Ok last → value_of c vars ≡ Ok by → end ≡ whole last → step ≡ whole by
    → fits (T n) first ≡ true → after ≡ with_value n first vars
    → Counts T n end step (RunsAll T body) (record { vars = after; left = left }) e q
    → Runs T (For n a b c body) (record { vars = vars; left = suc left }) e q
for_counts T n a b c body vars after left first last by end step e q ha hb hc he hs fit is run =
    let begun : Assigns T n first (record { vars = vars; left = left }) Went (record { vars = after; left = left }) = assigns T n first vars after left fit is in
    let turns : Counts T n (whole last) (whole by) (RunsAll T body) (record { vars = after; left = left }) e q =
    subst (λ (z : ℤ). Counts T n (whole last) z (RunsAll T body) (record { vars = after; left = left }) e q) hs
    (subst (λ (z : ℤ). Counts T n z step (RunsAll T body) (record { vars = after; left = left }) e q) he run) in
    rw (ha, hb, hc) (Went, record { vars = after; left = left }, begun, turns)

pub for_not_begun : (T : Types) (n : Name) (a b c : Expr) (body : Stmts) (vars : Values) (left : ℕ) (first last by : Value)
    → value_of a vars ≡ Ok first → value_of b vars ≡ Ok last → value_of c vars ≡ Ok by → fits (T n) first ≡ false
    → Runs T (For n a b c body) (record { vars = vars; left = suc left }) (Stopped reason.Range) (record { vars = vars; left = left })
for_not_begun T n a b c body vars left first last by ha hb hc fit =
    let begun = assigns_not T n first vars left fit in
    rw (ha, hb, hc) (Stopped reason.Range, record { vars = vars; left = left }, begun, (refl, refl))

-- ---- What a call says of its end

pub stopped_by : (result : Result Flow Reason) (r : Reason) → result ≡ Err r → end_of result ≡ Stopped r
stopped_by result r is = ap end_of is

pub ended_by : (result : Result Flow Reason) (f g : Flow) → result ≡ Ok f → f ≡ g → end_of result ≡ end_of (Ok g)
ended_by result f g is same = ap end_of (is ∙ ap (λ (h : Flow). Ok h) same)

pub ok_by : (result : Result Bool Reason) (a b : Bool) → result ≡ Ok a → a ≡ b → result ≡ Ok b
ok_by result a b is same = is ∙ ap (λ (v : Bool). Ok v) same

pub ends_as : (R : Running) (p q : Point) (e f : End) → e ≡ f → R p f q → R p e q
ends_as R p q e f same run = subst (λ (g : End). R p g q) (sym same) run

pub runs_as : (a b : List Declared) (s : Stmt) (p m : Point) (e f : End) → a ≡ b → e ≡ f → Runs (types_in a) s p e m → Runs (types_in b) s p f m
runs_as a b s p m e f declared same run =
    subst (λ (ds : List Declared). Runs (types_in ds) s p f m) declared
    (subst (λ (g : End). Runs (types_in a) s p g m) same run)

pub turn_as : (a b : List Declared) (body : Stmts) (p m : Point) (e f : End) → a ≡ b → e ≡ f → Step (RunsAll (types_in a) body) p e m → Step (RunsAll (types_in b) body) p f m
turn_as a b body p m e f declared same run =
    subst (λ (ds : List Declared). Step (RunsAll (types_in ds) body) p f m) declared
    (subst (λ (g : End). Step (RunsAll (types_in a) body) p g m) same run)

pub whole_as : (a b : List Declared) (n : Name) (end step : ℤ) (body : Stmts) (p m : Point) (e f : End) → a ≡ b → e ≡ f
    → Step (Then (RunsAll (types_in a) body) (Advances (types_in a) n end step)) p e m → Step (Then (RunsAll (types_in b) body) (Advances (types_in b) n end step)) p f m
whole_as a b n end step body p m e f declared same run =
    subst (λ (ds : List Declared). Step (Then (RunsAll (types_in ds) body) (Advances (types_in ds) n end step)) p f m) declared
    (subst (λ (g : End). Step (Then (RunsAll (types_in a) body) (Advances (types_in a) n end step)) p g m) same run)

pub counts_as : (a b : List Declared) (n : Name) (end step : ℤ) (body : Stmts) (p q : Point) (e : End) → a ≡ b
    → Counts (types_in a) n end step (RunsAll (types_in a) body) p e q → Counts (types_in b) n end step (RunsAll (types_in b) body) p e q
counts_as a b n end step body p q e declared run =
    subst (λ (ds : List Declared). Counts (types_in ds) n end step (RunsAll (types_in ds) body) p e q) declared run

-- ---- What a condition and its statements say, and labels and theirs

pub branch_says : (b : Branch) → branch_of b ≡ ((out-Branch b).labels, all_of (out-Branch b).body)
branch_says b = search (rules, fold_out-Branch)

pub choice_says : (c : Choice) → choice_of c ≡ (expr_of (out-Choice c).condition, all_of (out-Choice c).body)
choice_says c = search (rules, fold_out-Choice)

pub repeat_says : (body : List read.Stmt) (c : expr.Expr) → stmt_of (read.Repeat body c) ≡ Repeat (all_of body) (expr_of c)
repeat_says body c = rw (← variants.rolls-Repeat body c) (rw fold-roll-Stmt refl)

pub assign_says : (n : Name) (e : expr.Expr) → stmt_of (read.Assign n e) ≡ Assign n (expr_of e)
assign_says n e = rw (← variants.rolls-Assign n e) (rw fold-roll-Stmt refl)

pub if_says : (cs : List Choice) (others : List read.Stmt) → stmt_of (read.If cs others) ≡ If (choices_of cs) (all_of others)
if_says cs others = rw (← variants.rolls-If cs others) (rw fold-roll-Stmt refl)

pub case_says : (e : expr.Expr) (bs : List Branch) (others : List read.Stmt) → stmt_of (read.Case e bs others) ≡ Case (expr_of e) (branches_of bs) (all_of others)
case_says e bs others = rw (← variants.rolls-Case e bs others) (rw fold-roll-Stmt refl)

pub for_says : (n : Name) (a b : expr.Expr) (c : Option expr.Expr) (body : List read.Stmt) → stmt_of (read.For n a b c body) ≡ For n (expr_of a) (expr_of b) (step_of c) (all_of body)
for_says n a b c body = rw (← variants.rolls-For n a b c body) (rw fold-roll-Stmt refl)

pub while_says : (c : expr.Expr) (body : List read.Stmt) → stmt_of (read.While c body) ≡ While (expr_of c) (all_of body)
while_says c body = rw (← variants.rolls-While c body) (rw fold-roll-Stmt refl)

-- CASE, once its selector has a value
pub case_runs : (T : Types) (c : Expr) (bs : Branches) (others : Stmts) (vars : Values) (left : ℕ) (v : Value) (e : End) (q : Point) → value_of c vars ≡ Ok v
    → RunsBranch T bs (whole v) (RunsAll T others) (record { vars = vars; left = left }) e q → Runs T (Case c bs others) (record { vars = vars; left = suc left }) e q
case_runs T c bs others vars left v e q is run = rw is run

-- ---- What is known of a loop's frame, said of the frame that it began with

pub all_as : (f g : List Slot) (m n : Meter) (xs ys : List read.Stmt) (e : End) (q : Point) → f ≡ g → m ≡ n → xs ≡ ys
    → RunsAll (types_in (declared_in f)) (all_of xs) (point f m) e q → RunsAll (types_in (declared_in g)) (all_of ys) (point g n) e q
all_as f g m n xs ys e q same_frame same_meter same run =
    subst (λ (l : List read.Stmt). RunsAll (types_in (declared_in g)) (all_of l) (point g n) e q) same
    (subst (λ (k : Meter). RunsAll (types_in (declared_in g)) (all_of xs) (point g k) e q) same_meter
    (subst (λ (h : List Slot). RunsAll (types_in (declared_in h)) (all_of xs) (point h m) e q) same_frame run))

pub ends_at : (R : Running) (p : Point) (e : End) (f g : List Slot) (m n : Meter) → f ≡ g → m ≡ n → R p e (point g n) → R p e (point f m)
ends_at R p e f g m n same_frame same_meter run =
    subst (λ (h : List Slot). R p e (point h m)) (sym same_frame) (subst (λ (k : Meter). R p e (point g k)) (sym same_meter) run)

pub choice_holds : (c : Choice) (f g : List Slot) (r s : Result Bool Reason) → f ≡ g → r ≡ truth_of (expr_of (out-Choice c).condition) (values_of f) → r ≡ s
    → truth_of (choice_of c).0 (values_of g) ≡ s
choice_holds c f g r s same is known_so =
    ap (λ x. truth_of x.0 (values_of g)) (choice_says c) ∙ ap (λ h. truth_of (expr_of (out-Choice c).condition) (values_of h)) (sym same) ∙ sym is ∙ known_so

pub choice_ran : (c : Choice) (f g : List Slot) (m n : Meter) (xs : List read.Stmt) (e : End) (q : Point) → f ≡ g → m ≡ n → xs ≡ (out-Choice c).body
    → RunsAll (types_in (declared_in f)) (all_of xs) (point f m) e q → RunsAll (types_in (declared_in g)) (choice_of c).1 (point g n) e q
choice_ran c f g m n xs e q same_frame same_meter same run =
    subst (λ (x : Expr × Stmts). RunsAll (types_in (declared_in g)) x.1 (point g n) e q) (sym (choice_says c))
    (all_as f g m n xs (out-Choice c).body e q same_frame same_meter same run)

pub branch_fits : (b : Branch) (labels : List Label) (z : ℤ) (r s : Bool) → labels ≡ (out-Branch b).labels → r ≡ label_fits labels z → r ≡ s → label_fits (branch_of b).0 z ≡ s
branch_fits b labels z r s same is known_so =
    ap (λ x. label_fits x.0 z) (branch_says b) ∙ ap (λ l. label_fits l z) (sym same) ∙ sym is ∙ known_so

pub branch_ran : (b : Branch) (f g : List Slot) (m n : Meter) (xs : List read.Stmt) (e : End) (q : Point) → f ≡ g → m ≡ n → xs ≡ (out-Branch b).body
    → RunsAll (types_in (declared_in f)) (all_of xs) (point f m) e q → RunsAll (types_in (declared_in g)) (branch_of b).1 (point g n) e q
branch_ran b f g m n xs e q same_frame same_meter same run =
    subst (λ (x : List Label × Stmts). RunsAll (types_in (declared_in g)) x.1 (point g n) e q) (sym (branch_says b))
    (all_as f g m n xs (out-Branch b).body e q same_frame same_meter same run)
