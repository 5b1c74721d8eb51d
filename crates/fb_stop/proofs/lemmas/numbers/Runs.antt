-- Runs of statements and iterations, put together from their parts, as the proofs of fb_st do it.
use Rattle.fb_types.proofs.Common.{◌≡◌, ℕ, ℤ, zero, suc, ◌+◌, ◌<◌, Bool, true, false, not, List, Option, Some, drop, length, get_or, Result, Ok, Err, refl, sym, ◌∙◌, ap, subst, Name, with_value, Stmt, Case, For, Stmts, Branches, expr_of, stmt_of, Values, Types, truth_of, and_then, value_of, whole, fits, Point, label_fits}
use Rattle.fb_types.specs.declared.text.Label.{Label}
use Rattle.fb_types.specs.declared.text.Choice.{Choice, out-Choice}
use Rattle.fb_types.specs.declared.text.Branch.{Branch, out-Branch}
use Rattle.fb_types.specs.declared.value.Value.{Value}
use Rattle.fb_types.specs.declared.value.Reason.{Reason}
use Rattle.fb_types.specs.Syntax.{Expr}
use Rattle.fb_types.specs.declared.text.Stmt as read
use Rattle.fb_types.specs.declared.value.Reason.TheVariants as reason
use Rattle.fb_st.specs.Frames.{Declared, declared_in, types_in, values_of}
use Rattle.fb_st.specs.Flows.{point, all_of, choices_of, branches_of, choice_of, branch_of}
use Rattle.fb_st.specs.declared.frame.Slot.{Slot}
use Rattle.fb_st.specs.declared.meter.Meter.{Meter}
use Rattle.fb_st.specs.declared.meter.Flow.{Flow}
use Rattle.fb_st.proofs.lemmas.Runs.{cut_at, choice_says, branch_says}
use Rattle.fb_stop.specs.Numbers.{next, after, after_all, after_choices, after_branches}
use Rattle.fb_stop.specs.Blamed.{End, Went, Left, Returned, Stopped, Running, After, Then, Step, TurnThen, Loop, Runs, RunsAll, RunsChoice, RunsBranch, Assigns, Advances, Counts, placed, until, holds_in}
use Rattle.fb_stop.specs.Ends.{end_of}
use Rattle.fb_stop.specs.declared.fault.Fault.{Fault}

-- what the one runs to from here, the other runs to from there
abbrev pub Leads : Running → Point → Running → Point → Type 0
Leads rest m all p = (e : End) (q : Point) → rest m e q → all p e q

-- ---- Statements, one after the other

module _ (T : Types) (o : Option ℕ) where
  pub all_goes_on : (ss : List read.Stmt) (i n k : ℕ) (s : read.Stmt) (p m : Point) → i < length ss → s ≡ get_or ss i s → k ≡ after (stmt_of s) n → Runs T o n (stmt_of s) p Went m
      → Leads (RunsAll T o k (all_of (drop (i + 1) ss))) m (RunsAll T o n (all_of (drop i ss))) p
  all_goes_on ss i n k s p m within is counted run e q rest =
      subst (λ (l : List read.Stmt). RunsAll T o n (all_of l) p e q) (sym (cut_at ss i s within is))
      (Went, m, run, subst (λ (j : ℕ). RunsAll T o j (all_of (drop (i + 1) ss)) m e q) counted rest)

  pub all_ends : (ss : List read.Stmt) (i n : ℕ) (s : read.Stmt) (p m : Point) (f : End) → i < length ss → s ≡ get_or ss i s → Runs T o n (stmt_of s) p f m
      → After f (RunsAll T o (after (stmt_of s) n) (all_of (drop (i + 1) ss))) m f m → RunsAll T o n (all_of (drop i ss)) p f m
  all_ends ss i n s p m f within is run next_one =
      subst (λ (l : List read.Stmt). RunsAll T o n (all_of l) p f m) (sym (cut_at ss i s within is)) (f, m, run, next_one)

  -- ---- The first condition that is true, and the first label that fits

  pub choice_taken : (n k : ℕ) (cs : List Choice) (i : ℕ) (c : Choice) (others : Running) (p : Point) → i < length cs → c ≡ get_or cs i c
      → placed n (truth_of (choice_of c).0 p.vars) ≡ Ok true → Leads (RunsAll T o k (choice_of c).1) p (RunsChoice T o n k (choices_of (drop i cs)) others) p
  choice_taken n k cs i c others p within is holds e q run =
      subst (λ (l : List Choice). RunsChoice T o n k (choices_of l) others p e q) (sym (cut_at cs i c within is)) (rw holds run)

  pub choice_passed : (n k l : ℕ) (cs : List Choice) (i : ℕ) (c : Choice) (others : Running) (p : Point) → i < length cs → c ≡ get_or cs i c → l ≡ after_all (choice_of c).1 k
      → placed n (truth_of (choice_of c).0 p.vars) ≡ Ok false → Leads (RunsChoice T o n l (choices_of (drop (i + 1) cs)) others) p (RunsChoice T o n k (choices_of (drop i cs)) others) p
  choice_passed n k l cs i c others p within is counted fails e q run =
      subst (λ (x : List Choice). RunsChoice T o n k (choices_of x) others p e q) (sym (cut_at cs i c within is))
      (rw fails (subst (λ (j : ℕ). RunsChoice T o n j (choices_of (drop (i + 1) cs)) others p e q) counted run))

  pub choice_stops : (n k : ℕ) (cs : List Choice) (i : ℕ) (c : Choice) (others : Running) (p : Point) (f : Fault) → i < length cs → c ≡ get_or cs i c
      → placed n (truth_of (choice_of c).0 p.vars) ≡ Err f → RunsChoice T o n k (choices_of (drop i cs)) others p (Stopped f) p
  choice_stops n k cs i c others p f within is stops =
      subst (λ (l : List Choice). RunsChoice T o n k (choices_of l) others p (Stopped f) p) (sym (cut_at cs i c within is)) (rw stops (refl, refl))

  pub branch_taken : (k : ℕ) (bs : List Branch) (i : ℕ) (b : Branch) (z : ℤ) (others : Running) (p : Point) → i < length bs → b ≡ get_or bs i b
      → label_fits (branch_of b).0 z ≡ true → Leads (RunsAll T o k (branch_of b).1) p (RunsBranch T o k (branches_of (drop i bs)) z others) p
  branch_taken k bs i b z others p within is fits e q run =
      subst (λ (l : List Branch). RunsBranch T o k (branches_of l) z others p e q) (sym (cut_at bs i b within is)) (rw fits run)

  pub branch_passed : (k l : ℕ) (bs : List Branch) (i : ℕ) (b : Branch) (z : ℤ) (others : Running) (p : Point) → i < length bs → b ≡ get_or bs i b → l ≡ after_all (branch_of b).1 k
      → label_fits (branch_of b).0 z ≡ false → Leads (RunsBranch T o l (branches_of (drop (i + 1) bs)) z others) p (RunsBranch T o k (branches_of (drop i bs)) z others) p
  branch_passed k l bs i b z others p within is counted fails e q run =
      subst (λ (x : List Branch). RunsBranch T o k (branches_of x) z others p e q) (sym (cut_at bs i b within is))
      (rw fails (subst (λ (j : ℕ). RunsBranch T o j (branches_of (drop (i + 1) bs)) z others p e q) counted run))

-- the numbers after a list, once the first of the rest is passed
pub choices_counted : (cs : List Choice) (i k l : ℕ) (c : Choice) (all : ℕ) → i < length cs → c ≡ get_or cs i c → l ≡ after_all (choice_of c).1 k
    → after_choices (choices_of (drop i cs)) k ≡ all → after_choices (choices_of (drop (i + 1) cs)) l ≡ all
choices_counted cs i k l c all within is counted so =
    ap (λ (j : ℕ). after_choices (choices_of (drop (i + 1) cs)) j) counted ∙ sym (ap (λ (x : List Choice). after_choices (choices_of x) k) (cut_at cs i c within is)) ∙ so

pub branches_counted : (bs : List Branch) (i k l : ℕ) (b : Branch) (all : ℕ) → i < length bs → b ≡ get_or bs i b → l ≡ after_all (branch_of b).1 k
    → after_branches (branches_of (drop i bs)) k ≡ all → after_branches (branches_of (drop (i + 1) bs)) l ≡ all
branches_counted bs i k l b all within is counted so =
    ap (λ (j : ℕ). after_branches (branches_of (drop (i + 1) bs)) j) counted ∙ sym (ap (λ (x : List Branch). after_branches (branches_of x) k) (cut_at bs i b within is)) ∙ so

pub all_counted : (ss : List read.Stmt) (i k l : ℕ) (s : read.Stmt) (all : ℕ) → i < length ss → s ≡ get_or ss i s → l ≡ after (stmt_of s) k
    → after_all (all_of (drop i ss)) k ≡ all → after_all (all_of (drop (i + 1) ss)) l ≡ all
all_counted ss i k l s all within is counted so =
    ap (λ (j : ℕ). after_all (all_of (drop (i + 1) ss)) j) counted ∙ sym (ap (λ (x : List read.Stmt). after_all (all_of x) k) (cut_at ss i s within is)) ∙ so

-- ---- Loops

module _ (test : Values → Result Bool Fault) (turn : Running) where
  pub loop_over : (p : Point) → test p.vars ≡ Ok false → Loop test turn p Went p
  loop_over p h = (zero, rw h (refl, refl))

  pub loop_stops : (p : Point) (f : Fault) → test p.vars ≡ Err f → Loop test turn p (Stopped f) p
  loop_stops p f h = (zero, rw h (refl, refl))

  pub loop_goes_on : (p m : Point) → test p.vars ≡ Ok true → turn p Went m → Leads (Loop test turn) m (Loop test turn) p
  loop_goes_on p m h run e q rest = (suc rest.0, (h, (Went, m, run, rest.1)))

  pub loop_left : (p m : Point) → test p.vars ≡ Ok true → turn p Left m → Loop test turn p Went m
  loop_left p m h run = (suc zero, (h, (Left, m, run, (refl, refl))))

  pub loop_returned : (p m : Point) → test p.vars ≡ Ok true → turn p Returned m → Loop test turn p Returned m
  loop_returned p m h run = (suc zero, (h, (Returned, m, run, (refl, refl))))

  pub loop_stopped : (p m : Point) (f : Fault) → test p.vars ≡ Ok true → turn p (Stopped f) m → Loop test turn p (Stopped f) m
  loop_stopped p m f h run = (suc zero, (h, (Stopped f, m, run, (refl, refl))))

abbrev pub repeats : ℕ → Expr → Running → Running
repeats n c turn = TurnThen turn (Loop (until n c) turn)

-- an iteration that goes on, and then what the rest runs to
turns_again : (test : Values → Result Bool Fault) (turn : Running) (m : Point) → test m.vars ≡ Ok true → Leads (TurnThen turn (Loop test turn)) m (Loop test turn) m
turns_again test turn m h e q (Went, n, run, rest) = (suc rest.0, (h, (Went, n, run, rest.1)))
turns_again test turn m h e q (Left, n, run, rest) = (suc zero, (h, (Left, n, run, rest)))
turns_again test turn m h e q (Returned, n, run, rest) = (suc zero, (h, (Returned, n, run, rest)))
turns_again test turn m h e q (Stopped r, n, run, rest) = (suc zero, (h, (Stopped r, n, run, rest)))

-- the test of REPEAT is that of its condition, turned round
until_true : (n : ℕ) (a : Result Bool Reason) → placed n a ≡ Ok false → placed n (and_then a (λ b. Ok (not b))) ≡ Ok true
until_true n (Ok true) h = absurd (cc)
until_true n (Ok false) h = refl
until_true n (Err r) h = absurd (cc)

until_false : (n : ℕ) (a : Result Bool Reason) → placed n a ≡ Ok true → placed n (and_then a (λ b. Ok (not b))) ≡ Ok false
until_false n (Ok true) h = refl
until_false n (Ok false) h = absurd (cc)
until_false n (Err r) h = absurd (cc)

until_fails : (n : ℕ) (a : Result Bool Reason) (f : Fault) → placed n a ≡ Err f → placed n (and_then a (λ b. Ok (not b))) ≡ Err f
until_fails n (Ok b) f h = absurd (cc)
until_fails n (Err r) f h = cc

module _ (n : ℕ) (c : Expr) (turn : Running) where
  pub repeat_goes_on : (p m : Point) → turn p Went m → holds_in n c m.vars ≡ Ok false → Leads (repeats n c turn) m (repeats n c turn) p
  repeat_goes_on p m run h e q rest = (Went, m, run, turns_again (until n c) turn m (until_true n (truth_of c m.vars) h) e q rest)

  pub repeat_over : (p m : Point) → turn p Went m → holds_in n c m.vars ≡ Ok true → repeats n c turn p Went m
  repeat_over p m run h = (Went, m, run, loop_over (until n c) turn m (until_false n (truth_of c m.vars) h))

  pub repeat_stops : (p m : Point) (f : Fault) → turn p Went m → holds_in n c m.vars ≡ Err f → repeats n c turn p (Stopped f) m
  repeat_stops p m f run h = (Went, m, run, loop_stops (until n c) turn m f (until_fails n (truth_of c m.vars) f h))

  pub repeat_left : (p m : Point) → turn p Left m → repeats n c turn p Went m
  repeat_left p m run = (Left, m, run, (refl, refl))

  pub repeat_returned : (p m : Point) → turn p Returned m → repeats n c turn p Returned m
  repeat_returned p m run = (Returned, m, run, (refl, refl))

  pub repeat_stopped : (p m : Point) (f : Fault) → turn p (Stopped f) m → repeats n c turn p (Stopped f) m
  repeat_stopped p m f run = (Stopped f, m, run, (refl, refl))

-- ---- Statements, once their step is begun

pub began : (T : Types) (o : Option ℕ) (n : ℕ) (s other : Stmt) (vars : Values) (left less : ℕ) (e : End) (q : Point) → s ≡ other → left ≡ suc less
    → Runs T o n other (record { vars = vars; left = suc less }) e q → Runs T o n s (record { vars = vars; left = left }) e q
began T o n s other vars left less e q said fewer run =
    subst (λ (t : Stmt). Runs T o n t (record { vars = vars; left = left }) e q) (sym said)
    (subst (λ (k : ℕ). Runs T o n other (record { vars = vars; left = k }) e q) (sym fewer) run)

pub assigns : (T : Types) (k : ℕ) (n : Name) (v : Value) (vars after : Values) (left : ℕ) → fits (T n) v ≡ true → after ≡ with_value n v vars
    → Assigns T k n v (record { vars = vars; left = left }) Went (record { vars = after; left = left })
assigns T k n v vars after left fit is = rw fit (refl, ap (λ (vs : Values). record { vars = vs; left = left }) is)

pub assigns_not : (T : Types) (k : ℕ) (n : Name) (v : Value) (vars : Values) (left : ℕ) → fits (T n) v ≡ false
    → Assigns T k n v (record { vars = vars; left = left }) (Stopped (record { reason = reason.Range; number = k; value = Some v })) (record { vars = vars; left = left })
assigns_not T k n v vars left fit = rw fit (refl, refl)

module _ (T : Types) (o : Option ℕ) (k : ℕ) (n : Name) (a b c : Expr) (body : Stmts) where
  pub for_counts : (vars after : Values) (left : ℕ) (first last by : Value) (end step : ℤ) (e : End) (q : Point)
      → placed k (value_of a vars) ≡ Ok first → placed k (value_of b vars) ≡ Ok last → placed k (value_of c vars) ≡ Ok by → end ≡ whole last → step ≡ whole by
      → fits (T n) first ≡ true → after ≡ with_value n first vars
      → Counts T k n end step (RunsAll T (Some k) (next k) body) (record { vars = after; left = left }) e q
      → Runs T o k (For n a b c body) (record { vars = vars; left = suc left }) e q
  for_counts vars after left first last by end step e q ha hb hc he hs fit is run =
      let begun : Assigns T k n first (record { vars = vars; left = left }) Went (record { vars = after; left = left }) = assigns T k n first vars after left fit is in
      let turns : Counts T k n (whole last) (whole by) (RunsAll T (Some k) (next k) body) (record { vars = after; left = left }) e q =
      subst (λ (z : ℤ). Counts T k n (whole last) z (RunsAll T (Some k) (next k) body) (record { vars = after; left = left }) e q) hs
      (subst (λ (z : ℤ). Counts T k n z step (RunsAll T (Some k) (next k) body) (record { vars = after; left = left }) e q) he run) in
      rw (ha, hb, hc) (Went, record { vars = after; left = left }, begun, turns)

  pub for_stops_last : (vars : Values) (left : ℕ) (first : Value) (f : Fault) → placed k (value_of a vars) ≡ Ok first → placed k (value_of b vars) ≡ Err f
      → Runs T o k (For n a b c body) (record { vars = vars; left = suc left }) (Stopped f) (record { vars = vars; left = left })
  for_stops_last vars left first f ha hb = rw (ha, hb) (refl, refl)

  pub for_stops_by : (vars : Values) (left : ℕ) (first last : Value) (f : Fault) → placed k (value_of a vars) ≡ Ok first → placed k (value_of b vars) ≡ Ok last → placed k (value_of c vars) ≡ Err f
      → Runs T o k (For n a b c body) (record { vars = vars; left = suc left }) (Stopped f) (record { vars = vars; left = left })
  for_stops_by vars left first last f ha hb hc = rw (ha, hb, hc) (refl, refl)

  pub for_not_begun : (vars : Values) (left : ℕ) (first last by : Value)
      → placed k (value_of a vars) ≡ Ok first → placed k (value_of b vars) ≡ Ok last → placed k (value_of c vars) ≡ Ok by → fits (T n) first ≡ false
      → Runs T o k (For n a b c body) (record { vars = vars; left = suc left }) (Stopped (record { reason = reason.Range; number = k; value = Some first })) (record { vars = vars; left = left })
  for_not_begun vars left first last by ha hb hc fit =
      let begun = assigns_not T k n first vars left fit in
      rw (ha, hb, hc) (Stopped (record { reason = reason.Range; number = k; value = Some first }), record { vars = vars; left = left }, begun, (refl, refl))

-- ---- What a call says of its end

pub stopped_by : (result : Result Flow Fault) (f : Fault) → result ≡ Err f → end_of result ≡ Stopped f
stopped_by result f is = ap end_of is

pub ended_by : (result : Result Flow Fault) (f g : Flow) → result ≡ Ok f → f ≡ g → end_of result ≡ end_of (Ok g)
ended_by result f g is same = ap end_of (is ∙ ap (λ (h : Flow). Ok h) same)

pub ok_by : (result : Result Bool Fault) (a b : Bool) → result ≡ Ok a → a ≡ b → result ≡ Ok b
ok_by result a b is same = is ∙ ap (λ (v : Bool). Ok v) same

pub runs_as : (a b : List Declared) (o : Option ℕ) (n : ℕ) (s : Stmt) (p m : Point) (e f : End) → a ≡ b → e ≡ f → Runs (types_in a) o n s p e m → Runs (types_in b) o n s p f m
runs_as a b o n s p m e f declared same run =
    subst (λ (ds : List Declared). Runs (types_in ds) o n s p f m) declared
    (subst (λ (g : End). Runs (types_in a) o n s p g m) same run)

-- the iterations of a loop of this number
abbrev pub turn_in : Types → ℕ → Stmts → Running
turn_in T n body = Step n (RunsAll T (Some n) (next n) body)

abbrev pub counted_turn : Types → ℕ → Name → (end step : ℤ) → Stmts → Running
counted_turn T k n end step body = Step k (Then (RunsAll T (Some k) (next k) body) (Advances T k n end step))

-- an iteration whose step is begun
pub turned : (T : Types) (n k : ℕ) (body : Stmts) (vars : Values) (left less : ℕ) (e : End) (q : Point) → left ≡ suc less → k ≡ next n
    → RunsAll T (Some n) k body (record { vars = vars; left = less }) e q → turn_in T n body (record { vars = vars; left = left }) e q
turned T n k body vars left less e q fewer counted run =
    subst (λ (l : ℕ). turn_in T n body (record { vars = vars; left = l }) e q) (sym fewer)
    (subst (λ (j : ℕ). RunsAll T (Some n) j body (record { vars = vars; left = less }) e q) counted run)

pub counted_on : (T : Types) (k l : ℕ) (n : Name) (end step : ℤ) (body : Stmts) (vars : Values) (left less : ℕ) (m : Point) (e : End) (q : Point) → left ≡ suc less → l ≡ next k
    → RunsAll T (Some k) l body (record { vars = vars; left = less }) Went m → Advances T k n end step m e q → counted_turn T k n end step body (record { vars = vars; left = left }) e q
counted_on T k l n end step body vars left less m e q fewer counted run advanced =
    subst (λ (u : ℕ). counted_turn T k n end step body (record { vars = vars; left = u }) e q) (sym fewer)
    (Went, m, subst (λ (j : ℕ). RunsAll T (Some k) j body (record { vars = vars; left = less }) Went m) counted run, advanced)

pub turn_as : (a b : List Declared) (n : ℕ) (body : Stmts) (p m : Point) (e f : End) → a ≡ b → e ≡ f → turn_in (types_in a) n body p e m → turn_in (types_in b) n body p f m
turn_as a b n body p m e f declared same run =
    subst (λ (ds : List Declared). turn_in (types_in ds) n body p f m) declared
    (subst (λ (g : End). turn_in (types_in a) n body p g m) same run)

pub whole_as : (a b : List Declared) (k : ℕ) (n : Name) (end step : ℤ) (body : Stmts) (p m : Point) (e f : End) → a ≡ b → e ≡ f
    → counted_turn (types_in a) k n end step body p e m → counted_turn (types_in b) k n end step body p f m
whole_as a b k n end step body p m e f declared same run =
    subst (λ (ds : List Declared). counted_turn (types_in ds) k n end step body p f m) declared
    (subst (λ (g : End). counted_turn (types_in a) k n end step body p g m) same run)

pub counts_as : (a b : List Declared) (k : ℕ) (n : Name) (end step : ℤ) (body : Stmts) (p q : Point) (e : End) → a ≡ b
    → Counts (types_in a) k n end step (RunsAll (types_in a) (Some k) (next k) body) p e q → Counts (types_in b) k n end step (RunsAll (types_in b) (Some k) (next k) body) p e q
counts_as a b k n end step body p q e declared run =
    subst (λ (ds : List Declared). Counts (types_in ds) k n end step (RunsAll (types_in ds) (Some k) (next k) body) p e q) declared run

-- CASE, once its selector has a value
pub case_runs : (T : Types) (o : Option ℕ) (n k : ℕ) (c : Expr) (bs : Branches) (others : Stmts) (vars : Values) (left : ℕ) (v : Value) (e : End) (q : Point) → placed n (value_of c vars) ≡ Ok v → k ≡ next n
    → RunsBranch T o k bs (whole v) (RunsAll T o (after_branches bs k) others) (record { vars = vars; left = left }) e q → Runs T o n (Case c bs others) (record { vars = vars; left = suc left }) e q
case_runs T o n k c bs others vars left v e q is counted run =
    let from : RunsBranch T o (next n) bs (whole v) (RunsAll T o (after_branches bs (next n)) others) (record { vars = vars; left = left }) e q =
    subst (λ (j : ℕ). RunsBranch T o j bs (whole v) (RunsAll T o (after_branches bs j) others) (record { vars = vars; left = left }) e q) counted run in
    rw is from

-- ---- What is known of a loop's frame, said of the frame that it began with

pub all_as : (o : Option ℕ) (k l : ℕ) (f g : List Slot) (m n : Meter) (xs ys : List read.Stmt) (e : End) (q : Point) → k ≡ l → f ≡ g → m ≡ n → xs ≡ ys
    → RunsAll (types_in (declared_in f)) o k (all_of xs) (point f m) e q → RunsAll (types_in (declared_in g)) o l (all_of ys) (point g n) e q
all_as o k l f g m n xs ys e q counted same_frame same_meter same run =
    subst (λ (j : ℕ). RunsAll (types_in (declared_in g)) o j (all_of ys) (point g n) e q) counted
    (subst (λ (x : List read.Stmt). RunsAll (types_in (declared_in g)) o k (all_of x) (point g n) e q) same
    (subst (λ (u : Meter). RunsAll (types_in (declared_in g)) o k (all_of xs) (point g u) e q) same_meter
    (subst (λ (h : List Slot). RunsAll (types_in (declared_in h)) o k (all_of xs) (point h m) e q) same_frame run)))

pub ends_at : (R : Running) (p : Point) (e : End) (f g : List Slot) (m n : Meter) → f ≡ g → m ≡ n → R p e (point g n) → R p e (point f m)
ends_at R p e f g m n same_frame same_meter run =
    subst (λ (h : List Slot). R p e (point h m)) (sym same_frame) (subst (λ (k : Meter). R p e (point g k)) (sym same_meter) run)

pub choice_holds : (n : ℕ) (c : Choice) (f g : List Slot) (r s : Result Bool Fault) → f ≡ g → r ≡ placed n (truth_of (expr_of (out-Choice c).condition) (values_of f)) → r ≡ s
    → placed n (truth_of (choice_of c).0 (values_of g)) ≡ s
choice_holds n c f g r s same is known_so =
    ap (λ x. placed n (truth_of x.0 (values_of g))) (choice_says c) ∙ ap (λ h. placed n (truth_of (expr_of (out-Choice c).condition) (values_of h))) (sym same) ∙ sym is ∙ known_so

pub choice_ran : (o : Option ℕ) (k : ℕ) (c : Choice) (f g : List Slot) (m n : Meter) (xs : List read.Stmt) (e : End) (q : Point) → f ≡ g → m ≡ n → xs ≡ (out-Choice c).body
    → RunsAll (types_in (declared_in f)) o k (all_of xs) (point f m) e q → RunsAll (types_in (declared_in g)) o k (choice_of c).1 (point g n) e q
choice_ran o k c f g m n xs e q same_frame same_meter same run =
    subst (λ (x : Expr × Stmts). RunsAll (types_in (declared_in g)) o k x.1 (point g n) e q) (sym (choice_says c))
    (all_as o k k f g m n xs (out-Choice c).body e q refl same_frame same_meter same run)

pub branch_fits : (b : Branch) (labels : List Label) (z : ℤ) (r s : Bool) → labels ≡ (out-Branch b).labels → r ≡ label_fits labels z → r ≡ s → label_fits (branch_of b).0 z ≡ s
branch_fits b labels z r s same is known_so =
    ap (λ x. label_fits x.0 z) (branch_says b) ∙ ap (λ l. label_fits l z) (sym same) ∙ sym is ∙ known_so

pub branch_ran : (o : Option ℕ) (k : ℕ) (b : Branch) (f g : List Slot) (m n : Meter) (xs : List read.Stmt) (e : End) (q : Point) → f ≡ g → m ≡ n → xs ≡ (out-Branch b).body
    → RunsAll (types_in (declared_in f)) o k (all_of xs) (point f m) e q → RunsAll (types_in (declared_in g)) o k (branch_of b).1 (point g n) e q
branch_ran o k b f g m n xs e q same_frame same_meter same run =
    subst (λ (x : List Label × Stmts). RunsAll (types_in (declared_in g)) o k x.1 (point g n) e q) (sym (branch_says b))
    (all_as o k k f g m n xs (out-Branch b).body e q refl same_frame same_meter same run)

-- the statements of a choice or a branch, which are counted
pub choice_counted : (c : Choice) (xs : List read.Stmt) (k l : ℕ) → xs ≡ (out-Choice c).body → l ≡ after_all (all_of xs) k → l ≡ after_all (choice_of c).1 k
choice_counted c xs k l same is = is ∙ ap (λ (x : List read.Stmt). after_all (all_of x) k) same ∙ sym (ap (λ (x : Expr × Stmts). after_all x.1 k) (choice_says c))

pub branch_counted : (b : Branch) (xs : List read.Stmt) (k l : ℕ) → xs ≡ (out-Branch b).body → l ≡ after_all (all_of xs) k → l ≡ after_all (branch_of b).1 k
branch_counted b xs k l same is = is ∙ ap (λ (x : List read.Stmt). after_all (all_of x) k) same ∙ sym (ap (λ (x : List Label × Stmts). after_all x.1 k) (branch_says b))
