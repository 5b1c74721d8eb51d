-- Every body has a run, which leaves no more steps than there were.
use Rattle.fb_types.proofs.Common.{◌≡◌, ℕ, zero, suc, ◌<◌, ◌≤◌, ◌⊎◌, refl, sym, subst, inl, inr, ⊎_elim, ℤ, ◌+ℤ◌, Bool, true, false, not, Result, Ok, Err, arith, Name, Stmt, Empty, Exit, Return, Assign, If, Case, For, While, Repeat, Stmts, no_stmt, then_stmts, Choices, no_choice, then_choices, Branches, no_branch, then_branches, Values, Types, value_of, truth_of, and_then, whole, Point, End, Went, Left, Returned, Stopped, Running, Ends, Step, After, Then, Either, Assigns, TurnThen, Loop, passed, Advances, label_fits, Runs, RunsAll, RunsChoice, RunsBranch, RunsBody, ended}
use Rattle.fb_types.specs.declared.value.Value.{Value}
use Rattle.fb_types.specs.declared.value.Reason.{Reason}
use Rattle.fb_types.specs.Bodies.{StepAnd, With, assigned, AfterTurn}
use Rattle.fb_types.specs.declared.value.Value.TheVariants as value
use Rattle.fb_types.specs.declared.value.Reason.TheVariants as reason

-- A run from a point, with no more steps left than before.
abbrev pub TotalAt : Running → Point → Type 0
TotalAt R p = (e : End) × (q : Point) × R p e q × (q.left ≤ p.left)

abbrev pub Total : Running → Type 0
Total R = (p : Point) → TotalAt R p

-- fewer steps are left, or the run has stopped
abbrev Spent : ℕ → End → Point → Type 0
Spent n e q = (q.left < n) ⊎ (((r : Reason) × (e ≡ Stopped r)) × (q.left ≤ n))

abbrev Strict : Running → Type 0
Strict R = (p : Point) → (e : End) × (q : Point) × R p e q × Spent p.left e q

spent_most : (n : ℕ) (e : End) (q : Point) → Spent n e q → q.left ≤ n
spent_most n e q s = ⊎_elim (λ a. omega arith) (λ a. a.1) s

ends_total : (how : End) → Total (λ p e q. Ends p how e q)
ends_total how p = (how, p, (refl, refl), omega arith)

step_and : (n : ℕ) (vars : Values) (R : Running) → Total R → (e : End) × (q : Point) × StepAnd n vars R e q × Spent n e q
step_and zero vars R d = (Stopped reason.Steps, record { vars = vars; left = 0 }, (refl, refl), inr ((reason.Steps, refl), omega arith))
step_and (suc n) vars R d = let x = d (record { vars = vars; left = n }) in let b = x.3 in (x.0, x.1, x.2, inl (omega arith))

step_strict : (R : Running) → Total R → Strict (Step R)
step_strict R d p = step_and p.left p.vars R d

strict_total : (R : Running) → Strict R → Total R
strict_total R d p = let x = d p in (x.0, x.1, x.2, spent_most p.left x.0 x.1 x.3)

step_total : (R : Running) → Total R → Total (Step R)
step_total R d = strict_total (Step R) (step_strict R d)

with_total : {A : Type 0} (a : Result A Reason) (R : A → Running) (p : Point) → ((x : A) → TotalAt (R x) p) → TotalAt (With a R) p
with_total (Ok a) R p d = d a
with_total (Err r) R p d = ends_total (Stopped r) p

after_total : (g : End) (R : Running) → Total R → Total (After g R)
after_total Went R d p = d p
after_total Left R d p = ends_total Left p
after_total Returned R d p = ends_total Returned p
after_total (Stopped r) R d p = ends_total (Stopped r) p

then_total : (A B : Running) → Total A → Total B → Total (Then A B)
then_total A B a b p =
    let x = a p in
    let y = after_total x.0 B b x.1 in
    let l = x.3 in
    let m = y.3 in
    (y.0, y.1, (x.0, x.1, x.2, y.2), omega arith)

either_total : (c : Bool) (A B : Running) (p : Point) → TotalAt A p → TotalAt B p → TotalAt (Either c A B) p
either_total true A B p a b = a
either_total false A B p a b = b

assigns_total : (types : Types) (n : Name) (v : Value) → Total (Assigns types n v)
assigns_total types n v p = with_total (assigned (types n) v) _ p (λ w. (Went, _, (refl, refl), omega arith))

after_turn_total : (g : End) (R : Running) → Total R → Total (AfterTurn g R)
after_turn_total Went R d p = d p
after_turn_total Left R d p = ends_total Went p
after_turn_total Returned R d p = ends_total Returned p
after_turn_total (Stopped r) R d p = ends_total (Stopped r) p

turn_then_total : (turn R : Running) → Total turn → Total R → Total (TurnThen turn R)
turn_then_total turn R d a p =
    let x = d p in
    let y = after_turn_total x.0 R a x.1 in
    let l = x.3 in
    let m = y.3 in
    (y.0, y.1, (x.0, x.1, x.2, y.2), omega arith)

-- ---- Loops

module _ (test : Values → Result Bool Reason) (turn : Running) (d : Strict turn) where
  abbrev no_more : Result Bool Reason → Running
  no_more a = With a (λ more p e q. Either more (λ _ _ _. ⊥) (λ p e q. Ends p Went e q) p e q)

  went_stopped : (r : Reason) → Went ≡ Stopped r → ⊥
  went_stopped r h = cc

  -- after an iteration, if what follows an iteration that went on has a run
  turned : (p : Point) → test p.vars ≡ Ok true → (g : End) (m : Point) → turn p g m → Spent p.left g m → ((m : Point) → m.left < p.left → TotalAt (Loop test turn) m) → TotalAt (Loop test turn) p
  turned p t Went m x s rec =
      ⊎_elim
      (λ b. let y = rec m b in let l = y.3 in (y.0, y.1, (suc y.2.0, (t, (Went, m, x, y.2.1))), omega arith))
      (λ b. absurd (went_stopped b.0.0 b.0.1))
      s
  turned p t Left m x s rec = let l = spent_most p.left Left m s in (Went, m, (1, (t, (Left, m, x, (refl, refl)))), l)
  turned p t Returned m x s rec = let l = spent_most p.left Returned m s in (Returned, m, (1, (t, (Returned, m, x, (refl, refl)))), l)
  turned p t (Stopped r) m x s rec = let l = spent_most p.left (Stopped r) m s in (Stopped r, m, (1, (t, (Stopped r, m, x, (refl, refl)))), l)

  tested : (p : Point) (a : Result Bool Reason) → test p.vars ≡ a → ((m : Point) → m.left < p.left → TotalAt (Loop test turn) m) → TotalAt (Loop test turn) p
  tested p (Err r) e rec = (Stopped r, p, (0, subst (λ b. no_more b p (Stopped r) p) (sym e) (refl, refl)), omega arith)
  tested p (Ok false) e rec = (Went, p, (0, subst (λ b. no_more b p Went p) (sym e) (refl, refl)), omega arith)
  tested p (Ok true) e rec = let x = d p in turned p e x.0 x.1 x.2 x.3 rec

  loop_within : (fuel : ℕ) (p : Point) → p.left ≤ fuel → TotalAt (Loop test turn) p
  loop_within zero p b = tested p (test p.vars) refl (λ m c. absurd (omega arith))
  loop_within (suc fuel) p b = tested p (test p.vars) refl (λ m c. loop_within fuel m (omega arith))

  loop_total : Total (Loop test turn)
  loop_total p = loop_within p.left p (omega arith)

advances_total : (types : Types) (n : Name) (end step : ℤ) → Total (Advances types n end step)
advances_total types n end step p =
    let next = whole (p.vars n) +ℤ step in
    either_total (passed end step next) (λ p e q. Ends p Left e q) (Assigns types n (value.Whole next)) p (ends_total Left p) (assigns_total types n (value.Whole next) p)

-- ---- Statements

mutual
  pub runs_total : (s : Stmt) (types : Types) → Total (Runs types s)
  runs_total Empty types = step_total _ (ends_total Went)
  runs_total Exit types = step_total _ (ends_total Left)
  runs_total Return types = step_total _ (ends_total Returned)
  runs_total (Assign n x) types = step_total _ (λ p. with_total (value_of x p.vars) (Assigns types n) p (λ v. assigns_total types n v p))
  runs_total (If cs others) types = step_total _ (choices_total cs types others (all_total others types))
  runs_total (Case x bs others) types =
      step_total _ (λ p. with_total (value_of x p.vars) _ p (λ v. branches_total bs types (whole v) others (all_total others types) p))
  runs_total (For n from to by body) types =
      step_total _ (λ p. with_total (value_of from p.vars) _ p (λ first. with_total (value_of to p.vars) _ p (λ end. with_total (value_of by p.vars) _ p (λ step.
      then_total (Assigns types n first) _ (assigns_total types n first)
      (loop_total (λ vars. Ok (not (passed (whole end) (whole step) (whole (vars n))))) _ (step_strict _ (then_total (RunsAll types body) _ (all_total body types) (advances_total types n (whole end) (whole step))))) p))))
  runs_total (While c body) types = step_total _ (loop_total (truth_of c) _ (step_strict _ (all_total body types)))
  runs_total (Repeat body c) types = step_total _
      (turn_then_total _ _ (step_total _ (all_total body types)) (loop_total (λ vars. and_then (truth_of c vars) (λ b. Ok (not b))) _ (step_strict _ (all_total body types))))

  pub all_total : (ss : Stmts) (types : Types) → Total (RunsAll types ss)
  all_total no_stmt types = ends_total Went
  all_total (then_stmts s rest) types = then_total (Runs types s) (RunsAll types rest) (runs_total s types) (all_total rest types)

  pub choices_total : (cs : Choices) (types : Types) (others : Stmts) → Total (RunsAll types others) → Total (RunsChoice types cs (RunsAll types others))
  choices_total no_choice types others d = d
  choices_total (then_choices c body rest) types others d = λ p.
      with_total (truth_of c p.vars) _ p (λ b. either_total b (RunsAll types body) (RunsChoice types rest (RunsAll types others)) p (all_total body types p) (choices_total rest types others d p))

  pub branches_total : (bs : Branches) (types : Types) (z : ℤ) (others : Stmts) → Total (RunsAll types others) → Total (RunsBranch types bs z (RunsAll types others))
  branches_total no_branch types z others d = d
  branches_total (then_branches ls body rest) types z others d = λ p.
      either_total (label_fits ls z) (RunsAll types body) (RunsBranch types rest z (RunsAll types others)) p (all_total body types p) (branches_total rest types z others d p)

pub body_total : (body : Stmts) (types : Types) → Total (RunsBody types body)
body_total body types p = let x = all_total body types p in (ended x.0, x.1, (x.0, x.2, refl), x.3)
