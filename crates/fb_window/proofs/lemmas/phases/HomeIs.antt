-- Resources come home one after another.
use Rattle.fb_window.proofs.lemmas.Common.{◌≡◌, ℕ, ◌+◌, Option, Some, None, List, [], ◌∷◌, ◌++◌, length, map, drop, refl, sym, ap, ◌∙◌, subst, ⊎_elim, arith, Vec, AllZip, slice_get, slice_index_or, cases_lt, Inputs, Line, Message, StopMark, Reason, Resource, WindowDone, Ran, Does, JobModel, job_of, jobs_of, resting_of, AreAwaited, IsHomeTo, AreHome, Home}
use Rattle.fb_types.proofs.lemmas.lists.Lookups.{none_some}
use Rattle.fb_window.specs.Homes.{HasCome, IsHomeAt}
use Rattle.fb_laws.proofs.lemmas.lists.Indexes.{push_here, push_before, push_counted, drop_at, drop_none}

-- what rested had stopped, and what had not stopped left
pub resting_some : (x y : Resource) → resting_of x ≡ Some y → (reason : Reason) × (x.stopped ≡ Some reason) × (y ≡ x)
resting_some x y e = go x.stopped refl e
  where
    go : (o : Option Reason) → x.stopped ≡ o → elim o as (λ _. Option Resource) [ None ↦ None | Some reason ↦ Some x ] ≡ Some y → (reason : Reason) × (x.stopped ≡ Some reason) × (y ≡ x)
    go None q f = absurd (let g : None ≡ Some y = f in cc)
    go (Some reason) q f = let g : Some x ≡ Some y = f in let h : y ≡ x = cc in (reason, q, h)

pub resting_none : (x : Resource) → resting_of x ≡ None → x.stopped ≡ None
resting_none x e = go x.stopped refl e
  where
    go : (o : Option Reason) → x.stopped ≡ o → elim o as (λ _. Option Resource) [ None ↦ None | Some reason ↦ Some x ] ≡ None → x.stopped ≡ None
    go None q f = q
    go (Some reason) q f = absurd (let g : Some x ≡ None = f in cc)

-- a resource that has not stopped has a job
job_there : (i : Inputs) (limit to : ℕ) (x : Resource) → x.stopped ≡ None → job_of i limit to x ≡ record { inputs = i; steps = limit; resource = x; to = to } ∷ []
job_there i limit to x live = go x.stopped live
  where
    go : (o : Option Reason) → o ≡ None → elim o as (λ _. List JobModel) [ None ↦ record { inputs = i; steps = limit; resource = x; to = to } ∷ [] | Some q ↦ [] ] ≡ record { inputs = i; steps = limit; resource = x; to = to } ∷ []
    go None e = refl
    go (Some q) e = absurd (let f : Some q ≡ None = e in cc)

-- one that has stopped has none
no_job : (i : Inputs) (limit to : ℕ) (x : Resource) (reason : Reason) → x.stopped ≡ Some reason → job_of i limit to x ≡ []
no_job i limit to x reason stop = go x.stopped stop
  where
    go : (o : Option Reason) → o ≡ Some reason → elim o as (λ _. List JobModel) [ None ↦ record { inputs = i; steps = limit; resource = x; to = to } ∷ [] | Some q ↦ [] ] ≡ []
    go None e = absurd (let f : None ≡ Some reason = e in cc)
    go (Some q) e = refl

-- ---- What is awaited

-- what is awaited is at the head of its lists
pub record AwaitsFirst (r : Option Resource) (rs : List (Option Resource)) (ks : List (Vec Line)) (ds : List WindowDone) : Type 0 where
  pub inputs : Inputs
  pub limit : ℕ
  pub bounds : List ℕ
  pub index : ℕ
  pub first : Resource
  pub rest : List Resource
  pub is : r ≡ resting_of first
  pub are : rs ≡ map resting_of rest
  pub counted : length ks ≡ length rest + 1
  pub done : AllZip Does (job_of inputs limit (slice_index_or bounds index 0) first ++ jobs_of inputs limit bounds (index + 1) rest) ds

awaits_first : (r : Option Resource) (rs : List (Option Resource)) (ks : List (Vec Line)) (ds : List WindowDone) → AreAwaited (r ∷ rs) ks ds → AwaitsFirst r rs ks ds
awaits_first r rs ks ds a = go a.resources a.is a.counted a.done
  where
    go : (xs : List Resource) → r ∷ rs ≡ map resting_of xs → length ks ≡ length xs → AllZip Does (jobs_of a.inputs a.limit a.bounds a.index xs) ds → AwaitsFirst r rs ks ds
    go [] is counted done = absurd (let f : r ∷ rs ≡ [] = is in cc)
    go (x ∷ xs) is counted done =
        let f : r ∷ rs ≡ resting_of x ∷ map resting_of xs = is in
        record {
          inputs = a.inputs;
          limit = a.limit;
          bounds = a.bounds;
          index = a.index;
          first = x;
          rest = xs;
          is = cc;
          are = cc;
          counted = omega (arith, counted);
          done = done;
        }

-- and a done value for each that has not rested
pub done_awaited : (rs : List (Option Resource)) (ks : List (Vec Line)) → AreAwaited (None ∷ rs) ks [] → ⊥
done_awaited rs ks a =
    let f = awaits_first None rs ks [] a in
    let jobs = subst (λ (js : List JobModel). AllZip Does (js ++ jobs_of f.inputs f.limit f.bounds (f.index + 1) f.rest) [])
    (job_there f.inputs f.limit (slice_index_or f.bounds f.index 0) f.first (resting_none f.first (sym f.is))) f.done in
    absurd jobs

-- the others are awaited after one that has rested
pub awaited_rested : (y : Resource) (rs : List (Option Resource)) (k : Vec Line) (ks : List (Vec Line)) (ds : List WindowDone) → AreAwaited (Some y ∷ rs) (k ∷ ks) ds → AreAwaited rs ks ds
awaited_rested y rs k ks ds a =
    let f = awaits_first (Some y) rs (k ∷ ks) ds a in
    let stop = resting_some f.first y (sym f.is) in
    let n = f.counted in
    record {
      inputs = f.inputs;
      limit = f.limit;
      bounds = f.bounds;
      index = f.index + 1;
      resources = f.rest;
      is = f.are;
      counted = omega (arith, n);
      done = subst (λ (js : List JobModel). AllZip Does (js ++ jobs_of f.inputs f.limit f.bounds (f.index + 1) f.rest) ds)
          (no_job f.inputs f.limit (slice_index_or f.bounds f.index 0) f.first stop.0 stop.1) f.done;
    }

-- and after one that has come back
pub awaited_ran : (rs : List (Option Resource)) (k : Vec Line) (ks : List (Vec Line)) (d : WindowDone) (ds : List WindowDone) → AreAwaited (None ∷ rs) (k ∷ ks) (d ∷ ds) → AreAwaited rs ks ds
awaited_ran rs k ks d ds a =
    let f = awaits_first None rs (k ∷ ks) (d ∷ ds) a in
    let jobs = subst (λ (js : List JobModel). AllZip Does (js ++ jobs_of f.inputs f.limit f.bounds (f.index + 1) f.rest) (d ∷ ds))
    (job_there f.inputs f.limit (slice_index_or f.bounds f.index 0) f.first (resting_none f.first (sym f.is))) f.done in
    let n = f.counted in
    record {
      inputs = f.inputs;
      limit = f.limit;
      bounds = f.bounds;
      index = f.index + 1;
      resources = f.rest;
      is = f.are;
      counted = omega (arith, n);
      done = jobs.1;
    }

-- ---- One more

-- one more was put after what was there
pub record IsPushed (y : Resource) (lines : Vec Line) (sent : Vec Message) (old new : Home) : Type 0 where
  pub resources : new.resources.items ≡ old.resources.items ++ y ∷ []
  pub pending : new.pending.items ≡ old.pending.items ++ lines ∷ []
  pub outboxes : new.outboxes.items ≡ old.outboxes.items ++ sent ∷ []

module _ (i : Inputs) (limit : ℕ) (bounds : List ℕ) (xs : List Resource) (lists : List (Vec Line)) where
  kept_at : (r : ℕ) (y : Resource) (lines : Vec Line) (sent : Vec Message) (old new : Home) → IsPushed y lines sent old new → IsHomeAt i limit bounds xs lists r old → IsHomeAt i limit bounds xs lists r new
  kept_at r y lines sent old new p h = record {
    old = h.old;
    kept = h.kept;
    new = h.new;
    lines = h.lines;
    sent = h.sent;
    old_at = h.old_at;
    kept_at = h.kept_at;
    new_at = ap (λ z. slice_get z r) p.resources ∙ push_before old.resources.items y r h.new h.new_at;
    lines_at = ap (λ z. slice_get z r) p.pending ∙ push_before old.pending.items lines r h.lines h.lines_at;
    sent_at = ap (λ z. slice_get z r) p.outboxes ∙ push_before old.outboxes.items sent r h.sent h.sent_at;
    come = h.come;
  }

  -- what is left of the lists, where the first of them is this one
  first_left : (index : ℕ) (k : Vec Line) (ks : List (Vec Line)) → k ∷ ks ≡ drop index lists → (slice_get lists index ≡ Some k) × (ks ≡ drop (index + 1) lists)
  first_left index k ks e = go (slice_get lists index) refl
    where
      go : (o : Option (Vec Line)) → slice_get lists index ≡ o → (slice_get lists index ≡ Some k) × (ks ≡ drop (index + 1) lists)
      go (Some z) q = let f : k ∷ ks ≡ z ∷ drop (index + 1) lists = e ∙ drop_at lists index z q in let g : z ≡ k = cc in let t : ks ≡ drop (index + 1) lists = cc in (q ∙ ap Some g, t)
      go None q = absurd (let f : k ∷ ks ≡ [] = e ∙ drop_none lists index q in cc)

  home_push : (index : ℕ) (x y : Resource) (k lines : Vec Line) (sent : Vec Message) (ks : List (Vec Line)) (ds es : List WindowDone) (old new : Home)
      → slice_get xs index ≡ Some x → IsHomeTo i limit bounds xs lists index (k ∷ ks) ds old → IsPushed y lines sent old new
      → HasCome i limit (slice_index_or bounds index 0) x k.items y lines.items sent
      → AllZip Does (jobs_of i limit bounds (index + 1) (drop (index + 1) xs)) es
      → IsHomeTo i limit bounds xs lists (index + 1) ks es new
  home_push index x y k lines sent ks ds es old new at h p come done = record {
    resources = ap length p.resources ∙ push_counted old.resources.items y index h.resources;
    pending = ap length p.pending ∙ push_counted old.pending.items lines index h.pending;
    outboxes = ap length p.outboxes ∙ push_counted old.outboxes.items sent index h.outboxes;
    left = (first_left index k ks h.left).1;
    done = done;
    each = λ r b. ⊎_elim (λ l. kept_at r y lines sent old new p (h.each r l)) (λ l. let e : index ≡ r = omega arith in subst (λ (z : ℕ). IsHomeAt i limit bounds xs lists z new) e here) (cases_lt r index);
  }
    where
      here : IsHomeAt i limit bounds xs lists index new
      here = record {
        old = x;
        kept = k;
        new = y;
        lines = lines;
        sent = sent;
        old_at = at;
        kept_at = (first_left index k ks h.left).0;
        new_at = ap (λ z. slice_get z index) p.resources ∙ push_here old.resources.items y index h.resources;
        lines_at = ap (λ z. slice_get z index) p.pending ∙ push_here old.pending.items lines index h.pending;
        sent_at = ap (λ z. slice_get z index) p.outboxes ∙ push_here old.outboxes.items sent index h.outboxes;
        come = come;
      }

  -- the jobs that are left, from a resource on
  jobs_left : (index : ℕ) (x : Resource) (ds : List WindowDone) → slice_get xs index ≡ Some x → AllZip Does (jobs_of i limit bounds index (drop index xs)) ds
      → AllZip Does (job_of i limit (slice_index_or bounds index 0) x ++ jobs_of i limit bounds (index + 1) (drop (index + 1) xs)) ds
  jobs_left index x ds at h = subst (λ (z : List Resource). AllZip Does (jobs_of i limit bounds index z) ds) (drop_at xs index x at) h

  -- a resource that has stopped
  pub home_rested : (index : ℕ) (x : Resource) (k : Vec Line) (sent : Vec Message) (ks : List (Vec Line)) (ds : List WindowDone) (old new : Home) (reason : Reason)
      → slice_get xs index ≡ Some x → x.stopped ≡ Some reason → IsHomeTo i limit bounds xs lists index (k ∷ ks) ds old → IsPushed x k sent old new → sent.items ≡ []
      → IsHomeTo i limit bounds xs lists (index + 1) ks ds new
  home_rested index x k sent ks ds old new reason at stop h p none =
      home_push index x x k k sent ks ds ds old new at h p
      (record { ran = λ e. absurd (none_some _ _ e stop); rested = λ q e. (refl, refl, none) })
      (subst (λ (o : List JobModel). AllZip Does (o ++ jobs_of i limit bounds (index + 1) (drop (index + 1) xs)) ds) (no_job i limit (slice_index_or bounds index 0) x reason stop) (jobs_left index x ds at h.done))

  -- and one that ran
  pub home_ran : (index : ℕ) (x y : Resource) (k new_lines lines : Vec Line) (sent : Vec Message) (stop : Option StopMark) (ks : List (Vec Line)) (ds : List WindowDone) (old new : Home)
      → slice_get xs index ≡ Some x → x.stopped ≡ None → IsHomeTo i limit bounds xs lists index (k ∷ ks) (Ran y new_lines sent stop ∷ ds) old → IsPushed y lines sent old new
      → lines.items ≡ k.items ++ new_lines.items
      → IsHomeTo i limit bounds xs lists (index + 1) ks ds new
  home_ran index x y k new_lines lines sent stop ks ds old new at live h p joined =
      let jobs = subst (λ (o : List JobModel). AllZip Does (o ++ jobs_of i limit bounds (index + 1) (drop (index + 1) xs)) (Ran y new_lines sent stop ∷ ds)) (job_there i limit (slice_index_or bounds index 0) x live) (jobs_left index x (Ran y new_lines sent stop ∷ ds) at h.done) in
      home_push index x y k lines sent ks (Ran y new_lines sent stop ∷ ds) ds old new at h p
      (record { ran = λ e. (new_lines, stop, jobs.0, joined); rested = λ q e. absurd (none_some _ _ live e) })
      jobs.1

-- none has come home yet
pub home_none : (i : Inputs) (limit : ℕ) (bounds : List ℕ) (xs : List Resource) (lists : List (Vec Line)) (ds : List WindowDone) (h : Home)
    → AllZip Does (jobs_of i limit bounds 0 xs) ds → h.resources.items ≡ [] → h.pending.items ≡ [] → h.outboxes.items ≡ [] → IsHomeTo i limit bounds xs lists 0 lists ds h
home_none i limit bounds xs lists ds h done a b c = record {
  resources = ap length a;
  pending = ap length b;
  outboxes = ap length c;
  left = refl;
  done = done;
  each = λ r l. absurd (omega arith);
}

-- all have
pub home_all : (i : Inputs) (limit : ℕ) (bounds : List ℕ) (xs : List Resource) (lists : List (Vec Line)) (index : ℕ) (ks : List (Vec Line)) (ds : List WindowDone) (h : Home)
    → IsHomeTo i limit bounds xs lists index ks ds h → index ≡ length xs → AreHome i limit bounds xs lists h
home_all i limit bounds xs lists index ks ds h a e = record {
  resources = a.resources ∙ e;
  pending = a.pending ∙ e;
  outboxes = a.outboxes ∙ e;
  each = λ r b. a.each r (omega arith);
}
