-- How far a series of turns has come, turn after turn.
use Rattle.fb_window.proofs.lemmas.Common.{◌≡◌, ℕ, ◌+◌, ◌<◌, ◌++◌, Option, Some, None, List, [], ◌∷◌, length, refl, sym, ap, ◌∙◌, subst, inl, inr, ⊎_elim, arith, All, Vec, slice_get, slice_set, length-set, Inputs, system_of, stimuli_of, CoreStep, opening_core, machine, IsSchedule, Key, Line, StopMark, Reason, IsNext, waiting, AreGood, BelongsTo, IsOf, Resource, core_of, AreLive, IsAt, Leads, Single, CoreState}
use Rattle.fb_types.proofs.Common.{All-append}
use Rattle.fb_types.specs.Cores as model_cores
use Rattle.fb_types.proofs.lemmas.lists.Lookups.{option_cases}
use Rattle.fb_resource.proofs.lemmas.Lists.{set_each}
use Rattle.fb_resource.specs.Resources.{mark_of}
use Rattle.fb_window.specs.ManyTurns.{HasTurned, IsSeries, TakesTurns, after_series}
use Rattle.fb_laws.proofs.lemmas.lists.Indexes.{has_at, is_at, one_at, push_counted}
use Rattle.fb_window.proofs.lemmas.messages.Receives.{set_same}
use Rattle.fb_window.proofs.lemmas.turns.OneTurn.{leads}
use Rattle.fb_window.proofs.lemmas.phases.Standings.{is_least}
use Rattle.fb_types.proofs.lemmas.lists.ByIndex.{all_at}
use Rattle.fb_window.proofs.lemmas.phases.Targets.{all_by_index}
use Rattle.fb_window.proofs.lemmas.turns.ManyTurns.{leads_more, leads_none}

-- This many turns have led from the one core to the other.
pub record HasGone (i : Inputs) (limit horizon : ℕ) (first core : CoreState) (k : ℕ) : Type 0 where
  pub system : core.system ≡ i
  pub steps : core.steps ≡ limit
  pub counted : length core.pending.items ≡ length core.resources.items
  pub belong : All (λ (p : Vec Line). All (BelongsTo (system_of i)) p.items) core.pending.items
  pub leads : (es : List (CoreStep (machine (system_of i) limit)))
      → IsSchedule (machine (system_of i) limit) horizon (opening_core (system_of i) (stimuli_of i) limit) es
      → IsAt i limit (core_of i limit es) first.resources.items
      → (ts : List (Single (machine (system_of i) limit))) × Leads i limit horizon es first core ts × (length ts ≡ k)

pub gone_none : (i : Inputs) (limit horizon : ℕ) (first : CoreState) → first.system ≡ i → first.steps ≡ limit → length first.pending.items ≡ length first.resources.items
    → All (λ (p : Vec Line). All (BelongsTo (system_of i)) p.items) first.pending.items → HasGone i limit horizon first first 0
gone_none i limit horizon first system steps counted belong = record {
  system = system;
  steps = steps;
  counted = counted;
  belong = belong;
  leads = λ es sc at. ([], leads_none i limit horizon es first sc at, refl);
}

module _ (i : Inputs) (limit horizon : ℕ) (first : CoreState) where
  -- What is said of the core that the turns lead to is said of the series of turns.
  pub series_of : (most k : ℕ) (core : CoreState) → HasGone i limit horizon first core k
      → ((d : model_cores.Core (machine (system_of i) limit)) → IsAt i limit d core.resources.items → IsSeries i limit horizon most d k) → TakesTurns i limit horizon most first core
  series_of most k core g f es sc at =
      let h = g.leads es sc at in
      (h.0, h.1, subst (λ (n : ℕ). IsSeries i limit horizon most (core_of i limit (after_series i limit es h.0)) n) (sym h.2) (f (core_of i limit (after_series i limit es h.0)) h.1.at))

  -- a resource has stopped
  pub by_stop : (most k r : ℕ) (core : CoreState) (x : Resource) (reason : Reason) → slice_get core.resources.items r ≡ Some x → x.stopped ≡ Some reason → HasGone i limit horizon first core k → TakesTurns i limit horizon most first core
  by_stop most k r core x reason e s g =
      series_of most k core g
      (λ d at. let b = is_at core.resources.items r x e in let n = at.counted in inr (inl (r, omega arith, reason, (at.each r x e).state.stop ∙ s)))

  -- nothing comes before the horizon
  pub by_horizon : (most k : ℕ) (core : CoreState) → ((r : ℕ) (x : Resource) (j : Key) → slice_get core.resources.items r ≡ Some x → j.tick < horizon → waiting x.agenda j ≡ None)
      → HasGone i limit horizon first core k → TakesTurns i limit horizon most first core
  by_horizon most k core low g =
      series_of most k core g (λ d at. inr (inr (is_least i limit d core.resources.items at horizon horizon (omega arith) low (λ b. absurd (omega arith))).is_floor))

  pub by_count : (most : ℕ) (core : CoreState) → HasGone i limit horizon first core most → TakesTurns i limit horizon most first core
  by_count most core g = series_of most most core g (λ d at. inl refl)

  -- the resources are those of a system, in order
  module _ (k : ℕ) (core : CoreState) (gone : HasGone i limit horizon first core k)
      (come : (es : List (CoreStep (machine (system_of i) limit))) × IsSchedule (machine (system_of i) limit) horizon (opening_core (system_of i) (stimuli_of i) limit) es
      × IsAt i limit (core_of i limit es) first.resources.items) where
    pub each_of : (r : ℕ) (x : Resource) → slice_get core.resources.items r ≡ Some x → IsOf i x
    each_of r x e = let h = gone.leads come.0 come.1 come.2 in (h.1.at.each r x e).of

  -- ---- One turn more

  module _ (good : AreGood i) (k : ℕ) (old : CoreState) (live : AreLive old.resources.items) (gone : HasGone i limit horizon first old k)
      (m : ℕ) (early : m < horizon) (low : (q : ℕ) (z : Resource) (j : Key) → slice_get old.resources.items q ≡ Some z → j.tick < m → waiting z.agenda j ≡ None)
      (index : ℕ) (x : Resource) (x_at : slice_get old.resources.items index ≡ Some x) (next : IsNext x.agenda m)
      (new : CoreState) (stop : Option StopMark) (turned : HasTurned i limit index (m + 1) old new stop) (system : new.system ≡ old.system) (steps : new.steps ≡ old.steps) where
    next_of : IsNext turned.before.agenda m
    next_of = subst (λ (z : Resource). IsNext z.agenda m) (one_at old.resources.items index x turned.before x_at turned.was) next

    within : index < length old.pending.items
    within = is_at old.pending.items index turned.kept turned.kept_was

    belong_more : All (λ (p : Vec Line). All (BelongsTo (system_of i)) p.items) new.pending.items
    belong_more =
        all_by_index (λ (p : Vec Line). All (BelongsTo (system_of i)) p.items) new.pending.items
        (λ n p e.
        set_each (λ q (o : Vec Line). All (BelongsTo (system_of i)) o.items) old.pending.items index turned.lines within
        (subst (All (BelongsTo (system_of i))) (sym turned.joined)
        (All-append (BelongsTo (system_of i)) turned.kept.items turned.added.items
        (all_at (λ (o : Vec Line). All (BelongsTo (system_of i)) o.items) old.pending.items index turned.kept gone.belong turned.kept_was) turned.ran.2))
        (λ q o apart f. all_at (λ (z : Vec Line). All (BelongsTo (system_of i)) z.items) old.pending.items q o gone.belong f)
        n p (sym (ap (λ z. slice_get z n) turned.pending) ∙ e))

    pub gone_more : HasGone i limit horizon first new (k + 1)
    gone_more = record {
      system = system ∙ gone.system;
      steps = steps ∙ gone.steps;
      counted = ap (λ z. length z) turned.pending ∙ length-set old.pending.items index turned.lines ∙ gone.counted ∙ sym (length-set old.resources.items index turned.after) ∙ sym turned.given.counted;
      belong = belong_more;
      leads = λ es sc at.
          let h = gone.leads es sc at in
          let here = after_series i limit es h.0 in
          let step = leads i good limit horizon here h.1.schedule old.resources.items h.1.at live m early low index turned.before turned.was next_of turned.after turned.added turned.sent stop turned.ran
          new.resources.items turned.given old.pending.items gone.counted turned.kept turned.lines turned.kept_was turned.joined old new refl refl refl turned.pending in
          (h.0 ++ step.0 ∷ [], leads_more i limit horizon es first old new h.0 (step.0 ∷ []) h.1 step.1, push_counted h.0 step.0 k h.2);
    }

    -- what the resource is when its messages have been delivered
    after_at : (y : Resource) × (slice_get new.resources.items index ≡ Some y) × (y.stopped ≡ turned.after.stopped)
    after_at =
        let was = is_at old.resources.items index turned.before turned.was in
        let p = turned.given.each index turned.after (set_same old.resources.items index turned.after was) in
        (p.0, p.1, ap (λ (z : Resource). z.stopped) p.2.besides)

    pub stopped_at : (mark : StopMark) → stop ≡ Some mark → (y : Resource) × (reason : Reason) × (slice_get new.resources.items index ≡ Some y) × (y.stopped ≡ Some reason)
    stopped_at mark e =
        let a = after_at in
        ⊎_elim
        (λ n. absurd (let f : Some mark ≡ None = sym e ∙ turned.ran.4 ∙ ap (λ o. mark_of turned.after.tree.resource turned.after.clock o) n in cc))
        (λ q. (a.0, q.0, a.1, a.2 ∙ q.1))
        (option_cases turned.after.stopped)

    pub live_more : stop ≡ None → AreLive new.resources.items
    live_more e q z f =
        let n = turned.given.counted in
        let b = is_at new.resources.items q z f in
        let u = has_at (slice_set old.resources.items index turned.after) q (omega arith) in
        let p = turned.given.each q u.0 u.1 in
        ap (λ (o : Resource). o.stopped) (sym (one_at new.resources.items q p.0 z p.1 f) ∙ p.2.besides)
        ∙ set_each (λ k (o : Resource). o.stopped ≡ None) old.resources.items index turned.after (is_at old.resources.items index turned.before turned.was) here (λ k o apart g. live k o g) q u.0 u.1
      where
        here : turned.after.stopped ≡ None
        here =
            ⊎_elim (λ n. n)
            (λ r. absurd (let f : None ≡ Some _ = sym e ∙ turned.ran.4 ∙ ap (λ o. mark_of turned.after.tree.resource turned.after.clock o) r.1 in cc))
            (option_cases turned.after.stopped)

-- What is known after one turn more.
pub record HasStepped (i : Inputs) (limit horizon : ℕ) (first : CoreState) (k : ℕ) (new : CoreState) (stop : Option StopMark) : Type 0 where
  pub gone : HasGone i limit horizon first new (k + 1)
  pub live : stop ≡ None → AreLive new.resources.items
  pub ends : (mark : StopMark) → stop ≡ Some mark → (most : ℕ) → TakesTurns i limit horizon most first new

pub stepped : (i : Inputs) (limit horizon : ℕ) (first : CoreState) → AreGood i → (k : ℕ) (old : CoreState) → AreLive old.resources.items → HasGone i limit horizon first old k
    → (m : ℕ) → m < horizon → ((q : ℕ) (z : Resource) (j : Key) → slice_get old.resources.items q ≡ Some z → j.tick < m → waiting z.agenda j ≡ None)
    → (index : ℕ) (x : Resource) → slice_get old.resources.items index ≡ Some x → IsNext x.agenda m
    → (new : CoreState) (stop : Option StopMark) → HasTurned old.system old.steps index (m + 1) old new stop → new.system ≡ old.system → new.steps ≡ old.steps
    → HasStepped i limit horizon first k new stop
stepped i limit horizon first good k old live gone m early low index x x_at next new stop turned system steps =
    let same : HasTurned i limit index (m + 1) old new stop =
    subst (λ (n : ℕ). HasTurned i n index (m + 1) old new stop) gone.steps (subst (λ (z : Inputs). HasTurned z old.steps index (m + 1) old new stop) gone.system turned) in
    let on = gone_more i limit horizon first good k old live gone m early low index x x_at next new stop same system steps in
    record {
      gone = on;
      live = live_more i limit horizon first good k old live gone m early low index x x_at next new stop same system steps;
      ends = λ mark e most.
          let s = stopped_at i limit horizon first good k old live gone m early low index x x_at next new stop same system steps mark e in
          by_stop i limit horizon first most (k + 1) index new s.0 s.1 s.2 s.3 on;
    }
