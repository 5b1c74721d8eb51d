-- A turn of one resource while all others are at home: it runs below the tick after the least event of all, which it has, and its messages are delivered.
use Rattle.fb_window.proofs.lemmas.Common.{◌≡◌, ℕ, ◌+◌, ◌<◌, ◌≤◌, ◌==◌, max, cond, true, Option, Some, None, List, [], ◌∷◌, ◌++◌, map, length, refl, sym, ap, ◌∙◌, subst, ⊎_elim, inl, inr, ◌⊎◌, arith, All, append_assoc, append-nil, Vec, option_map, slice_get, slice_set, filter, cases_eq, cases_lt, eqb-true, length-set, Inputs, system_of, stimuli_of, Core, CoreStep, IsFloor, Member, exchanged, floor_of, opening_core, found, Machine, Item, line_of, machine, count_of, IsSchedule, core_after, opening, System, Key, Line, Message, StopMark, IsNext, waiting, AreGood, IsSound, IsMessage, arriving, receiver_of, IsLawful, IsFor, IsOf, World, IsOpening, Resource, Ran, HasKept, core_of, AreGiven, Loan, after_loan, lists_of, IsAt, Sits, Leads, Single}
use Rattle.fb_types.proofs.Common.{◌≢◌, cond-true, cond-false, eq-eqb, ne_eqb, Exchange, IsLegal, floor, Run, end, sent_by}
use Rattle.fb_types.specs.Machines as machines
use Rattle.fb_types.specs.States as model
use Rattle.fb_types.proofs.lemmas.lists.Lookups.{none_some, none_since}
use Rattle.fb_net.specs.Events.{event_of}
use Rattle.fb_laws.proofs.lemmas.soundness.Accepting.{sound_of}
use Rattle.fb_link.specs.Exchanges.{goes_to}
use Rattle.fb_resource.proofs.lemmas.Lists.{set_each}
use Rattle.fb_link.proofs.lemmas.Exchanged.{found_to}
use Rattle.fb_resource.specs.Resources.{HasRun, RanTo}
use Rattle.fb_laws.specs.Worlds.{IsCounted}
use Rattle.fb_laws.proofs.lemmas.machine.Bridge.{world_of}
use Rattle.fb_laws.proofs.lemmas.machine.Opening.{is_counted, is_opening}
use Rattle.fb_laws.proofs.lemmas.resources.OwnPart.{lawful}
use Rattle.fb_laws.specs.Finality.{lines_in}
use Rattle.fb_laws.specs.Phases.{IsPhase, IsLegalLoan, steps_of, loan_steps}
use Rattle.fb_window.specs.Standing.{IsQuiet}
use Rattle.fb_window.specs.ManyTurns.{IsSingle, single_steps}
use Rattle.fb_window.specs.declared.cores.CoreState as held
use Rattle.fb_laws.proofs.lemmas.schedules.AtHome.{outbox_sends}
use Rattle.fb_laws.proofs.lemmas.resources.Outboxes.{found_some}
use Rattle.fb_types.proofs.lemmas.lists.ByIndex.{all_at}
use Rattle.fb_window.proofs.lemmas.messages.Delivers.{IsBackAs, all_by_index, all_filter, fits, found_keyed, map_append, map_at, sits_received, still_quiet}
use Rattle.fb_laws.proofs.lemmas.schedules.Edges.{IsLater, kept_more}
use Rattle.fb_window.proofs.lemmas.lines.Gather.{left_same, list_at, map_length}
use Rattle.fb_laws.proofs.lemmas.schedules.Handing.{floor_stays, is_later}
use Rattle.fb_types.proofs.lemmas.lists.Options.{some_from_is_some}
use Rattle.fb_laws.proofs.lemmas.schedules.Keeps.{Inv}
use Rattle.fb_laws.proofs.lemmas.schedules.Phasing.{IsRound, after_loans, after_append, is_round, other_steps, own_steps}
use Rattle.fb_laws.proofs.lemmas.lists.Indexes.{has_at, is_at as is_at_index, one_at}
use Rattle.fb_laws.proofs.lemmas.schedules.Reached.{inv_after, runs_after}
use Rattle.fb_window.proofs.lemmas.messages.Receives.{set_other, set_same}
use Rattle.fb_window.proofs.lemmas.phases.Rounds.{schedule_rest}
use Rattle.fb_window.proofs.lemmas.phases.Standings.{is_least}
use Rattle.fb_laws.proofs.lemmas.schedules.Start as start

-- what waits does not wait below the clock
pub clock_before : (i : Inputs) (m : ℕ) (x : Resource) → IsOf i x → IsNext x.agenda m → x.clock ≤ m
clock_before i m x of next =
    let j = next.waits in
    let e = some_from_is_some (waiting x.agenda j.0) j.2 in
    let late : x.clock ≤ j.0.tick = (of.order.waits j.0 e.0 e.1).later in
    let at_it : j.0.tick ≡ m = j.1 in
    omega arith

module _ (i : Inputs) (good : AreGood i) (limit horizon : ℕ) (es : List (CoreStep (machine (system_of i) limit)))
    (sc : IsSchedule (machine (system_of i) limit) horizon (opening_core (system_of i) (stimuli_of i) limit) es)
    (xs : List Resource) (at : IsAt i limit (core_of i limit es) xs)
    (live : (q : ℕ) (z : Resource) → slice_get xs q ≡ Some z → z.stopped ≡ None)
    (m : ℕ) (early : m < horizon) (low : (q : ℕ) (z : Resource) (j : Key) → slice_get xs q ≡ Some z → j.tick < m → waiting z.agenda j ≡ None)
    (r : ℕ) (x : Resource) (x_at : slice_get xs r ≡ Some x) (next : IsNext x.agenda m)
    (y : Resource) (new : Vec Line) (sent : Vec Message) (stop : Option StopMark) (ran : HasRun i limit x (m + 1) (Ran y new sent stop))
    (zs : List Resource) (given : AreGiven (system_of i) sent.items (slice_set xs r y) zs) where
  abbrev M : Machine
  M = machine (system_of i) limit

  abbrev sys : System
  sys = system_of i

  abbrev c : Core (machine (system_of i) limit)
  c = core_of i limit es

  sound : IsSound (system_of i)
  sound = sound_of i good

  law : IsLawful (machine (system_of i) limit)
  law = lawful (system_of i) sound limit

  abbrev w : World (machine (system_of i) limit)
  w = world_of (system_of i) sound limit (opening (system_of i) (stimuli_of i)) (λ r. None)

  opens : IsOpening (machine (system_of i) limit) w
  opens = is_opening (system_of i) sound limit (stimuli_of i)

  counts : IsCounted (machine (system_of i) limit) (count_of (system_of i)) w
  counts = is_counted (system_of i) sound limit (stimuli_of i)

  v : Inv (machine (system_of i) limit) horizon w c (runs_after (machine (system_of i) limit) es)
  v = inv_after M law w horizon es opens sc

  within : r < length xs
  within = is_at_index xs r x x_at

  -- ---- It may have the turn

  is_floor : IsFloor (machine (system_of i) limit) (core_of i limit es) m
  is_floor = (is_least i limit c xs at m horizon (omega arith) low (λ b. (r, x, x_at, next))).is_floor

  sits : Sits i limit (core_of i limit es r) r x
  sits = at.each r x x_at

  core_live : (q : ℕ) → (core_of i limit es q).state.stop ≡ None
  core_live q =
      ⊎_elim (λ b. let n = at.counted in let z = has_at xs q (omega arith) in (at.each q z.0 z.1).state.stop ∙ live q z.0 z.1) (λ b. (at.others q b).live) (cases_lt q (count_of sys))

  at_home : (q : ℕ) → (core_of i limit es q).out ≡ None
  at_home q = ⊎_elim (λ b. let n = at.counted in let z = has_at xs q (omega arith) in (at.each q z.0 z.1).home) (λ b. (at.others q b).home) (cases_lt q (count_of sys))

  at_rest : (q : ℕ) → (core_of i limit es q).outbox ≡ []
  at_rest q = ⊎_elim (λ b. let n = at.counted in let z = has_at xs q (omega arith) in (at.each q z.0 z.1).posted) (λ b. (at.others q b).posted) (cases_lt q (count_of sys))

  -- no event precedes its tick, and what is sent arrives later than that
  legal : IsLegal (machine (system_of i) limit) (core_of i limit es) r (m + 1)
  legal = record {
    m = m;
    is_floor = is_floor;
    outboxes = λ s k e b. ap (λ z. found k z) (at_rest s);
    links = λ k u a e b.
        let f : floor M c m (M.sender k) ≡ max (c (M.sender k)).clock m = ap (λ o. floor_of o (c (M.sender k)).clock m) (core_live (M.sender k)) in
        let g : u < k.tick = law.arrives_later k u a in
        omega arith;
  }

  pub it : RanTo i limit (core_of i limit es r).state (m + 1) y new.items sent.items
  it = ran.5 (c r).state sits.state

  number : y.tree.resource ≡ r
  number = ran.1 ∙ sits.number

  run : Run (machine (system_of i) limit) r (core_of i limit es r).state (m + 1) it.items
  run = subst (λ (n : ℕ). Run M n (c r).state (m + 1) it.items) number it.run

  abbrev loan : Loan (machine (system_of i) limit)
  loan = record { worker = 0; bound = m + 1; run = it.items }

  abbrev pub single : Single (machine (system_of i) limit)
  single = record { resource = r; bound = m + 1; run = it.items }

  may : IsLegalLoan (machine (system_of i) limit) horizon (core_of i limit es) r loan
  may = record {
    lend = record {
      home = at_home r;
      live = core_live r;
      legal = legal;
      not_back = let f = sits.clock in let g = clock_before i m x sits.of next in omega arith;
      in_range = omega arith;
    };
    run = run;
  }

  -- the event at the tick is taken
  some : it.items ≡ [] → ⊥
  some none =
      let j = next.waits in
      let e = some_from_is_some (waiting x.agenda j.0) j.2 in
      let own : j.0.resource ≡ x.tree.resource = sits.of.home j.0 e.0 e.1 in
      let at_it : j.0.tick ≡ m = j.1 in
      let rests = subst (λ (is : List (Item M)). machines.Rests M r (m + 1) (end M (c r).state is)) none run.rests in
      none_some _ _ (rests (core_live r) j.0 (own ∙ sits.number) (omega arith)) (sits.state.waits j.0 own ∙ ap (λ o. option_map (event_of i) o) e.1)

  pub is_single : IsSingle (machine (system_of i) limit) (count_of (system_of i)) (core_of i limit es) single
  is_single = record { counted = let b = within in let n = at.counted in omega arith; live = λ q b. core_live q; least = (m, is_floor, refl); some = some }

  -- ---- The turn, and the exchange after it

  abbrev loans : ℕ → Option (Loan (machine (system_of i) limit))
  loans q = cond (q == r) (Some loan) None

  loans_at : (q : ℕ) → q ≡ r → loans q ≡ Some loan
  loans_at q e = cond-true (q == r) (Some loan) None (eq-eqb q r e)

  loans_here : loans r ≡ Some loan
  loans_here = loans_at r refl

  loans_other : (q : ℕ) → q ≢ r → loans q ≡ None
  loans_other q n = cond-false (q == r) (Some loan) None (ne_eqb q r n)

  abbrev fs : List (CoreStep (machine (system_of i) limit))
  fs = loan_steps (machine (system_of i) limit) r (Some loan)

  phase : IsPhase (machine (system_of i) limit) loans fs
  phase q =
      ⊎_elim
      (λ e. subst (λ (z : ℕ). steps_of M z fs ≡ loan_steps M z (loans z)) (sym e) (own_steps M r (Some loan) ∙ ap (λ o. loan_steps M r o) (sym loans_here)))
      (λ n. other_steps M r q (Some loan) (λ f. n (sym f)) ∙ ap (λ o. loan_steps M q o) (sym (loans_other q n)))
      (cases_eq q r)

  mays : (q : ℕ) (t : Loan (machine (system_of i) limit)) → loans q ≡ Some t → IsLegalLoan (machine (system_of i) limit) horizon (core_of i limit es) q t
  mays q t e =
      ⊎_elim
      (λ s.
      let f : Some loan ≡ Some t = sym loans_here ∙ subst (λ (z : ℕ). loans z ≡ Some t) s e in
      let g : loan ≡ t = cc in
      subst (λ (z : ℕ). IsLegalLoan M horizon c z t) (sym s) (subst (λ (u : Loan M). IsLegalLoan M horizon c r u) g may))
      (λ n. absurd (none_some _ _ (loans_other q n) e))
      (cases_eq q r)

  round : IsRound (machine (system_of i) limit) horizon (start.opening (machine (system_of i) limit) w) es fs loans
  round = is_round M law horizon w (start.opening M w) es fs (runs_after M es) loans sc v at_home mays phase

  abbrev back : Core (machine (system_of i) limit)
  back = after_loans (machine (system_of i) limit) (core_of i limit es) loans

  back_inv : Inv (machine (system_of i) limit) horizon w back (runs_after (machine (system_of i) limit) (es ++ fs))
  back_inv = subst (λ (z : Core M). Inv M horizon w z (runs_after M (es ++ fs))) round.back_is (inv_after M law w horizon (es ++ fs) opens round.back)

  back_at : (q : ℕ) → q ≡ r → back q ≡ after_loan (machine (system_of i) limit) (core_of i limit es q) (Some loan)
  back_at q e = ap (λ o. after_loan M (c q) o) (loans_at q e)

  back_other : (q : ℕ) → q ≢ r → back q ≡ core_of i limit es q
  back_other q n = ap (λ o. after_loan M (c q) o) (loans_other q n)

  box_at : (q : ℕ) → q ≡ r → (back q).outbox ≡ map (arriving i) sent.items
  box_at q e = ap (λ (s : Member M). s.outbox) (back_at q e) ∙ ap (λ z. z ++ sent_by M it.items) (at_rest q) ∙ sym it.sent

  box_here : (back r).outbox ≡ map (arriving i) sent.items
  box_here = box_at r refl

  box_other : (q : ℕ) → q ≢ r → (back q).outbox ≡ []
  box_other q n = ap (λ (s : Member M). s.outbox) (back_other q n) ∙ at_rest q

  from_here : (k : Key) (e : model.Event) → found k (map (arriving i) sent.items) ≡ Some e → (machine (system_of i) limit).sender k ≡ r
  from_here k e f = (outbox_sends M law horizon w back (runs_after M (es ++ fs)) back_inv r k e (ap (λ z. found k z) box_here ∙ f)).sender

  out_at : (q : ℕ) (k : Key) → (machine (system_of i) limit).sender k ≡ q → ((q ≡ r) ⊎ (q ≢ r)) → found k (back q).outbox ≡ found k (map (arriving i) sent.items)
  out_at q k own (inl e) = ap (λ z. found k z) (box_at q e)
  out_at q k own (inr n) = ap (λ z. found k z) (box_other q n) ∙ sym (none_since _ (λ e f. n (sym own ∙ from_here k e f)))

  out_found : (k : Key) → found k (back ((machine (system_of i) limit).sender k)).outbox ≡ found k (map (arriving i) sent.items)
  out_found k = out_at (M.sender k) k refl (cases_eq (M.sender k) r)

  as_back : (q : ℕ) (u : Resource) → slice_get (slice_set xs r y) q ≡ Some u → IsBackAs i limit (back q) q u
  as_back =
      set_each (λ q u. IsBackAs i limit (back q) q u) xs r y within
      (subst (λ (s : Member M). IsBackAs i limit s r y) (sym (back_at r refl)) (record { number = number; of = ran.0; state = it.represents; clock = sym it.clock }))
      (λ q u n e. subst (λ (s : Member M). IsBackAs i limit s q u) (sym (back_other q n)) (let s = at.each q u e in record { number = s.number; of = s.of; state = s.state; clock = s.clock }))

  due : (q : ℕ) (u : Resource) → IsBackAs i limit (back q) q u → All (IsFor i u) (filter (goes_to (system_of i) q) sent.items)
  due q u b =
      all_filter (IsFor i u) (goes_to sys q) sent.items
      (all_by_index (λ p. goes_to sys q p ≡ true → IsFor i u p) sent.items
      (λ n p f to.
      let e = found_some (map (arriving i) sent.items) n (arriving i p) (map_at (arriving i) sent.items n p f) in
      fits i limit horizon back sent.items law w (runs_after M (es ++ fs)) back_inv round.home out_found r p e.0 (ap (λ z. found (arriving i p).0 z) box_here ∙ e.1)
      (all_at (IsMessage i) sent.items n p ran.3 f) q u b.number b.clock (eqb-true (receiver_of sys p) q to)))

  last : (q : ℕ) (j : Key) → j.resource ≡ q → found j (map (arriving i) (filter (goes_to (system_of i) q) sent.items)) ≡ found j (map (arriving i) sent.items)
  last q j e =
      found_keyed i (filter (goes_to sys q) sent.items) j ∙ ap (λ o. option_map (λ p. (arriving i p).1) o) (found_to sys q sent.items j e) ∙ sym (found_keyed i sent.items j)

  abbrev d : Core (machine (system_of i) limit)
  d = exchanged (machine (system_of i) limit) back

  is_at : IsAt i limit d zs
  is_at = record {
    counted = given.counted ∙ length-set xs r y ∙ at.counted;
    each = λ q z e.
        let n = given.counted in
        let l = is_at_index zs q z e in
        let u = has_at (slice_set xs r y) q (omega arith) in
        let p = given.each q u.0 u.1 in
        let b = as_back q u.0 u.1 in
        subst (λ (o : Resource). Sits i limit (d q) q o) (one_at zs q p.0 z p.1 e)
        (sits_received i limit horizon back sent.items law w (runs_after M (es ++ fs)) back_inv round.home out_found q u.0 p.0 (filter (goes_to sys q) sent.items) b (due q u.0 b) (last q) p.2);
    others = λ q l.
        let n = at.counted in
        let b = within in
        still_quiet i limit horizon back sent.items law w (runs_after M (es ++ fs)) back_inv round.home out_found counts.links q l
        (subst (λ (s : Member M). IsQuiet M s q) (sym (back_other q (λ e. absurd (omega arith)))) (at.others q l));
  }

  -- ---- The steps

  abbrev after : List (CoreStep (machine (system_of i) limit))
  after = es ++ single_steps (machine (system_of i) limit) single

  assoc : es ++ fs ++ Exchange ∷ [] ≡ after
  assoc = append_assoc es fs (Exchange ∷ [])

  pub schedule : IsSchedule (machine (system_of i) limit) horizon (opening_core (system_of i) (stimuli_of i) limit) after
  schedule = subst (λ (z : List (CoreStep M)). IsSchedule M horizon (start.opening M w) z) assoc round.schedule

  steps : IsSchedule (machine (system_of i) limit) horizon (core_of i limit es) (single_steps (machine (system_of i) limit) single)
  steps = schedule_rest M horizon es (single_steps M single) (start.opening M w) schedule

  comes : core_of i limit after ≡ d
  comes = ap (λ z. core_after M (start.opening M w) z) (sym assoc) ∙ round.comes_to

  parts : core_of i limit after ≡ core_after (machine (system_of i) limit) (core_of i limit es) (single_steps (machine (system_of i) limit) single)
  parts = after_append M es (single_steps M single) (start.opening M w)

  pub represents : IsAt i limit (core_of i limit after) zs
  represents = subst (λ (z : Core M). IsAt i limit z zs) (sym comes) is_at

  pub floors : (n : ℕ) → IsFloor (machine (system_of i) limit) (core_of i limit es) n → IsFloor (machine (system_of i) limit) (core_of i limit after) n
  floors n f = subst (λ (z : Core M). IsFloor M z n) (sym parts) (floor_stays M law w horizon (single_steps M single) c (runs_after M es) v steps n f)

  -- ---- The lines

  abbrev more : ℕ → List Line
  more q = cond (q == r) new.items []

  more_at : (q : ℕ) → q ≡ r → more q ≡ new.items
  more_at q e = cond-true (q == r) new.items [] (eq-eqb q r e)

  more_other : (q : ℕ) → q ≢ r → more q ≡ []
  more_other q n = cond-false (q == r) new.items [] (ne_eqb q r n)

  abbrev named : List Line → List model.Line
  named ls = map (line_of (system_of i)) ls

  grown_at : (q : ℕ) → ((q ≡ r) ⊎ (q ≢ r)) → (back q).lines ≡ (core_of i limit es q).lines ++ named (more q)
  grown_at q (inl e) = ap (λ (s : Member M). s.lines) (back_at q e) ∙ ap (λ z. (c q).lines ++ z) (sym it.lines) ∙ ap (λ z. (c q).lines ++ named z) (sym (more_at q e))
  grown_at q (inr n) = ap (λ (s : Member M). s.lines) (back_other q n) ∙ sym (append-nil (c q).lines) ∙ ap (λ z. (c q).lines ++ named z) (sym (more_other q n))

  later : IsLater (machine (system_of i) limit) (count_of (system_of i)) horizon (core_of i limit es) (core_of i limit after) (λ q. named (more q))
  later =
      subst (λ (z : Core M). IsLater M (count_of sys) horizon c z (λ q. named (more q))) (sym parts)
      (is_later M law w horizon (single_steps M single) c (runs_after M es) v (count_of sys) steps (λ q. named (more q))
      (λ q b. ap (λ (z : Core M). (z q).lines) (sym parts ∙ comes) ∙ grown_at q (cases_eq q r)))

  module _ (ps : List (Vec Line)) (counted : length ps ≡ length xs) (p new_p : Vec Line) (p_at : slice_get ps r ≡ Some p) (joined : new_p.items ≡ p.items ++ new.items) where
    lines_at : (q : ℕ) → q < count_of (system_of i) → ((q ≡ r) ⊎ (q ≢ r)) → lines_in i limit (lists_of (slice_set ps r new_p)) q ≡ lines_in i limit (lists_of ps) q ++ named (more q)
    lines_at q b (inl e) =
        let p_there : slice_get ps q ≡ Some p = subst (λ (z : ℕ). slice_get ps z ≡ Some p) (sym e) p_at in
        let there : slice_get (slice_set ps r new_p) q ≡ Some new_p = subst (λ (z : ℕ). slice_get (slice_set ps r new_p) z ≡ Some new_p) (sym e) (set_same ps r new_p (is_at_index ps r p p_at)) in
        ap named (list_at (slice_set ps r new_p) q new_p there ∙ joined)
        ∙ map_append (line_of sys) p.items new.items
        ∙ ap (λ z. named z ++ named new.items) (sym (list_at ps q p p_there))
        ∙ ap (λ z. lines_in i limit (lists_of ps) q ++ named z) (sym (more_at q e))
    lines_at q b (inr n) =
        let a = at.counted in
        let o = has_at ps q (omega arith) in
        ap named (list_at (slice_set ps r new_p) q o.0 (set_other ps r q new_p o.0 n o.1) ∙ sym (list_at ps q o.0 o.1))
        ∙ sym (append-nil (lines_in i limit (lists_of ps) q))
        ∙ ap (λ z. lines_in i limit (lists_of ps) q ++ named z) (sym (more_other q n))

    lines_are : (q : ℕ) → q < count_of (system_of i) → lines_in i limit (lists_of (slice_set ps r new_p)) q ≡ lines_in i limit (lists_of ps) q ++ named (more q)
    lines_are q b = lines_at q b (cases_eq q r)

    pub kept : (ls : List model.Line) → HasKept i limit horizon (core_of i limit es) (lists_of ps) ls → HasKept i limit horizon (core_of i limit after) (lists_of (slice_set ps r new_p)) ls
    kept ls h = record {
      counted = map_length (λ (o : Vec Line). o.items) (slice_set ps r new_p) ∙ length-set ps r new_p ∙ sym (map_length (λ (o : Vec Line). o.items) ps) ∙ h.counted;
      left = left_same M (count_of sys) horizon (core_of i limit after) (λ q. lines_in i limit (lists_of ps) q ++ named (more q)) (lines_in i limit (lists_of (slice_set ps r new_p))) ls lines_are
          (kept_more M (count_of sys) horizon c (core_of i limit after) (lines_in i limit (lists_of ps)) (λ q. named (more q)) ls later h.left);
    }

    -- So the turn leads from the one core to the other.
    pub leads : (a b : held.CoreState) → a.resources.items ≡ xs → b.resources.items ≡ zs → a.pending.items ≡ ps → b.pending.items ≡ slice_set ps r new_p
        → (t : Single (machine (system_of i) limit)) × Leads i limit horizon es a b (t ∷ [])
    leads a b a_is b_is a_keeps b_keeps = (
      single,
      record {
        singles = (is_single, tt);
        schedule = schedule;
        at = subst (λ (z : List Resource). IsAt i limit (core_of i limit after) z) (sym b_is) represents;
        left = λ ls h.
            subst (λ (z : List (Vec Line)). HasKept i limit horizon (core_of i limit after) (lists_of z) ls) (sym b_keeps)
            (kept ls (subst (λ (z : List (Vec Line)). HasKept i limit horizon (core_of i limit es) (lists_of z) ls) a_keeps h));
        floors = floors;
      },
    )
