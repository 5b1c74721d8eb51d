-- What waits at the beginning, one stimulus or instance after another.
use Rattle.fb_resource.proofs.lemmas.Common.{◌≡◌, ◌≢◌, ℕ, suc, ◌+◌, ◌^◌, ◌<◌, Bool, true, false, cond, List, [], ◌∷◌, ◌++◌, length, refl, sym, ap, subst, ◌∙◌, append-nil, Option, Some, None, arith, option_map, slice_get, Inputs, AreAccepted, system_of, stimuli_of, Path, or_else, found, changed_to, same_key, timer_key, path_at, path_of, System, is_timer_of, Key, Contents, waiting, event_of, HasRestarts, HasStimuli, IsOpened, IsPut, IsInOrder, MayWait, meaning}
use Rattle.fb_types.proofs.Common.{take, get_or, inl, inr, flat_map, cases_lt, flat_map-append, length-map, length-take-le, slice_get_within, get_or_from_slice_get, unwrap_or-slice_get, Kind, Event, IsWithinLimits, Port, stimulus_key, restart_of, stimuli_from, stimulus_of, Stimulated, Expired}
use Rattle.fb_types.specs.declared.event_kind.EventKind.{EventKind}
use Rattle.fb_types.specs.declared.event_kind.EventKind.TheVariants.{Restart}
use Rattle.std.proofs.Math.Seq.{take-suc, take-length}
use Rattle.fb_types.specs.Simulation.{Stimulus}
use Rattle.fb_types.specs.States.{Event as AnEvent}
use Rattle.fb_types.proofs.lemmas.events.KeyLaws.{same_key_is}
use Rattle.fb_types.proofs.lemmas.lists.TakeLaws.{found-put}
use Rattle.fb_types.specs.declared.run.Event as waits
use Rattle.fb_types.specs.declared.run.Event.TheVariants as kinds
use Rattle.fb_net.specs.Events.{stimulated}
use Rattle.fb_system.specs.Stimuli.{IsStimulusAt}
use Rattle.fb_system.specs.declared.stimulus.StimulusAt.{StimulusAt}
use Rattle.fb_laws.specs.Simulations.{IsTypedStimulus}
use Rattle.fb_laws.specs.Typed.{IsTypedEvent}
use Rattle.fb_laws.proofs.lemmas.typing.Accepted.{accepted_typed}
use Rattle.fb_resource.specs.Openings.{HasTimersBelow, IsStimulusKey, is_of, only}
use Rattle.fb_types.proofs.lemmas.lists.ByIndex.{all_at}
use Rattle.fb_resource.proofs.lemmas.PostLaws.{meaning_put, order_put, port_path, timer_class, timer_instance}
use Rattle.fb_types.proofs.lemmas.lists.Lookups.{found-append, or_else_none}
use Rattle.fb_resource.proofs.lemmas.ReadyIs.{sound_system}

-- ---- How many stimuli there are

-- accepted stimuli are few, so that the number of a row fits
pub few_rows : (i : Inputs) → AreAccepted i → length i.stimuli < 2 ^ 32
few_rows i accepted =
    elim (cases_lt 100000 (length i.stimuli)) [
      | inl more ↦ absurd (accepted 30 (inr (inr (inr (inr (inr (inr (inr (inr (inr (inr (refl, inr more))))))))))))
      | inr few ↦ omega (arith, few)
    ]

-- ---- Lists of pairs

take_one : {X : Type 0} (xs : List X) (n : ℕ) (d : X) → n < length xs → take (n + 1) xs ≡ take n xs ++ get_or xs n d ∷ []
take_one xs n d within = let e : n + 1 ≡ suc n = omega arith in ap (λ m. take m xs) e ∙ take-suc xs n d within

-- ---- Those that are asked for

only_put : (of : Option ℕ) (k j : Key) (e : AnEvent) (o : Option AnEvent) → is_of of k.resource ≡ true
    → cond (same_key k j) (Some e) (only of j o) ≡ only of j (cond (same_key k j) (Some e) o)
only_put of k j e o asked = go (same_key k j) refl
  where
    go : (b : Bool) → same_key k j ≡ b → cond b (Some e) (only of j o) ≡ only of j (cond b (Some e) o)
    go true same = sym (ap (λ d. cond d (Some e) None) (sym (ap (λ (z : Key). is_of of z.resource) (same_key_is k j same)) ∙ asked))
    go false other = refl

only_skip : (of : Option ℕ) (k j : Key) (e : AnEvent) (o : Option AnEvent) → is_of of k.resource ≡ false → only of j o ≡ only of j (cond (same_key k j) (Some e) o)
only_skip of k j e o apart = go (same_key k j) refl
  where
    go : (b : Bool) → same_key k j ≡ b → only of j o ≡ only of j (cond b (Some e) o)
    go true same =
        let none : is_of of j.resource ≡ false = sym (ap (λ (z : Key). is_of of z.resource) (same_key_is k j same)) ∙ apart in
        ap (λ d. cond d o None) none ∙ sym (ap (λ d. cond d (Some e) None) none)
    go false other = refl

only_more : (of : Option ℕ) (j : Key) (f o p : Option AnEvent) → ((e : AnEvent) → f ≡ Some e → is_of of j.resource ≡ true)
    → or_else f (only of j (or_else o p)) ≡ only of j (or_else (or_else f o) p)
only_more of j None o p asked = refl
only_more of j (Some e) o p asked = sym (ap (λ d. cond d (Some e) None) (asked e refl))

only_none : (of : Option ℕ) (j : Key) (f o p : Option AnEvent) → ((e : AnEvent) → f ≡ Some e → is_of of j.resource ≡ false)
    → only of j (or_else o p) ≡ only of j (or_else (or_else f o) p)
only_none of j None o p apart = refl
only_none of j (Some e) o p apart = let none = apart e refl in ap (λ d. cond d (or_else o p) None) none ∙ sym (ap (λ d. cond d (Some e) None) none)

only_nothing : (of : Option ℕ) (j : Key) (o : Option AnEvent) → o ≡ None → o ≡ only of j None
only_nothing of j o is = go (is_of of j.resource)
  where
    go : (b : Bool) → o ≡ cond b None None
    go true = is
    go false = is

-- ---- Stimuli

stimuli_push : (sys : System) (row : ℕ) (ss : List Stimulus) (s : Stimulus)
    → stimuli_from sys row (ss ++ s ∷ []) ≡ stimuli_from sys row ss ++ (stimulus_key s.tick (sys.resource s.port.at) (row + length ss), Stimulated s.port s.sets) ∷ []
stimuli_push sys row [] s = let e : row ≡ row + 0 = omega arith in ap (λ n. (stimulus_key s.tick (sys.resource s.port.at) n, Stimulated s.port s.sets) ∷ []) e
stimuli_push sys row (x ∷ ss) s =
    let e : row + 1 + length ss ≡ row + suc (length ss) = omega arith in
    ap (λ zs. (stimulus_key x.tick (sys.resource x.port.at) row, Stimulated x.port x.sets) ∷ zs)
    (stimuli_push sys (row + 1) ss s ∙ ap (λ n. stimuli_from sys (row + 1) ss ++ (stimulus_key s.tick (sys.resource s.port.at) n, Stimulated s.port s.sets) ∷ []) e)

found_more : (i : Inputs) (row : ℕ) (k : Key) (is : IsStimulusKey i row k) (j : Key)
    → found j (stimuli_from (system_of i) 0 (take (row + 1) (stimuli_of i)))
    ≡ cond (same_key k j) (Some (Stimulated is.stimulus.port is.stimulus.sets)) (found j (stimuli_from (system_of i) 0 (take row (stimuli_of i))))
found_more i row k is j =
    ap (λ zs. found j (stimuli_from sys 0 zs)) (take_one ss row s within)
    ∙ ap (λ x. found j (stimuli_from sys 0 (take row ss ++ x ∷ []))) (get_or_from_slice_get ss row s s is.is)
    ∙ ap (found j) (stimuli_push sys 0 (take row ss) s)
    ∙ ap (λ n. found j (stimuli_from sys 0 (take row ss) ++ (stimulus_key s.tick (sys.resource s.port.at) n, event) ∷ [])) counted
    ∙ found-put j (stimuli_from sys 0 (take row ss)) (stimulus_key s.tick (sys.resource s.port.at) row) event
    ∙ ap (λ (z : Key). cond (same_key z j) (Some event) (found j (stimuli_from sys 0 (take row ss)))) (sym is.key)
  where
    sys : System
    sys = system_of i

    ss : List Stimulus
    ss = stimuli_of i

    s : Stimulus
    s = is.stimulus

    event : AnEvent
    event = Stimulated s.port s.sets

    within : row < length ss
    within = slice_get_within ss row s is.is

    counted : 0 + length (take row ss) ≡ row
    counted = let e = length-take-le row ss (omega (arith, within)) in omega (arith, e)

pub no_timer_put : (n : ℕ) (old new : Contents) (k : Key) (e : waits.Event) → IsPut old new k e → k.class ≢ 1 → HasTimersBelow n old → HasTimersBelow n new
no_timer_put n old new k e put class below j f is one = go (same_key k j) refl
  where
    go : (b : Bool) → same_key k j ≡ b → j.a < n
    go true same = absurd (class (ap (λ (z : Key). z.class) (same_key_is k j same) ∙ one))
    go false other = below j f (sym (put j ∙ ap (λ b. cond b (Some e) (waiting old j)) other) ∙ is) one

pub stimuli_none : (i : Inputs) (of : Option ℕ) (a : Contents) → ((j : Key) → waiting a j ≡ None) → length a.due ≡ length (system_of i).paths → HasStimuli i of 0 a
stimuli_none i of a none due = record {
  agenda = λ j. only_nothing of j (meaning i a j) (ap (option_map (event_of i)) (none j));
  order = record {
    waits = λ j e is. let no = none j in absurd cc;
    timed = λ j r n e is timer. let no = none j in absurd cc;
    home = λ j e is one. let no = none j in absurd cc;
  };
  timers = λ j e is one. let no = none j in absurd cc;
  due = due;
}

pub stimuli_put : (i : Inputs) (of : Option ℕ) (row : ℕ) (k : Key) (old new : Contents) → IsStimulusKey i row k → MayWait i 0 k (kinds.Stimulus row) → is_of of k.resource ≡ true
    → IsPut old new (stimulus_key k.tick k.resource row) (kinds.Stimulus row) → new.due ≡ old.due → HasStimuli i of row old → HasStimuli i of (row + 1) new
stimuli_put i of row k old new is may asked put_there due has = record {
  agenda = λ j.
      meaning_put i old new k (kinds.Stimulus row) put j
      ∙ ap (λ e. cond (same_key k j) (Some e) (meaning i old j)) (ap stimulated is.is)
      ∙ ap (λ o. cond (same_key k j) (Some (Stimulated is.stimulus.port is.stimulus.sets)) o) (has.agenda j)
      ∙ only_put of k j (Stimulated is.stimulus.port is.stimulus.sets) (found j (stimuli_from (system_of i) 0 (take row (stimuli_of i)))) asked
      ∙ ap (only of j) (sym (found_more i row k is j));
  order = order_put i 0 old new k (kinds.Stimulus row) put other may due has.order;
  timers = no_timer_put 0 old new k (kinds.Stimulus row) put other has.timers;
  due = ap length due ∙ has.due;
}
  where
    same : stimulus_key k.tick k.resource row ≡ k
    same = subst (λ (z : Key). stimulus_key z.tick z.resource row ≡ z) (sym is.key) refl

    put : IsPut old new k (kinds.Stimulus row)
    put = subst (λ (z : Key). IsPut old new z (kinds.Stimulus row)) same put_there

    other : k.class ≢ 1
    other one = let zero = ap (λ (z : Key). z.class) is.key in omega (arith, one, zero)

pub stimuli_skip : (i : Inputs) (of : Option ℕ) (row : ℕ) (k : Key) (a : Contents) → IsStimulusKey i row k → is_of of k.resource ≡ false → HasStimuli i of row a → HasStimuli i of (row + 1) a
stimuli_skip i of row k a is apart has = record {
  agenda = λ j.
      has.agenda j
      ∙ only_skip of k j (Stimulated is.stimulus.port is.stimulus.sets) (found j (stimuli_from (system_of i) 0 (take row (stimuli_of i)))) apart
      ∙ ap (only of j) (sym (found_more i row k is j));
  order = has.order;
  timers = has.timers;
  due = has.due;
}

-- ---- Timers that start by themselves

-- the timer of an instance of which none waits was set at tick 0
abbrev pub IsStarted : (resource n : ℕ) → Contents → Contents → Type 0
IsStarted r n old new =
    (j : Key) → waiting new j ≡ changed_to (cond (same_key (timer_key 0 r n) j) (Some (Some (kinds.Timer n))) (cond (is_timer_of r n j) (Some None) None)) (waiting old j)

started_put : (r n : ℕ) (old new : Contents) → HasTimersBelow n old → IsStarted r n old new → IsPut old new (timer_key 0 r n) (kinds.Timer n)
started_put r n old new below started j = started j ∙ go (same_key (timer_key 0 r n) j) (is_timer_of r n j) refl (waiting old j) refl
  where
    go : (b d : Bool) → is_timer_of r n j ≡ d → (o : Option waits.Event) → waiting old j ≡ o
        → changed_to (cond b (Some (Some (kinds.Timer n))) (cond d (Some None) None)) o ≡ cond b (Some (kinds.Timer n)) o
    go true d is o w = refl
    go false true is None w = refl
    go false true is (Some e) w =
        let less = below j e w (timer_class r n j is) in
        let its = timer_instance r n j is in
        absurd (omega (arith, less, its))
    go false false is o w = refl

pub restart_put : (i : Inputs) (n : ℕ) (old new : Contents) → (system_of i).kind (path_at (system_of i) n) ≡ Some (Event Restart)
    → (system_of i).number (path_at (system_of i) n) ≡ n → HasTimersBelow n old → IsStarted ((system_of i).resource (path_at (system_of i) n)) n old new
    → (j : Key) → meaning i new j ≡ or_else (found j (restart_of (system_of i) (path_at (system_of i) n))) (meaning i old j)
restart_put i n old new kind numbered below started j =
    meaning_put i old new key (kinds.Timer n) (started_put r n old new below started) j
    ∙ go (same_key key j)
    ∙ ap (λ es. or_else (found j es) (meaning i old j)) (sym its)
  where
    p : Path
    p = path_at (system_of i) n

    r : ℕ
    r = (system_of i).resource p

    key : Key
    key = timer_key 0 r n

    its : restart_of (system_of i) p ≡ (key, Expired p) ∷ []
    its = rw (restart_of, kind, numbered) refl

    go : (b : Bool) → cond b (Some (Expired p)) (meaning i old j) ≡ or_else (or_else None (cond b (Some (Expired p)) None)) (meaning i old j)
    go true = refl
    go false = refl

pub restart_below : (r n : ℕ) (old new : Contents) → HasTimersBelow n old → IsStarted r n old new → HasTimersBelow (n + 1) new
restart_below r n old new below started j e is one = go (same_key (timer_key 0 r n) j) refl
  where
    put : IsPut old new (timer_key 0 r n) (kinds.Timer n)
    put = started_put r n old new below started

    go : (b : Bool) → same_key (timer_key 0 r n) j ≡ b → j.a < n + 1
    go true same = let its = ap (λ (z : Key). z.a) (same_key_is (timer_key 0 r n) j same) in omega (arith, its)
    go false other = let less = below j e (sym (put j ∙ ap (λ b. cond b (Some (kinds.Timer n)) (waiting old j)) other) ∙ is) one in omega (arith, less)

-- ---- Instances that are no E_RESTART

-- the timer of an instance of that kind
abbrev timer_of : System → Path → Option Kind → List (Key × AnEvent)
timer_of sys p kind =
    elim kind [
      | Some (Event Restart) ↦ (timer_key 0 (sys.resource p) (sys.number p), Expired p) ∷ []
      | _ ↦ []
    ]

event_none : (sys : System) (p : Path) (k : EventKind) → k ≢ Restart → timer_of sys p (Some (Event k)) ≡ []
event_none sys p Restart wrong = absurd (wrong refl)
event_none sys p _ wrong = refl

pub other_event : (sys : System) (p : Path) (k : EventKind) → sys.kind p ≡ Some (Event k) → k ≢ Restart → restart_of sys p ≡ []
other_event sys p k kind wrong = ap (timer_of sys p) kind ∙ event_none sys p k wrong

pub put_none : (i : Inputs) (a : Contents) (p : Path) → restart_of (system_of i) p ≡ [] → (j : Key) → meaning i a j ≡ or_else (found j (restart_of (system_of i) p)) (meaning i a j)
put_none i a p none j = ap (λ (es : List (Key × AnEvent)). or_else (found j es) (meaning i a j)) (sym none)

pub below_more : (n : ℕ) (a : Contents) → HasTimersBelow n a → HasTimersBelow (n + 1) a
below_more n a below j e is one = let less = below j e is one in omega (arith, less)

-- ---- Numbers

pub named_resource : (i : Inputs) → AreAccepted i → IsWithinLimits i.plan → (n r : ℕ) → r ≡ (system_of i).resource (path_at (system_of i) n) → r < length (system_of i).resource_names
named_resource i accepted limits n r is = let below = (sound_system i accepted limits).counted (path_at (system_of i) n) in omega (arith, is, below)

pub narrow_resource : (i : Inputs) → AreAccepted i → IsWithinLimits i.plan → (n r : ℕ) → r ≡ (system_of i).resource (path_at (system_of i) n) → r < 2 ^ 32
narrow_resource i accepted limits n r is =
    let below = named_resource i accepted limits n r is in
    let same : length (system_of i).resource_names ≡ length i.plan.resources = length-map i.plan.resources (λ x. x.name) in
    let few = limits.few_resources in
    omega (arith, below, same, few)

-- a stimulus carries values of their types
stimulus_typed : (i : Inputs) (row : ℕ) → AreAccepted i → IsTypedEvent (system_of i) (event_of i (kinds.Stimulus row))
stimulus_typed i row accepted = go (slice_get (stimuli_of i) row) refl
  where
    go : (o : Option Stimulus) → slice_get (stimuli_of i) row ≡ o → IsTypedEvent (system_of i) (stimulated o)
    go None is = tt
    go (Some s) is = all_at (IsTypedStimulus (system_of i)) (stimuli_of i) row s (accepted_typed i accepted).stimuli is

pub stimulus_waits : (i : Inputs) (row r a : ℕ) (x : StimulusAt) → IsStimulusAt i row x → row < length i.stimuli → r ≡ (system_of i).resource (path_at (system_of i) x.target.instance)
    → r < length (system_of i).resource_names → AreAccepted i → a ≡ row → MayWait i 0 (record { tick = x.tick; resource = r; class = 0; a = a; b = 0 }) (kinds.Stimulus row)
stimulus_waits i row r a x is within its named accepted numbered = record {
  event = record {
    numbered = within;
    here =
        ap (λ o. (system_of i).resource (path_of (stimulated o))) is.is
        ∙ ap (λ (q : Port). (system_of i).resource q.at) (sym is.port)
        ∙ ap (system_of i).resource (port_path (system_of i) x.target)
        ∙ sym its;
  };
  resource = named;
  later = omega arith;
  typed = stimulus_typed i row accepted;
  own = ap (stimulus_key x.tick r) numbered;
}

-- ---- One instance after another

restarts_found : (i : Inputs) (n : ℕ) → n < length (system_of i).paths → (j : Key)
    → found j (flat_map (restart_of (system_of i)) (take (n + 1) (system_of i).paths))
    ≡ or_else (found j (restart_of (system_of i) (path_at (system_of i) n))) (found j (flat_map (restart_of (system_of i)) (take n (system_of i).paths)))
restarts_found i n within j = ap (found j) more ∙ found-append j (restarts n) its
  where
    sys : System
    sys = system_of i

    restarts : ℕ → List (Key × AnEvent)
    restarts m = flat_map (restart_of sys) (take m sys.paths)

    its : List (Key × AnEvent)
    its = restart_of sys (path_at sys n)

    more : restarts (n + 1) ≡ restarts n ++ its
    more =
        ap (flat_map (restart_of sys)) (take_one sys.paths n [] within ∙ ap (λ p. take n sys.paths ++ p ∷ []) (sym (unwrap_or-slice_get sys.paths n [])))
        ∙ flat_map-append (restart_of sys) (take n sys.paths) (path_at sys n ∷ [])
        ∙ ap (λ z. restarts n ++ z) (append-nil its)

-- the timer that starts by itself is one of the instance's resource
restart_at : (sys : System) (p : Path) (j : Key) (e : AnEvent) → found j (restart_of sys p) ≡ Some e → j.resource ≡ sys.resource p
restart_at sys p j e = go (sys.kind p)
  where
    one : (b : Bool) → same_key (timer_key 0 (sys.resource p) (sys.number p)) j ≡ b → or_else None (cond b (Some (Expired p)) None) ≡ Some e → j.resource ≡ sys.resource p
    one true same h = sym (ap (λ (z : Key). z.resource) (same_key_is (timer_key 0 (sys.resource p) (sys.number p)) j same))
    one false other h = absurd cc

    go : (kind : Option Kind) → found j (timer_of sys p kind) ≡ Some e → j.resource ≡ sys.resource p
    go (Some (Event Restart)) h = one (same_key (timer_key 0 (sys.resource p) (sys.number p)) j) refl h
    go _ h = absurd cc

pub restarts_none : (i : Inputs) (of : Option ℕ) (a : Contents) → HasStimuli i of (length i.stimuli) a → HasRestarts i of 0 a
restarts_none i of a has = record {
  agenda = λ j. has.agenda j ∙ ap (λ ss. only of j (found j (stimuli_from (system_of i) 0 ss))) all;
  order = has.order;
  timers = has.timers;
  due = has.due;
}
  where
    all : take (length i.stimuli) (stimuli_of i) ≡ stimuli_of i
    all = ap (λ n. take n (stimuli_of i)) (sym (length-map i.stimuli stimulus_of)) ∙ take-length (stimuli_of i)

-- the timer of an instance was started, where it starts by itself
abbrev pub IsStartedIn : Inputs → (instance : ℕ) → Contents → Contents → Type 0
IsStartedIn i n old new = (j : Key) → meaning i new j ≡ or_else (found j (restart_of (system_of i) (path_at (system_of i) n))) (meaning i old j)

pub restarts_put : (i : Inputs) (of : Option ℕ) (n : ℕ) (old new : Contents) → n < length (system_of i).paths → is_of of ((system_of i).resource (path_at (system_of i) n)) ≡ true
    → IsStartedIn i n old new → IsInOrder i 0 new → HasTimersBelow (n + 1) new → length new.due ≡ length old.due → HasRestarts i of n old → HasRestarts i of (n + 1) new
restarts_put i of n old new within asked put order timers due has = record {
  agenda = λ j.
      let its = found j (restart_of sys (path_at sys n)) in
      let before = found j (flat_map (restart_of sys) (take n sys.paths)) in
      let stimuli = found j (stimuli_from sys 0 (stimuli_of i)) in
      put j
      ∙ ap (λ o. or_else its o) (has.agenda j)
      ∙ only_more of j its before stimuli (λ e is. ap (is_of of) (restart_at sys (path_at sys n) j e is) ∙ asked)
      ∙ ap (λ o. only of j (or_else o stimuli)) (sym (restarts_found i n within j));
  order = order;
  timers = timers;
  due = due ∙ has.due;
}
  where
    sys : System
    sys = system_of i

pub restarts_skip : (i : Inputs) (of : Option ℕ) (n : ℕ) (a : Contents) → n < length (system_of i).paths → is_of of ((system_of i).resource (path_at (system_of i) n)) ≡ false
    → HasRestarts i of n a → HasRestarts i of (n + 1) a
restarts_skip i of n a within apart has = record {
  agenda = λ j.
      let its = found j (restart_of sys (path_at sys n)) in
      let before = found j (flat_map (restart_of sys) (take n sys.paths)) in
      let stimuli = found j (stimuli_from sys 0 (stimuli_of i)) in
      has.agenda j
      ∙ only_none of j its before stimuli (λ e is. ap (is_of of) (restart_at sys (path_at sys n) j e is) ∙ apart)
      ∙ ap (λ o. only of j (or_else o stimuli)) (sym (restarts_found i n within j));
  order = has.order;
  timers = below_more n a has.timers;
  due = has.due;
}
  where
    sys : System
    sys = system_of i

pub opened : (i : Inputs) (of : Option ℕ) (a : Contents) → HasRestarts i of (length (system_of i).paths) a → IsOpened i of a
opened i of a has = record {
  agenda = λ j.
      has.agenda j
      ∙ ap (λ ps. only of j (or_else (found j (flat_map (restart_of sys) ps)) (found j (stimuli_from sys 0 (stimuli_of i))))) (take-length sys.paths)
      ∙ ap (only of j) (sym (or_else_none _ ∙ found-append j (stimuli_from sys 0 (stimuli_of i)) (flat_map (restart_of sys) sys.paths)));
  order = has.order;
  due = has.due;
}
  where
    sys : System
    sys = system_of i
