-- A row may be put after all that was taken.
use Rattle.fb_laws.proofs.lemmas.Common.{◌≡◌, ℕ, zero, suc, ◌+◌, ◌<◌, Bool, true, false, cond, List, [], ◌∷◌, ◌++◌, length, refl, sym, ap, subst, ◌∙◌, Option, Some, None, arith, flat_map, Path, Kind, Precedes, found, or_else, without, changed_to, same_key, timer_key, Each, Out, Sends, Outcome, Taken, opening, stimuli_from, State, Meter, Config, path_of, System, Effect, Posts, Takes, TakesWith, begun, is_timer_of, post, post_all, posts_of, put_of, timer_change, Restart, Key, TimerAsk, Keep, Clear, At, Stimulus, Event}
use Rattle.fb_types.proofs.Common.{Event as EventBlock, TakesLeast, Chain, after, last, restart_of}
use Rattle.fb_types.specs.Reactions.{Local}
use Rattle.fb_types.proofs.lemmas.lists.EachLaws.{each_append, each_map}
use Rattle.fb_types.proofs.lemmas.events.KeyLaws.{same_key_is}
use Rattle.fb_types.proofs.lemmas.lists.Lookups.{before_irrefl, before_trans, found-append, none_since, or_else_none, without_none}
use Rattle.fb_types.proofs.lemmas.lists.TakeLaws.{found-put}
use Rattle.fb_laws.proofs.lemmas.takings.KeysRise.{raised_numbered}
use Rattle.fb_laws.proofs.lemmas.takings.Posting.{each_found}
use Rattle.fb_laws.specs.GivenRows.{HasMore, RowsMayFollow, row_event}
use Rattle.fb_laws.proofs.lemmas.takings.RowsAndTimers.{stimuli_push, timer_class}

-- ---- What a taking does not touch

-- A taking changes nothing under a key of class 0, and sends nothing under one.
pub record LeavesRows (x : Effect) : Type 0 where
  pub changes : (j : Key) → j.class ≡ 0 → x.changes j ≡ None
  pub sent : (j : Key) → j.class ≡ 0 → found j x.sent ≡ None

-- the key of a timer has class 1
timer_apart : (r n : ℕ) (j : Key) → j.class ≡ 0 → is_timer_of r n j ≡ false
timer_apart r n j row = go (is_timer_of r n j) refl
  where
    go : (b : Bool) → is_timer_of r n j ≡ b → is_timer_of r n j ≡ false
    go true is = let one = timer_class r n j is in absurd (omega (arith, one, row))
    go false is = is

set_apart : (t r n : ℕ) (j : Key) → j.class ≡ 0 → same_key (timer_key t r n) j ≡ false
set_apart t r n j row = go (same_key (timer_key t r n) j) refl
  where
    go : (b : Bool) → same_key (timer_key t r n) j ≡ b → same_key (timer_key t r n) j ≡ false
    go true same = let one : 1 ≡ j.class = ap (λ (z : Key). z.class) (same_key_is (timer_key t r n) j same) in absurd (omega (arith, one, row))
    go false other = other

no_timer : (sys : System) (r : ℕ) (p : Path) (ask : TimerAsk) (j : Key) → j.class ≡ 0 → timer_change sys r p ask j ≡ None
no_timer sys r p Keep j row = refl
no_timer sys r p Clear j row = rw (timer_apart r (sys.number p) j row) refl
no_timer sys r p (At t) j row = rw (set_apart t r (sys.number p) j row, timer_apart r (sys.number p) j row) refl

-- messages have class 2
module _ (sys : System) (k : Key) where
  AreSent : Posts → Type 0
  AreSent x = Each (λ (e : Key × Event). e.0.class ≡ 2) x.messages

  post_sent : (o : Out) (x : Posts) → AreSent x → AreSent (post sys k o x)
  unfolding AreSent
  post_sent (Local q) x h = h
  post_sent (Sends q carried) x h = each_append _ x.messages _ h (refl, tt)

  post_all_sent : (os : List Out) (x : Posts) → AreSent x → AreSent (post_all sys k os x)
  unfolding AreSent
  post_all_sent [] x h = h
  post_all_sent (o ∷ os) x h = post_all_sent os (post sys k o x) (post_sent o x h)

  sent_class : (m : Meter) (s : State) (os : List Out) (j : Key) (v : Event) → found j (posts_of sys k m s os).messages ≡ Some v → j.class ≡ 2
  unfolding AreSent
  sent_class m s os j v h =
      let start : Posts = record { locals = m.locals; sent = s.sent; raised = []; messages = [] } in
      each_found (λ (j : Key) (v : Event). j.class ≡ 2) (post_all sys k os start).messages (post_all_sent os start tt) j v h

  leaves_with : (e : Event) (m : Meter) (left : ℕ) (s : State) (x : Effect) → TakesWith sys s k e m left x → LeavesRows x
  leaves_with e m zero s x h = subst LeavesRows (sym h) (record { changes = λ j row. refl; sent = λ j row. refl })
  leaves_with e m (suc left) s x h =
      let o : Outcome = h.0 in
      subst LeavesRows (sym h.2) (record {
        changes = λ j row.
            ap (λ z. or_else (put_of z) (timer_change sys k.resource (path_of e) o.timer j))
            (none_since _ (λ v is. let three = (raised_numbered sys k m s o.outs j v is).class in absurd (omega (arith, three, row))))
            ∙ no_timer sys k.resource (path_of e) o.timer j row;
        sent = λ j row. none_since _ (λ v is. let two = sent_class m s o.outs j v is in absurd (omega (arith, two, row)));
      })

leaves_rows : (sys : System) (limit : ℕ) (s : State) (k : Key) (e : Event) (x : Effect) → Takes sys limit s k e x → LeavesRows x
unfolding Takes
leaves_rows sys limit s k e x h = let m = begun limit k.tick (s.meters k.resource) in leaves_with sys k e m m.left s x h

-- ---- One taking after another

module _ (sys : System) (limit : ℕ) where
  leaves : (t : Taken) (c : Config) → TakesLeast sys limit c t → LeavesRows t.effect
  leaves t c x = leaves_rows sys limit c.state t.key t.event t.effect x.takes

  -- a key that comes before another is not that one
  apart : (j k : Key) → Precedes j k → same_key k j ≡ false
  apart j k before = go (same_key k j) refl
    where
      go : (b : Bool) → same_key k j ≡ b → same_key k j ≡ false
      go true same = absurd (before_irrefl k (subst (λ (z : Key). Precedes z k) (sym (same_key_is k j same)) before))
      go false other = other

  more_at : (e : Key × Event) (c d : Config) → HasMore e c d → (j : Key) → same_key e.0 j ≡ false → d.agenda j ≡ c.agenda j
  more_at e c d h j other = h.agenda j ∙ ap (λ b. or_else (or_else None (cond b (Some e.1) None)) (c.agenda j)) other

  -- one taking, which comes before the row
  takes_more : (e : Key × Event) (c d : Config) (t : Taken) → HasMore e c d → Precedes t.key e.0 → TakesLeast sys limit c t → TakesLeast sys limit d t
  takes_more e c d t h before x = record {
    waits = more_at e c d h t.key (apart t.key e.0 before) ∙ x.waits;
    least = λ j b. more_at e c d h j (apart j e.0 (before_trans j t.key e.0 b before)) ∙ x.least j b;
    takes = subst (λ s. Takes sys limit s t.key t.event t.effect) (sym h.state) x.takes;
  }

  -- the agenda after it: under the row's key nothing changes, and under the others what changes is the same
  after_more : (e : Key × Event) (c d : Config) (t : Taken) → e.0.class ≡ 0 → HasMore e c d → Precedes t.key e.0 → TakesLeast sys limit c t
      → HasMore e (after c t) (after d t)
  after_more e c d t row h before x = record {
    state = refl;
    agenda = λ j. go j (same_key e.0 j) refl;
  }
    where
      rest : Key → Option Event → Option Event
      rest j o = or_else (found j t.effect.sent) (changed_to (t.effect.changes j) (cond (same_key t.key j) None o))

      not_taken : (j : Key) → e.0 ≡ j → same_key t.key j ≡ false
      not_taken j is = flip (same_key t.key j) refl
        where
          flip : (b : Bool) → same_key t.key j ≡ b → same_key t.key j ≡ false
          flip true same = absurd (before_irrefl e.0 (subst (λ (z : Key). Precedes z e.0) (same_key_is t.key j same ∙ sym is) before))
          flip false other = other

      go : (j : Key) (b : Bool) → same_key e.0 j ≡ b → rest j (d.agenda j) ≡ or_else (or_else None (cond b (Some e.1) None)) (rest j (c.agenda j))
      go j false other = ap (rest j) (more_at e c d h j other)
      go j true same =
          let is : e.0 ≡ j = same_key_is e.0 j same in
          let class : j.class ≡ 0 = ap (λ (z : Key). z.class) (sym is) ∙ row in
          let its = leaves t c x in
          ap (λ o. or_else o (changed_to (t.effect.changes j) (cond (same_key t.key j) None (d.agenda j)))) (its.sent j class)
          ∙ ap (λ o. changed_to o (cond (same_key t.key j) None (d.agenda j))) (its.changes j class)
          ∙ ap (λ b. cond b None (d.agenda j)) (not_taken j is)
          ∙ h.agenda j ∙ ap (λ b. or_else (or_else None (cond b (Some e.1) None)) (c.agenda j)) same

  chain_more : (e : Key × Event) (c d : Config) (ts : List Taken) → e.0.class ≡ 0 → HasMore e c d → Each (λ (t : Taken). Precedes t.key e.0) ts
      → Chain sys limit c ts → (Chain sys limit d ts) × HasMore e (last c ts) (last d ts)
  chain_more e c d [] row h before x = (tt, h)
  chain_more e c d (t ∷ ts) row h before x =
      let more = chain_more e (after c t) (after d t) ts row (after_more e c d t row h before.0 x.0) before.1 x.2 in
      ((takes_more e c d t h before.0 x.0, x.1, more.0), more.1)

  -- what does not wait under the key of a row does not wait after what is taken either
  stays_new : (j : Key) (c : Config) (ts : List Taken) → j.class ≡ 0 → c.agenda j ≡ None → Chain sys limit c ts → (last c ts).agenda j ≡ None
  stays_new j c [] row none x = none
  stays_new j c (t ∷ ts) row none x =
      let its = leaves t c x.0 in
      stays_new j (after c t) ts row
      (ap (λ o. or_else o (changed_to (t.effect.changes j) (without t.key c.agenda j))) (its.sent j row)
      ∙ ap (λ o. changed_to o (without t.key c.agenda j)) (its.changes j row)
      ∙ without_none t.key c.agenda j none)
      x.2

  -- ---- The opening

  -- timers that start by themselves have class 1
  restart_timers : (p : Path) → Each (λ (e : Key × Event). e.0.class ≡ 1) (restart_of sys p)
  restart_timers p = go (sys.kind p) refl
    where
      go : (o : Option Kind) → sys.kind p ≡ o → Each (λ (e : Key × Event). e.0.class ≡ 1) (restart_of sys p)
      go (Some (EventBlock Restart)) e = rw (restart_of, e) (refl, tt)
      go _ e = rw (restart_of, e) tt

  restarts_timers : (ps : List Path) → Each (λ (e : Key × Event). e.0.class ≡ 1) (flat_map (restart_of sys) ps)
  restarts_timers [] = tt
  restarts_timers (p ∷ ps) = each_append _ (restart_of sys p) (flat_map (restart_of sys) ps) (restart_timers p) (restarts_timers ps)

  abbrev restarts : List (Key × Event)
  restarts = flat_map (restart_of sys) sys.paths

  no_restart : (j : Key) → j.class ≡ 0 → found j restarts ≡ None
  no_restart j row =
      none_since _ (λ v is. let one = each_found (λ (k : Key) (v : Event). k.class ≡ 1) restarts (restarts_timers sys.paths) j v is in absurd (omega (arith, one, row)))

  opening_at : (ss : List Stimulus) (j : Key) → (opening sys ss).agenda j ≡ or_else (found j restarts) (found j (stimuli_from sys 0 ss))
  opening_at ss j = or_else_none _ ∙ found-append j (stimuli_from sys 0 ss) restarts

  pushed : (ss : List Stimulus) (s : Stimulus) → stimuli_from sys 0 (ss ++ s ∷ []) ≡ stimuli_from sys 0 ss ++ row_event sys (length ss) s ∷ []
  pushed ss s = let e : 0 + length ss ≡ length ss = omega arith in stimuli_push sys 0 ss s ∙ ap (λ n. stimuli_from sys 0 ss ++ row_event sys n s ∷ []) e

  opening_more : (ss : List Stimulus) (s : Stimulus) → HasMore (row_event sys (length ss) s) (opening sys ss) (opening sys (ss ++ s ∷ []))
  opening_more ss s = record {
    state = refl;
    agenda = λ j.
        opening_at (ss ++ s ∷ []) j
        ∙ ap (λ es. or_else (found j restarts) (found j es)) (pushed ss s)
        ∙ ap (or_else (found j restarts)) (found-put j (stimuli_from sys 0 ss) (row_event sys (length ss) s).0 (row_event sys (length ss) s).1)
        ∙ go j (same_key (row_event sys (length ss) s).0 j) refl
        ∙ ap (or_else (or_else None (cond (same_key (row_event sys (length ss) s).0 j) (Some (row_event sys (length ss) s).1) None))) (sym (opening_at ss j));
  }
    where
      go : (j : Key) (b : Bool) → same_key (row_event sys (length ss) s).0 j ≡ b
          → or_else (found j restarts) (cond b (Some (row_event sys (length ss) s).1) (found j (stimuli_from sys 0 ss)))
          ≡ or_else (or_else None (cond b (Some (row_event sys (length ss) s).1) None)) (or_else (found j restarts) (found j (stimuli_from sys 0 ss)))
      go j true same =
          let zero_class : j.class ≡ 0 = ap (λ (z : Key). z.class) (sym (same_key_is _ j same)) in
          ap (λ o. or_else o (Some (row_event sys (length ss) s).1)) (no_restart j zero_class)
      go j false other = refl

  -- the rows of a list have numbers below its length
  numbered : (row : ℕ) (ss : List Stimulus) → Each (λ (e : Key × Event). e.0.a < row + length ss) (stimuli_from sys row ss)
  numbered row [] = tt
  numbered row (s ∷ ss) =
      (omega arith, each_map _ _ (stimuli_from sys (row + 1) ss) (λ e (h : e.0.a < row + 1 + length ss). omega (arith, h)) (numbered (row + 1) ss))

  opening_new : (ss : List Stimulus) (s : Stimulus) → (opening sys ss).agenda (row_event sys (length ss) s).0 ≡ None
  opening_new ss s =
      let k : Key = (row_event sys (length ss) s).0 in
      opening_at ss k ∙ ap (λ o. or_else o (found k (stimuli_from sys 0 ss))) (no_restart k refl)
      ∙ none_since _ (λ v is. let below = each_found (λ (j : Key) (v : Event). j.a < 0 + length ss) (stimuli_from sys 0 ss) (numbered 0 ss) k v is in absurd (omega (arith, below)))

pub rows_may_follow : RowsMayFollow
rows_may_follow sys limit ss s ts chain before =
    let e = row_event sys (length ss) s in
    let more = chain_more sys limit e (opening sys ss) (opening sys (ss ++ s ∷ [])) ts refl (opening_more sys limit ss s) before chain in
    record {
      chain = more.0;
      leads = more.1;
      new = stays_new sys limit e.0 (opening sys ss) ts refl (opening_new sys limit ss s) chain;
    }
