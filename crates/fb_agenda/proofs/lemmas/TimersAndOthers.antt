-- The events outside the queue: timers, and all others.
use Rattle.fb_agenda.proofs.lemmas.Common.{◌≡◌, Bool, true, false, cond, List, ◌++◌, refl, sym, subst, ◌∙◌, Option, Some, None, Result, Ok, Err, ap, OnOk, OnErr, lookup, same_key, Key, Event, AreRising, IsPopped, Sets, Moment}
use Rattle.fb_types.proofs.Common.{◌||◌, ◌≢◌, ◌⊎◌, inl, inr}
use Rattle.fb_types.proofs.lemmas.events.KeyLaws.{same_key_is}
use Rattle.fb_types.proofs.lemmas.lists.Lookups.{or_else_nones}
use Rattle.fb_agenda.specs.Laters.{AreKept}
use Rattle.fb_agenda.specs.Lists.{Leads}
use Rattle.fb_agenda.specs.Moments.{IsNoLater, IsQuiet}
use Rattle.fb_agenda.proofs.lemmas.Lists.{few_popped_split, few_sets, few_split, lookup_both, many_popped_split, many_sets, many_split, popped_few, popped_many}
use Rattle.fb_agenda.proofs.lemmas.Moments.{quiet_gone, quiet_less, quiet_popped, quiet_put}

-- keys of this kind are still not there
pub still_none : (P : Key → Type 0) (k : Key) (w : Option Event) (old new : List (Key × Event)) → Sets k w old new → ((j : Key) → P j → lookup (same_key j) old ≡ None)
    → (w ≡ None) ⊎ (P k → ⊥) → (j : Key) → P j → lookup (same_key j) new ≡ None
still_none P k w old new sets none other j is = sets j ∙ go (same_key k j) refl other
  where
    go : (b : Bool) → same_key k j ≡ b → (w ≡ None) ⊎ (P k → ⊥) → cond b w (lookup (same_key j) old) ≡ None
    go true same (inl gone) = gone
    go true same (inr never) = absurd (never (subst (λ (z : Key). P z) (sym (same_key_is k j same)) is))
    go false differs other = none j is

pub still_popped : (P : Key → Type 0) (old new : List (Key × Event)) (o : Option (Key × Event)) → IsPopped old new o → ((j : Key) → P j → lookup (same_key j) old ≡ None)
    → (j : Key) → P j → lookup (same_key j) new ≡ None
still_popped P old new None popped none j is = ap (lookup (same_key j)) popped.kept ∙ none j is
still_popped P old new (Some f) popped none j is = still_none P f.0 None old new popped.left none (inl refl) j is

pub or_false : (a b : Bool) → (a || b) ≡ false → (a ≡ false) × (b ≡ false)
or_false true b none = absurd cc
or_false false b none = (refl, none)

module _ (timers others : List (Key × Event)) (f : Bool) (q : Moment) (kept : AreKept timers others f q) where
  pub quieter : (r : Moment) → IsNoLater r q → AreKept timers others f r
  quieter r less = record { split = kept.split; only = kept.only; untimed = kept.untimed; marked = kept.marked; quiet = quiet_less q r (timers ++ others) kept.quiet less }

  -- ---- The first event is taken

  pub timer_popped : Leads timers others → (new : List (Key × Event)) (o : Option (Key × Event)) → AreRising new → IsPopped timers new o → AreKept new others f q
  timer_popped leads new o rising popped =
      let both = popped_few timers others kept.split leads new o popped in
      record {
        split = few_popped_split timers others kept.split new o rising popped;
        only = still_popped (λ j. j.class ≢ 1) timers new o popped kept.only;
        untimed = kept.untimed;
        marked = kept.marked;
        quiet = quiet_popped q (timers ++ others) (new ++ others) kept.quiet o both.left both.kept;
      }

  pub other_popped : Leads others timers → (new : List (Key × Event)) (o : Option (Key × Event)) → IsPopped others new o → AreKept timers new f q
  other_popped leads new o popped =
      let both = popped_many timers others kept.split leads new o popped in
      record {
        split = many_popped_split timers others kept.split new o popped;
        only = kept.only;
        untimed = still_popped (λ j. j.class ≡ 1) others new o popped kept.untimed;
        marked = λ unmarked. still_popped (λ j. j.class ≡ 3) others new o popped (kept.marked unmarked);
        quiet = quiet_popped q (timers ++ others) (timers ++ new) kept.quiet o both.left both.kept;
      }

  module _ (k : Key) where
    -- ---- An event is put among the others, or removed from them

    pub other_kept : (w : Option Event) (new : List (Key × Event)) (g : Bool) (r : Moment) → k.class ≢ 1 → (g ≡ false → (f ≡ false) × ((w ≡ None) ⊎ (k.class ≢ 3))) → Sets k w others new → IsQuiet r (timers ++ new)
        → AreKept timers new g r
    other_kept w new g r other unmarked sets quiet = record {
      split = many_split timers others kept.split k w new sets (kept.only k other);
      only = kept.only;
      untimed = still_none (λ j. j.class ≡ 1) k w others new sets kept.untimed (inr other);
      marked = λ none. let both = unmarked none in still_none (λ j. j.class ≡ 3) k w others new sets (kept.marked both.0) both.1;
      quiet = quiet;
    }

    pub other_sets : (w : Option Event) (new : List (Key × Event)) → k.class ≢ 1 → Sets k w others new → Sets k w (timers ++ others) (timers ++ new)
    other_sets w new other sets = many_sets timers others kept.split k w new sets (kept.only k other)

    pub removed_kept : (new : List (Key × Event)) → k.class ≢ 1 → Sets k None others new → AreKept timers new f q
    removed_kept new other sets = other_kept None new f q other (λ none. (none, inl refl)) sets (quiet_gone q k (timers ++ others) (timers ++ new) kept.quiet (other_sets None new other sets))

    pub put_kept : {A E : Type 0} (e : Event) (new : List (Key × Event)) (local : Bool) (r m : Moment) → k.class ≢ 1 → (k.class ≡ 3 → local ≡ true) → IsNoLater r q → IsNoLater r m → m.tick ≡ k.tick → m.resource ≡ k.resource
        → (o : Result A E) → OnOk o (Sets k (Some e) others new) → OnErr o (new ≡ others) → AreKept timers new (f || local) r
    put_kept e new local r m other is less later tick resource (Ok x) sets err =
        other_kept (Some e) new (f || local) r other (λ none. let both = or_false f local none in (both.0, inr (λ three. absurd (let clash : true ≡ false = sym (is three) ∙ both.1 in cc)))) sets (quiet_put q r m k (Some e) (timers ++ others) (timers ++ new) kept.quiet less later tick resource (other_sets (Some e) new other sets))
    put_kept e new local r m other is less later tick resource (Err x) sets err =
        let same = quieter r less in
        subst (λ es. AreKept timers es (f || local) r) (sym err)
        (record { split = same.split; only = same.only; untimed = same.untimed; marked = λ none. same.marked (or_false f local none).0; quiet = same.quiet })

    pub put_other : {A E : Type 0} (e : Event) (new : List (Key × Event)) → k.class ≢ 1 → (o : Result A E) → OnOk o (Sets k (Some e) others new) → OnOk o (Sets k (Some e) (timers ++ others) (timers ++ new))
    put_other e new other (Ok x) sets = other_sets (Some e) new other sets
    put_other e new other (Err x) sets = tt

    pub absent_other : {A E : Type 0} → k.class ≢ 1 → (o : Result A E) → OnErr o (lookup (same_key k) others ≡ None) → OnErr o (lookup (same_key k) (timers ++ others) ≡ None)
    absent_other other (Ok x) none = tt
    absent_other other (Err x) none = lookup_both k timers others ∙ or_else_nones (lookup (same_key k) timers) (lookup (same_key k) others) (kept.only k other) none

    -- ---- A timer is set or cleared

    pub timer_kept : (w : Option Event) (new : List (Key × Event)) (r : Moment) → k.class ≡ 1 → Sets k w timers new → AreRising new → IsQuiet r (new ++ others) → AreKept new others f r
    timer_kept w new r timer sets rising quiet = record {
      split = few_split timers others kept.split k w new sets rising (kept.untimed k timer);
      only = still_none (λ j. j.class ≢ 1) k w timers new sets kept.only (inr (λ differs. differs timer));
      untimed = kept.untimed;
      marked = kept.marked;
      quiet = quiet;
    }

    pub timer_sets : (w : Option Event) (new : List (Key × Event)) → k.class ≡ 1 → Sets k w timers new → Sets k w (timers ++ others) (new ++ others)
    timer_sets w new timer sets = few_sets timers others kept.split k w new sets (kept.untimed k timer)

    pub cleared_kept : (new : List (Key × Event)) → k.class ≡ 1 → Sets k None timers new → AreRising new → AreKept new others f q
    cleared_kept new timer sets rising = timer_kept None new q timer sets rising (quiet_gone q k (timers ++ others) (new ++ others) kept.quiet (timer_sets None new timer sets))

    pub set_kept : (e : Event) (new : List (Key × Event)) (r m : Moment) → k.class ≡ 1 → IsNoLater r q → IsNoLater r m → m.tick ≡ k.tick → m.resource ≡ k.resource
        → Sets k (Some e) timers new → AreRising new → AreKept new others f r
    set_kept e new r m timer less later tick resource sets rising =
        timer_kept (Some e) new r timer sets rising (quiet_put q r m k (Some e) (timers ++ others) (new ++ others) kept.quiet less later tick resource (timer_sets (Some e) new timer sets))
