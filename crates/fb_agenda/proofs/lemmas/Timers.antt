-- Timers that wait on an agenda.
use Rattle.fb_types.proofs.Common.{◌≡◌, ◌≢◌, ℕ, ◌<◌, Bool, true, false, cond, eqb, ◌&&◌, List, length, refl, sym, ap, subst, ◌∙◌, Option, Some, None, Result, Ok, Err, get_or-set_same, get_or-set_other, arith, slice_index, slice_set, IfNone, IfSome, IsSome, OnOk, lookup, eqb-true, eq-eqb, changed_to, or_else, same_key, timer_key, is_timer_of}
use Rattle.fb_types.specs.declared.key.Key.{Key}
use Rattle.fb_types.specs.declared.run.Event.TheVariants.{Timer}
use Rattle.std.specs.Cmp.{first_so, second_so}
use Rattle.fb_types.proofs.lemmas.events.KeyLaws.{same_key_is}
use Rattle.fb_agenda.specs.Agendas.{Contents, waiting, IsQueue, IsTimed, IsInResource}
use Rattle.fb_types.specs.declared.run.Event.{Event}
use Rattle.fb_agenda.proofs.lemmas.Orders.{either_some}

pub timer_of_timer_key : (t r i : ℕ) → is_timer_of r i (timer_key t r i) ≡ true
timer_of_timer_key t r i = ap (λ b. b && true && eqb i i) (eq-eqb r r refl) ∙ eq-eqb i i refl

pub timer_instance : (r i : ℕ) (j : Key) → is_timer_of r i j ≡ true → j.a ≡ i
timer_instance r i j h = eqb-true j.a i (second_so (eqb j.resource r && eqb j.class 1) (eqb j.a i) h)

pub timer_resource : (r i : ℕ) (j : Key) → is_timer_of r i j ≡ true → j.resource ≡ r
timer_resource r i j h =
    eqb-true j.resource r (first_so (eqb j.resource r) (eqb j.class 1) (first_so (eqb j.resource r && eqb j.class 1) (eqb j.a i) h))

pub timer_class : (r i : ℕ) (j : Key) → is_timer_of r i j ≡ true → j.class ≡ 1
timer_class r i j h =
    eqb-true j.class 1 (second_so (eqb j.resource r) (eqb j.class 1) (first_so (eqb j.resource r && eqb j.class 1) (eqb j.a i) h))

-- if each timer that waits has its tick in `due`, removing that one removes them all
pub cleared : (c : Contents) (r i due : ℕ) → due ≡ slice_index c.due i → IsTimed c → (j : Key)
    → cond (same_key (timer_key due r i) j) None (waiting c j) ≡ cond (is_timer_of r i j) None (waiting c j)
cleared c r i due set_due timed j = go (is_timer_of r i j) refl (same_key (timer_key due r i) j) refl (waiting c j) refl
  where
    go : (t : Bool) → is_timer_of r i j ≡ t → (s : Bool) → same_key (timer_key due r i) j ≡ s → (o : Option Event) → waiting c j ≡ o → cond s None o ≡ cond t None o
    go true is true same o e = refl
    go true is false same None e = refl
    go true is false same (Some x) e =
        let found : same_key (timer_key (slice_index c.due i) r i) j ≡ true = timed j r i x e is in
        let again : same_key (timer_key due r i) j ≡ true = subst (λ (d : ℕ). same_key (timer_key d r i) j ≡ true) (sym set_due) found in
        absurd cc
    go false is true same o e =
        let one : timer_key due r i ≡ j = same_key_is (timer_key due r i) j same in
        let yes : is_timer_of r i j ≡ true = subst (λ (k : Key). is_timer_of r i k ≡ true) one (timer_of_timer_key due r i) in
        absurd cc
    go false is false same o e = refl

-- a timer that is removed is not on the agenda, and no other comes
pub timed_without : (old new : Contents) (r i : ℕ) → IsTimed old
    → ((j : Key) → waiting new j ≡ cond (is_timer_of r i j) None (waiting old j)) → new.due ≡ old.due → IsTimed new
timed_without old new r i timed left same j s n e found is = go (is_timer_of r i j) refl
  where
    go : (t : Bool) → is_timer_of r i j ≡ t → same_key (timer_key (slice_index new.due n) s n) j ≡ true
    go true mine =
        let none : waiting new j ≡ None = left j ∙ ap (λ b. cond b None (waiting old j)) mine in
        absurd cc
    go false mine =
        let kept : waiting old j ≡ Some e = sym (left j ∙ ap (λ b. cond b None (waiting old j)) mine) ∙ found in
        subst (λ (d : List ℕ). same_key (timer_key (slice_index d n) s n) j ≡ true) (sym same) (timed j s n e kept is)

-- a timer that is set is the one of its instance that waits
pub timed_after : (old : Contents) (mid : Key → Option Event) (new : Contents) (r i tick : ℕ) → IsTimed old → IsInResource r i old → i < length old.due
    → ((j : Key) → mid j ≡ cond (is_timer_of r i j) None (waiting old j))
    → ((j : Key) → waiting new j ≡ cond (same_key (timer_key tick r i) j) (Some (Timer i)) (mid j))
    → new.due ≡ slice_set old.due i tick
    → IsTimed new
timed_after old mid new r i tick timed home within left put set_due j s n e found is = go (same_key (timer_key tick r i) j) refl
  where
    go : (b : Bool) → same_key (timer_key tick r i) j ≡ b → same_key (timer_key (slice_index new.due n) s n) j ≡ true
    go true same =
        let one : timer_key tick r i ≡ j = same_key_is (timer_key tick r i) j same in
        let a : i ≡ n = ap (λ (k : Key). k.a) one ∙ timer_instance s n j is in
        let b : r ≡ s = ap (λ (k : Key). k.resource) one ∙ timer_resource s n j is in
        let d : slice_index new.due n ≡ tick = ap (λ xs. slice_index xs n) set_due ∙ ap (λ m. slice_index (slice_set old.due i tick) m) (sym a) ∙ get_or-set_same old.due i tick 0 within in
        subst (λ (q : ℕ). same_key (timer_key (slice_index new.due n) q n) j ≡ true) b
        (subst (λ (m : ℕ). same_key (timer_key (slice_index new.due n) r m) j ≡ true) a (subst (λ (m : ℕ). same_key (timer_key m r i) j ≡ true) (sym d) same))
    go false same = other (is_timer_of r i j) refl
      where
        other : (t : Bool) → is_timer_of r i j ≡ t → same_key (timer_key (slice_index new.due n) s n) j ≡ true
        other true mine =
            let none : waiting new j ≡ None = put j ∙ ap (λ b. cond b (Some (Timer i)) (mid j)) same ∙ left j ∙ ap (λ b. cond b None (waiting old j)) mine in
            absurd cc
        other false mine =
            let kept : waiting old j ≡ Some e = sym (put j ∙ ap (λ b. cond b (Some (Timer i)) (mid j)) same ∙ left j ∙ ap (λ b. cond b None (waiting old j)) mine) ∙ found in
            let apart : n ≢ i = λ q. not_both (at_home q kept) mine in
            let d : slice_index new.due n ≡ slice_index old.due n = ap (λ xs. slice_index xs n) set_due ∙ get_or-set_other old.due i n tick 0 apart in
            subst (λ (m : ℕ). same_key (timer_key m s n) j ≡ true) (sym d) (timed j s n e kept is)
          where
            at_home : n ≡ i → waiting old j ≡ Some e → is_timer_of r i j ≡ true
            at_home q kept =
                let mine_there : is_timer_of s i j ≡ true = subst (λ (m : ℕ). is_timer_of s m j ≡ true) q is in
                subst (λ (m : ℕ). is_timer_of m i j ≡ true) (home j s e kept mine_there) mine_there

            not_both : is_timer_of r i j ≡ true → is_timer_of r i j ≡ false → ⊥
            not_both x y = absurd cc

-- what a request at a tick changes
pub changed_is : (s t : Bool) (x : Event) (o : Option Event) → cond s (Some x) (cond t None o) ≡ changed_to (cond s (Some (Some x)) (cond t (Some None) None)) o
changed_is true true x o = refl
changed_is true false x o = refl
changed_is false true x o = refl
changed_is false false x o = refl

pub on_ok_both : {A E : Type 0} {P Q R : Type 0} (r : Result A E) → (P → Q → R) → OnOk r P → OnOk r Q → OnOk r R
on_ok_both (Ok a) f h k = f h k
on_ok_both (Err e) f h k = tt

-- ---- Where a timer waits

-- if the timer does not wait at its tick in `due`, it waits nowhere
pub no_timer : (c : Contents) (r i : ℕ) → IsTimed c → waiting c (timer_key (slice_index c.due i) r i) ≡ None → (t : ℕ) → waiting c (timer_key t r i) ≡ None
no_timer c r i timed none t = go (waiting c (timer_key t r i)) refl
  where
    go : (o : Option Event) → waiting c (timer_key t r i) ≡ o → waiting c (timer_key t r i) ≡ None
    go None is = is
    go (Some e) is =
        let same = same_key_is _ _ (timed (timer_key t r i) r i e is (timer_of_timer_key t r i)) in
        subst (λ (k : Key). waiting c k ≡ None) same none

module _ (c : Contents) (r i : ℕ) where
  pub timer_some : (o : Option ℕ) → IfSome o (λ t. IsSome (lookup (same_key (timer_key t r i)) c.later)) → IfSome o (λ t. IsSome (waiting c (timer_key t r i)))
  timer_some None h = tt
  timer_some (Some t) h = either_some (lookup (same_key (timer_key t r i)) c.running) (lookup (same_key (timer_key t r i)) c.later) h

  -- no timer is in the queue
  pub timer_none : IsQueue c.running → IsTimed c → (o : Option ℕ) → IfNone o (lookup (same_key (timer_key (slice_index c.due i) r i)) c.later ≡ None)
      → IfNone o ((t : ℕ) → waiting c (timer_key t r i) ≡ None)
  timer_none queue timed (Some t) h = tt
  timer_none queue timed None h =
      let key = timer_key (slice_index c.due i) r i in
      no_timer c r i timed (ap (λ o. or_else o (lookup (same_key key) c.later)) (queue.local key (λ three. omega (arith, three))) ∙ h)
