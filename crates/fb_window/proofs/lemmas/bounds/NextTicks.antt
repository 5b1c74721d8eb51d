-- The ticks of the resources' next events.
use Rattle.fb_window.proofs.lemmas.Common.{◌≡◌, ℕ, ◌+◌, ◌<◌, ◌≤◌, Some, None, List, [], ◌∷◌, ◌++◌, length, sym, ap, ◌∙◌, subst, ⊎_elim, arith, slice_get, slice_set, cases_eq, cases_lt, length-set, System, Key, Message, IsNext, waiting, receiver_of, Resource, AreGiven, AreCurrent}
use Rattle.fb_types.proofs.Common.{Result, Ok, Err, OnOk}
use Rattle.fb_resource.proofs.lemmas.Lists.{set_apart, set_here}
use Rattle.fb_window.specs.Noting.{IsHanded, IsCurrent}
use Rattle.fb_laws.proofs.lemmas.lists.Indexes.{has_at, is_at, one_at, push_before, push_counted, push_here}
use Rattle.fb_window.proofs.lemmas.messages.Receives.{given_more, given_none}

-- ---- Of this many resources

pub record AreCurrentTo (horizon : ℕ) (xs : List Resource) (count : ℕ) (ticks : List ℕ) : Type 0 where
  pub counted : length ticks ≡ count
  pub each : (r : ℕ) (x : Resource) (tick : ℕ) → slice_get xs r ≡ Some x → slice_get ticks r ≡ Some tick → IsCurrent horizon x tick

pub current_none : (horizon : ℕ) (xs : List Resource) (ticks : List ℕ) → ticks ≡ [] → AreCurrentTo horizon xs 0 ticks
current_none horizon xs ticks e = record {
  counted = ap (λ z. length z) e;
  each = λ r x tick f g. let h = is_at ticks r tick g in let n : length ticks ≡ 0 = ap (λ z. length z) e in absurd (omega arith);
}

pub current_more : (horizon : ℕ) (xs : List Resource) (count : ℕ) (old new : List ℕ) (x : Resource) (tick : ℕ) → AreCurrentTo horizon xs count old → slice_get xs count ≡ Some x
    → IsCurrent horizon x tick → new ≡ old ++ tick ∷ [] → AreCurrentTo horizon xs (count + 1) new
current_more horizon xs count old new x tick h at here e = record {
  counted = ap (λ z. length z) e ∙ push_counted old tick count h.counted;
  each = λ r y t f g.
      let counted = h.counted in
      let all : length new ≡ count + 1 = ap (λ z. length z) e ∙ push_counted old tick count h.counted in
      let within = is_at new r t g in
      let put : slice_get (old ++ tick ∷ []) r ≡ Some t = ap (λ z. slice_get z r) (sym e) ∙ g in
      ⊎_elim
      (λ (l : r < count).
      let o = has_at old r (omega arith) in
      h.each r y t f (o.1 ∙ ap (λ z. Some z) (one_at (old ++ tick ∷ []) r o.0 t (push_before old tick r o.0 o.1) put)))
      (λ (l : count ≤ r).
      let q : count ≡ r = omega arith in
      last r q y t f put)
      (cases_lt r count);
}
  where
    last : (r : ℕ) → count ≡ r → (y : Resource) (t : ℕ) → slice_get xs r ≡ Some y → slice_get (old ++ tick ∷ []) r ≡ Some t → IsCurrent horizon y t
    last r q y t f put =
        let same : tick ≡ t = one_at (old ++ tick ∷ []) r tick t (push_here old tick r (h.counted ∙ q)) put in
        let one : x ≡ y = one_at xs r x y (subst (λ (n : ℕ). slice_get xs n ≡ Some x) q at) f in
        subst (λ (z : Resource). IsCurrent horizon z t) one (subst (λ (n : ℕ). IsCurrent horizon x n) same here)

pub current_all : (horizon : ℕ) (xs : List Resource) (count : ℕ) (ticks : List ℕ) → AreCurrentTo horizon xs count ticks → count ≡ length xs → AreCurrent horizon xs ticks
current_all horizon xs count ticks h e = record { counted = h.counted ∙ e; each = h.each }

-- ---- One of them again

pub current_set : (horizon : ℕ) (xs : List Resource) (ticks : List ℕ) (index : ℕ) (x : Resource) (tick : ℕ) → AreCurrent horizon xs ticks → index < length ticks → IsCurrent horizon x tick
    → AreCurrent horizon (slice_set xs index x) (slice_set ticks index tick)
current_set horizon xs ticks index x tick h within here = record {
  counted = length-set ticks index tick ∙ h.counted ∙ sym (length-set xs index x);
  each = λ r y t f g. ⊎_elim (λ q. same r q y t f g) (λ n. h.each r y t (set_apart xs index r x y n f) (set_apart ticks index r tick t n g)) (cases_eq r index);
}
  where
    inside : index < length xs
    inside = let c = h.counted in omega arith

    same : (r : ℕ) → r ≡ index → (y : Resource) (t : ℕ) → slice_get (slice_set xs index x) r ≡ Some y → slice_get (slice_set ticks index tick) r ≡ Some t → IsCurrent horizon y t
    same r q y t f g =
        let one : x ≡ y = set_here xs index x y inside (subst (λ (n : ℕ). slice_get (slice_set xs index x) n ≡ Some y) q f) in
        let number : tick ≡ t = set_here ticks index tick t within (subst (λ (n : ℕ). slice_get (slice_set ticks index tick) n ≡ Some t) q g) in
        subst (λ (z : Resource). IsCurrent horizon z t) one (subst (λ (n : ℕ). IsCurrent horizon x n) number here)

-- ---- The least

-- no tick of this many is below the least
pub record IsLeastTick (horizon : ℕ) (ticks : List ℕ) (count first least : ℕ) : Type 0 where
  pub cap : least ≤ horizon
  pub low : (r tick : ℕ) → r < count → slice_get ticks r ≡ Some tick → least ≤ tick
  pub there : least < horizon → slice_get ticks first ≡ Some least

pub least_tick_none : (horizon : ℕ) (ticks : List ℕ) → IsLeastTick horizon ticks 0 0 horizon
least_tick_none horizon ticks = record { cap = omega arith; low = λ r tick b e. absurd (omega arith); there = λ b. absurd (omega arith) }

pub least_tick_less : (horizon : ℕ) (ticks : List ℕ) (count first least tick : ℕ) → IsLeastTick horizon ticks count first least → slice_get ticks count ≡ Some tick → tick < least
    → IsLeastTick horizon ticks (count + 1) count tick
least_tick_less horizon ticks count first least tick h at b = record {
  cap = let c = h.cap in omega arith;
  low = λ r t d e.
      ⊎_elim
      (λ (l : r < count). let k = h.low r t l e in omega arith)
      (λ (l : count ≤ r). let q : count ≡ r = omega arith in let same : tick ≡ t = one_at ticks r tick t (subst (λ (n : ℕ). slice_get ticks n ≡ Some tick) q at) e in omega arith)
      (cases_lt r count);
  there = λ d. at;
}

pub least_tick_more : (horizon : ℕ) (ticks : List ℕ) (count first least tick : ℕ) → IsLeastTick horizon ticks count first least → slice_get ticks count ≡ Some tick → least ≤ tick
    → IsLeastTick horizon ticks (count + 1) first least
least_tick_more horizon ticks count first least tick h at b = record {
  cap = h.cap;
  low = λ r t d e.
      ⊎_elim
      (λ (l : r < count). h.low r t l e)
      (λ (l : count ≤ r). let q : count ≡ r = omega arith in let same : tick ≡ t = one_at ticks r tick t (subst (λ (n : ℕ). slice_get ticks n ≡ Some tick) q at) e in omega arith)
      (cases_lt r count);
  there = h.there;
}

pub low_since : (horizon : ℕ) (xs : List Resource) (ticks : List ℕ) (least : ℕ) → ((r tick : ℕ) → slice_get ticks r ≡ Some tick → least ≤ tick) → AreCurrent horizon xs ticks
    → (r : ℕ) (x : Resource) (j : Key) → slice_get xs r ≡ Some x → j.tick < least → waiting x.agenda j ≡ None
low_since horizon xs ticks least low h r x j e b =
    let counted = h.counted in
    let within = is_at xs r x e in
    let t = has_at ticks r (omega arith) in
    let over = low r t.0 t.1 in
    (h.each r x t.0 e t.1).rests j (omega arith)

pub there_since : (horizon : ℕ) (xs : List Resource) (ticks : List ℕ) (first least : ℕ) → slice_get ticks first ≡ Some least → AreCurrent horizon xs ticks → least < horizon
    → (x : Resource) × (slice_get xs first ≡ Some x) × IsNext x.agenda least
there_since horizon xs ticks first least at h b =
    let counted = h.counted in
    let within = is_at ticks first least at in
    let x = has_at xs first (omega arith) in
    (x.0, x.1, (h.each first x.0 least x.1 at).next b)

-- ---- Messages for one of them

pub given_handed : (sys : System) (ms : List Message) (m : Message) (xs ys zs : List Resource) (r : ℕ) → AreGiven sys ms xs ys → receiver_of sys m ≡ r → IsHanded r (m ∷ []) ys zs
    → AreGiven sys (ms ++ m ∷ []) xs zs
given_handed sys ms m xs ys zs r g to h =
    subst (λ (us : List Resource). AreGiven sys (ms ++ m ∷ []) xs us) (sym h.set) (given_more sys ms m xs ys r h.before h.after g h.was to h.received)

pub given_only : (sys : System) (m : Message) (xs zs : List Resource) (r : ℕ) → receiver_of sys m ≡ r → IsHanded r (m ∷ []) xs zs → AreGiven sys (m ∷ []) xs zs
given_only sys m xs zs r to h = given_handed sys [] m xs xs zs r (given_none sys xs) to h

pub only_of : {X : Type 0} (xs : List X) (x : X) → length xs ≡ 1 → slice_get xs 0 ≡ Some x → xs ≡ x ∷ []
only_of [] x n e = absurd (omega arith)
only_of (y ∷ []) x n e = let f : y ≡ x = cc in ap (λ z. z ∷ []) f
only_of (y ∷ z ∷ zs) x n e = absurd (omega arith)

pub on_ok : {A E : Type 0} (P Q : Type 0) (r : Result A E) → (P → Q) → OnOk r P → OnOk r Q
on_ok P Q (Ok a) f h = f h
on_ok P Q (Err e) f h = tt
