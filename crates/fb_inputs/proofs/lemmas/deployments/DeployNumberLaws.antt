-- Which numbers of a deployment are refused: the law of specs.DeployNumbers.
use Rattle.std.proofs.Common.{◌≡◌, ◌==◌, ◌≤◌, ℕ, zero, suc, ◌+◌, ◌<◌, Bool, true, false, cond, ltb, List, [], ◌∷◌, length, Option, Some, None, Ok, Err, refl, sym, ap, subst, ◌∙◌, inl, inr, arith}
use Rattle.fb_types.proofs.Common.{leb, unsigned_abs, ◌⊎◌, eqb-true, leb-false, leb-true, lt-ltb, ltb-false, ltb-true, ne_eqb}
use Rattle.std.specs.Prelude.{◌↔◌, Result, option_map, slice_get}
use Rattle.fb_types.specs.declared.deploy.Plan.{Plan}
use Rattle.fb_inputs.specs.declared.document.LatencyDraft.{LatencyDraft}
use Rattle.fb_inputs.specs.declared.document.LinkDraft.{LinkDraft}
use Rattle.fb_inputs.specs.declared.document.PlanDraft.{PlanDraft}
use Rattle.fb_inputs.specs.declared.deploy_location.DeployLocation.{DeployLocation}
use Rattle.fb_inputs.specs.declared.deploy_location.DeployLocation.TheVariants as location
use Rattle.fb_inputs.specs.DeployFaults.{HasAt, tick_before}
use Rattle.fb_inputs.specs.DeployLocations.{InDocument}
use Rattle.fb_inputs.specs.Deployments.{among_links, either, entries_of_link, excess, first_failing, follows, has_latency, is_short, judged, latency_of_link, out_of_order, plan_of, start_of_link, unless}
use Rattle.fb_inputs.specs.DeployNumbers.{HasBadLatency, HasBadNumbers, HasBadTable, HasGoodNumbers, HasManyEntries, HasNone, IsBadLatency, IsBadStart, IsFirstAt, JudgesNumbers, by_entry, by_entry_count, by_latency, by_link_count, by_no_entry, by_resource_count}
use Rattle.fb_inputs.proofs.lemmas.stimuli.StimulusFaults.{refusal_of, same_refusal}
use Rattle.fb_inputs.proofs.lemmas.deployments.DeployTableLaws.{not-ok, ok-is}

some-is : {A : Type 0} (x y : A) → Some x ≡ Some y → x ≡ y
some-is x y e = cc

not-true : (b : Bool) → b ≡ true → b ≡ false → ⊥
not-true b t f = cc

-- nothing is before the first index
none-before : {A : Type 0} (xs : List A) (P : A → Type 0) (j : ℕ) → j < 0 → HasAt xs j P → ⊥
none-before xs P j low h = absurd (omega (arith, low))

not-in-nil : {A : Type 0} (j : ℕ) (x : A) → slice_get {X = A} [] j ≡ Some x → ⊥
not-in-nil j x at = cc

none-nil : {A : Type 0} (P : A → Type 0) → HasNone [] P
none-nil P i (x, at, is) = absurd (not-in-nil i x at)

-- none in a list of which neither the first element nor a later one is such
none-cons : {A : Type 0} (P : A → Type 0) (x : A) (xs : List A) → (P x → ⊥) → HasNone xs P → HasNone (x ∷ xs) P
none-cons P x xs here later zero (y, at, is) = let same : y ≡ x = cc in here (subst P same is)
none-cons P x xs here later (suc i) (y, at, is) = later i (y, at, is)

before-cons : {A : Type 0} (P : A → Type 0) (x : A) (xs : List A) (i : ℕ) → (P x → ⊥) → ((j : ℕ) → j < i → HasAt xs j P → ⊥) → (j : ℕ) → j < suc i → HasAt (x ∷ xs) j P → ⊥
before-cons P x xs i here later zero low (y, at, is) = let same : y ≡ x = cc in here (subst P same is)
before-cons P x xs i here later (suc j) low (y, at, is) = later j (omega (arith, low)) (y, at, is)

-- ---- the first element at which a test fails

abbrev Fails : {A : Type 0} → (A → Bool) → A → Type 0
Fails test x = test x ≡ false

failing : {A : Type 0} (test : A → Bool) (k : ℕ) (xs : List A) (e : ℕ) → first_failing test k xs ≡ Some e → (i : ℕ) × IsFirstAt xs i (Fails test) × (e ≡ k + i)
unfolding first_failing
failing test k [] e h = absurd cc
failing {A} test k (x ∷ xs) e h = go (λ i. failing test (k + 1) xs e i) (test x) refl h
  where
    go : (first_failing test (k + 1) xs ≡ Some e → (i : ℕ) × IsFirstAt xs i (Fails test) × (e ≡ k + 1 + i)) → (b : Bool) → test x ≡ b
        → cond b (first_failing test (k + 1) xs) (Some k) ≡ Some e → (i : ℕ) × IsFirstAt (x ∷ xs) i (Fails test) × (e ≡ k + i)
    go later true t h =
        let w = later h in
        let n = w.2 in
        (suc w.0, (w.1.0, before-cons (Fails test) x xs w.0 (λ f. not-true (test x) t f) w.1.1), omega (arith, n))
    go later false t h = let same = some-is k e h in (0, ((x, refl, t), none-before (x ∷ xs) (Fails test)), omega (arith, same))

none-fails : {A : Type 0} (test : A → Bool) (k : ℕ) (xs : List A) → first_failing test k xs ≡ None → HasNone xs (Fails test)
unfolding first_failing
none-fails test k [] h = none-nil (Fails test)
none-fails {A} test k (x ∷ xs) h = go (λ e. none-fails test (k + 1) xs e) (test x) refl h
  where
    go : (first_failing test (k + 1) xs ≡ None → HasNone xs (Fails test)) → (b : Bool) → test x ≡ b → cond b (first_failing test (k + 1) xs) (Some k) ≡ None → HasNone (x ∷ xs) (Fails test)
    go later true t h = none-cons (Fails test) x xs (λ f. not-true (test x) t f) (later h)
    go later false t h = absurd cc

fails-first : {A : Type 0} (test : A → Bool) (k : ℕ) (xs : List A) (i : ℕ) → IsFirstAt xs i (Fails test) → first_failing test k xs ≡ Some (k + i)
unfolding first_failing
fails-first test k [] i ((x, at, _), before) = absurd cc
fails-first test k (x ∷ xs) zero ((y, at, fails), before) =
    let same : x ≡ y = cc in
    let first : k ≡ k + 0 = omega arith in
    ap (λ b. cond b (first_failing test (k + 1) xs) (Some k)) (ap test same ∙ fails) ∙ ap (λ n. Some n) first
fails-first {A} test k (x ∷ xs) (suc i) ((y, at, fails), before) =
    go (fails-first test (k + 1) xs i ((y, at, fails), λ j low w. before (suc j) (omega (arith, low)) w)) (test x) refl
  where
    go : first_failing test (k + 1) xs ≡ Some (k + 1 + i) → (b : Bool) → test x ≡ b → cond (test x) (first_failing test (k + 1) xs) (Some k) ≡ Some (k + suc i)
    go later true t =
        let moved : k + 1 + i ≡ k + suc i = omega arith in
        ap (λ b. cond b (first_failing test (k + 1) xs) (Some k)) t
        ∙ later
        ∙ ap (λ n. Some n) moved
    go later false t = absurd (before zero (omega arith) (x, refl, t))

-- ---- the first entry that does not begin where it may

-- this entry does not, where one before the table began at this tick
abbrev BadAfter : Option ℕ → List LatencyDraft → ℕ → Type 0
BadAfter last t e = HasAt t e (λ p. follows (tick_before last t e) p.start ≡ false)

abbrev FirstBad : Option ℕ → List LatencyDraft → ℕ → Type 0
FirstBad last t e = BadAfter last t e × ((j : ℕ) → j < e → BadAfter last t j → ⊥)

tick_moved : (last : Option ℕ) (x : LatencyDraft) (t : List LatencyDraft) (i : ℕ) → tick_before (Some (unsigned_abs x.start)) t i ≡ tick_before last (x ∷ t) (suc i)
tick_moved last x t zero = refl
tick_moved last x t (suc i) = refl

bad-moved : (last : Option ℕ) (x : LatencyDraft) (t : List LatencyDraft) (i : ℕ) → BadAfter (Some (unsigned_abs x.start)) t i → BadAfter last (x ∷ t) (suc i)
bad-moved last x t i (p, at, wrong) = (p, at, ap (λ (o : Option ℕ). follows o p.start) (sym (tick_moved last x t i)) ∙ wrong)

bad-back : (last : Option ℕ) (x : LatencyDraft) (t : List LatencyDraft) (i : ℕ) → BadAfter last (x ∷ t) (suc i) → BadAfter (Some (unsigned_abs x.start)) t i
bad-back last x t i (p, at, wrong) = (p, at, ap (λ (o : Option ℕ). follows o p.start) (tick_moved last x t i) ∙ wrong)

good-first : (last : Option ℕ) (x : LatencyDraft) (t : List LatencyDraft) → follows last x.start ≡ true → BadAfter last (x ∷ t) zero → ⊥
good-first last x t good (p, at, wrong) =
    let same : p ≡ x = cc in
    not-true (follows last x.start) good (ap (λ (y : LatencyDraft). follows last y.start) (sym same) ∙ wrong)

good-before : (last : Option ℕ) (x : LatencyDraft) (t : List LatencyDraft) (i : ℕ) → follows last x.start ≡ true
    → ((j : ℕ) → j < i → BadAfter (Some (unsigned_abs x.start)) t j → ⊥) → (j : ℕ) → j < suc i → BadAfter last (x ∷ t) j → ⊥
good-before last x t i good later zero low w = good-first last x t good w
good-before last x t i good later (suc j) low w = later j (omega (arith, low)) (bad-back last x t j w)

disordered : (last : Option ℕ) (k : ℕ) (t : List LatencyDraft) (e : ℕ) → out_of_order last k t ≡ Some e → (i : ℕ) × FirstBad last t i × (e ≡ k + i)
unfolding out_of_order
disordered last k [] e h = absurd cc
disordered last k (x ∷ t) e h = go (λ i. disordered (Some (unsigned_abs x.start)) (k + 1) t e i) (follows last x.start) refl h
  where
    go : (out_of_order (Some (unsigned_abs x.start)) (k + 1) t ≡ Some e → (i : ℕ) × FirstBad (Some (unsigned_abs x.start)) t i × (e ≡ k + 1 + i)) → (b : Bool) → follows last x.start ≡ b
        → cond b (out_of_order (Some (unsigned_abs x.start)) (k + 1) t) (Some k) ≡ Some e → (i : ℕ) × FirstBad last (x ∷ t) i × (e ≡ k + i)
    go later true f h =
        let w = later h in
        let n = w.2 in
        (suc w.0, (bad-moved last x t w.0 w.1.0, good-before last x t w.0 f w.1.1), omega (arith, n))
    go later false f h =
        let same = some-is k e h in
        (0, ((x, refl, f), λ j low w. absurd (omega (arith, low))), omega (arith, same))

none-disordered : (last : Option ℕ) (k : ℕ) (t : List LatencyDraft) → out_of_order last k t ≡ None → (j : ℕ) → BadAfter last t j → ⊥
unfolding out_of_order
none-disordered last k [] h = λ j w. not-in-nil j w.0 w.1
none-disordered last k (x ∷ t) h = go (λ e. none-disordered (Some (unsigned_abs x.start)) (k + 1) t e) (follows last x.start) refl h
  where
    all : ((j : ℕ) → BadAfter (Some (unsigned_abs x.start)) t j → ⊥) → follows last x.start ≡ true → (j : ℕ) → BadAfter last (x ∷ t) j → ⊥
    all later f zero w = good-first last x t f w
    all later f (suc j) w = later j (bad-back last x t j w)

    go : (out_of_order (Some (unsigned_abs x.start)) (k + 1) t ≡ None → (j : ℕ) → BadAfter (Some (unsigned_abs x.start)) t j → ⊥) → (b : Bool) → follows last x.start ≡ b
        → cond b (out_of_order (Some (unsigned_abs x.start)) (k + 1) t) (Some k) ≡ None → (j : ℕ) → BadAfter last (x ∷ t) j → ⊥
    go later true f h = all (later h) f
    go later false f h = absurd cc

disorder-first : (last : Option ℕ) (k : ℕ) (t : List LatencyDraft) (i : ℕ) → FirstBad last t i → out_of_order last k t ≡ Some (k + i)
unfolding out_of_order
disorder-first last k [] i ((p, at, _), before) = absurd cc
disorder-first last k (x ∷ t) zero ((p, at, wrong), before) =
    let same : p ≡ x = cc in
    let first : k ≡ k + 0 = omega arith in
    ap (λ b. cond b (out_of_order (Some (unsigned_abs x.start)) (k + 1) t) (Some k)) (ap (λ (y : LatencyDraft). follows last y.start) (sym same) ∙ wrong) ∙ ap (λ n. Some n) first
disorder-first last k (x ∷ t) (suc i) (bad, before) =
    go (disorder-first (Some (unsigned_abs x.start)) (k + 1) t i (bad-back last x t i bad, λ j low w. before (suc j) (omega (arith, low)) (bad-moved last x t j w))) (follows last x.start) refl
  where
    go : out_of_order (Some (unsigned_abs x.start)) (k + 1) t ≡ Some (k + 1 + i) → (b : Bool) → follows last x.start ≡ b
        → cond (follows last x.start) (out_of_order (Some (unsigned_abs x.start)) (k + 1) t) (Some k) ≡ Some (k + suc i)
    go later true f =
        let moved : k + 1 + i ≡ k + suc i = omega arith in
        ap (λ b. cond b (out_of_order (Some (unsigned_abs x.start)) (k + 1) t) (Some k)) f
        ∙ later
        ∙ ap (λ n. Some n) moved
    go later false f = absurd (before zero (omega arith) (x, refl, f))

-- ---- the first link of which something is found

-- A finder finds something exactly of a link of which this is wrong, and then this is found of it.
record Finds (f : ℕ → LinkDraft → Option DeployLocation) (Bad : LinkDraft → Type 0) (Found : ℕ → LinkDraft → DeployLocation → Type 0) : Type 0 where
  bad : (k : ℕ) (l : LinkDraft) (p : DeployLocation) → f k l ≡ Some p → Bad l
  found : (k : ℕ) (l : LinkDraft) (p : DeployLocation) → f k l ≡ Some p → Found k l p
  good : (k : ℕ) (l : LinkDraft) → f k l ≡ None → Bad l → ⊥
  finds : (k : ℕ) (l : LinkDraft) (p : DeployLocation) → Found k l p → f k l ≡ Some p

some-of : (o : Option DeployLocation) → ((p : DeployLocation) → o ≡ Some p → ⊥) → o ≡ None
some-of None none = refl
some-of (Some p) none = absurd (none p refl)

module _ (f : ℕ → LinkDraft → Option DeployLocation) (Bad : LinkDraft → Type 0) (Found : ℕ → LinkDraft → DeployLocation → Type 0) (law : Finds f Bad Found) where
  among-found : (k : ℕ) (ls : List LinkDraft) (p : DeployLocation) → among_links f k ls ≡ Some p → (i : ℕ) × IsFirstAt ls i Bad × HasAt ls i (λ l. Found (k + i) l p)
  unfolding among_links
  among-found k [] p h = absurd cc
  among-found k (l ∷ ls) p h = go (λ e. among-found (k + 1) ls p e) (f k l) refl h
    where
      go : (among_links f (k + 1) ls ≡ Some p → (i : ℕ) × IsFirstAt ls i Bad × HasAt ls i (λ l. Found (k + 1 + i) l p)) → (o : Option DeployLocation) → f k l ≡ o
          → either o (among_links f (k + 1) ls) ≡ Some p → (i : ℕ) × IsFirstAt (l ∷ ls) i Bad × HasAt (l ∷ ls) i (λ l. Found (k + i) l p)
      go later None e h =
          let w = later h in
          let moved : k + 1 + w.0 ≡ k + suc w.0 = omega arith in
          (suc w.0, (w.1.0, before-cons Bad l ls w.0 (law.good k l e) w.1.1), (w.2.0, w.2.1, subst (λ n. Found n w.2.0 p) moved w.2.2))
      go later (Some q) e h =
          let is : f k l ≡ Some p = e ∙ h in
          let first : k ≡ k + 0 = omega arith in
          (0, ((l, refl, law.bad k l p is), none-before (l ∷ ls) Bad), (l, refl, subst (λ n. Found n l p) first (law.found k l p is)))

  among-none : (k : ℕ) (ls : List LinkDraft) → among_links f k ls ≡ None → HasNone ls Bad
  unfolding among_links
  among-none k [] h = none-nil Bad
  among-none k (l ∷ ls) h = go (λ e. among-none (k + 1) ls e) (f k l) refl h
    where
      go : (among_links f (k + 1) ls ≡ None → HasNone ls Bad) → (o : Option DeployLocation) → f k l ≡ o → either o (among_links f (k + 1) ls) ≡ None → HasNone (l ∷ ls) Bad
      go later None e h = none-cons Bad l ls (law.good k l e) (later h)
      go later (Some q) e h = absurd cc

  -- nothing is found of a link that has nothing wrong
  nothing-of : (k : ℕ) (l : LinkDraft) → (Bad l → ⊥) → f k l ≡ None
  nothing-of k l none = some-of (f k l) (λ p e. none (law.bad k l p e))

  none-among : (k : ℕ) (ls : List LinkDraft) → HasNone ls Bad → among_links f k ls ≡ None
  none-among k ls none = some-of (among_links f k ls) (λ p e. (let w = among-found k ls p e in none w.0 w.1.0))

  found-among : (k : ℕ) (ls : List LinkDraft) (i : ℕ) (p : DeployLocation) → ((j : ℕ) → j < i → HasAt ls j Bad → ⊥) → HasAt ls i (λ l. Found (k + i) l p) → among_links f k ls ≡ Some p
  unfolding among_links
  found-among k [] i p before (l, at, _) = absurd cc
  found-among k (l ∷ ls) zero p before (m, at, there) =
      let same : m ≡ l = cc in
      let first : k + 0 ≡ k = omega arith in
      let is : f k l ≡ Some p = law.finds k l p (subst (λ x. Found k x p) same (subst (λ n. Found n m p) first there)) in
      ap (λ o. either o (among_links f (k + 1) ls)) is
  found-among k (l ∷ ls) (suc i) p before (m, at, there) =
      let moved : k + suc i ≡ k + 1 + i = omega arith in
      ap (λ o. either o (among_links f (k + 1) ls)) (nothing-of k l (λ bad. before zero (omega arith) (l, refl, bad)))
      ∙ found-among (k + 1) ls i p (λ j low w. before (suc j) (omega (arith, low)) w) (m, at, subst (λ n. Found n m p) moved there)

-- ---- the three finders

mapped : {A B : Type 0} (f : A → B) (o : Option A) (y : B) → option_map f o ≡ Some y → (x : A) × (o ≡ Some x) × (f x ≡ y)
mapped f None y h = absurd cc
mapped f (Some x) y h = (x, refl, some-is (f x) y h)

unmapped : {A B : Type 0} (f : A → B) (o : Option A) → option_map f o ≡ None → o ≡ None
unmapped f None h = refl
unmapped f (Some x) h = absurd cc

zero-plus : (i : ℕ) → 0 + i ≡ i
zero-plus i = omega arith

-- an entry with such a latency
abbrev LatencyFound : ℕ → LinkDraft → DeployLocation → Type 0
LatencyFound k l p = (e : ℕ) × IsFirstAt l.table e IsBadLatency × (p ≡ location.Latency k e)

latency-found : (k : ℕ) (l : LinkDraft) (p : DeployLocation) → latency_of_link k l ≡ Some p → LatencyFound k l p
latency-found k l p h =
    let m = mapped (λ e. location.Latency k e) (first_failing has_latency 0 l.table) p h in
    let w = failing has_latency 0 l.table m.0 m.1 in
    (w.0, w.1, sym m.2 ∙ ap (λ e. location.Latency k e) (w.2 ∙ zero-plus w.0))

latency-finds : Finds latency_of_link HasBadLatency LatencyFound
latency-finds = record {
  bad = λ k l p h. (let w = latency-found k l p h in (w.0, w.1.0));
  found = latency-found;
  good = λ k l h bad. none-fails has_latency 0 l.table (unmapped (λ e. location.Latency k e) (first_failing has_latency 0 l.table) h) bad.0 bad.1;
  finds = λ k l p w. ap (λ o. option_map (λ e. location.Latency k e) o) (fails-first has_latency 0 l.table w.0 w.1) ∙ ap (λ e. Some (location.Latency k e)) (zero-plus w.0) ∙ ap (λ q. Some q) (sym w.2);
}

-- no entry, or one that begins where it may not
abbrev TableFound : ℕ → LinkDraft → DeployLocation → Type 0
TableFound k l p =
    ((length l.table ≡ 0) × (p ≡ location.NoEntry k))
    ⊎ ((e : ℕ) × FirstBad None l.table e × (p ≡ location.Entry k e))

eqb-none : (n : ℕ) → n ≡ 0 → (n == 0) ≡ true
eqb-none n h = ap (λ m. m == 0) h

some-entry : (t : List LatencyDraft) (e : ℕ) → BadAfter None t e → (length t == 0) ≡ false
some-entry [] e (p, at, _) = absurd cc
some-entry (x ∷ t) e w = ne_eqb (length (x ∷ t)) 0 (λ none. omega (arith, none))

module _ (k : ℕ) (l : LinkDraft) where
  abbrev ordered : Option DeployLocation
  ordered = option_map (λ e. location.Entry k e) (out_of_order None 0 l.table)

  table-found : (p : DeployLocation) → start_of_link k l ≡ Some p → TableFound k l p
  table-found p h = go (length l.table == 0) refl h
    where
      go : (b : Bool) → (length l.table == 0) ≡ b → cond b (Some (location.NoEntry k)) ordered ≡ Some p → TableFound k l p
      go true e h = inl (eqb-true (length l.table) 0 e, sym (some-is _ _ h))
      go false e h =
          let m = mapped (λ e. location.Entry k e) (out_of_order None 0 l.table) p h in
          let w = disordered None 0 l.table m.0 m.1 in
          inr (w.0, w.1, sym m.2 ∙ ap (λ e. location.Entry k e) (w.2 ∙ zero-plus w.0))

  table-bad : (p : DeployLocation) → TableFound k l p → HasBadTable l
  table-bad p (inl (none, is)) = inl none
  table-bad p (inr (e, bad, is)) = inr (e, bad.0)

  table-good : start_of_link k l ≡ None → HasBadTable l → ⊥
  table-good h = go (length l.table == 0) refl h
    where
      go : (b : Bool) → (length l.table == 0) ≡ b → cond b (Some (location.NoEntry k)) ordered ≡ None → HasBadTable l → ⊥
      go true e h bad = absurd cc
      go false e h (inl none) = not-true (length l.table == 0) (eqb-none (length l.table) none) e
      go false e h (inr (i, bad)) = none-disordered None 0 l.table (unmapped (λ e. location.Entry k e) (out_of_order None 0 l.table) h) i bad

  table-finds : (p : DeployLocation) → TableFound k l p → start_of_link k l ≡ Some p
  table-finds p (inl (none, is)) = ap (λ b. cond b (Some (location.NoEntry k)) ordered) (eqb-none (length l.table) none) ∙ ap (λ q. Some q) (sym is)
  table-finds p (inr (e, bad, is)) =
      ap (λ b. cond b (Some (location.NoEntry k)) ordered) (some-entry l.table e bad.0)
      ∙ ap (λ o. option_map (λ e. location.Entry k e) o) (disorder-first None 0 l.table e bad)
      ∙ ap (λ e. Some (location.Entry k e)) (zero-plus e)
      ∙ ap (λ q. Some q) (sym is)

tables-find : Finds start_of_link HasBadTable TableFound
tables-find = record {
  bad = λ k l p h. table-bad k l p (table-found k l p h);
  found = table-found;
  good = table-good;
  finds = table-finds;
}

-- too many entries
abbrev EntriesFound : ℕ → LinkDraft → DeployLocation → Type 0
EntriesFound k l p = HasManyEntries l × (p ≡ location.Entries k)

module _ (k : ℕ) (l : LinkDraft) where
  entries-found : (p : DeployLocation) → entries_of_link k l ≡ Some p → EntriesFound k l p
  entries-found p h = go (is_short l.table) refl h
    where
      go : (b : Bool) → is_short l.table ≡ b → cond b None (Some (location.Entries k)) ≡ Some p → EntriesFound k l p
      go true e h = absurd cc
      go false e h = (leb-false (length l.table) 64 e, sym (some-is _ _ h))

  short-not : (b : Bool) → is_short l.table ≡ b → HasManyEntries l → b ≡ false
  short-not true e many = absurd (let few = leb-true (length l.table) 64 e in omega (arith, few, many))
  short-not false e many = refl

  entries-good : entries_of_link k l ≡ None → HasManyEntries l → ⊥
  entries-good h many = absurd (let e = ap (λ b. cond b None (Some (location.Entries k))) (short-not (is_short l.table) refl many) in cc)

  entries-finds : (p : DeployLocation) → EntriesFound k l p → entries_of_link k l ≡ Some p
  entries-finds p (many, is) = ap (λ b. cond b None (Some (location.Entries k))) (short-not (is_short l.table) refl many) ∙ ap (λ q. Some q) (sym is)

entries-find : Finds entries_of_link HasManyEntries EntriesFound
entries-find = record {
  bad = λ k l p h. (entries-found k l p h).0;
  found = entries-found;
  good = entries-good;
  finds = entries-finds;
}

-- ---- all of a deployment

unless-none : {A N : Type 0} (o : Option N) (r : Result A N) → o ≡ None → unless o r ≡ r
unless-none o r none = ap (λ x. unless x r) none

unless-some : {A : Type 0} (o : Option DeployLocation) (r : InDocument A) (p : DeployLocation) → o ≡ Some p → unless o r ≡ refusal_of {T = A} p
unless-some o r p some = ap (λ x. unless x r) some

unless-was : {A : Type 0} (o : Option DeployLocation) (r : InDocument A) (x : A) → unless o r ≡ Ok x → (o ≡ None) × (r ≡ Ok x)
unless-was None r x h = (refl, h)
unless-was {A} (Some p) r x h = absurd (not-ok {A = A} p x h)

unless-not : {A : Type 0} (o : Option DeployLocation) (r : InDocument A) (p : DeployLocation) → unless o r ≡ refusal_of {T = A} p → (o ≡ Some p) ⊎ ((o ≡ None) × (r ≡ refusal_of {T = A} p))
unless-not {A} (Some q) r p h = inl (ap (λ x. Some x) (same_refusal {T = A} q p h))
unless-not None r p h = inr (refl, h)

module _ (d : PlanDraft) where
  abbrev latencies : Option DeployLocation
  latencies = among_links latency_of_link 0 d.links

  abbrev tables : Option DeployLocation
  tables = among_links start_of_link 0 d.links

  abbrev entries : Option DeployLocation
  entries = among_links entries_of_link 0 d.links

  abbrev counts : Option DeployLocation
  counts = excess (length d.resources) d.links

  abbrev counts_by : Bool → Bool → Option DeployLocation
  counts_by b c = cond b (Some location.Resources) (cond c (Some location.Links) entries)

  abbrev after_tables : InDocument Plan
  after_tables = unless counts (Ok (plan_of d))

  abbrev after_latencies : InDocument Plan
  after_latencies = unless tables after_tables

  judged-is : judged d ≡ unless latencies after_latencies
  unfolding judged
  judged-is = refl

  no-latency : latencies ≡ None → HasNone d.links HasBadLatency
  no-latency h = among-none latency_of_link HasBadLatency LatencyFound latency-finds 0 d.links h

  latency-none : HasNone d.links HasBadLatency → latencies ≡ None
  latency-none h = none-among latency_of_link HasBadLatency LatencyFound latency-finds 0 d.links h

  no-table : tables ≡ None → HasNone d.links HasBadTable
  no-table h = among-none start_of_link HasBadTable TableFound tables-find 0 d.links h

  table-none : HasNone d.links HasBadTable → tables ≡ None
  table-none h = none-among start_of_link HasBadTable TableFound tables-find 0 d.links h

  no-entries : entries ≡ None → HasNone d.links HasManyEntries
  no-entries h = among-none entries_of_link HasManyEntries EntriesFound entries-find 0 d.links h

  entries-none : HasNone d.links HasManyEntries → entries ≡ None
  entries-none h = none-among entries_of_link HasManyEntries EntriesFound entries-find 0 d.links h

  -- the counts
  few : (n m : ℕ) → m ≤ n → ltb n m ≡ false
  few n m h = go (ltb n m) refl
    where
      go : (b : Bool) → ltb n m ≡ b → b ≡ false
      go true e = absurd (let more = ltb-true n m e in omega (arith, h, more))
      go false e = refl

  counts-none : length d.resources ≤ 256 → length d.links ≤ 1024 → HasNone d.links HasManyEntries → counts ≡ None
  counts-none x y z =
      ap (λ b. counts_by b (ltb 1024 (length d.links))) (few 256 (length d.resources) x) ∙ ap (λ c. counts_by false c) (few 1024 (length d.links) y) ∙ entries-none z

  no-counts : counts ≡ None → (length d.resources ≤ 256) × (length d.links ≤ 1024) × HasNone d.links HasManyEntries
  no-counts h = go (ltb 256 (length d.resources)) (ltb 1024 (length d.links)) refl refl h
    where
      go : (b c : Bool) → ltb 256 (length d.resources) ≡ b → ltb 1024 (length d.links) ≡ c → counts_by b c ≡ None → (length d.resources ≤ 256) × (length d.links ≤ 1024) × HasNone d.links HasManyEntries
      go true c x y h = absurd cc
      go false true x y h = absurd cc
      go false false x y h = (ltb-false 256 (length d.resources) x, ltb-false 1024 (length d.links) y, no-entries h)

  module _ (p : DeployLocation) where
    latency-bad : latencies ≡ Some p → HasBadNumbers d p
    latency-bad h = go (among-found latency_of_link HasBadLatency LatencyFound latency-finds 0 d.links p h)
      where
        go : (i : ℕ) × IsFirstAt d.links i HasBadLatency × HasAt d.links i (λ l. LatencyFound (0 + i) l p) → HasBadNumbers d p
        go (i, first, (l, at, (e, wrong, is))) =
            subst (HasBadNumbers d) (ap (λ k. location.Latency k e) (sym (zero-plus i)) ∙ sym is) (by_latency {k = i} {e = e} first (l, at, wrong))

    table-bads : HasNone d.links HasBadLatency → tables ≡ Some p → HasBadNumbers d p
    table-bads good h = go (among-found start_of_link HasBadTable TableFound tables-find 0 d.links p h)
      where
        go : (i : ℕ) × IsFirstAt d.links i HasBadTable × HasAt d.links i (λ l. TableFound (0 + i) l p) → HasBadNumbers d p
        go (i, first, (l, at, inl (none, is))) =
            subst (HasBadNumbers d) (ap (λ k. location.NoEntry k) (sym (zero-plus i)) ∙ sym is) (by_no_entry {k = i} good first (l, at, none))
        go (i, first, (l, at, inr (e, bad, is))) =
            subst (HasBadNumbers d) (ap (λ k. location.Entry k e) (sym (zero-plus i)) ∙ sym is) (by_entry {k = i} {e = e} good first (l, at, bad))

    counts-bad : HasNone d.links HasBadLatency → HasNone d.links HasBadTable → counts ≡ Some p → HasBadNumbers d p
    counts-bad good tabled h = go (ltb 256 (length d.resources)) (ltb 1024 (length d.links)) refl refl h
      where
        crowd : length d.resources ≤ 256 → length d.links ≤ 1024 → (i : ℕ) × IsFirstAt d.links i HasManyEntries × HasAt d.links i (λ l. EntriesFound (0 + i) l p) → HasBadNumbers d p
        crowd x y (i, first, (l, at, (many, is))) =
            subst (HasBadNumbers d) (ap (λ k. location.Entries k) (sym (zero-plus i)) ∙ sym is) (by_entry_count {k = i} good tabled x y first)

        go : (b c : Bool) → ltb 256 (length d.resources) ≡ b → ltb 1024 (length d.links) ≡ c → counts_by b c ≡ Some p → HasBadNumbers d p
        go true c x y h = subst (HasBadNumbers d) (some-is location.Resources p h) (by_resource_count good tabled (ltb-true 256 (length d.resources) x))
        go false true x y h =
            subst (HasBadNumbers d) (some-is location.Links p h) (by_link_count good tabled (ltb-false 256 (length d.resources) x) (ltb-true 1024 (length d.links) y))
        go false false x y h =
            crowd (ltb-false 256 (length d.resources) x) (ltb-false 1024 (length d.links) y) (among-found entries_of_link HasManyEntries EntriesFound entries-find 0 d.links p h)

    numbers-bad : judged d ≡ refusal_of {T = Plan} p → HasBadNumbers d p
    numbers-bad h = first (unless-not latencies after_latencies p (sym judged-is ∙ h))
      where
        third : HasNone d.links HasBadLatency → HasNone d.links HasBadTable → (counts ≡ Some p) ⊎ ((counts ≡ None) × (Ok (plan_of d) ≡ refusal_of {T = Plan} p)) → HasBadNumbers d p
        third good tabled (inl e) = counts-bad good tabled e
        third good tabled (inr (e, h)) = absurd (not-ok {A = Plan} p (plan_of d) (sym h))

        second : HasNone d.links HasBadLatency → (tables ≡ Some p) ⊎ ((tables ≡ None) × (after_tables ≡ refusal_of {T = Plan} p)) → HasBadNumbers d p
        second good (inl e) = table-bads good e
        second good (inr (e, h)) = third good (no-table e) (unless-not counts (Ok (plan_of d)) p h)

        first : (latencies ≡ Some p) ⊎ ((latencies ≡ None) × (after_latencies ≡ refusal_of {T = Plan} p)) → HasBadNumbers d p
        first (inl e) = latency-bad e
        first (inr (e, h)) = second (no-latency e) (unless-not tables after_tables p h)

  -- where latencies and tables are good, the counts are judged
  at-counts : HasNone d.links HasBadLatency → HasNone d.links HasBadTable → judged d ≡ after_tables
  at-counts good tabled = judged-is ∙ unless-none latencies after_latencies (latency-none good) ∙ unless-none tables after_tables (table-none tabled)

  bad-numbers : (p : DeployLocation) → HasBadNumbers d p → judged d ≡ refusal_of {T = Plan} p
  bad-numbers p (by_latency {k} {e} first (l, at, wrong)) =
      judged-is
      ∙ unless-some latencies after_latencies (location.Latency k e) (found-among latency_of_link HasBadLatency LatencyFound latency-finds 0 d.links k (location.Latency k e) first.1 (l, at, (e, wrong, ap (λ n. location.Latency n e) (sym (zero-plus k)))))
  bad-numbers p (by_no_entry {k} good first (l, at, none)) =
      judged-is
      ∙ unless-none latencies after_latencies (latency-none good)
      ∙ unless-some tables after_tables (location.NoEntry k) (found-among start_of_link HasBadTable TableFound tables-find 0 d.links k (location.NoEntry k) first.1 (l, at, inl (none, ap (λ n. location.NoEntry n) (sym (zero-plus k)))))
  bad-numbers p (by_entry {k} {e} good first (l, at, bad)) =
      judged-is
      ∙ unless-none latencies after_latencies (latency-none good)
      ∙ unless-some tables after_tables (location.Entry k e) (found-among start_of_link HasBadTable TableFound tables-find 0 d.links k (location.Entry k e) first.1 (l, at, inr (e, bad, ap (λ n. location.Entry n e) (sym (zero-plus k)))))
  bad-numbers p (by_resource_count good tabled many) =
      at-counts good tabled ∙ unless-some counts (Ok (plan_of d)) location.Resources (ap (λ b. counts_by b (ltb 1024 (length d.links))) (lt-ltb 256 (length d.resources) many))
  bad-numbers p (by_link_count good tabled x many) =
      at-counts good tabled
      ∙ unless-some counts (Ok (plan_of d)) location.Links (ap (λ b. counts_by b (ltb 1024 (length d.links))) (few 256 (length d.resources) x) ∙ ap (λ c. counts_by false c) (lt-ltb 1024 (length d.links) many))
  bad-numbers p (by_entry_count {k} good tabled x y first) =
      at-counts good tabled
      ∙ unless-some counts (Ok (plan_of d)) (location.Entries k)
      (ap (λ b. counts_by b (ltb 1024 (length d.links))) (few 256 (length d.resources) x)
      ∙ ap (λ c. counts_by false c) (few 1024 (length d.links) y)
      ∙ found-among entries_of_link HasManyEntries EntriesFound entries-find 0 d.links k (location.Entries k) first.1 (first.0.0, first.0.1, (first.0.2, ap (λ n. location.Entries n) (sym (zero-plus k)))))

  numbers-good : (plan : Plan) → judged d ≡ Ok plan → HasGoodNumbers d × (plan ≡ plan_of d)
  numbers-good plan h =
      let a = unless-was latencies after_latencies plan (sym judged-is ∙ h) in
      let b = unless-was tables after_tables plan a.1 in
      let c = unless-was counts (Ok (plan_of d)) plan b.1 in
      let few_of = no-counts c.0 in
      (record { latencies = no-latency a.0; tables = no-table b.0; few_resources = few_of.0; few_links = few_of.1; few_entries = few_of.2 }, sym (ok-is (plan_of d) plan c.1))

  good-numbers : (plan : Plan) → HasGoodNumbers d × (plan ≡ plan_of d) → judged d ≡ Ok plan
  good-numbers plan (good, is) =
      at-counts good.latencies good.tables ∙ unless-none counts (Ok (plan_of d)) (counts-none good.few_resources good.few_links good.few_entries) ∙ ap (λ x. Ok x) (sym is)

pub judges-numbers : JudgesNumbers
judges-numbers d = ((λ plan. (numbers-good d plan, good-numbers d plan)), (λ p. (numbers-bad d p, bad-numbers d p)))
