-- Tables of latencies that pass the tests.
use Rattle.fb_inputs.proofs.lemmas.Common.{◌≡◌, ◌==◌, ℕ, zero, suc, ◌+◌, ◌^◌, ◌<◌, ◌≤◌, nat_le, pos, Bool, true, false, cond, ltb, List, [], ◌∷◌, ◌++◌, map, length, get_or, Option, Some, None, Ok, refl, sym, ap, ◌∙◌, subst, arith, lt-ltb, Result, option_map, LinkDraft, LatencyDraft, DeployLocation, among_links, entries_of_link, entry, first_failing, has_latency, latency_of_link, out_of_order, start_of_link}
use Rattle.fb_types.proofs.Common.{nat_lt, ℤ, negsuc, unsigned_abs, append_assoc, append-nil, Contains, and_parts, false≢true, true≢false, le-ltb, leb-true, ltb-true, ltb-false, eqb-true, length-map, All-nil, All-cons, All-contains, IsWithinLimits}
use Rattle.fb_types.specs.declared.deploy.Link.{Link}
use Rattle.fb_types.specs.declared.deploy.ResourceEntry.{ResourceEntry}
use Rattle.fb_types.specs.declared.latency.Entry.{Entry}
use Rattle.std.specs.List.{All, slice_get}
use Rattle.std.specs.List.Sorted.{IsStrictlyIncreasing}
use Rattle.fb_types.specs.Latencies.{IsLatencyTable}
use Rattle.fb_inputs.specs.declared.deploy_location.DeployLocation.TheVariants as location
use Rattle.fb_inputs.specs.declared.document.PlanDraft.{PlanDraft}
use Rattle.fb_inputs.specs.Deployments.{either, excess, fault_in, follows, is_after, is_latency, is_short, is_zero, judged, link_of, plan_of, unless}

latency_within : (z : ℤ) → is_latency z ≡ true → (1 ≤ unsigned_abs z) × (unsigned_abs z ≤ 10 ^ 6)
latency_within (pos n) h =
    let (low, high) = and_parts (nat_le 1 n) (nat_le n (10 ^ 6)) h in
    (leb-true 1 n low, leb-true n (10 ^ 6) high)
latency_within (negsuc n) h = absurd (false≢true h)

abbrev HasLatency : Entry → Type 0
HasLatency e = (1 ≤ e.latency) × (e.latency ≤ 10 ^ 6)

none_fails : {A : Type 0} (test : A → Bool) (k : ℕ) (x : A) (xs : List A) → first_failing test k (x ∷ xs) ≡ None → (test x ≡ true) × (first_failing test (k + 1) xs ≡ None)
unfolding first_failing
none_fails test k x xs h = go (test x) refl h
  where
    go : (b : Bool) → test x ≡ b → cond b (first_failing test (k + 1) xs) (Some k) ≡ None → (test x ≡ true) × (first_failing test (k + 1) xs ≡ None)
    go true e h = (e, h)
    go false e h = absurd cc

latencies_within : (k : ℕ) (t : List LatencyDraft) → first_failing has_latency k t ≡ None → All HasLatency (map entry t)
latencies_within k [] h = All-nil HasLatency
latencies_within k (p ∷ ps) h =
    let (here, more) = none_fails has_latency k p ps h in
    All-cons HasLatency (entry p) (map entry ps) (latency_within p.ticks here) (latencies_within (k + 1) ps more)

after_within : (last : ℕ) (z : ℤ) → is_after last z ≡ true → (last < unsigned_abs z) × (unsigned_abs z ≤ 10 ^ 12)
after_within last (pos n) h =
    let (low, high) = and_parts (nat_lt last n) (nat_le n (10 ^ 12)) h in
    (ltb-true last n low, leb-true n (10 ^ 12) high)
after_within last (negsuc n) h = absurd (false≢true h)

abbrev HasTick : Entry → Type 0
HasTick e = e.from ≤ 10 ^ 12

ordered : (last : Option ℕ) (k : ℕ) (p : LatencyDraft) (ps : List LatencyDraft) → out_of_order last k (p ∷ ps) ≡ None → (follows last p.start ≡ true) × (out_of_order (Some (unsigned_abs p.start)) (k + 1) ps ≡ None)
unfolding out_of_order
ordered last k p ps h = go (follows last p.start) refl h
  where
    go : (b : Bool) → follows last p.start ≡ b → cond b (out_of_order (Some (unsigned_abs p.start)) (k + 1) ps) (Some k) ≡ None
        → (follows last p.start ≡ true) × (out_of_order (Some (unsigned_abs p.start)) (k + 1) ps ≡ None)
    go true e h = (e, h)
    go false e h = absurd cc

ticks_after : (last k : ℕ) (t : List LatencyDraft) → out_of_order (Some last) k t ≡ None → All HasTick (map entry t)
ticks_after last k [] h = All-nil HasTick
ticks_after last k (p ∷ ps) h =
    let (here, more) = ordered (Some last) k p ps h in
    All-cons HasTick (entry p) (map entry ps) (after_within last p.start here).1 (ticks_after (unsigned_abs p.start) (k + 1) ps more)

zero_at : (z : ℤ) → is_zero z ≡ true → unsigned_abs z ≡ 0
zero_at (pos n) h = eqb-true n 0 h
zero_at (negsuc n) h = absurd (false≢true h)

ticks_within : (t : List LatencyDraft) → out_of_order None 0 t ≡ None → All HasTick (map entry t)
ticks_within [] h = All-nil HasTick
ticks_within (p ∷ ps) h =
    let (here, more) = ordered None 0 p ps h in
    All-cons HasTick (entry p) (map entry ps) (omega (arith, zero_at p.start here)) (ticks_after (unsigned_abs p.start) (0 + 1) ps more)

abbrev starts : List LatencyDraft → List ℕ
starts t = map (λ e. e.from) (map entry t)

rising_after : (last i : ℕ) (t : List LatencyDraft) → out_of_order (Some last) i t ≡ None → (k : ℕ) → suc k < length (last ∷ starts t) → get_or (last ∷ starts t) k 0 < get_or (last ∷ starts t) (suc k) 0
rising_after last i [] h k lt = absurd (omega arith)
rising_after last i (p ∷ ps) h zero lt = (after_within last p.start (ordered (Some last) i p ps h).0).0
rising_after last i (p ∷ ps) h (suc k) lt = rising_after (unsigned_abs p.start) (i + 1) ps (ordered (Some last) i p ps h).1 k (omega arith)

rising : (t : List LatencyDraft) → (length t == 0) ≡ false → out_of_order None 0 t ≡ None → IsStrictlyIncreasing (starts t)
rising [] some h = absurd (true≢false some)
rising (p ∷ ps) some h = λ (k : ℕ) (lt : k + 1 < length (starts (p ∷ ps))).
    let (here, more) = ordered None 0 p ps h in
    let next : k + 1 ≡ suc k = omega arith in
    rw next (rising_after (unsigned_abs p.start) (0 + 1) ps more k (omega arith))

from_zero : (t : List LatencyDraft) → (length t == 0) ≡ false → out_of_order None 0 t ≡ None → slice_get (starts t) 0 ≡ Some 0
from_zero [] some h = absurd (true≢false some)
from_zero (p ∷ ps) some h = ap (λ (n : ℕ). Some n) (zero_at p.start (ordered None 0 p ps h).0)

pub latency_table : (t : List LatencyDraft) → first_failing has_latency 0 t ≡ None → (length t == 0) ≡ false → out_of_order None 0 t ≡ None → is_short t ≡ true → IsLatencyTable (map entry t)
latency_table t latencies some rise short = record {
  from_start = from_zero t some rise;
  rising = rising t some rise;
  few = omega (arith, length-map t entry, leb-true (length t) 64 short);
  ticks = ticks_within t rise;
  latencies = latencies_within 0 t latencies;
}

-- ---- Links, one after another

none_among : (f : ℕ → LinkDraft → Option DeployLocation) (k : ℕ) (d : LinkDraft) (ds : List LinkDraft) → among_links f k (d ∷ ds) ≡ None → (f k d ≡ None) × (among_links f (k + 1) ds ≡ None)
unfolding among_links
none_among f k d ds h = go (f k d) refl h
  where
    go : (o : Option DeployLocation) → f k d ≡ o → either o (among_links f (k + 1) ds) ≡ None → (f k d ≡ None) × (among_links f (k + 1) ds ≡ None)
    go None e h = (e, h)
    go (Some p) e h = absurd cc

pub passes_first : (f : ℕ → LinkDraft → Option DeployLocation) (k : ℕ) (d : LinkDraft) (ds rest : List LinkDraft) → rest ≡ d ∷ ds → among_links f k rest ≡ None → f k d ≡ None
passes_first f k d ds rest split h = (none_among f k d ds (rw split at h)).0

pub passes_rest : (f : ℕ → LinkDraft → Option DeployLocation) (k n : ℕ) (d : LinkDraft) (ds rest : List LinkDraft) → n ≡ k + 1 → rest ≡ d ∷ ds → among_links f k rest ≡ None → among_links f n ds ≡ None
passes_rest f k n d ds rest next split h = rw next (none_among f k d ds (rw split at h)).1

none_of : {A B : Type 0} (f : A → B) (o : Option A) → option_map f o ≡ None → o ≡ None
none_of f None h = refl
none_of f (Some x) h = absurd cc

pub right_latencies : (k : ℕ) (d : LinkDraft) → latency_of_link k d ≡ None → first_failing has_latency 0 d.table ≡ None
right_latencies k d h = none_of (λ e. location.Latency k e) (first_failing has_latency 0 d.table) h

pub right_starts : (k : ℕ) (d : LinkDraft) → start_of_link k d ≡ None → ((length d.table == 0) ≡ false) × (out_of_order None 0 d.table ≡ None)
right_starts k d h = go (length d.table == 0) refl h
  where
    go : (b : Bool) → (length d.table == 0) ≡ b → cond b (Some (location.NoEntry k)) (option_map (λ e. location.Entry k e) (out_of_order None 0 d.table)) ≡ None
        → ((length d.table == 0) ≡ false) × (out_of_order None 0 d.table ≡ None)
    go true e h = absurd cc
    go false e h = (e, none_of (λ e. location.Entry k e) (out_of_order None 0 d.table) h)

pub right_count : (k : ℕ) (d : LinkDraft) → entries_of_link k d ≡ None → is_short d.table ≡ true
right_count k d h = go (is_short d.table) refl h
  where
    go : (b : Bool) → is_short d.table ≡ b → cond b None (Some (location.Entries k)) ≡ None → is_short d.table ≡ true
    go true e h = e
    go false e h = absurd cc

pub links_more : (found : List Link) (d : LinkDraft) (ds rest : List LinkDraft) (total : List Link) → rest ≡ d ∷ ds → found ++ map link_of rest ≡ total → (found ++ link_of d ∷ []) ++ map link_of ds ≡ total
links_more found d ds rest total split so_far = append_assoc found (link_of d ∷ []) (map link_of ds) ∙ rw split at so_far

pub links_done : (found : List Link) (rest : List LinkDraft) (total : List Link) → length rest ≤ 0 → found ++ map link_of rest ≡ total → found ≡ total
links_done found [] total le so_far = sym (append-nil found) ∙ so_far
links_done found (d ∷ ds) total le so_far = absurd (omega arith)

-- ---- Plans that pass the tests

tables_are :
    (k : ℕ) (ds : List LinkDraft) → among_links latency_of_link k ds ≡ None → among_links start_of_link k ds ≡ None → among_links entries_of_link k ds ≡ None
    → All (λ l. IsLatencyTable l.latency) (map link_of ds)
tables_are k [] latencies rise short = All-nil (λ l. IsLatencyTable l.latency)
tables_are k (d ∷ ds) latencies rise short =
    let (l, ls) = none_among latency_of_link k d ds latencies in
    let (r, rs) = none_among start_of_link k d ds rise in
    let (s, ss) = none_among entries_of_link k d ds short in
    let (some, order) = right_starts k d r in
    All-cons (λ l. IsLatencyTable l.latency) (link_of d) (map link_of ds) (latency_table d.table (right_latencies k d l) some order (right_count k d s)) (tables_are (k + 1) ds ls rs ss)

-- the counts are within the limits
pub right_counts : (n : ℕ) (ds : List LinkDraft) → excess n ds ≡ None → (n ≤ 256) × (length ds ≤ 1024) × (among_links entries_of_link 0 ds ≡ None)
right_counts n ds h = go (ltb 256 n) (ltb 1024 (length ds)) refl refl h
  where
    go : (b c : Bool) → ltb 256 n ≡ b → ltb 1024 (length ds) ≡ c → cond b (Some location.Resources) (cond c (Some location.Links) (among_links entries_of_link 0 ds)) ≡ None
        → (n ≤ 256) × (length ds ≤ 1024) × (among_links entries_of_link 0 ds ≡ None)
    go true c x y h = absurd cc
    go false true x y h = absurd cc
    go false false x y h = (ltb-false 256 n x, ltb-false 1024 (length ds) y, h)

pub within_limits :
    (resources : List ResourceEntry) (links : List Link) (ds : List LinkDraft) → 1 ≤ length resources → length resources ≤ 256 → length ds ≤ 1024
    → among_links latency_of_link 0 ds ≡ None → among_links start_of_link 0 ds ≡ None → among_links entries_of_link 0 ds ≡ None → links ≡ map link_of ds
    → IsWithinLimits (record { resources = resources; links = links; holds_all = false })
within_limits resources links ds some few_resources few_links latencies rise short made =
    let counted : length links ≡ length ds = ap length made ∙ length-map ds link_of in
    record {
      some_resource = some;
      few_resources = few_resources;
      few_links = omega (arith, counted, few_links);
      one_holds_all = λ h. absurd (false≢true h);
      latencies = λ l c.
          All-contains (λ (l : Link). IsLatencyTable l.latency) (map link_of ds) l (tables_are 0 ds latencies rise short)
          (subst (λ (ls : List Link). Contains ls l) made c);
    }

-- ---- The first fault

first_of : {A N : Type 0} (a b c : Option N) (r : Result A N) → unless a (unless b (unless c r)) ≡ unless (either a (either b c)) r
first_of (Some x) b c r = refl
first_of None (Some y) c r = refl
first_of None None c r = refl

pub judged_by : (d : PlanDraft) → judged d ≡ unless (fault_in (length d.resources) d.links) (Ok (plan_of d))
unfolding judged
judged_by d = first_of (among_links latency_of_link 0 d.links) (among_links start_of_link 0 d.links) (excess (length d.resources) d.links) (Ok (plan_of d))

none_of_three : {N : Type 0} (a b c : Option N) → either a (either b c) ≡ None → (a ≡ None) × (b ≡ None) × (c ≡ None)
none_of_three (Some x) b c h = absurd cc
none_of_three None (Some y) c h = absurd cc
none_of_three None None c h = (refl, refl, h)

pub no_fault : (n : ℕ) (ds : List LinkDraft) → fault_in n ds ≡ None → (among_links latency_of_link 0 ds ≡ None) × (among_links start_of_link 0 ds ≡ None) × (excess n ds ≡ None)
no_fault n ds h = none_of_three (among_links latency_of_link 0 ds) (among_links start_of_link 0 ds) (excess n ds) h

-- ---- The counts, where no table is at fault

module _ (n : ℕ) (ds : List LinkDraft) where
  pub counts_last : (o : Option DeployLocation) → None ≡ among_links latency_of_link 0 ds → None ≡ among_links start_of_link 0 ds → o ≡ excess n ds → o ≡ fault_in n ds
  counts_last o latencies starts is = is ∙ (λ i. either (latencies i) (either (starts i) (excess n ds)))

  pub many_resources : 256 < n → Some location.Resources ≡ excess n ds
  many_resources more = rw (lt-ltb 256 n more) refl

  pub many_links : n ≤ 256 → 1024 < length ds → Some location.Links ≡ excess n ds
  many_links few more = rw (le-ltb 256 n few, lt-ltb 1024 (length ds) more) refl

  pub within_counts : n ≤ 256 → length ds ≤ 1024 → among_links entries_of_link 0 ds ≡ excess n ds
  within_counts few few_links = rw (le-ltb 256 n few, le-ltb 1024 (length ds) few_links) refl
