-- Where deployments are refused, something is wrong.
use Rattle.fb_inputs.proofs.lemmas.Common.{◌≡◌, ◌==◌, ℕ, zero, suc, ◌+◌, Bool, true, false, cond, ltb, List, [], ◌∷◌, length, Option, Some, None, Ok, Err, refl, sym, ap, subst, ◌∙◌, inl, inr, arith, pos, Result, slice_get, option_map, LatencyDraft, LinkDraft, DeployLocation, element_at, shape_in, among_links, entries_of_link, first_failing, has_latency, latency_of_link, out_of_order, start_of_link, count_of, of_table, each_at, each_in, and_then, or_refuse, Text}
use Rattle.fb_types.proofs.Common.{leb, unsigned_abs, ◌⊎◌, ℤ, option_and_then, eqb-true, leb-false, ltb-true, same_name}
use Rattle.fb_types.specs.declared.deploy.ResourceEntry.{ResourceEntry}
use Rattle.toml.specs.Data.{Data, Items, Members, as_array, as_integer, as_table}
use Rattle.fb_inputs.specs.declared.document.PlanDraft.{PlanDraft}
use Rattle.fb_inputs.specs.declared.deploy_location.DeployKey.{DeployKey}
use Rattle.fb_inputs.specs.declared.deploy_location.DeployKey.TheVariants as key
use Rattle.fb_inputs.specs.declared.deploy_location.DeployLocation.TheVariants as location
use Rattle.fb_inputs.specs.declared.deploy_location.TableFault.{TableFault}
use Rattle.fb_inputs.specs.declared.deploy_location.TableFault.TheVariants as fault
use Rattle.fb_inputs.specs.DeployFaults.{Has, HasArray, HasAt, IsDocumentFault, IsFaultAt, IsLinkFault, IsNumbersFault, IsRefusedAt, IsResourceFault, IsTableFault, Lacks, tick_before}
use Rattle.fb_inputs.specs.DeployLocations.{InDocument, InTable, at_top, value_at}
use Rattle.fb_inputs.specs.Deployments.{IsRefusedThere, deployment, document, either, excess, follows, in_document, judged, no_document, plan_of, too_long, unless}
use Rattle.fb_inputs.specs.Documents.{array_of, constant, draft, known_keys, link, links_in, list_of, name_of, of_kind, pair, read_at, read_link, read_resource, resource, resources_in, table_of, tables_of}
use Rattle.fb_inputs.proofs.lemmas.stimuli.StimulusFaults.{failed, failed_in, length_in, refusal_of, same_refusal}
use Rattle.fb_inputs.proofs.lemmas.deployments.Outcomes.{numbered_there}

-- ---- one step after another

pub and_then-err : {A B N : Type 0} (o : Result A N) (f : A → Result B N) (n : N) → and_then o f ≡ Err n → (o ≡ Err n) ⊎ ((x : A) × (o ≡ Ok x) × (f x ≡ Err n))
and_then-err (Ok x) f n h = inr (x, refl, h)
and_then-err {A} {B} (Err m) f n h = inl (ap (λ e. refusal_of {T = A} e) (same_refusal {T = B} m n h))

ok-not-err : {A N : Type 0} (x : A) (n : N) → Ok x ≡ refusal_of n → ⊥
ok-not-err x n e = cc

to-fault : {A N : Type 0} (P : N → Type 0) (m n : N) → refusal_of {T = A} m ≡ refusal_of n → P m → P n
to-fault {A} P m n e p = subst P (same_refusal {T = A} m n e) p

-- ---- keys

module _ (P : TableFault → Type 0) (k : DeployKey) (keys : Members) (why : TableFault) where
  -- a value of a kind at a key
  kind-fault : {A : Type 0} (f : Data → Option A) (d : Data) → (f d ≡ None → P (fault.Wrong k)) → of_kind k f d ≡ Err why → P why
  kind-fault {A} f d wrong h = go (f d) refl h
    where
      go : (o : Option A) → f d ≡ o → or_refuse (fault.Wrong k) o ≡ Err why → P why
      go None e h = to-fault {A = A} P (fault.Wrong k) why h (wrong e)
      go (Some x) e h = absurd (ok-not-err x why h)

  name-fault : (Lacks keys k → P (fault.Missing k)) → (Has keys k (λ d. name_of d ≡ None) → P (fault.Wrong k)) → read_at k (of_kind k name_of) keys ≡ Err why → P why
  name-fault missing wrong h = go (value_at keys k) refl h
    where
      go : (o : Option Data) → value_at keys k ≡ o → and_then (or_refuse (fault.Missing k) o) (of_kind k name_of) ≡ Err why → P why
      go None e h = to-fault {A = Text} P (fault.Missing k) why h (missing e)
      go (Some d) e h = kind-fault name_of d (λ none. wrong (d, e, none)) h

  elements-fault : {A : Type 0} (f : Data → Option A) (d : Data) → value_at keys k ≡ Some d → (Has keys k (λ d. as_array d ≡ None) → P (fault.Wrong k))
      → ((i : ℕ) → HasArray keys k (λ ds. HasAt ds i (λ x. f x ≡ None)) → P (fault.Element k i)) → array_of k f d ≡ Err why → P why
  elements-fault {A} f d at wrong element h = go (as_array d) refl h
    where
      go : (o : Option Items) → as_array d ≡ o → and_then (or_refuse (fault.Wrong k) o) (λ ds. each_at (element_at k) f 0 (list_of ds)) ≡ Err why → P why
      go None e h = to-fault {A = List A} P (fault.Wrong k) why h (wrong (d, at, e))
      go (Some ds) e h =
          let w = failed (element_at k) f 0 (list_of ds) why h in
          let first : 0 + w.index ≡ w.index = omega arith in
          let is : why ≡ fault.Element k w.index = w.is ∙ ap (λ i. element_at k i) first in
          subst P (sym is) (element w.index (d, at, (ds, e, (w.element, w.at_index, w.none))))

  array-fault : {A : Type 0} (f : Data → Option A) → (Lacks keys k → P (fault.Missing k)) → (Has keys k (λ d. as_array d ≡ None) → P (fault.Wrong k))
      → ((i : ℕ) → HasArray keys k (λ ds. HasAt ds i (λ x. f x ≡ None)) → P (fault.Element k i)) → read_at k (array_of k f) keys ≡ Err why → P why
  array-fault {A} f missing wrong element h = go (value_at keys k) refl h
    where
      go : (o : Option Data) → value_at keys k ≡ o → and_then (or_refuse (fault.Missing k) o) (array_of k f) ≡ Err why → P why
      go None e h = to-fault {A = List A} P (fault.Missing k) why h (missing e)
      go (Some d) e h = elements-fault f d e wrong element h

-- ---- resources

-- the last test of a resource
abbrev resource_test : Members → Text → Text → List Text → InTable ResourceEntry
resource_test keys a b c = cond (count_of keys == 3) (Ok (record { device = a; name = b; instances = c })) (Err fault.Further)

abbrev device_of : Members → InTable Text
device_of keys = read_at key.Device (of_kind key.Device name_of) keys

abbrev own_of : Members → InTable Text
own_of keys = read_at key.Name (of_kind key.Name name_of) keys

abbrev instances_of : Members → InTable (List Text)
instances_of keys = read_at key.Instances (array_of key.Instances name_of) keys

module _ (keys : Members) (why : TableFault) where
  resource-counted : (r : ResourceEntry) (b : Bool) → (count_of keys == 3) ≡ b → cond b (Ok r) (Err fault.Further) ≡ Err why → IsResourceFault keys why
  resource-counted r true e h = absurd (ok-not-err r why h)
  resource-counted r false e h = to-fault {A = ResourceEntry} (IsResourceFault keys) fault.Further why h e

  resource-instances : (a b : Text) → (instances_of keys ≡ Err why) ⊎ ((c : List Text) × (instances_of keys ≡ Ok c) × (resource_test keys a b c ≡ Err why)) → IsResourceFault keys why
  resource-instances a b (inl e) = array-fault (IsResourceFault keys) key.Instances keys why name_of (λ l. l) (λ w. w) (λ i w. w) e
  resource-instances a b (inr w) = resource-counted (record { device = a; name = b; instances = w.0 }) (count_of keys == 3) refl w.2

  resource-name : (a : Text) → (own_of keys ≡ Err why) ⊎ ((b : Text) × (own_of keys ≡ Ok b) × (and_then (instances_of keys) (λ c. resource_test keys a b c) ≡ Err why)) → IsResourceFault keys why
  resource-name a (inl e) = name-fault (IsResourceFault keys) key.Name keys why (λ l. l) (λ w. w) e
  resource-name a (inr w) = resource-instances a w.0 (and_then-err (instances_of keys) (λ c. resource_test keys a w.0 c) why w.2)

  resource-device : (device_of keys ≡ Err why)
      ⊎ ((a : Text) × (device_of keys ≡ Ok a) × (and_then (own_of keys) (λ b. and_then (instances_of keys) (λ c. resource_test keys a b c)) ≡ Err why)) → IsResourceFault keys why
  resource-device (inl e) = name-fault (IsResourceFault keys) key.Device keys why (λ l. l) (λ w. w) e
  resource-device (inr w) = resource-name w.0 (and_then-err (own_of keys) (λ b. and_then (instances_of keys) (λ c. resource_test keys w.0 b c)) why w.2)

  resource-fault : read_resource keys ≡ Err why → IsResourceFault keys why
  unfolding read_resource
  resource-fault h = resource-device (and_then-err (device_of keys) (λ a. and_then (own_of keys) (λ b. and_then (instances_of keys) (λ c. resource_test keys a b c))) why h)

-- ---- links

-- the name that was read at a key
name-read : (k : DeployKey) (keys : Members) (a : Text) → read_at k (of_kind k name_of) keys ≡ Ok a → Has keys k (λ d. name_of d ≡ Some a)
name-read k keys a h = go (value_at keys k) refl h
  where
    of : (d : Data) (o : Option Text) → name_of d ≡ o → or_refuse (fault.Wrong k) o ≡ Ok a → name_of d ≡ Some a
    of d None e h = absurd cc
    of d (Some b) e h = let same : b ≡ a = cc in e ∙ ap (λ (x : Text). Some x) same

    go : (o : Option Data) → value_at keys k ≡ o → and_then (or_refuse (fault.Missing k) o) (of_kind k name_of) ≡ Ok a → Has keys k (λ d. name_of d ≡ Some a)
    go None e h = absurd cc
    go (Some d) e h = (d, e, of d (name_of d) refl h)

abbrev one_entry : ℤ → Option (List LatencyDraft)
one_entry n = Some (record { start = pos 0; ticks = n } ∷ [])

no-integer : (o : Option ℤ) → option_and_then one_entry o ≡ None → o ≡ None
no-integer None h = refl
no-integer (Some n) h = absurd cc

latencies-fault : (keys : Members) (why : TableFault) (a b : Option Data) → value_at keys key.Latency ≡ a → value_at keys key.Latencies ≡ b → table_of a b ≡ Err why → IsLinkFault keys why
unfolding table_of
latencies-fault keys why None None x y h = to-fault {A = List LatencyDraft} (IsLinkFault keys) (fault.Missing key.Latency) why h (x, y)
latencies-fault keys why (Some d) None x y h = kind-fault (IsLinkFault keys) key.Latency keys why constant d (λ none. (d, x, no-integer (as_integer d) none)) h
latencies-fault keys why None (Some d) x y h = elements-fault (IsLinkFault keys) key.Latencies keys why pair d y (λ w. w) (λ i w. w) h
latencies-fault keys why (Some d) (Some e) x y h = to-fault {A = List LatencyDraft} (IsLinkFault keys) fault.Both why h (d, x, (e, y, tt))

-- the last tests of a link
abbrev link_tests : Members → Text → Text → List LatencyDraft → InTable LinkDraft
link_tests keys a b c =
    cond (count_of keys == 3) (cond (same_name a b) (Err fault.Itself) (Ok (record { start = a; end = b; table = c }))) (Err fault.Further)

link-counted : (keys : Members) (why : TableFault) (a b : Text) (l : LinkDraft) (t loop : Bool) → (count_of keys == 3) ≡ t → same_name a b ≡ loop → Has keys key.From (λ d. name_of d ≡ Some a) → Has keys key.To (λ d. name_of d ≡ Some b)
    → cond t (cond loop (Err fault.Itself) (Ok l)) (Err fault.Further) ≡ Err why → IsLinkFault keys why
link-counted keys why a b l true true x y from to h =
    to-fault {A = LinkDraft} (IsLinkFault keys) fault.Itself why h (from.0, from.1, (to.0, to.1, (a, b, from.2, to.2, y)))
link-counted keys why a b l true false x y from to h = absurd (ok-not-err l why h)
link-counted keys why a b l false loop x y from to h = to-fault {A = LinkDraft} (IsLinkFault keys) fault.Further why h x

abbrev from_of : Members → InTable Text
from_of keys = read_at key.From (of_kind key.From name_of) keys

abbrev to_of : Members → InTable Text
to_of keys = read_at key.To (of_kind key.To name_of) keys

abbrev table_in : Members → InTable (List LatencyDraft)
table_in keys = table_of (value_at keys key.Latency) (value_at keys key.Latencies)

module _ (keys : Members) (why : TableFault) where
  link-table : (a b : Text) → from_of keys ≡ Ok a → to_of keys ≡ Ok b → (table_in keys ≡ Err why) ⊎ ((c : List LatencyDraft) × (table_in keys ≡ Ok c) × (link_tests keys a b c ≡ Err why)) → IsLinkFault keys why
  link-table a b from to (inl e) = latencies-fault keys why (value_at keys key.Latency) (value_at keys key.Latencies) refl refl e
  link-table a b from to (inr w) =
      link-counted keys why a b (record { start = a; end = b; table = w.0 }) (count_of keys == 3) (same_name a b) refl refl (name-read key.From keys a from) (name-read key.To keys b to) w.2

  link-to : (a : Text) → from_of keys ≡ Ok a → (to_of keys ≡ Err why) ⊎ ((b : Text) × (to_of keys ≡ Ok b) × (and_then (table_in keys) (λ c. link_tests keys a b c) ≡ Err why)) → IsLinkFault keys why
  link-to a from (inl e) = name-fault (IsLinkFault keys) key.To keys why (λ l. l) (λ w. w) e
  link-to a from (inr w) = link-table a w.0 from w.1 (and_then-err (table_in keys) (λ c. link_tests keys a w.0 c) why w.2)

  link-from : (from_of keys ≡ Err why) ⊎ ((a : Text) × (from_of keys ≡ Ok a) × (and_then (to_of keys) (λ b. and_then (table_in keys) (λ c. link_tests keys a b c)) ≡ Err why)) → IsLinkFault keys why
  link-from (inl e) = name-fault (IsLinkFault keys) key.From keys why (λ l. l) (λ w. w) e
  link-from (inr w) = link-to w.0 w.1 (and_then-err (to_of keys) (λ b. and_then (table_in keys) (λ c. link_tests keys w.0 b c)) why w.2)

  link-fault : read_link keys ≡ Err why → IsLinkFault keys why
  unfolding read_link
  link-fault h = link-from (and_then-err (from_of keys) (λ a. and_then (to_of keys) (λ b. and_then (table_in keys) (λ c. link_tests keys a b c))) why h)

-- ---- tables of a document

in-table : (P : Members → TableFault → Type 0) (d : Data) (keys : Members) (why : TableFault) → (P keys fault.NoTable → ⊥) → as_table d ≡ Some keys → P keys why → IsTableFault P d why
in-table P d keys fault.NoTable none at w = absurd (none w)
in-table P d keys (fault.Missing k) none at w = (keys, at, w)
in-table P d keys (fault.Wrong k) none at w = (keys, at, w)
in-table P d keys (fault.Element k i) none at w = (keys, at, w)
in-table P d keys fault.Empty none at w = (keys, at, w)
in-table P d keys fault.Both none at w = (keys, at, w)
in-table P d keys fault.Itself none at w = (keys, at, w)
in-table P d keys fault.Further none at w = (keys, at, w)

table-fault : {A : Type 0} (P : Members → TableFault → Type 0) (f : Members → InTable A) (d : Data) (why : TableFault) → ((keys : Members) → P keys fault.NoTable → ⊥) → ((keys : Members) → f keys ≡ Err why → P keys why)
    → of_table f d ≡ Err why → IsTableFault P d why
table-fault {A} P f d why none inside h = go (as_table d) refl h
  where
    go : (o : Option Members) → as_table d ≡ o → and_then (or_refuse fault.NoTable o) f ≡ Err why → IsTableFault P d why
    go None e h = to-fault {A = A} (IsTableFault P d) fault.NoTable why h e
    go (Some keys) e h = in-table P d keys why (none keys) e (inside keys h)

tables-fault : {A : Type 0} (P : DeployLocation → Type 0) (k : DeployKey) (f : Data → InTable A) (d : Data) (p : DeployLocation) → (as_array d ≡ None → P (at_top (fault.Wrong k)))
    → ((ds : Items) (i : ℕ) (x : Data) (why : TableFault) → as_array d ≡ Some ds → slice_get (list_of ds) i ≡ Some x → f x ≡ Err why → P (shape_in k i why)) → tables_of k f d ≡ Err p → P p
tables-fault {A} P k f d p wrong inside h = go (as_array d) refl h
  where
    go : (o : Option Items) → as_array d ≡ o → and_then (or_refuse (at_top (fault.Wrong k)) o) (λ ds. each_in (shape_in k) f 0 (list_of ds)) ≡ Err p → P p
    go None e h = to-fault {A = List A} P (at_top (fault.Wrong k)) p h (wrong e)
    go (Some ds) e h =
        let w = failed_in (shape_in k) f 0 (list_of ds) p h in
        let first : 0 + w.index ≡ w.index = omega arith in
        let is : p ≡ shape_in k w.index w.why = w.is ∙ ap (λ i. shape_in k i w.why) first in
        subst P (sym is) (inside ds w.index w.element w.why e w.at_index w.wrong)

-- ---- documents

resources-fault : (keys : Members) (p : DeployLocation) (o : Option Data) → value_at keys key.Resource ≡ o → resources_in o ≡ Err p → IsDocumentFault keys p
resources-fault keys p None at h = to-fault {A = List ResourceEntry} (IsDocumentFault keys) (at_top (fault.Missing key.Resource)) p h at
resources-fault keys p (Some d) at h =
    tables-fault (IsDocumentFault keys) key.Resource resource d p (λ none. (d, at, none))
    (λ ds i x why array at_index e. (d, at, (ds, array, (x, at_index, table-fault IsResourceFault read_resource x why (λ ks n. n) (λ ks r. resource-fault ks why r) e)))) h

links-fault : (keys : Members) (p : DeployLocation) (o : Option Data) → value_at keys key.Link ≡ o → links_in o ≡ Err p → IsDocumentFault keys p
links-fault keys p None at h = absurd (ok-not-err {A = List LinkDraft} [] p h)
links-fault keys p (Some d) at h =
    tables-fault (IsDocumentFault keys) key.Link link d p (λ none. (d, at, none))
    (λ ds i x why array at_index e. (d, at, (ds, array, (x, at_index, table-fault IsLinkFault read_link x why (λ ks n. n) (λ ks r. link-fault ks why r) e)))) h

-- the array of resources is empty
no-resource : (keys : Members) (o : Option Data) (rs : List ResourceEntry) → value_at keys key.Resource ≡ o → resources_in o ≡ Ok rs → length rs ≡ 0 → HasArray keys key.Resource (λ ds. length ds ≡ 0)
no-resource keys None rs at h none = absurd (ok-not-err rs (at_top (fault.Missing key.Resource)) (sym h))
no-resource keys (Some d) rs at h none = go (as_array d) refl h
  where
    go : (o : Option Items) → as_array d ≡ o → and_then (or_refuse (at_top (fault.Wrong key.Resource)) o) (λ ds. each_in (shape_in key.Resource) resource 0 (list_of ds)) ≡ Ok rs
        → HasArray keys key.Resource (λ ds. length ds ≡ 0)
    go None e h = absurd (ok-not-err rs (at_top (fault.Wrong key.Resource)) (sym h))
    go (Some ds) e h = (d, at, (ds, e, sym (length_in (shape_in key.Resource) resource 0 (list_of ds) rs h) ∙ none))

abbrev draft_tests : Members → List ResourceEntry → List LinkDraft → InDocument PlanDraft
draft_tests keys rs ls =
    cond (count_of keys == known_keys keys) (cond (length rs == 0) (Err (at_top fault.Empty)) (Ok (record { resources = rs; links = ls }))) (Err (at_top fault.Further))

module _ (keys : Members) (p : DeployLocation) where
  draft-counted : (rs : List ResourceEntry) (d : PlanDraft) (t none : Bool) → (count_of keys == known_keys keys) ≡ t → (length rs == 0) ≡ none → resources_in (value_at keys key.Resource) ≡ Ok rs
      → cond t (cond none (Err (at_top fault.Empty)) (Ok d)) (Err (at_top fault.Further)) ≡ Err p → IsDocumentFault keys p
  draft-counted rs d true true x y read h =
      to-fault {A = PlanDraft} (IsDocumentFault keys) (at_top fault.Empty) p h (no-resource keys (value_at keys key.Resource) rs refl read (eqb-true (length rs) 0 y))
  draft-counted rs d true false x y read h = absurd (ok-not-err d p h)
  draft-counted rs d false none x y read h = to-fault {A = PlanDraft} (IsDocumentFault keys) (at_top fault.Further) p h x

  draft-links : (rs : List ResourceEntry) → resources_in (value_at keys key.Resource) ≡ Ok rs
      → (links_in (value_at keys key.Link) ≡ Err p) ⊎ ((ls : List LinkDraft) × (links_in (value_at keys key.Link) ≡ Ok ls) × (draft_tests keys rs ls ≡ Err p)) → IsDocumentFault keys p
  draft-links rs read (inl e) = links-fault keys p (value_at keys key.Link) refl e
  draft-links rs read (inr w) = draft-counted rs (record { resources = rs; links = w.0 }) (count_of keys == known_keys keys) (length rs == 0) refl refl read w.2

  draft-resources : (resources_in (value_at keys key.Resource) ≡ Err p)
      ⊎ ((rs : List ResourceEntry) × (resources_in (value_at keys key.Resource) ≡ Ok rs) × (and_then (links_in (value_at keys key.Link)) (λ ls. draft_tests keys rs ls) ≡ Err p)) → IsDocumentFault keys p
  draft-resources (inl e) = resources-fault keys p (value_at keys key.Resource) refl e
  draft-resources (inr w) = draft-links w.0 w.1 (and_then-err (links_in (value_at keys key.Link)) (λ ls. draft_tests keys w.0 ls) p w.2)

  draft-fault : draft keys ≡ Err p → IsDocumentFault keys p
  unfolding draft
  draft-fault h = draft-resources (and_then-err (resources_in (value_at keys key.Resource)) (λ rs. and_then (links_in (value_at keys key.Link)) (λ ls. draft_tests keys rs ls)) p h)

-- ---- numbers

some-is : {A : Type 0} (x y : A) → Some x ≡ Some y → x ≡ y
some-is x y e = cc

mapped : {A B : Type 0} (f : A → B) (o : Option A) (y : B) → option_map f o ≡ Some y → (x : A) × (o ≡ Some x) × (f x ≡ y)
mapped f None y h = absurd cc
mapped f (Some x) y h = (x, refl, some-is (f x) y h)

unless-err : {A N : Type 0} (o : Option N) (r : Result A N) (n : N) → unless o r ≡ Err n → (o ≡ Some n) ⊎ ((o ≡ None) × (r ≡ Err n))
unless-err {A} (Some m) r n h = inl (ap (λ x. Some x) (same_refusal {T = A} m n h))
unless-err None r n h = inr (refl, h)

-- the element at which a test fails
record FailsTest {A : Type 0} (test : A → Bool) (k : ℕ) (xs : List A) (e : ℕ) : Type 0 where
  index : ℕ
  element : A
  at_index : slice_get xs index ≡ Some element
  wrong : test element ≡ false
  is : e ≡ k + index

failing : {A : Type 0} (test : A → Bool) (k : ℕ) (xs : List A) (e : ℕ) → first_failing test k xs ≡ Some e → FailsTest test k xs e
unfolding first_failing
failing test k [] e h = absurd cc
failing {A} test k (x ∷ xs) e h = go (λ i. failing test (k + 1) xs e i) (test x) refl h
  where
    go : (first_failing test (k + 1) xs ≡ Some e → FailsTest test (k + 1) xs e) → (b : Bool) → test x ≡ b → cond b (first_failing test (k + 1) xs) (Some k) ≡ Some e → FailsTest test k (x ∷ xs) e
    go later true t h =
        let w = later h in
        let n = w.is in
        record { index = suc w.index; element = w.element; at_index = w.at_index; wrong = w.wrong; is = omega arith }
    go later false t h = let same = some-is k e h in record { index = 0; element = x; at_index = refl; wrong = t; is = omega arith }

-- the entry that does not follow
record NoSuccessor (last : Option ℕ) (k : ℕ) (t : List LatencyDraft) (e : ℕ) : Type 0 where
  index : ℕ
  entry : LatencyDraft
  at_index : slice_get t index ≡ Some entry
  wrong : follows (tick_before last t index) entry.start ≡ false
  is : e ≡ k + index

tick_moved : (last : Option ℕ) (x : LatencyDraft) (t : List LatencyDraft) (i : ℕ) → tick_before (Some (unsigned_abs x.start)) t i ≡ tick_before last (x ∷ t) (suc i)
tick_moved last x t zero = refl
tick_moved last x t (suc i) = refl

disordered : (last : Option ℕ) (k : ℕ) (t : List LatencyDraft) (e : ℕ) → out_of_order last k t ≡ Some e → NoSuccessor last k t e
unfolding out_of_order
disordered last k [] e h = absurd cc
disordered last k (x ∷ t) e h = go (λ i. disordered (Some (unsigned_abs x.start)) (k + 1) t e i) (follows last x.start) refl h
  where
    go : (out_of_order (Some (unsigned_abs x.start)) (k + 1) t ≡ Some e → NoSuccessor (Some (unsigned_abs x.start)) (k + 1) t e) → (b : Bool) → follows last x.start ≡ b
        → cond b (out_of_order (Some (unsigned_abs x.start)) (k + 1) t) (Some k) ≡ Some e → NoSuccessor last k (x ∷ t) e
    go later true f h =
        let w = later h in
        let n = w.is in
        record {
          index = suc w.index;
          entry = w.entry;
          at_index = w.at_index;
          wrong = ap (λ (o : Option ℕ). follows o w.entry.start) (sym (tick_moved last x t w.index)) ∙ w.wrong;
          is = omega arith;
        }
    go later false f h = let same = some-is k e h in record { index = 0; entry = x; at_index = refl; wrong = f; is = omega arith }

-- the link of which something is found
record OfLink (f : ℕ → LinkDraft → Option DeployLocation) (k : ℕ) (ls : List LinkDraft) (p : DeployLocation) : Type 0 where
  index : ℕ
  before : ℕ
  counted : before ≡ k + index
  link : LinkDraft
  at_index : slice_get ls index ≡ Some link
  found : f before link ≡ Some p

of-link : (f : ℕ → LinkDraft → Option DeployLocation) (k : ℕ) (ls : List LinkDraft) (p : DeployLocation) → among_links f k ls ≡ Some p → OfLink f k ls p
unfolding among_links
of-link f k [] p h = absurd cc
of-link f k (l ∷ ls) p h = go (λ e. of-link f (k + 1) ls p e) (f k l) refl h
  where
    go : (among_links f (k + 1) ls ≡ Some p → OfLink f (k + 1) ls p) → (o : Option DeployLocation) → f k l ≡ o → either o (among_links f (k + 1) ls) ≡ Some p → OfLink f k (l ∷ ls) p
    go later (Some q) e h = record { index = 0; before = k; counted = omega arith; link = l; at_index = refl; found = e ∙ h }
    go later None e h =
        let w = later h in
        let n = w.counted in
        record { index = suc w.index; before = w.before; counted = omega arith; link = w.link; at_index = w.at_index; found = w.found }

-- the same, from the first link on
at-link : (f : ℕ → LinkDraft → Option DeployLocation) (ls : List LinkDraft) (p : DeployLocation) → among_links f 0 ls ≡ Some p → (k : ℕ) × (l : LinkDraft) × (slice_get ls k ≡ Some l) × (f k l ≡ Some p)
at-link f ls p h =
    let w = of-link f 0 ls p h in
    let n = w.counted in
    let same : w.before ≡ w.index = omega arith in
    (w.index, w.link, w.at_index, ap (λ i. f i w.link) (sym same) ∙ w.found)

module _ (d : PlanDraft) (p : DeployLocation) where
  latency-fault : among_links latency_of_link 0 d.links ≡ Some p → IsNumbersFault d p
  latency-fault h =
      let w = at-link latency_of_link d.links p h in
      let m = mapped (λ e. location.Latency w.0 e) (first_failing has_latency 0 w.1.table) p w.3 in
      let v = failing has_latency 0 w.1.table m.0 m.1 in
      let n = v.is in
      let same : v.index ≡ m.0 = omega arith in
      subst (IsNumbersFault d) m.2 (w.1, w.2, (v.element, ap (λ i. slice_get w.1.table i) (sym same) ∙ v.at_index, v.wrong))

  started : (k : ℕ) (l : LinkDraft) (b : Bool) → slice_get d.links k ≡ Some l → (length l.table == 0) ≡ b
      → cond b (Some (location.NoEntry k)) (option_map (λ e. location.Entry k e) (out_of_order None 0 l.table)) ≡ Some p → IsNumbersFault d p
  started k l true at_index e h = subst (IsNumbersFault d) (some-is (location.NoEntry k) p h) (l, at_index, eqb-true (length l.table) 0 e)
  started k l false at_index e h =
      let m = mapped (λ e. location.Entry k e) (out_of_order None 0 l.table) p h in
      let v = disordered None 0 l.table m.0 m.1 in
      let n = v.is in
      let same : v.index ≡ m.0 = omega arith in
      subst (IsNumbersFault d) m.2
      (l, at_index, (v.entry, ap (λ i. slice_get l.table i) (sym same) ∙ v.at_index, ap (λ i. follows (tick_before None l.table i) v.entry.start) (sym same) ∙ v.wrong))

  start-fault : among_links start_of_link 0 d.links ≡ Some p → IsNumbersFault d p
  start-fault h = let w = at-link start_of_link d.links p h in started w.0 w.1 (length w.1.table == 0) w.2 refl w.3

  crowded : (k : ℕ) (l : LinkDraft) (b : Bool) → slice_get d.links k ≡ Some l → leb (length l.table) 64 ≡ b → cond b None (Some (location.Entries k)) ≡ Some p → IsNumbersFault d p
  crowded k l true at_index e h = absurd cc
  crowded k l false at_index e h = subst (IsNumbersFault d) (some-is (location.Entries k) p h) (l, at_index, leb-false (length l.table) 64 e)

  excess-fault : excess (length d.resources) d.links ≡ Some p → IsNumbersFault d p
  excess-fault h = go (ltb 256 (length d.resources)) (ltb 1024 (length d.links)) refl refl h
    where
      go : (b c : Bool) → ltb 256 (length d.resources) ≡ b → ltb 1024 (length d.links) ≡ c
          → cond b (Some location.Resources) (cond c (Some location.Links) (among_links entries_of_link 0 d.links)) ≡ Some p → IsNumbersFault d p
      go true c x y h = subst (IsNumbersFault d) (some-is location.Resources p h) (ltb-true 256 (length d.resources) x)
      go false true x y h = subst (IsNumbersFault d) (some-is location.Links p h) (ltb-true 1024 (length d.links) y)
      go false false x y h = let w = at-link entries_of_link d.links p h in crowded w.0 w.1 (leb (length w.1.table) 64) w.2 refl w.3

  counts-fault : (excess (length d.resources) d.links ≡ Some p) ⊎ ((excess (length d.resources) d.links ≡ None) × (Ok (plan_of d) ≡ refusal_of p)) → IsNumbersFault d p
  counts-fault (inl e) = excess-fault e
  counts-fault (inr w) = absurd (ok-not-err (plan_of d) p w.1)

  starts-fault : (among_links start_of_link 0 d.links ≡ Some p)
      ⊎ ((among_links start_of_link 0 d.links ≡ None) × (unless (excess (length d.resources) d.links) (Ok (plan_of d)) ≡ Err p)) → IsNumbersFault d p
  starts-fault (inl e) = start-fault e
  starts-fault (inr w) = counts-fault (unless-err (excess (length d.resources) d.links) (Ok (plan_of d)) p w.1)

  numbers-fault : judged d ≡ Err p → IsNumbersFault d p
  unfolding judged
  numbers-fault h = go (unless-err (among_links latency_of_link 0 d.links) (unless (among_links start_of_link 0 d.links) (unless (excess (length d.resources) d.links) (Ok (plan_of d)))) p h)
    where
      go : (among_links latency_of_link 0 d.links ≡ Some p)
          ⊎ ((among_links latency_of_link 0 d.links ≡ None) × (unless (among_links start_of_link 0 d.links) (unless (excess (length d.resources) d.links) (Ok (plan_of d))) ≡ Err p)) → IsNumbersFault d p
      go (inl e) = latency-fault e
      go (inr w) = starts-fault (unless-err (among_links start_of_link 0 d.links) (unless (excess (length d.resources) d.links) (Ok (plan_of d))) p w.1)

-- ---- all bytes

in-document : (keys : Members) (d : PlanDraft) (p : DeployLocation) → draft keys ≡ Ok d → IsNumbersFault d p → IsDocumentFault keys p
in-document keys d (location.Shape t why) read w = absurd w
in-document keys d location.Bytes read w = (d, read, w)
in-document keys d (location.Document at) read w = (d, read, w)
in-document keys d (location.Latency k e) read w = (d, read, w)
in-document keys d (location.NoEntry k) read w = (d, read, w)
in-document keys d (location.Entry k e) read w = (d, read, w)
in-document keys d location.Resources read w = (d, read, w)
in-document keys d location.Links read w = (d, read, w)
in-document keys d (location.Entries k) read w = (d, read, w)

document-fault : (keys : Members) (p : DeployLocation) → deployment keys ≡ Err p → IsDocumentFault keys p
unfolding deployment
document-fault keys p h = go (and_then-err (draft keys) judged p h)
  where
    go : (draft keys ≡ Err p) ⊎ ((d : PlanDraft) × (draft keys ≡ Ok d) × (judged d ≡ Err p)) → IsDocumentFault keys p
    go (inl e) = draft-fault keys p e
    go (inr w) = in-document keys w.0 p w.1 (numbers-fault w.0 p w.2)

in-bytes : (bytes : Text) (keys : Members) (p : DeployLocation) → document bytes ≡ Some keys → IsDocumentFault keys p → IsFaultAt bytes p
in-bytes bytes keys location.Bytes read w = absurd w.2
in-bytes bytes keys (location.Document at) read w = absurd w.2
in-bytes bytes keys (location.Shape t why) read w = (keys, read, w)
in-bytes bytes keys (location.Latency k e) read w = (keys, read, w)
in-bytes bytes keys (location.NoEntry k) read w = (keys, read, w)
in-bytes bytes keys (location.Entry k e) read w = (keys, read, w)
in-bytes bytes keys location.Resources read w = (keys, read, w)
in-bytes bytes keys location.Links read w = (keys, read, w)
in-bytes bytes keys (location.Entries k) read w = (keys, read, w)

fault-at : (bytes : Text) (p : DeployLocation) → IsRefusedThere bytes p → IsFaultAt bytes p
fault-at bytes p (too_long long) = long
fault-at bytes p (no_document le none within) = (none, within)
fault-at bytes p (in_document {keys = keys} le read h) = in-bytes bytes keys p read (document-fault keys p h)

pub refused-at : (bytes : Text) (p : DeployLocation) → IsRefusedThere bytes p → IsRefusedAt bytes p
refused-at bytes p h = (numbered_there bytes p h, fault-at bytes p h)
