-- How the tables of a deployment are read: the laws of specs.DeployTables.
use Rattle.std.proofs.Common.{◌≡◌, ◌==◌, ℕ, zero, suc, ◌+◌, ◌<◌, Bool, true, false, cond, List, [], ◌∷◌, map, length, is_some, Option, Some, None, Ok, Err, refl, sym, ap, subst, ◌∙◌, inl, inr, arith}
use Rattle.std.specs.Prelude.{◌⊎◌, ◌↔◌, ℤ, pos, Result, option_and_then, slice_get}
use Rattle.toml.specs.Data.{Data, Items, Members, as_array, as_integer}
use Rattle.fb_types.specs.Names.{same_name}
use Rattle.fb_types.specs.declared.deploy.ResourceEntry.{ResourceEntry}
use Rattle.fb_inputs.specs.declared.document.LatencyDraft.{LatencyDraft}
use Rattle.fb_inputs.specs.declared.document.LinkDraft.{LinkDraft}
use Rattle.fb_inputs.specs.declared.document.PlanDraft.{PlanDraft}
use Rattle.fb_inputs.specs.declared.deploy_location.DeployKey.{DeployKey}
use Rattle.fb_inputs.specs.declared.deploy_location.DeployKey.TheVariants as key
use Rattle.fb_inputs.specs.declared.deploy_location.TableFault.{TableFault}
use Rattle.fb_inputs.specs.declared.deploy_location.TableFault.TheVariants as fault
use Rattle.fb_inputs.specs.DeployFaults.{Has, HasArray, HasAt, Lacks}
use Rattle.fb_inputs.specs.DeployLocations.{InDocument, InTable, at_top, element_at, value_at, text_of}
use Rattle.fb_inputs.specs.Documents.{array_of, count_of, draft, links_in, list_of, name_of, of_kind, pair, read_at, read_link, read_resource, resources_in, table_of}
use Rattle.fb_inputs.specs.DeployTables.{HasElements, HasFirstOther, HasLatencies, HasName, HasNoElements, HasNoLatencies, HasNoName, HaveSameKeys, IgnoresOrder, IsLink, IsNoLink, IsNoResource, IsResource, ReadsLinks, ReadsResources, by_device, by_end, by_further_key, by_instances, by_latencies, by_loop, by_name, by_start, link_by_further_key}
use Rattle.fb_inputs.specs.Lists.{each_at}
use Rattle.fb_inputs.specs.Refusals.{and_then, or_refuse}
use Rattle.fb_inputs.specs.Words.{Text}
use Rattle.fb_inputs.proofs.lemmas.stimuli.StimulusFaults.{refusal_of, same_refusal}
use Rattle.fb_inputs.proofs.lemmas.deployments.DeployLaws.{and_then-err}

-- ---- the order of keys

-- a resource by what is at its keys
abbrev resource_by : Option Data → Option Data → Option Data → ℕ → InTable ResourceEntry
resource_by d n i count =
    and_then (and_then (or_refuse (fault.Missing key.Device) d) (of_kind key.Device name_of)) (λ device.
    and_then (and_then (or_refuse (fault.Missing key.Name) n) (of_kind key.Name name_of)) (λ own.
    and_then (and_then (or_refuse (fault.Missing key.Instances) i) (array_of key.Instances name_of)) (λ instances.
    cond (count == 3) (Ok (record { device = device; name = own; instances = instances })) (Err fault.Further))))

resource-by : (keys : Members) → read_resource keys ≡ resource_by (value_at keys key.Device) (value_at keys key.Name) (value_at keys key.Instances) (count_of keys)
unfolding read_resource
resource-by keys = refl

module _ (a b : Members) (same : HaveSameKeys a b) where
  at-key : (k : DeployKey) → value_at a k ≡ value_at b k
  at-key k = same.0 (text_of k)

  same-resource : read_resource a ≡ read_resource b
  same-resource =
      resource-by a
      ∙ ap (λ d. resource_by d (value_at a key.Name) (value_at a key.Instances) (count_of a)) (at-key key.Device)
      ∙ ap (λ n. resource_by (value_at b key.Device) n (value_at a key.Instances) (count_of a)) (at-key key.Name)
      ∙ ap (λ i. resource_by (value_at b key.Device) (value_at b key.Name) i (count_of a)) (at-key key.Instances)
      ∙ ap (λ c. resource_by (value_at b key.Device) (value_at b key.Name) (value_at b key.Instances) c) same.1
      ∙ sym (resource-by b)

-- a link by what is at its keys
abbrev link_by : Option Data → Option Data → Option Data → Option Data → ℕ → InTable LinkDraft
link_by f t one many count =
    and_then (and_then (or_refuse (fault.Missing key.From) f) (of_kind key.From name_of)) (λ start.
    and_then (and_then (or_refuse (fault.Missing key.To) t) (of_kind key.To name_of)) (λ end.
    and_then (table_of one many) (λ table.
    cond (count == 3) (cond (same_name start end) (Err fault.Itself) (Ok (record { start = start; end = end; table = table }))) (Err fault.Further))))

link-by : (keys : Members) → read_link keys ≡ link_by (value_at keys key.From) (value_at keys key.To) (value_at keys key.Latency) (value_at keys key.Latencies) (count_of keys)
unfolding read_link
link-by keys = refl

module _ (a b : Members) (same : HaveSameKeys a b) where
  same-link : read_link a ≡ read_link b
  same-link =
      link-by a
      ∙ ap (λ f. link_by f (value_at a key.To) (value_at a key.Latency) (value_at a key.Latencies) (count_of a)) (at-key a b same key.From)
      ∙ ap (λ t. link_by (value_at b key.From) t (value_at a key.Latency) (value_at a key.Latencies) (count_of a)) (at-key a b same key.To)
      ∙ ap (λ o. link_by (value_at b key.From) (value_at b key.To) o (value_at a key.Latencies) (count_of a)) (at-key a b same key.Latency)
      ∙ ap (λ m. link_by (value_at b key.From) (value_at b key.To) (value_at b key.Latency) m (count_of a)) (at-key a b same key.Latencies)
      ∙ ap (λ c. link_by (value_at b key.From) (value_at b key.To) (value_at b key.Latency) (value_at b key.Latencies) c) same.1
      ∙ sym (link-by b)

-- a document by what is at its keys
abbrev draft_by : Option Data → Option Data → ℕ → InDocument PlanDraft
draft_by r l count =
    and_then (resources_in r) (λ resources.
    and_then (links_in l) (λ links.
    cond (count == cond (is_some l) 2 1)
    (cond (length resources == 0) (Err (at_top fault.Empty)) (Ok (record { resources = resources; links = links })))
    (Err (at_top fault.Further))))

draft-by : (keys : Members) → draft keys ≡ draft_by (value_at keys key.Resource) (value_at keys key.Link) (count_of keys)
unfolding draft
draft-by keys = refl

module _ (a b : Members) (same : HaveSameKeys a b) where
  same-draft : draft a ≡ draft b
  same-draft =
      draft-by a
      ∙ ap (λ r. draft_by r (value_at a key.Link) (count_of a)) (at-key a b same key.Resource)
      ∙ ap (λ l. draft_by (value_at b key.Resource) l (count_of a)) (at-key a b same key.Link)
      ∙ ap (λ c. draft_by (value_at b key.Resource) (value_at b key.Link) c) same.1
      ∙ sym (draft-by b)

pub ignores-order : IgnoresOrder
ignores-order a b same = (same-resource a b same, same-link a b same, same-draft a b same)

-- ---- names at keys

abbrev pub ok_of : {A N : Type 0} → A → Result A N
ok_of x = Ok x

pub ok-is : {A N : Type 0} (x y : A) → ok_of {N = N} x ≡ ok_of y → x ≡ y
ok-is x y e = cc

pub not-ok : {A N : Type 0} (n : N) (x : A) → refusal_of {T = A} n ≡ Ok x → ⊥
not-ok n x e = cc

pub and_then-ok : {A B N : Type 0} (o : Result A N) (f : A → Result B N) (y : B) → and_then o f ≡ Ok y → (x : A) × (o ≡ Ok x) × (f x ≡ Ok y)
and_then-ok (Ok x) f y h = (x, refl, h)
and_then-ok {A} {B} (Err n) f y h = absurd (not-ok {A = B} n y h)

module _ (k : DeployKey) (keys : Members) where
  abbrev read_name : InTable Text
  read_name = read_at k (of_kind k name_of) keys

  name-is : (a : Text) → HasName keys k a → read_name ≡ Ok a
  name-is a (d, there, is) = ap (λ o. and_then (or_refuse (fault.Missing k) o) (of_kind k name_of)) there ∙ ap (or_refuse (fault.Wrong k)) is

  name-was : (a : Text) → read_name ≡ Ok a → HasName keys k a
  name-was a h = go (value_at keys k) refl h
    where
      of : (d : Data) (o : Option Text) → name_of d ≡ o → or_refuse (fault.Wrong k) o ≡ Ok a → name_of d ≡ Some a
      of d None e h = absurd (not-ok {A = Text} (fault.Wrong k) a h)
      of d (Some b) e h = e ∙ ap (λ (x : Text). Some x) (ok-is b a h)

      go : (o : Option Data) → value_at keys k ≡ o → and_then (or_refuse (fault.Missing k) o) (of_kind k name_of) ≡ Ok a → HasName keys k a
      go None e h = absurd (not-ok {A = Text} (fault.Missing k) a h)
      go (Some d) e h = (d, e, of d (name_of d) refl h)

  no-name-is : (why : TableFault) → HasNoName keys k why → read_name ≡ refusal_of {T = Text} why
  no-name-is why (inl (lacks, is)) = ap (λ o. and_then (or_refuse (fault.Missing k) o) (of_kind k name_of)) lacks ∙ ap (λ w. refusal_of {T = Text} w) (sym is)
  no-name-is why (inr ((d, there, none), is)) =
      ap (λ o. and_then (or_refuse (fault.Missing k) o) (of_kind k name_of)) there ∙ ap (or_refuse (fault.Wrong k)) none ∙ ap (λ w. refusal_of {T = Text} w) (sym is)

  no-name-was : (why : TableFault) → read_name ≡ refusal_of {T = Text} why → HasNoName keys k why
  no-name-was why h = go (value_at keys k) refl h
    where
      of : (d : Data) → value_at keys k ≡ Some d → (o : Option Text) → name_of d ≡ o → or_refuse (fault.Wrong k) o ≡ refusal_of {T = Text} why → HasNoName keys k why
      of d there None e h = inr ((d, there, e), sym (same_refusal {T = Text} (fault.Wrong k) why h))
      of d there (Some b) e h = absurd (not-ok {A = Text} why b (sym h))

      go : (o : Option Data) → value_at keys k ≡ o → and_then (or_refuse (fault.Missing k) o) (of_kind k name_of) ≡ refusal_of {T = Text} why → HasNoName keys k why
      go None e h = inl (e, sym (same_refusal {T = Text} (fault.Missing k) why h))
      go (Some d) e h = of d e (name_of d) refl h

-- ---- arrays at keys

-- the elements are read exactly if each is of the kind
each-is : {A B N : Type 0} (why : ℕ → N) (f : A → Option B) (k : ℕ) (xs : List A) (ys : List B) → map f xs ≡ map (λ y. Some y) ys → each_at why f k xs ≡ Ok ys
unfolding each_at
each-is why f k [] [] h = refl
each-is why f k [] (y ∷ ys) h = absurd cc
each-is why f k (x ∷ xs) [] h = absurd cc
each-is {A} {B} {N} why f k (x ∷ xs) (y ∷ ys) h =
    let first : f x ≡ Some y = cc in
    let rest : map f xs ≡ map (λ y. Some y) ys = cc in
    ap (λ o. and_then (or_refuse (why k) o) (λ y. and_then (each_at why f (k + 1) xs) (λ ys. Ok (y ∷ ys)))) first
    ∙ ap (λ o. and_then o (λ ys. Ok (y ∷ ys))) (each-is why f (k + 1) xs ys rest)

each-was : {A B N : Type 0} (why : ℕ → N) (f : A → Option B) (k : ℕ) (xs : List A) (ys : List B) → each_at why f k xs ≡ Ok ys → map f xs ≡ map (λ y. Some y) ys
unfolding each_at
each-was why f k [] ys h = ap (map (λ y. Some y)) (ok-is [] ys h)
each-was {A} {B} {N} why f k (x ∷ xs) ys h = go (λ zs. each-was why f (k + 1) xs zs) (f x) refl h
  where
    then : ((zs : List B) → each_at why f (k + 1) xs ≡ Ok zs → map f xs ≡ map (λ y. Some y) zs) → (y : B) → f x ≡ Some y → (o : Result (List B) N) → each_at why f (k + 1) xs ≡ o
        → and_then o (λ zs. Ok (y ∷ zs)) ≡ Ok ys → map f (x ∷ xs) ≡ map (λ y. Some y) ys
    then later y e (Err n) r h = absurd (not-ok {A = List B} n ys h)
    then later y e (Ok zs) r h = ap (λ z. z ∷ map f xs) e ∙ ap (λ l. Some y ∷ l) (later zs r) ∙ ap (map (λ y. Some y)) (ok-is (y ∷ zs) ys h)

    go : ((zs : List B) → each_at why f (k + 1) xs ≡ Ok zs → map f xs ≡ map (λ y. Some y) zs) → (o : Option B) → f x ≡ o
        → and_then (or_refuse (why k) o) (λ y. and_then (each_at why f (k + 1) xs) (λ zs. Ok (y ∷ zs))) ≡ Ok ys → map f (x ∷ xs) ≡ map (λ y. Some y) ys
    go later None e h = absurd (not-ok {A = List B} (why k) ys h)
    go later (Some y) e h = then later y e (each_at why f (k + 1) xs) refl h

-- the first element of another kind
record FirstOther {A B N : Type 0} (why : ℕ → N) (f : A → Option B) (k : ℕ) (xs : List A) (n : N) : Type 0 where
  index : ℕ
  there : HasAt xs index (λ x. f x ≡ None)
  none_before : (j : ℕ) → j < index → HasAt xs j (λ x. f x ≡ None) → ⊥
  is : n ≡ why (k + index)

not-some : {B : Type 0} (o : Option B) (y : B) → o ≡ Some y → o ≡ None → ⊥
not-some o y e n = cc

first-other : {A B N : Type 0} (why : ℕ → N) (f : A → Option B) (k : ℕ) (xs : List A) (n : N) → each_at why f k xs ≡ refusal_of {T = List B} n → FirstOther why f k xs n
unfolding each_at
first-other {A} {B} why f k [] n h = absurd (not-ok {A = List B} n [] (sym h))
first-other {A} {B} {N} why f k (x ∷ xs) n h = go (λ e. first-other why f (k + 1) xs n e) (f x) refl h
  where
    later_none : (y : B) → f x ≡ Some y → (i : ℕ) → ((j : ℕ) → j < i → HasAt xs j (λ x. f x ≡ None) → ⊥) → (j : ℕ) → j < suc i → HasAt (x ∷ xs) j (λ x. f x ≡ None) → ⊥
    later_none y e i none zero low (z, at, wrong) = let same : x ≡ z = cc in not-some (f x) y e (ap f same ∙ wrong)
    later_none y e i none (suc j) low (z, at, wrong) = none j (omega (arith, low)) (z, at, wrong)

    rest : (y : B) (o : Result (List B) N) → and_then o (λ zs. Ok (y ∷ zs)) ≡ refusal_of {T = List B} n → o ≡ refusal_of {T = List B} n
    rest y (Ok zs) e = absurd (not-ok {A = List B} n (y ∷ zs) (sym e))
    rest y (Err m) e = ap (λ w. refusal_of {T = List B} w) (same_refusal {T = List B} m n e)

    go : (each_at why f (k + 1) xs ≡ refusal_of {T = List B} n → FirstOther why f (k + 1) xs n) → (o : Option B) → f x ≡ o
        → and_then (or_refuse (why k) o) (λ y. and_then (each_at why f (k + 1) xs) (λ zs. Ok (y ∷ zs))) ≡ refusal_of {T = List B} n → FirstOther why f k (x ∷ xs) n
    go later None e h =
        let first : why k ≡ why (k + 0) = ap why (omega arith) in
        record { index = 0; there = (x, refl, e); none_before = λ j low. absurd (omega (arith, low)); is = sym (same_refusal {T = List B} (why k) n h) ∙ first }
    go later (Some y) e h =
        let w = later (rest y (each_at why f (k + 1) xs) h) in
        let moved : why (k + 1 + w.index) ≡ why (k + suc w.index) = ap why (omega arith) in
        record { index = suc w.index; there = (w.there.0, w.there.1, w.there.2); none_before = later_none y e w.index w.none_before; is = w.is ∙ moved }

other-first : {A B N : Type 0} (why : ℕ → N) (f : A → Option B) (k : ℕ) (xs : List A) (i : ℕ) → HasAt xs i (λ x. f x ≡ None) → ((j : ℕ) → j < i → HasAt xs j (λ x. f x ≡ None) → ⊥)
    → each_at why f k xs ≡ refusal_of {T = List B} (why (k + i))
unfolding each_at
other-first why f k [] i (x, at, wrong) none = absurd cc
other-first {A} {B} {N} why f k (x ∷ xs) zero (z, at, wrong) none =
    let same : x ≡ z = cc in
    let first : k ≡ k + 0 = omega arith in
    ap (λ o. and_then (or_refuse (why k) o) (λ y. and_then (each_at why f (k + 1) xs) (λ ys. Ok (y ∷ ys)))) (ap f same ∙ wrong) ∙ ap (λ j. refusal_of {T = List B} (why j)) first
other-first {A} {B} {N} why f k (x ∷ xs) (suc i) (z, at, wrong) none =
    go (other-first why f (k + 1) xs i (z, at, wrong) (λ j low w. none (suc j) (omega (arith, low)) w)) (f x) refl
  where
    go : each_at why f (k + 1) xs ≡ refusal_of {T = List B} (why (k + 1 + i)) → (o : Option B) → f x ≡ o
        → and_then (or_refuse (why k) (f x)) (λ y. and_then (each_at why f (k + 1) xs) (λ ys. Ok (y ∷ ys))) ≡ refusal_of {T = List B} (why (k + suc i))
    go later None e = absurd (none zero (omega arith) (x, refl, e))
    go later (Some y) e =
        let moved : k + 1 + i ≡ k + suc i = omega arith in
        ap (λ o. and_then (or_refuse (why k) o) (λ y. and_then (each_at why f (k + 1) xs) (λ ys. Ok (y ∷ ys)))) e
        ∙ ap (λ o. and_then o (λ ys. Ok (y ∷ ys))) later
        ∙ ap (λ j. refusal_of {T = List B} (why j)) moved

module _ {A : Type 0} (k : DeployKey) (f : Data → Option A) (keys : Members) where
  abbrev read_elements : InTable (List A)
  read_elements = read_at k (array_of k f) keys

  abbrev inside : Option Items → InTable (List A)
  inside o = and_then (or_refuse (fault.Wrong k) o) (λ ds. each_at (element_at k) f 0 (list_of ds))

  abbrev outside : Option Data → InTable (List A)
  outside o = and_then (or_refuse (fault.Missing k) o) (array_of k f)

  elements-are : (xs : List A) → HasElements keys k f xs → read_elements ≡ Ok xs
  elements-are xs (d, there, (ds, array, is)) = ap outside there ∙ ap inside array ∙ each-is (element_at k) f 0 (list_of ds) xs is

  elements-were : (xs : List A) → read_elements ≡ Ok xs → HasElements keys k f xs
  elements-were xs h = go (value_at keys k) refl h
    where
      of : (d : Data) → value_at keys k ≡ Some d → (o : Option Items) → as_array d ≡ o → inside o ≡ Ok xs → HasElements keys k f xs
      of d there None e h = absurd (not-ok {A = List A} (fault.Wrong k) xs h)
      of d there (Some ds) e h = (d, there, (ds, e, each-was (element_at k) f 0 (list_of ds) xs h))

      go : (o : Option Data) → value_at keys k ≡ o → outside o ≡ Ok xs → HasElements keys k f xs
      go None e h = absurd (not-ok {A = List A} (fault.Missing k) xs h)
      go (Some d) e h = of d e (as_array d) refl h

  no-elements-are : (why : TableFault) → HasNoElements keys k f why → read_elements ≡ refusal_of {T = List A} why
  no-elements-are why (inl (lacks, is)) = ap outside lacks ∙ ap (λ w. refusal_of {T = List A} w) (sym is)
  no-elements-are why (inr (inl ((d, there, none), is))) = ap outside there ∙ ap inside none ∙ ap (λ w. refusal_of {T = List A} w) (sym is)
  no-elements-are why (inr (inr (i, (d, there, (ds, array, (other, none))), is))) =
      ap outside there ∙ ap inside array ∙ other-first (element_at k) f 0 (list_of ds) i other none ∙ ap (λ w. refusal_of {T = List A} w) (ap (element_at k) (omega arith) ∙ sym is)

  no-elements-were : (why : TableFault) → read_elements ≡ refusal_of {T = List A} why → HasNoElements keys k f why
  no-elements-were why h = go (value_at keys k) refl h
    where
      of : (d : Data) → value_at keys k ≡ Some d → (o : Option Items) → as_array d ≡ o → inside o ≡ refusal_of {T = List A} why → HasNoElements keys k f why
      of d there None e h = inr (inl ((d, there, e), sym (same_refusal {T = List A} (fault.Wrong k) why h)))
      of d there (Some ds) e h =
          let w = first-other (element_at k) f 0 (list_of ds) why h in
          let first : 0 + w.index ≡ w.index = omega arith in
          inr (inr (w.index, (d, there, (ds, e, (w.there, w.none_before))), w.is ∙ ap (element_at k) first))

      go : (o : Option Data) → value_at keys k ≡ o → outside o ≡ refusal_of {T = List A} why → HasNoElements keys k f why
      go None e h = inl (e, sym (same_refusal {T = List A} (fault.Missing k) why h))
      go (Some d) e h = of d e (as_array d) refl h

-- ---- resources

-- the last test
abbrev counted : Members → Text → Text → List Text → InTable ResourceEntry
counted keys a b c = cond (count_of keys == 3) (Ok (record { device = a; name = b; instances = c })) (Err fault.Further)

abbrev device_of : Members → InTable Text
device_of keys = read_at key.Device (of_kind key.Device name_of) keys

abbrev own_of : Members → InTable Text
own_of keys = read_at key.Name (of_kind key.Name name_of) keys

abbrev instances_of : Members → InTable (List Text)
instances_of keys = read_at key.Instances (array_of key.Instances name_of) keys

abbrev from_name : Members → Text → InTable ResourceEntry
from_name keys a = and_then (own_of keys) (λ b. and_then (instances_of keys) (λ c. counted keys a b c))

abbrev from_instances : Members → Text → Text → InTable ResourceEntry
from_instances keys a b = and_then (instances_of keys) (λ c. counted keys a b c)

steps : (keys : Members) → read_resource keys ≡ and_then (device_of keys) (λ a. from_name keys a)
unfolding read_resource
steps keys = refl

module _ (keys : Members) where
  -- what is read where the names and the instances are there
  up-to-count : (a b : Text) (c : List Text) → HasName keys key.Device a → HasName keys key.Name b → HasElements keys key.Instances name_of c → read_resource keys ≡ counted keys a b c
  up-to-count a b c x y z =
      steps keys
      ∙ ap (λ o. and_then o (λ a. from_name keys a)) (name-is key.Device keys a x)
      ∙ ap (λ o. and_then o (λ b. from_instances keys a b)) (name-is key.Name keys b y)
      ∙ ap (λ o. and_then o (λ c. counted keys a b c)) (elements-are key.Instances name_of keys c z)

  counted-ok : (a b : Text) (c : List Text) (r : ResourceEntry) (t : Bool) → (count_of keys == 3) ≡ t → HasName keys key.Device a → HasName keys key.Name b → HasElements keys key.Instances name_of c
      → cond t (Ok (record { device = a; name = b; instances = c })) (refusal_of {T = ResourceEntry} fault.Further) ≡ Ok r → IsResource keys r
  counted-ok a b c r false e x y z h = absurd (not-ok {A = ResourceEntry} fault.Further r h)
  counted-ok a b c r true e x y z h =
      subst (IsResource keys) (ok-is _ r h) (record { its_device = x; its_name = y; its_instances = z; three_keys = e })

  counted-err : (a b : Text) (c : List Text) (why : TableFault) (t : Bool) → (count_of keys == 3) ≡ t → HasName keys key.Device a → HasName keys key.Name b → HasElements keys key.Instances name_of c
      → cond t (Ok (record { device = a; name = b; instances = c })) (refusal_of {T = ResourceEntry} fault.Further) ≡ refusal_of {T = ResourceEntry} why → IsNoResource keys why
  counted-err a b c why true e x y z h = absurd (not-ok {A = ResourceEntry} why _ (sym h))
  counted-err a b c why false e x y z h = subst (IsNoResource keys) (same_refusal {T = ResourceEntry} fault.Further why h) (by_further_key c x y z e)

  resource-was : (r : ResourceEntry) → read_resource keys ≡ Ok r → IsResource keys r
  resource-was r h =
      let d = and_then-ok (device_of keys) (λ a. from_name keys a) r (sym (steps keys) ∙ h) in
      let n = and_then-ok (own_of keys) (λ b. from_instances keys d.0 b) r d.2 in
      let i = and_then-ok (instances_of keys) (λ c. counted keys d.0 n.0 c) r n.2 in
      counted-ok d.0 n.0 i.0 r (count_of keys == 3) refl (name-was key.Device keys d.0 d.1) (name-was key.Name keys n.0 n.1) (elements-were key.Instances name_of keys i.0 i.1) i.2

  resource-is : (r : ResourceEntry) → IsResource keys r → read_resource keys ≡ Ok r
  resource-is r w = up-to-count r.device r.name r.instances w.its_device w.its_name w.its_instances ∙ ap (λ t. cond t (Ok r) (refusal_of {T = ResourceEntry} fault.Further)) w.three_keys

  no-resource-was : (why : TableFault) → read_resource keys ≡ refusal_of {T = ResourceEntry} why → IsNoResource keys why
  no-resource-was why h = device (and_then-err (device_of keys) (λ a. from_name keys a) why (sym (steps keys) ∙ h))
    where
      instances : (a b : Text) → HasName keys key.Device a → HasName keys key.Name b
          → (instances_of keys ≡ Err why) ⊎ ((c : List Text) × (instances_of keys ≡ Ok c) × (counted keys a b c ≡ Err why)) → IsNoResource keys why
      instances a b x y (inl e) = by_instances x y (no-elements-were key.Instances name_of keys why e)
      instances a b x y (inr (c, e, h)) = counted-err a b c why (count_of keys == 3) refl x y (elements-were key.Instances name_of keys c e) h

      own : (a : Text) → HasName keys key.Device a → (own_of keys ≡ Err why) ⊎ ((b : Text) × (own_of keys ≡ Ok b) × (from_instances keys a b ≡ Err why)) → IsNoResource keys why
      own a x (inl e) = by_name x (no-name-was key.Name keys why e)
      own a x (inr (b, e, h)) = instances a b x (name-was key.Name keys b e) (and_then-err (instances_of keys) (λ c. counted keys a b c) why h)

      device : (device_of keys ≡ Err why) ⊎ ((a : Text) × (device_of keys ≡ Ok a) × (from_name keys a ≡ Err why)) → IsNoResource keys why
      device (inl e) = by_device (no-name-was key.Device keys why e)
      device (inr (a, e, h)) = own a (name-was key.Device keys a e) (and_then-err (own_of keys) (λ b. from_instances keys a b) why h)

  no-resource-is : (why : TableFault) → IsNoResource keys why → read_resource keys ≡ refusal_of {T = ResourceEntry} why
  no-resource-is why (by_device x) = steps keys ∙ ap (λ o. and_then o (λ a. from_name keys a)) (no-name-is key.Device keys why x)
  no-resource-is why (by_name {a} x y) =
      steps keys ∙ ap (λ o. and_then o (λ a. from_name keys a)) (name-is key.Device keys a x) ∙ ap (λ o. and_then o (λ b. from_instances keys a b)) (no-name-is key.Name keys why y)
  no-resource-is why (by_instances {a} {b} x y z) =
      steps keys
      ∙ ap (λ o. and_then o (λ a. from_name keys a)) (name-is key.Device keys a x)
      ∙ ap (λ o. and_then o (λ b. from_instances keys a b)) (name-is key.Name keys b y)
      ∙ ap (λ o. and_then o (λ c. counted keys a b c)) (no-elements-are key.Instances name_of keys why z)
  no-resource-is why (by_further_key {a} {b} c x y z e) =
      up-to-count a b c x y z ∙ ap (λ t. cond t (Ok (record { device = a; name = b; instances = c })) (refusal_of {T = ResourceEntry} fault.Further)) e

pub reads-resources : ReadsResources
reads-resources keys = ((λ r. (resource-was keys r, resource-is keys r)), (λ why. (no-resource-was keys why, no-resource-is keys why)))

-- ---- latencies

abbrev one_entry : ℤ → Option (List LatencyDraft)
one_entry n = Some (record { start = pos 0; ticks = n } ∷ [])

abbrev one_latency : Option ℤ → InTable (List LatencyDraft)
one_latency o = or_refuse (fault.Wrong key.Latency) (option_and_then one_entry o)

abbrev many_latencies : Option Items → InTable (List LatencyDraft)
many_latencies o = and_then (or_refuse (fault.Wrong key.Latencies) o) (λ ds. each_at (element_at key.Latencies) pair 0 (list_of ds))

abbrev Latencies : Type 0
Latencies = List LatencyDraft

module _ (keys : Members) where
  abbrev read_latencies : InTable Latencies
  read_latencies = table_of (value_at keys key.Latency) (value_at keys key.Latencies)

  both-at : (a b : Option Data) → value_at keys key.Latency ≡ a → value_at keys key.Latencies ≡ b → read_latencies ≡ table_of a b
  both-at a b x y = ap (λ o. table_of o (value_at keys key.Latencies)) x ∙ ap (λ m. table_of a m) y

  -- a table of latencies at its key is an array there
  many-read : (d : Data) → value_at keys key.Latencies ≡ Some d → read_at key.Latencies (array_of key.Latencies pair) keys ≡ many_latencies (as_array d)
  many-read d there = ap (λ o. and_then (or_refuse (fault.Missing key.Latencies) o) (array_of key.Latencies pair)) there

  latencies-are : (t : Latencies) → HasLatencies keys t → read_latencies ≡ Ok t
  unfolding table_of
  latencies-are t (inl (lacks, (d, there, (n, is, same)))) = both-at (Some d) None there lacks ∙ ap one_latency is ∙ ap (λ l. Ok l) (sym same)
  latencies-are t (inr (lacks, (d, there, (ds, array, is)))) =
      both-at None (Some d) lacks there ∙ ap many_latencies array ∙ each-is (element_at key.Latencies) pair 0 (list_of ds) t is

  latencies-were : (t : Latencies) → read_latencies ≡ Ok t → HasLatencies keys t
  unfolding table_of
  latencies-were t h = go (value_at keys key.Latency) (value_at keys key.Latencies) refl refl (sym (both-at _ _ refl refl) ∙ h)
    where
      one : (d : Data) → value_at keys key.Latency ≡ Some d → value_at keys key.Latencies ≡ None → (o : Option ℤ) → as_integer d ≡ o → one_latency o ≡ Ok t → HasLatencies keys t
      one d x y None e h = absurd (not-ok {A = Latencies} (fault.Wrong key.Latency) t h)
      one d x y (Some n) e h = inl (y, (d, x, (n, e, sym (ok-is _ t h))))

      many : (d : Data) → value_at keys key.Latency ≡ None → value_at keys key.Latencies ≡ Some d → (o : Option Items) → as_array d ≡ o → many_latencies o ≡ Ok t → HasLatencies keys t
      many d x y None e h = absurd (not-ok {A = Latencies} (fault.Wrong key.Latencies) t h)
      many d x y (Some ds) e h = inr (x, (d, y, (ds, e, each-was (element_at key.Latencies) pair 0 (list_of ds) t h)))

      go : (a b : Option Data) → value_at keys key.Latency ≡ a → value_at keys key.Latencies ≡ b → table_of a b ≡ Ok t → HasLatencies keys t
      go None None x y h = absurd (not-ok {A = Latencies} (fault.Missing key.Latency) t h)
      go (Some d) None x y h = one d x y (as_integer d) refl h
      go None (Some d) x y h = many d x y (as_array d) refl h
      go (Some d) (Some e) x y h = absurd (not-ok {A = Latencies} fault.Both t h)

  no-latencies-are : (why : TableFault) → HasNoLatencies keys why → read_latencies ≡ refusal_of {T = Latencies} why
  unfolding table_of
  no-latencies-are why (inl (one, many, is)) = both-at None None one many ∙ ap (λ w. refusal_of {T = Latencies} w) (sym is)
  no-latencies-are why (inr (inl ((d, one, (e, many, _)), is))) = both-at (Some d) (Some e) one many ∙ ap (λ w. refusal_of {T = Latencies} w) (sym is)
  no-latencies-are why (inr (inr (inl (many, (d, one, none), is)))) =
      both-at (Some d) None one many ∙ ap one_latency none ∙ ap (λ w. refusal_of {T = Latencies} w) (sym is)
  no-latencies-are why (inr (inr (inr (one, (d, many, _), others)))) =
      both-at None (Some d) one many ∙ sym (many-read d many) ∙ no-elements-are key.Latencies pair keys why others

  no-latencies-were : (why : TableFault) → read_latencies ≡ refusal_of {T = Latencies} why → HasNoLatencies keys why
  unfolding table_of
  no-latencies-were why h = go (value_at keys key.Latency) (value_at keys key.Latencies) refl refl (sym (both-at _ _ refl refl) ∙ h)
    where
      one : (d : Data) → value_at keys key.Latency ≡ Some d → value_at keys key.Latencies ≡ None → (o : Option ℤ) → as_integer d ≡ o → one_latency o ≡ refusal_of {T = Latencies} why → HasNoLatencies keys why
      one d x y None e h = inr (inr (inl (y, (d, x, e), sym (same_refusal {T = Latencies} (fault.Wrong key.Latency) why h))))
      one d x y (Some n) e h = absurd (not-ok {A = Latencies} why _ (sym h))

      go : (a b : Option Data) → value_at keys key.Latency ≡ a → value_at keys key.Latencies ≡ b → table_of a b ≡ refusal_of {T = Latencies} why → HasNoLatencies keys why
      go None None x y h = inl (x, y, sym (same_refusal {T = Latencies} (fault.Missing key.Latency) why h))
      go (Some d) None x y h = one d x y (as_integer d) refl h
      go None (Some d) x y h = inr (inr (inr (x, (d, y, tt), no-elements-were key.Latencies pair keys why (many-read d y ∙ h))))
      go (Some d) (Some e) x y h = inr (inl ((d, x, (e, y, tt)), sym (same_refusal {T = Latencies} fault.Both why h)))

-- ---- links

abbrev checked : ℕ → Text → Text → Latencies → InTable LinkDraft
checked count a b t = cond (count == 3) (cond (same_name a b) (Err fault.Itself) (Ok (record { start = a; end = b; table = t }))) (Err fault.Further)

abbrev start_of : Members → InTable Text
start_of keys = read_at key.From (of_kind key.From name_of) keys

abbrev end_of : Members → InTable Text
end_of keys = read_at key.To (of_kind key.To name_of) keys

abbrev latencies_of : Members → InTable Latencies
latencies_of keys = table_of (value_at keys key.Latency) (value_at keys key.Latencies)

abbrev from_table : Members → Text → Text → InTable LinkDraft
from_table keys a b = and_then (latencies_of keys) (λ t. checked (count_of keys) a b t)

abbrev from_end : Members → Text → InTable LinkDraft
from_end keys a = and_then (end_of keys) (λ b. from_table keys a b)

link-steps : (keys : Members) → read_link keys ≡ and_then (start_of keys) (λ a. from_end keys a)
unfolding read_link
link-steps keys = refl

module _ (keys : Members) where
  abbrev last_tests : Text → Text → Latencies → Bool → Bool → InTable LinkDraft
  last_tests a b t three loop = cond three (cond loop (refusal_of {T = LinkDraft} fault.Itself) (Ok (record { start = a; end = b; table = t }))) (refusal_of {T = LinkDraft} fault.Further)

  up-to-tests : (a b : Text) (t : Latencies) → HasName keys key.From a → HasName keys key.To b → HasLatencies keys t → read_link keys ≡ last_tests a b t (count_of keys == 3) (same_name a b)
  up-to-tests a b t x y z =
      link-steps keys
      ∙ ap (λ o. and_then o (λ a. from_end keys a)) (name-is key.From keys a x)
      ∙ ap (λ o. and_then o (λ b. from_table keys a b)) (name-is key.To keys b y)
      ∙ ap (λ o. and_then o (λ t. checked (count_of keys) a b t)) (latencies-are keys t z)

  tested-ok : (a b : Text) (t : Latencies) (l : LinkDraft) (three loop : Bool) → (count_of keys == 3) ≡ three → same_name a b ≡ loop → HasName keys key.From a → HasName keys key.To b → HasLatencies keys t
      → last_tests a b t three loop ≡ Ok l → IsLink keys l
  tested-ok a b t l false loop e n x y z h = absurd (not-ok {A = LinkDraft} fault.Further l h)
  tested-ok a b t l true true e n x y z h = absurd (not-ok {A = LinkDraft} fault.Itself l h)
  tested-ok a b t l true false e n x y z h =
      subst (IsLink keys) (ok-is _ l h) (record { its_start = x; its_end = y; its_table = z; three_keys = e; is_no_loop = n })

  tested-err : (a b : Text) (t : Latencies) (why : TableFault) (three loop : Bool) → (count_of keys == 3) ≡ three → same_name a b ≡ loop → HasName keys key.From a → HasName keys key.To b → HasLatencies keys t
      → last_tests a b t three loop ≡ refusal_of {T = LinkDraft} why → IsNoLink keys why
  tested-err a b t why false loop e n x y z h = subst (IsNoLink keys) (same_refusal {T = LinkDraft} fault.Further why h) (link_by_further_key t x y z e)
  tested-err a b t why true true e n x y z h = subst (IsNoLink keys) (same_refusal {T = LinkDraft} fault.Itself why h) (by_loop t x y z e n)
  tested-err a b t why true false e n x y z h = absurd (not-ok {A = LinkDraft} why _ (sym h))

  link-was : (l : LinkDraft) → read_link keys ≡ Ok l → IsLink keys l
  link-was l h =
      let a = and_then-ok (start_of keys) (λ a. from_end keys a) l (sym (link-steps keys) ∙ h) in
      let b = and_then-ok (end_of keys) (λ b. from_table keys a.0 b) l a.2 in
      let t = and_then-ok (latencies_of keys) (λ t. checked (count_of keys) a.0 b.0 t) l b.2 in
      tested-ok a.0 b.0 t.0 l (count_of keys == 3) (same_name a.0 b.0) refl refl (name-was key.From keys a.0 a.1) (name-was key.To keys b.0 b.1) (latencies-were keys t.0 t.1) t.2

  link-is : (l : LinkDraft) → IsLink keys l → read_link keys ≡ Ok l
  link-is l w =
      up-to-tests l.start l.end l.table w.its_start w.its_end w.its_table
      ∙ ap (λ three. last_tests l.start l.end l.table three (same_name l.start l.end)) w.three_keys
      ∙ ap (λ loop. last_tests l.start l.end l.table true loop) w.is_no_loop

  no-link-was : (why : TableFault) → read_link keys ≡ refusal_of {T = LinkDraft} why → IsNoLink keys why
  no-link-was why h = start (and_then-err (start_of keys) (λ a. from_end keys a) why (sym (link-steps keys) ∙ h))
    where
      table : (a b : Text) → HasName keys key.From a → HasName keys key.To b
          → (latencies_of keys ≡ Err why) ⊎ ((t : Latencies) × (latencies_of keys ≡ Ok t) × (checked (count_of keys) a b t ≡ Err why)) → IsNoLink keys why
      table a b x y (inl e) = by_latencies x y (no-latencies-were keys why e)
      table a b x y (inr (t, e, h)) = tested-err a b t why (count_of keys == 3) (same_name a b) refl refl x y (latencies-were keys t e) h

      end : (a : Text) → HasName keys key.From a → (end_of keys ≡ Err why) ⊎ ((b : Text) × (end_of keys ≡ Ok b) × (from_table keys a b ≡ Err why)) → IsNoLink keys why
      end a x (inl e) = by_end x (no-name-was key.To keys why e)
      end a x (inr (b, e, h)) = table a b x (name-was key.To keys b e) (and_then-err (latencies_of keys) (λ t. checked (count_of keys) a b t) why h)

      start : (start_of keys ≡ Err why) ⊎ ((a : Text) × (start_of keys ≡ Ok a) × (from_end keys a ≡ Err why)) → IsNoLink keys why
      start (inl e) = by_start (no-name-was key.From keys why e)
      start (inr (a, e, h)) = end a (name-was key.From keys a e) (and_then-err (end_of keys) (λ b. from_table keys a b) why h)

  no-link-is : (why : TableFault) → IsNoLink keys why → read_link keys ≡ refusal_of {T = LinkDraft} why
  no-link-is why (by_start x) = link-steps keys ∙ ap (λ o. and_then o (λ a. from_end keys a)) (no-name-is key.From keys why x)
  no-link-is why (by_end {a} x y) =
      link-steps keys ∙ ap (λ o. and_then o (λ a. from_end keys a)) (name-is key.From keys a x) ∙ ap (λ o. and_then o (λ b. from_table keys a b)) (no-name-is key.To keys why y)
  no-link-is why (by_latencies {a} {b} x y z) =
      link-steps keys
      ∙ ap (λ o. and_then o (λ a. from_end keys a)) (name-is key.From keys a x)
      ∙ ap (λ o. and_then o (λ b. from_table keys a b)) (name-is key.To keys b y)
      ∙ ap (λ o. and_then o (λ t. checked (count_of keys) a b t)) (no-latencies-are keys why z)
  no-link-is why (link_by_further_key {a} {b} t x y z e) = up-to-tests a b t x y z ∙ ap (λ three. last_tests a b t three (same_name a b)) e
  no-link-is why (by_loop {a} {b} t x y z e n) =
      up-to-tests a b t x y z ∙ ap (λ three. last_tests a b t three (same_name a b)) e ∙ ap (λ loop. last_tests a b t true loop) n

pub reads-links : ReadsLinks
reads-links keys = ((λ l. (link-was keys l, link-is keys l)), (λ why. (no-link-was keys why, no-link-is keys why)))
