-- How the document of a deployment is read: the law of specs.DeployDocuments.
use Rattle.fb_types.proofs.Common.{◌⊎◌}
use Rattle.std.proofs.Common.{◌≡◌, ◌==◌, ℕ, zero, suc, ◌+◌, ◌<◌, Bool, true, false, cond, List, [], ◌∷◌, length, Option, Some, None, Ok, Err, refl, sym, ap, subst, ◌∙◌, inl, inr, arith}
use Rattle.std.specs.Prelude.{◌↔◌, Result}
use Rattle.toml.specs.Data.{Data, Items, Members, as_array, as_table}
use Rattle.fb_types.specs.declared.deploy.ResourceEntry.{ResourceEntry}
use Rattle.fb_inputs.specs.declared.document.LinkDraft.{LinkDraft}
use Rattle.fb_inputs.specs.declared.document.PlanDraft.{PlanDraft}
use Rattle.fb_inputs.specs.declared.deploy_location.DeployKey.{DeployKey}
use Rattle.fb_inputs.specs.declared.deploy_location.DeployKey.TheVariants as key
use Rattle.fb_inputs.specs.declared.deploy_location.DeployLocation.{DeployLocation}
use Rattle.fb_inputs.specs.declared.deploy_location.TableFault.{TableFault}
use Rattle.fb_inputs.specs.declared.deploy_location.TableFault.TheVariants as fault
use Rattle.fb_inputs.specs.DeployFaults.{Has, HasArray, HasAt, Lacks}
use Rattle.fb_inputs.specs.DeployLocations.{InDocument, InTable, at_top, shape_in, value_at}
use Rattle.fb_inputs.specs.DeployTables.{IsLink, IsNoLink, IsNoResource, IsResource}
use Rattle.fb_inputs.specs.DeployDocuments.{AreRead, HasFirstNoTable, HasLinks, HasNoTables, HasResources, HasTables, IsDraft, IsNoDraft, IsNoTable, IsTable, ReadsDocuments, by_absence, by_emptiness, by_links, by_other_key, by_resources}
use Rattle.fb_inputs.specs.Documents.{count_of, draft, known_keys, link, links_in, list_of, of_table, read_link, read_resource, resource, resources_in, tables_of}
use Rattle.fb_inputs.specs.Lists.{each_in, placed}
use Rattle.fb_inputs.specs.Refusals.{and_then, or_refuse}
use Rattle.fb_inputs.proofs.lemmas.stimuli.StimulusFaults.{refusal_of, same_refusal}
use Rattle.fb_inputs.proofs.lemmas.deployments.DeployLaws.{and_then-err}
use Rattle.fb_inputs.proofs.lemmas.deployments.DeployTableLaws.{and_then-ok, not-ok, ok-is, reads-links, reads-resources}

-- ---- lists of which each element may be refused

-- each element is read as what the function gives for it
abbrev Given : {A B M : Type 0} → (A → Result B M) → A → B → Type 0
Given f x y = f x ≡ Ok y

in-is : {A B M N : Type 0} (at : ℕ → M → N) (f : A → Result B M) (k : ℕ) (xs : List A) (ys : List B) → AreRead (Given f) xs ys → each_in at f k xs ≡ Ok ys
unfolding each_in
in-is at f k [] [] h = refl
in-is at f k [] (y ∷ ys) h = absurd h
in-is at f k (x ∷ xs) [] h = absurd h
in-is at f k (x ∷ xs) (y ∷ ys) (first, rest) =
    ap (λ o. and_then (placed (at k) o) (λ y. and_then (each_in at f (k + 1) xs) (λ ys. Ok (y ∷ ys)))) first
    ∙ ap (λ o. and_then o (λ ys. Ok (y ∷ ys))) (in-is at f (k + 1) xs ys rest)

in-was : {A B M N : Type 0} (at : ℕ → M → N) (f : A → Result B M) (k : ℕ) (xs : List A) (ys : List B) → each_in at f k xs ≡ Ok ys → AreRead (Given f) xs ys
unfolding each_in
in-was at f k [] ys h = subst (AreRead (Given f) []) (ok-is [] ys h) tt
in-was {A} {B} {M} {N} at f k (x ∷ xs) ys h = go (λ zs. in-was at f (k + 1) xs zs) (f x) refl h
  where
    then : ((zs : List B) → each_in at f (k + 1) xs ≡ Ok zs → AreRead (Given f) xs zs) → (y : B) → f x ≡ Ok y → (o : Result (List B) N) → each_in at f (k + 1) xs ≡ o
        → and_then o (λ zs. Ok (y ∷ zs)) ≡ Ok ys → AreRead (Given f) (x ∷ xs) ys
    then later y e (Err n) r h = absurd (not-ok {A = List B} n ys h)
    then later y e (Ok zs) r h = subst (AreRead (Given f) (x ∷ xs)) (ok-is (y ∷ zs) ys h) (e, later zs r)

    go : ((zs : List B) → each_in at f (k + 1) xs ≡ Ok zs → AreRead (Given f) xs zs) → (o : Result B M) → f x ≡ o
        → and_then (placed (at k) o) (λ y. and_then (each_in at f (k + 1) xs) (λ zs. Ok (y ∷ zs))) ≡ Ok ys → AreRead (Given f) (x ∷ xs) ys
    go later (Err m) e h = absurd (not-ok {A = List B} (at k m) ys h)
    go later (Ok y) e h = then later y e (each_in at f (k + 1) xs) refl h

-- the first element that is refused
record FirstRefused {A B M N : Type 0} (at : ℕ → M → N) (f : A → Result B M) (k : ℕ) (xs : List A) (n : N) : Type 0 where
  index : ℕ
  why : M
  there : HasAt xs index (λ x. f x ≡ Err why)
  before : (j : ℕ) → j < index → HasAt xs j (λ x. (y : B) × (f x ≡ Ok y))
  is : n ≡ at (k + index) why

first-refused : {A B M N : Type 0} (at : ℕ → M → N) (f : A → Result B M) (k : ℕ) (xs : List A) (n : N) → each_in at f k xs ≡ refusal_of {T = List B} n → FirstRefused at f k xs n
unfolding each_in
first-refused {A} {B} at f k [] n h = absurd (not-ok {A = List B} n [] (sym h))
first-refused {A} {B} {M} {N} at f k (x ∷ xs) n h = go (λ e. first-refused at f (k + 1) xs n e) (f x) refl h
  where
    all_before : (y : B) → f x ≡ Ok y → (i : ℕ) → ((j : ℕ) → j < i → HasAt xs j (λ x. (y : B) × (f x ≡ Ok y))) → (j : ℕ) → j < suc i → HasAt (x ∷ xs) j (λ x. (y : B) × (f x ≡ Ok y))
    all_before y e i before zero low = (x, refl, (y, e))
    all_before y e i before (suc j) low = before j (omega (arith, low))

    rest : (y : B) (o : Result (List B) N) → and_then o (λ zs. Ok (y ∷ zs)) ≡ refusal_of {T = List B} n → o ≡ refusal_of {T = List B} n
    rest y (Ok zs) e = absurd (not-ok {A = List B} n (y ∷ zs) (sym e))
    rest y (Err m) e = ap (λ w. refusal_of {T = List B} w) (same_refusal {T = List B} m n e)

    go : (each_in at f (k + 1) xs ≡ refusal_of {T = List B} n → FirstRefused at f (k + 1) xs n) → (o : Result B M) → f x ≡ o
        → and_then (placed (at k) o) (λ y. and_then (each_in at f (k + 1) xs) (λ zs. Ok (y ∷ zs))) ≡ refusal_of {T = List B} n → FirstRefused at f k (x ∷ xs) n
    go later (Err m) e h =
        let first : at k m ≡ at (k + 0) m = ap (λ j. at j m) (omega arith) in
        record { index = 0; why = m; there = (x, refl, e); before = λ j low. absurd (omega (arith, low)); is = sym (same_refusal {T = List B} (at k m) n h) ∙ first }
    go later (Ok y) e h =
        let w = later (rest y (each_in at f (k + 1) xs) h) in
        let moved : at (k + 1 + w.index) w.why ≡ at (k + suc w.index) w.why = ap (λ j. at j w.why) (omega arith) in
        record { index = suc w.index; why = w.why; there = (w.there.0, w.there.1, w.there.2); before = all_before y e w.index w.before; is = w.is ∙ moved }

refused-first : {A B M N : Type 0} (at : ℕ → M → N) (f : A → Result B M) (k : ℕ) (xs : List A) (i : ℕ) (why : M) → HasAt xs i (λ x. f x ≡ Err why)
    → ((j : ℕ) → j < i → HasAt xs j (λ x. (y : B) × (f x ≡ Ok y))) → each_in at f k xs ≡ refusal_of {T = List B} (at (k + i) why)
unfolding each_in
refused-first at f k [] i why (x, there, refused) before = absurd cc
refused-first {A} {B} {M} {N} at f k (x ∷ xs) zero why (z, there, refused) before =
    let same : x ≡ z = cc in
    let first : k ≡ k + 0 = omega arith in
    ap (λ o. and_then (placed (at k) o) (λ y. and_then (each_in at f (k + 1) xs) (λ ys. Ok (y ∷ ys)))) (ap f same ∙ refused) ∙ ap (λ j. refusal_of {T = List B} (at j why)) first
refused-first {A} {B} {M} {N} at f k (x ∷ xs) (suc i) why (z, there, refused) before =
    let one = before zero (omega arith) in
    let here : Some x ≡ Some one.0 = one.1 in
    let same : x ≡ one.0 = cc in
    let later : each_in at f (k + 1) xs ≡ refusal_of {T = List B} (at (k + 1 + i) why) = refused-first at f (k + 1) xs i why (z, there, refused) (λ j low. before (suc j) (omega (arith, low))) in
    let moved : k + 1 + i ≡ k + suc i = omega arith in
    ap (λ o. and_then (placed (at k) o) (λ y. and_then (each_in at f (k + 1) xs) (λ ys. Ok (y ∷ ys)))) (ap f same ∙ one.2.1)
    ∙ ap (λ o. and_then o (λ ys. Ok (one.2.0 ∷ ys))) later
    ∙ ap (λ j. refusal_of {T = List B} (at j why)) moved

-- a list that is read so is read by what follows of it
read-weaker : {A B : Type 0} (P Q : A → B → Type 0) (xs : List A) (ys : List B) → ((x : A) (y : B) → P x y → Q x y) → AreRead P xs ys → AreRead Q xs ys
read-weaker P Q [] [] by h = tt
read-weaker P Q [] (y ∷ ys) by h = absurd h
read-weaker P Q (x ∷ xs) [] by h = absurd h
read-weaker P Q (x ∷ xs) (y ∷ ys) by (first, rest) = (by x y first, read-weaker P Q xs ys by rest)

-- ---- arrays of tables

-- A table is read exactly if it is one, and refused exactly for what is refused first.
abbrev Reads : {A : Type 0} → (Members → InTable A) → (Members → A → Type 0) → (Members → TableFault → Type 0) → Type 0
Reads {A} read Is IsNo = (keys : Members) → ((x : A) → (read keys ≡ Ok x) ↔ Is keys x) × ((why : TableFault) → (read keys ≡ Err why) ↔ IsNo keys why)

module _ {A : Type 0} (read : Members → InTable A) (Is : Members → A → Type 0) (IsNo : Members → TableFault → Type 0) (law : Reads read Is IsNo) where
  abbrev inside : Option Members → InTable A
  inside o = and_then (or_refuse fault.NoTable o) read

  table-is : (d : Data) (x : A) → IsTable Is d x → of_table read d ≡ Ok x
  table-is d x (keys, there, is) = ap inside there ∙ ((law keys).0 x).1 is

  table-was : (d : Data) (x : A) → of_table read d ≡ Ok x → IsTable Is d x
  table-was d x h = go (as_table d) refl h
    where
      go : (o : Option Members) → as_table d ≡ o → inside o ≡ Ok x → IsTable Is d x
      go None e h = absurd (not-ok {A = A} fault.NoTable x h)
      go (Some keys) e h = (keys, e, ((law keys).0 x).0 h)

  no-table-is : (d : Data) (why : TableFault) → IsNoTable IsNo d why → of_table read d ≡ refusal_of {T = A} why
  no-table-is d why (inl (none, is)) = ap inside none ∙ ap (λ w. refusal_of {T = A} w) (sym is)
  no-table-is d why (inr (keys, there, is)) = ap inside there ∙ ((law keys).1 why).1 is

  no-table-was : (d : Data) (why : TableFault) → of_table read d ≡ refusal_of {T = A} why → IsNoTable IsNo d why
  no-table-was d why h = go (as_table d) refl h
    where
      go : (o : Option Members) → as_table d ≡ o → inside o ≡ refusal_of {T = A} why → IsNoTable IsNo d why
      go None e h = inl (e, sym (same_refusal {T = A} fault.NoTable why h))
      go (Some keys) e h = inr (keys, e, ((law keys).1 why).0 h)

  module _ (k : DeployKey) (keys : Members) where
    abbrev listed : Option Items → InDocument (List A)
    listed o = and_then (or_refuse (at_top (fault.Wrong k)) o) (λ ds. each_in (shape_in k) (of_table read) 0 (list_of ds))

    tables-are : (xs : List A) (t : HasTables keys k Is xs) → tables_of k (of_table read) t.0 ≡ Ok xs
    tables-are xs (d, there, (ds, array, are)) =
        ap listed array ∙ in-is (shape_in k) (of_table read) 0 (list_of ds) xs (read-weaker (IsTable Is) (Given (of_table read)) (list_of ds) xs table-is are)

    tables-were : (d : Data) → value_at keys k ≡ Some d → (xs : List A) → tables_of k (of_table read) d ≡ Ok xs → HasTables keys k Is xs
    tables-were d there xs h = go (as_array d) refl h
      where
        go : (o : Option Items) → as_array d ≡ o → listed o ≡ Ok xs → HasTables keys k Is xs
        go None e h = absurd (not-ok {A = List A} (at_top (fault.Wrong k)) xs h)
        go (Some ds) e h =
            (d, there, (ds, e, read-weaker (Given (of_table read)) (IsTable Is) (list_of ds) xs table-was (in-was (shape_in k) (of_table read) 0 (list_of ds) xs h)))

    no-tables-are : (p : DeployLocation) → HasNoTables keys k Is IsNo p → (d : Data) × (value_at keys k ≡ Some d) × (tables_of k (of_table read) d ≡ refusal_of {T = List A} p)
    no-tables-are p (inl ((d, there, none), is)) = (d, there, ap listed none ∙ ap (λ w. refusal_of {T = List A} w) (sym is))
    no-tables-are p (inr (i, why, (d, there, (ds, array, ((x, at, wrong), before))), is)) =
        let same : shape_in k (0 + i) why ≡ p = ap (λ j. shape_in k j why) (omega arith) ∙ sym is in
        let read_before : (j : ℕ) → j < i → HasAt (list_of ds) j (λ x. (y : A) × (of_table read x ≡ Ok y)) =
        λ j low. (let b = before j low in (b.0, b.1, (b.2.0, table-is b.0 b.2.0 b.2.1))) in (
          d,
          there,
          ap listed array
              ∙ refused-first (shape_in k) (of_table read) 0 (list_of ds) i why (x, at, no-table-is x why wrong) read_before
              ∙ ap (λ w. refusal_of {T = List A} w) same,
        )

    no-tables-were : (d : Data) → value_at keys k ≡ Some d → (p : DeployLocation) → tables_of k (of_table read) d ≡ refusal_of {T = List A} p → HasNoTables keys k Is IsNo p
    no-tables-were d there p h = go (as_array d) refl h
      where
        go : (o : Option Items) → as_array d ≡ o → listed o ≡ refusal_of {T = List A} p → HasNoTables keys k Is IsNo p
        go None e h = inl ((d, there, e), sym (same_refusal {T = List A} (at_top (fault.Wrong k)) p h))
        go (Some ds) e h =
            let w = first-refused (shape_in k) (of_table read) 0 (list_of ds) p h in
            let same : shape_in k (0 + w.index) w.why ≡ shape_in k w.index w.why = ap (λ j. shape_in k j w.why) (omega arith) in
            let read_before : (j : ℕ) → j < w.index → HasAt (list_of ds) j (λ x. (y : A) × IsTable Is x y) =
            λ j low. (let b = w.before j low in (b.0, b.1, (b.2.0, table-was b.0 b.2.0 b.2.1))) in
            inr (w.index, w.why, (d, there, (ds, e, ((w.there.0, w.there.1, no-table-was w.there.0 w.why w.there.2), read_before))), w.is ∙ same)

-- ---- documents

abbrev Resources : Type 0
Resources = List ResourceEntry

abbrev Links : Type 0
Links = List LinkDraft

module _ (keys : Members) where
  resources-are : (rs : Resources) → HasResources keys rs → resources_in (value_at keys key.Resource) ≡ Ok rs
  resources-are rs t = ap resources_in t.1 ∙ tables-are read_resource IsResource IsNoResource reads-resources key.Resource keys rs t

  resources-were : (rs : Resources) → resources_in (value_at keys key.Resource) ≡ Ok rs → HasResources keys rs
  resources-were rs h = go (value_at keys key.Resource) refl h
    where
      go : (o : Option Data) → value_at keys key.Resource ≡ o → resources_in o ≡ Ok rs → HasResources keys rs
      go None e h = absurd (not-ok {A = Resources} (at_top (fault.Missing key.Resource)) rs h)
      go (Some d) e h = tables-were read_resource IsResource IsNoResource reads-resources key.Resource keys d e rs h

  no-resources-are : (p : DeployLocation) → HasNoTables keys key.Resource IsResource IsNoResource p → resources_in (value_at keys key.Resource) ≡ refusal_of {T = Resources} p
  no-resources-are p t =
      let w = no-tables-are read_resource IsResource IsNoResource reads-resources key.Resource keys p t in
      ap resources_in w.1 ∙ w.2

  no-resources-were : (p : DeployLocation) → resources_in (value_at keys key.Resource) ≡ refusal_of {T = Resources} p → IsNoDraft keys p
  no-resources-were p h = go (value_at keys key.Resource) refl h
    where
      go : (o : Option Data) → value_at keys key.Resource ≡ o → resources_in o ≡ refusal_of {T = Resources} p → IsNoDraft keys p
      go None e h = subst (IsNoDraft keys) (same_refusal {T = Resources} (at_top (fault.Missing key.Resource)) p h) (by_absence e)
      go (Some d) e h = by_resources (no-tables-were read_resource IsResource IsNoResource reads-resources key.Resource keys d e p h)

  links-are : (ls : Links) → HasLinks keys ls → links_in (value_at keys key.Link) ≡ Ok ls
  links-are ls (inl (lacks, none)) = ap links_in lacks ∙ ap (λ l. Ok l) (sym none)
  links-are ls (inr t) = ap links_in t.1 ∙ tables-are read_link IsLink IsNoLink reads-links key.Link keys ls t

  links-were : (ls : Links) → links_in (value_at keys key.Link) ≡ Ok ls → HasLinks keys ls
  links-were ls h = go (value_at keys key.Link) refl h
    where
      go : (o : Option Data) → value_at keys key.Link ≡ o → links_in o ≡ Ok ls → HasLinks keys ls
      go None e h = inl (e, sym (ok-is [] ls h))
      go (Some d) e h = inr (tables-were read_link IsLink IsNoLink reads-links key.Link keys d e ls h)

  no-links-are : (p : DeployLocation) → HasNoTables keys key.Link IsLink IsNoLink p → links_in (value_at keys key.Link) ≡ refusal_of {T = Links} p
  no-links-are p t =
      let w = no-tables-are read_link IsLink IsNoLink reads-links key.Link keys p t in
      ap links_in w.1 ∙ w.2

  no-links-were : (p : DeployLocation) → links_in (value_at keys key.Link) ≡ refusal_of {T = Links} p → HasNoTables keys key.Link IsLink IsNoLink p
  no-links-were p h = go (value_at keys key.Link) refl h
    where
      go : (o : Option Data) → value_at keys key.Link ≡ o → links_in o ≡ refusal_of {T = Links} p → HasNoTables keys key.Link IsLink IsNoLink p
      go None e h = absurd (not-ok {A = Links} p [] (sym h))
      go (Some d) e h = no-tables-were read_link IsLink IsNoLink reads-links key.Link keys d e p h

  -- the last two tests
  abbrev last : Resources → Links → Bool → Bool → InDocument PlanDraft
  last rs ls known none = cond known (cond none (refusal_of {T = PlanDraft} (at_top fault.Empty)) (Ok (record { resources = rs; links = ls }))) (refusal_of {T = PlanDraft} (at_top fault.Further))

  abbrev judged_keys : Resources → Links → InDocument PlanDraft
  judged_keys rs ls = last rs ls (count_of keys == known_keys keys) (length rs == 0)

  abbrev from_links : Resources → InDocument PlanDraft
  from_links rs = and_then (links_in (value_at keys key.Link)) (λ ls. judged_keys rs ls)

  draft-steps : draft keys ≡ and_then (resources_in (value_at keys key.Resource)) (λ rs. from_links rs)
  unfolding draft
  draft-steps = refl

  up-to-last : (rs : Resources) (ls : Links) → HasResources keys rs → HasLinks keys ls → draft keys ≡ judged_keys rs ls
  up-to-last rs ls x y =
      draft-steps ∙ ap (λ o. and_then o (λ rs. from_links rs)) (resources-are rs x) ∙ ap (λ o. and_then o (λ ls. judged_keys rs ls)) (links-are ls y)

  last-ok : (rs : Resources) (ls : Links) (d : PlanDraft) (known none : Bool) → (count_of keys == known_keys keys) ≡ known → (length rs == 0) ≡ none → HasResources keys rs → HasLinks keys ls
      → last rs ls known none ≡ Ok d → IsDraft keys d
  last-ok rs ls d false none e n x y h = absurd (not-ok {A = PlanDraft} (at_top fault.Further) d h)
  last-ok rs ls d true true e n x y h = absurd (not-ok {A = PlanDraft} (at_top fault.Empty) d h)
  last-ok rs ls d true false e n x y h = subst (IsDraft keys) (ok-is _ d h) (record { its_resources = x; its_links = y; known_alone = e; is_some = n })

  last-err : (rs : Resources) (ls : Links) (p : DeployLocation) (known none : Bool) → (count_of keys == known_keys keys) ≡ known → (length rs == 0) ≡ none → HasResources keys rs → HasLinks keys ls
      → last rs ls known none ≡ refusal_of {T = PlanDraft} p → IsNoDraft keys p
  last-err rs ls p false none e n x y h = subst (IsNoDraft keys) (same_refusal {T = PlanDraft} (at_top fault.Further) p h) (by_other_key rs ls x y e)
  last-err rs ls p true true e n x y h = subst (IsNoDraft keys) (same_refusal {T = PlanDraft} (at_top fault.Empty) p h) (by_emptiness rs ls x y e n)
  last-err rs ls p true false e n x y h = absurd (not-ok {A = PlanDraft} p _ (sym h))

  draft-was : (d : PlanDraft) → draft keys ≡ Ok d → IsDraft keys d
  draft-was d h =
      let r = and_then-ok (resources_in (value_at keys key.Resource)) (λ rs. from_links rs) d (sym draft-steps ∙ h) in
      let l = and_then-ok (links_in (value_at keys key.Link)) (λ ls. judged_keys r.0 ls) d r.2 in
      last-ok r.0 l.0 d (count_of keys == known_keys keys) (length r.0 == 0) refl refl (resources-were r.0 r.1) (links-were l.0 l.1) l.2

  draft-is : (d : PlanDraft) → IsDraft keys d → draft keys ≡ Ok d
  draft-is d w =
      up-to-last d.resources d.links w.its_resources w.its_links
      ∙ ap (λ known. last d.resources d.links known (length d.resources == 0)) w.known_alone
      ∙ ap (λ none. last d.resources d.links true none) w.is_some

  no-draft-was : (p : DeployLocation) → draft keys ≡ refusal_of {T = PlanDraft} p → IsNoDraft keys p
  no-draft-was p h = resources (and_then-err (resources_in (value_at keys key.Resource)) (λ rs. from_links rs) p (sym draft-steps ∙ h))
    where
      links : (rs : Resources) → HasResources keys rs
          → (links_in (value_at keys key.Link) ≡ Err p) ⊎ ((ls : Links) × (links_in (value_at keys key.Link) ≡ Ok ls) × (judged_keys rs ls ≡ Err p)) → IsNoDraft keys p
      links rs x (inl e) = by_links rs x (no-links-were p e)
      links rs x (inr (ls, e, h)) = last-err rs ls p (count_of keys == known_keys keys) (length rs == 0) refl refl x (links-were ls e) h

      resources : (resources_in (value_at keys key.Resource) ≡ Err p)
          ⊎ ((rs : Resources) × (resources_in (value_at keys key.Resource) ≡ Ok rs) × (from_links rs ≡ Err p)) → IsNoDraft keys p
      resources (inl e) = no-resources-were p e
      resources (inr (rs, e, h)) = links rs (resources-were rs e) (and_then-err (links_in (value_at keys key.Link)) (λ ls. judged_keys rs ls) p h)

  no-draft-is : (p : DeployLocation) → IsNoDraft keys p → draft keys ≡ refusal_of {T = PlanDraft} p
  no-draft-is p (by_absence lacks) = draft-steps ∙ ap (λ o. and_then (resources_in o) (λ rs. from_links rs)) lacks
  no-draft-is p (by_resources x) = draft-steps ∙ ap (λ o. and_then o (λ rs. from_links rs)) (no-resources-are p x)
  no-draft-is p (by_links rs x y) =
      draft-steps ∙ ap (λ o. and_then o (λ rs. from_links rs)) (resources-are rs x) ∙ ap (λ o. and_then o (λ ls. judged_keys rs ls)) (no-links-are p y)
  no-draft-is p (by_other_key rs ls x y e) = up-to-last rs ls x y ∙ ap (λ known. last rs ls known (length rs == 0)) e
  no-draft-is p (by_emptiness rs ls x y e n) = up-to-last rs ls x y ∙ ap (λ known. last rs ls known (length rs == 0)) e ∙ ap (λ none. last rs ls true none) n

pub reads-documents : ReadsDocuments
reads-documents keys = ((λ d. (draft-was keys d, draft-is keys d)), (λ p. (no-draft-was keys p, no-draft-is keys p)))
