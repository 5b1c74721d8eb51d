-- The scopes of a dump are nested as the networks of the declaration are.
use Rattle.fb_types.proofs.Common.{◌≡◌, ℕ, zero, suc, ◌+◌, ◌-◌, ◌<◌, ◌≤◌, Bool, true, false, cond, List, [], ◌∷◌, ◌++◌, length, take, Contains, Option, Some, None, refl, sym, ap, subst, ◌∙◌, inl, inr, arith, append_assoc, append-nil, length-append, ◌==◌, slice_get, unwrap_or, take-append_seam, eq-eqb, eqb-true, holder, inside, resource_of, Inputs, system_of, Name, Path, path_at, ports_at, System}
use Rattle.fb_types.specs.declared.deploy.Plan.{Plan}
use Rattle.fb_types.specs.declared.library.Instance.{Instance}
use Rattle.fb_types.specs.declared.library.Library.{Library}
use Rattle.fb_types.specs.declared.library.Network.{Network}
use Rattle.std.specs.Prelude.{filter}
use Rattle.std.specs.List.{flat_map}
use Rattle.fb_types.proofs.lemmas.lists.Elements.{Contains-cons_cases, Contains-here, Contains-nil, Contains-there, flat_map-Contains}
use Rattle.fb_system.proofs.lemmas.networks.Distinct.{below, paths_from}
use Rattle.fb_wave.specs.Nested.{AreNested, AreNumbered, scope_text, scopes_inside}
use Rattle.fb_wave.specs.Scopes.{closed, instances_declared, opened, own_name, ports_declared}
use Rattle.fb_wave.specs.Signals.{first_signal, size_of, sizes_of}
use Rattle.fb_wave.proofs.lemmas.Numbering.{sizes_of-append}

closed_both : (a b : ℕ) → closed (a + b) ≡ closed a ++ closed b
closed_both zero b = let same : zero + b ≡ b = omega arith in ap closed same
closed_both (suc a) b =
    let same : suc a + b ≡ suc (a + b) = omega arith in
    ap closed same ∙ ap (λ (t : List ℕ). closed 1 ++ t) (closed_both a b)

-- ---- The number of the first signal

at_middle : (done rest : List Path) (q : Path) → unwrap_or (slice_get (done ++ q ∷ rest) (length done)) [] ≡ q
at_middle [] rest q = refl
at_middle (d ∷ done) rest q = at_middle done rest q

first_is : (sys : System) (done rest : List Path) (q : Path) → AreNumbered sys → sys.paths ≡ done ++ q ∷ rest → sizes_of sys done ≡ first_signal sys (sys.number q)
first_is sys done rest q numbered all =
    let at : path_at sys (length done) ≡ q = ap (λ (ps : List Path). unwrap_or (slice_get ps (length done)) []) all ∙ at_middle done rest q in
    let within : length done < length sys.paths = omega (arith, ap length all, length-append done (q ∷ rest)) in
    let number : sys.number q ≡ length done = ap sys.number (sym at) ∙ numbered (length done) within in
    sym (ap (first_signal sys) number ∙ ap (λ (ps : List Path). sizes_of sys (take (length done) ps)) all ∙ ap (sizes_of sys) (take-append_seam done (q ∷ rest)))

-- ---- Where the instances inside another one are

held_below :
    (d : ℕ) (lib : Library) (plan : Plan) (n : Name) (p : Path) (o : Option Network) (z : Path) → Contains (below d lib (n ∷ p) o) z
    → resource_of plan z ≡ resource_of plan (n ∷ p)
held_below d lib plan n p None z c = absurd (Contains-nil z c)
held_below zero lib plan n p (Some net) z c = absurd (Contains-nil z c)
held_below (suc d) lib plan n p (Some net) z c =
    let f = flat_map-Contains (paths_from d lib (n ∷ p)) net.instances z c in
    elim (Contains-cons_cases (f.0.name ∷ n ∷ p) (below d lib (f.0.name ∷ n ∷ p) (inside lib f.0)) z f.2) [
      | inl e ↦ ap (resource_of plan) (sym e)
      | inr b ↦ held_below d lib plan f.0.name (n ∷ p) (inside lib f.0) z b
    ]

module _ (i : Inputs) (numbered : AreNumbered (system_of i)) (r : ℕ) where
  abbrev sys : System
  sys = system_of i

  abbrev lib : Library
  lib = i.library

  abbrev shown : (depth first : ℕ) → List Path → List ℕ
  shown depth s ps = instances_declared sys r depth s ps

  abbrev inner_text : ℕ → Path → Option Network → List ℕ
  inner_text d q o = elim o [ None ↦ [] | Some net ↦ scopes_inside d i q net ]

  abbrev scope_from : ℕ → Path → Instance → List ℕ
  scope_from d p x = scope_text sys (x.name ∷ p) (inner_text d (x.name ∷ p) (inside lib x))

  -- Before these paths all scopes above a level are closed.
  abbrev Closes : (level first : ℕ) → List Path → Type 0
  Closes level s ps = (depth : ℕ) → level ≤ depth → shown depth s ps ≡ closed (depth - level) ++ shown level s ps

  -- The paths inside an instance are shown as the scopes inside it.
  abbrev IsInside : ℕ → Path → Option Network → Type 0
  IsInside d q o =
      (depth : ℕ) (done rest : List Path) → length q ≤ depth → sys.paths ≡ done ++ (below d lib q o ++ rest)
      → Closes (length q) (sizes_of sys (done ++ below d lib q o)) rest
      → shown depth (sizes_of sys done) (below d lib q o ++ rest)
      ≡ closed (depth - length q) ++ (inner_text d q o ++ shown (length q) (sizes_of sys (done ++ below d lib q o)) rest)

  none_inside : (depth level : ℕ) (done rest : List Path) → level ≤ depth → Closes level (sizes_of sys (done ++ [])) rest
      → shown depth (sizes_of sys done) rest ≡ closed (depth - level) ++ shown level (sizes_of sys (done ++ [])) rest
  none_inside depth level done rest deep closes =
      ap (λ (ps : List Path). shown depth (sizes_of sys ps) rest) (sym (append-nil done)) ∙ closes depth deep

  declared : (depth s : ℕ) (q : Path) (ps : List Path) → sys.resource q ≡ r
      → shown depth s (q ∷ ps) ≡ ((closed (depth + 1 - length q) ++ opened (own_name q)) ++ ports_declared s (ports_at sys q)) ++ shown (length q) (s + size_of (ports_at sys q)) ps
  declared depth s q ps held =
      ap
      (λ (b : Bool). cond b (((closed (depth + 1 - length q) ++ opened (own_name q)) ++ ports_declared s (ports_at sys q)) ++ shown (length q) (s + size_of (ports_at sys q)) ps)
      (shown depth (s + size_of (ports_at sys q)) ps)) (eq-eqb (sys.resource q) r held)

  sum_one : (done : List Path) (q : Path) → sizes_of sys done + size_of (ports_at sys q) ≡ sizes_of sys (done ++ q ∷ [])
  sum_one done q = sym (sizes_of-append sys done (q ∷ []) ∙ omega arith)

  regroup : (c o s n e y : List ℕ) → ((c ++ o) ++ s) ++ (n ++ (e ++ y)) ≡ c ++ ((((o ++ s) ++ n) ++ e) ++ y)
  regroup c o s n e y = simp append_assoc

  -- one instance with what is inside it, and then others
  one_scope :
      (d : ℕ) (x : Instance) (p : Path) (depth : ℕ) (done others : List Path) (more : List ℕ) → sys.resource (x.name ∷ p) ≡ r → length p ≤ depth
      → IsInside d (x.name ∷ p) (inside lib x) → sys.paths ≡ done ++ (paths_from d lib p x ++ others)
      → ((deep : ℕ) → length p ≤ deep → shown deep (sizes_of sys (done ++ paths_from d lib p x)) others ≡ closed (deep - length p) ++ more)
      → shown depth (sizes_of sys done) (paths_from d lib p x ++ others) ≡ closed (depth - length p) ++ (scope_from d p x ++ more)
  one_scope d x p depth done others more held deep inner all rest =
      let q : Path = x.name ∷ p in
      let B : List Path = below d lib q (inside lib x) in
      let past : List Path = done ++ q ∷ [] in
      let grown : done ++ (q ∷ B) ≡ past ++ B = sym (append_assoc done (q ∷ []) B) in
      let shown_rest : (k : ℕ) → length p ≤ k → shown k (sizes_of sys (past ++ B)) others ≡ closed (k - length p) ++ more =
      λ k far. ap (λ (ps : List Path). shown k (sizes_of sys ps) others) (sym grown) ∙ rest k far
      in
      let closes : Closes (length q) (sizes_of sys (past ++ B)) others =
      λ k far.
      let sum : k - length p ≡ (k - length q) + 1 = omega (arith, far) in
      let own : length q - length p ≡ 1 = omega arith in
      shown_rest k (omega (arith, far)) ∙ ap (λ (j : ℕ). closed j ++ more) sum ∙ ap (λ (t : List ℕ). t ++ more) (closed_both (k - length q) 1)
      ∙ append_assoc (closed (k - length q)) (closed 1) more
      ∙ ap (λ (t : List ℕ). closed (k - length q) ++ t) (ap (λ (j : ℕ). closed j ++ more) (sym own) ∙ sym (shown_rest (length q) (omega arith)))
      in
      let within : sys.paths ≡ past ++ (B ++ others) = all ∙ sym (append_assoc done (q ∷ []) (B ++ others)) in
      let inside_is = inner (length q) past others (omega arith) within closes in
      let none : length q - length q ≡ 0 = omega arith in
      let one : length q - length p ≡ 1 = omega arith in
      let same : depth + 1 - length q ≡ depth - length p = omega arith in
      declared depth (sizes_of sys done) q (B ++ others) held
      ∙ ap (λ (k : ℕ). ((closed (depth + 1 - length q) ++ opened (own_name q)) ++ ports_declared (sizes_of sys done) (ports_at sys q)) ++ shown (length q) k (B ++ others)) (sum_one done q)
      ∙ ap (λ (t : List ℕ). ((closed (depth + 1 - length q) ++ opened (own_name q)) ++ ports_declared (sizes_of sys done) (ports_at sys q)) ++ t)
      (inside_is ∙ ap (λ (k : ℕ). closed k ++ (inner_text d q (inside lib x) ++ shown (length q) (sizes_of sys (past ++ B)) others)) none
      ∙ ap (λ (t : List ℕ). inner_text d q (inside lib x) ++ t) (shown_rest (length q) (omega arith) ∙ ap (λ (k : ℕ). closed k ++ more) one))
      ∙ ap (λ (k : ℕ). ((closed k ++ opened (own_name q)) ++ ports_declared (sizes_of sys done) (ports_at sys q)) ++ (inner_text d q (inside lib x) ++ (closed 1 ++ more))) same
      ∙ ap (λ (k : ℕ). ((closed (depth - length p) ++ opened (own_name q)) ++ ports_declared k (ports_at sys q)) ++ (inner_text d q (inside lib x) ++ (closed 1 ++ more)))
      (first_is sys done (B ++ others) q numbered all)
      ∙ regroup (closed (depth - length p)) (opened (own_name q)) (ports_declared (first_signal sys (sys.number q)) (ports_at sys q)) (inner_text d q (inside lib x)) (closed 1) more

  -- ---- Instances side by side

  abbrev sibling_paths : ℕ → Path → List Instance → List Path
  sibling_paths d p xs = flat_map (paths_from d lib p) xs

  siblings :
      (d : ℕ) (n : Name) (p : Path) (held : sys.resource (n ∷ p) ≡ r) (inner : (x : Instance) → IsInside d (x.name ∷ n ∷ p) (inside lib x)) (xs : List Instance)
      (depth : ℕ) (done rest : List Path) → length (n ∷ p) ≤ depth → sys.paths ≡ done ++ (sibling_paths d (n ∷ p) xs ++ rest)
      → Closes (length (n ∷ p)) (sizes_of sys (done ++ sibling_paths d (n ∷ p) xs)) rest
      → shown depth (sizes_of sys done) (sibling_paths d (n ∷ p) xs ++ rest)
      ≡ closed (depth - length (n ∷ p)) ++ (flat_map (scope_from d (n ∷ p)) xs ++ shown (length (n ∷ p)) (sizes_of sys (done ++ sibling_paths d (n ∷ p) xs)) rest)
  siblings d n p held inner [] depth done rest deep all closes = none_inside depth (length (n ∷ p)) done rest deep closes
  siblings d n p held inner (x ∷ xs) depth done rest deep all closes =
      let here : List Path = paths_from d lib (n ∷ p) x in
      let others : List Path = sibling_paths d (n ∷ p) xs in
      let last : List ℕ = shown (length (n ∷ p)) (sizes_of sys (done ++ (here ++ others))) rest in
      let more : List ℕ = flat_map (scope_from d (n ∷ p)) xs ++ last in
      let grown : done ++ (here ++ others) ≡ (done ++ here) ++ others = sym (append_assoc done here others) in
      let split : (here ++ others) ++ rest ≡ here ++ (others ++ rest) = append_assoc here others rest in
      let whole : sys.paths ≡ done ++ (here ++ (others ++ rest)) = all ∙ ap (λ (ps : List Path). done ++ ps) split in
      let next : (k : ℕ) → length (n ∷ p) ≤ k → shown k (sizes_of sys (done ++ here)) (others ++ rest) ≡ closed (k - length (n ∷ p)) ++ more =
      λ k far.
      siblings d n p held inner xs k (done ++ here) rest far (whole ∙ sym (append_assoc done here (others ++ rest)))
      (subst (λ (ps : List Path). Closes (length (n ∷ p)) (sizes_of sys ps) rest) grown closes)
      ∙ ap (λ (ps : List Path). closed (k - length (n ∷ p)) ++ (flat_map (scope_from d (n ∷ p)) xs ++ shown (length (n ∷ p)) (sizes_of sys ps) rest)) (sym grown)
      in
      ap (shown depth (sizes_of sys done)) split
      ∙ one_scope d x (n ∷ p) depth done (others ++ rest) more held deep (inner x) whole next
      ∙ ap (λ (t : List ℕ). closed (depth - length (n ∷ p)) ++ t) (sym (append_assoc (scope_from d (n ∷ p) x) (flat_map (scope_from d (n ∷ p)) xs) last))

  inside_is : (d : ℕ) (n : Name) (p : Path) (o : Option Network) → sys.resource (n ∷ p) ≡ r → IsInside d (n ∷ p) o
  inside_is d n p None held depth done rest deep all closes = none_inside depth (length (n ∷ p)) done rest deep closes
  inside_is zero n p (Some net) held depth done rest deep all closes = none_inside depth (length (n ∷ p)) done rest deep closes
  inside_is (suc d) n p (Some net) held depth done rest deep all closes =
      siblings d n p held (λ x. inside_is d x.name (n ∷ p) (inside lib x) held) net.instances depth done rest deep all closes

  -- ---- The instances of the application

  left_out : (ps : List Path) (depth s : ℕ) (rest : List Path) → ((z : Path) → Contains ps z → (sys.resource z == r) ≡ false) → shown depth s (ps ++ rest) ≡ shown depth (s + sizes_of sys ps) rest
  left_out [] depth s rest others = let same : s ≡ s + 0 = omega arith in ap (λ (k : ℕ). shown depth k rest) same
  left_out (q ∷ ps) depth s rest others =
      let its = ports_at sys q in
      let sum : (s + size_of its) + sizes_of sys ps ≡ s + (size_of its + sizes_of sys ps) = omega arith in
      ap
      (λ (b : Bool). cond b (((closed (depth + 1 - length q) ++ opened (own_name q)) ++ ports_declared s its) ++ shown (length q) (s + size_of its) (ps ++ rest))
      (shown depth (s + size_of its) (ps ++ rest))) (others q (Contains-here q ps))
      ∙ left_out ps depth (s + size_of its) rest (λ z c. others z (Contains-there q ps z c)) ∙ ap (λ (k : ℕ). shown depth k rest) sum

  elsewhere : (x : Instance) → (holder i.plan x.name == r) ≡ false → (z : Path) → Contains (paths_from 16 lib [] x) z → (sys.resource z == r) ≡ false
  elsewhere x other z c =
      elim (Contains-cons_cases (x.name ∷ []) (below 16 lib (x.name ∷ []) (inside lib x)) z c) [
        | inl e ↦ ap (λ (q : Path). sys.resource q == r) (sym e) ∙ other
        | inr b ↦ ap (λ (k : ℕ). k == r) (held_below 16 lib i.plan x.name [] (inside lib x) z b) ∙ other
      ]

  less_none : (k : ℕ) → k ≡ k - length {A = Name} []
  less_none k = omega arith

  abbrev Tops : List Instance → Type 0
  Tops xs =
      (depth : ℕ) (done : List Path) → sys.paths ≡ done ++ sibling_paths 16 [] xs
      → shown depth (sizes_of sys done) (sibling_paths 16 [] xs) ≡ closed depth ++ flat_map (scope_from 16 []) (filter (λ x. holder i.plan x.name == r) xs)

  top_step : (x : Instance) (xs : List Instance) → Tops xs → (b : Bool) → (holder i.plan x.name == r) ≡ b → Tops (x ∷ xs)
  top_step x xs more true e depth done all =
      let here : List Path = paths_from 16 lib [] x in
      let others : List Path = sibling_paths 16 [] xs in
      let held : sys.resource (x.name ∷ []) ≡ r = eqb-true (holder i.plan x.name) r e in
      let scopes : List ℕ = flat_map (scope_from 16 []) (filter (λ x. holder i.plan x.name == r) xs) in
      one_scope 16 x [] depth done others scopes held (omega arith) (inside_is 16 x.name [] (inside lib x) held) all
      (λ k far. more k (done ++ here) (all ∙ sym (append_assoc done here others)) ∙ ap (λ (j : ℕ). closed j ++ scopes) (less_none k))
      ∙ ap (λ (j : ℕ). closed j ++ (scope_from 16 [] x ++ scopes)) (sym (less_none depth))
      ∙ ap (λ (b : Bool). closed depth ++ flat_map (scope_from 16 []) (cond b (x ∷ filter (λ x. holder i.plan x.name == r) xs) (filter (λ x. holder i.plan x.name == r) xs))) (sym e)
  top_step x xs more false e depth done all =
      let here : List Path = paths_from 16 lib [] x in
      let others : List Path = sibling_paths 16 [] xs in
      left_out here depth (sizes_of sys done) others (elsewhere x e)
      ∙ ap (λ (k : ℕ). shown depth k others) (sym (sizes_of-append sys done here))
      ∙ more depth (done ++ here) (all ∙ sym (append_assoc done here others))
      ∙ ap (λ (b : Bool). closed depth ++ flat_map (scope_from 16 []) (cond b (x ∷ filter (λ x. holder i.plan x.name == r) xs) (filter (λ x. holder i.plan x.name == r) xs))) (sym e)

  tops : (xs : List Instance) → Tops xs
  tops [] = λ depth done all. sym (append-nil (closed depth))
  tops (x ∷ xs) = top_step x xs (tops xs) (holder i.plan x.name == r) refl

-- The law.
pub scopes_are : AreNested
scopes_are i numbered r = tops i numbered r i.library.application.network.instances 0 [] refl
