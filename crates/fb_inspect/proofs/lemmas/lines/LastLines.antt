-- The last line of a trace says which stop it is.
use Rattle.fb_types.proofs.Common.{◌≡◌, ◌<◌, ◌^◌, ℕ, List, [], ◌∷◌, ◌++◌, length, map, codes, Option, Some, None, Contains, refl, sym, ap, ◌∙◌, inl, append_assoc, arith, decimal, flat_map, position, slice_get, unwrap_or, append_cancel_left, Contains-append_right, same_Some, resource_names_of, AreAccepted, Inputs, system_of, Name, same_name, Twice, algorithm_names, basics, block_type_names, instance_names, interfaces, name_spaces, networks, parameter_lists, port_names, state_names, with_lists, AtHorizon, AtStop, System, last_line, reason_text, tick_and_resource_text}
use Rattle.fb_types.specs.declared.deploy.ResourceEntry.{ResourceEntry}
use Rattle.fb_types.specs.declared.value.Reason.{Reason}
use Rattle.fb_types.specs.declared.value.Reason.TheVariants.{Steps, Divide, Range}
use Rattle.std.proofs.lemmas.List.{append_cancel_right}
use Rattle.fb_types.proofs.lemmas.lists.Elements.{Contains-here}
use Rattle.fb_types.proofs.lemmas.lists.Positions.{position_of_once}
use Rattle.fb_laws.proofs.lemmas.lists.Indexes.{has_at, map_has}
use Rattle.fb_wave.proofs.lemmas.Numerals.{number_once}

-- ---- Texts from their ends

cut_last : (xs ys : List ℕ) (x y : ℕ) → xs ++ x ∷ [] ≡ ys ++ y ∷ [] → x ≡ y
cut_last xs ys x y e = same_Some x y (sym (last_at xs x) ∙ ap last_of e ∙ last_at ys y)
  where
    last_of : List ℕ → Option ℕ
    last_of [] = None
    last_of (z ∷ []) = Some z
    last_of (z ∷ w ∷ zs) = last_of (w ∷ zs)

    last_at : (zs : List ℕ) (z : ℕ) → last_of (zs ++ z ∷ []) ≡ Some z
    last_at [] z = refl
    last_at (w ∷ []) z = refl
    last_at (w ∷ v ∷ zs) z = last_at (v ∷ zs) z

front_is : (a b : ℕ) (xs ys : List ℕ) → a ∷ xs ≡ b ∷ ys → a ≡ b
front_is a b xs ys e = cc

-- ---- Stops

abbrev name_at : System → ℕ → List ℕ
name_at sys r = unwrap_or (slice_get sys.resource_names r) []

-- the letter before the line feed
stop_letter :
    (sys : System) (k r : ℕ) (reason : Reason) (head : List ℕ) (c : ℕ) → reason_text reason ≡ head ++ c ∷ []
    → last_line sys (AtStop k r reason) ≡ ((((codes "stop " ++ tick_and_resource_text sys k r) ++ codes " ") ++ head) ++ c ∷ []) ++ 10 ∷ []
stop_letter sys k r reason head c e =
    let front = (codes "stop " ++ tick_and_resource_text sys k r) ++ codes " " in
    ap (λ (z : List ℕ). (front ++ z) ++ 10 ∷ []) e ∙ ap (λ (z : List ℕ). z ++ 10 ∷ []) (sym (append_assoc front head (c ∷ [])))

letters_one :
    (sys : System) (k r j s : ℕ) (reason other : Reason) (head tail : List ℕ) (c d : ℕ) → reason_text reason ≡ head ++ c ∷ [] → reason_text other ≡ tail ++ d ∷ []
    → last_line sys (AtStop k r reason) ≡ last_line sys (AtStop j s other) → c ≡ d
letters_one sys k r j s reason other head tail c d e f same =
    let one = ((codes "stop " ++ tick_and_resource_text sys k r) ++ codes " ") ++ head in
    let two = ((codes "stop " ++ tick_and_resource_text sys j s) ++ codes " ") ++ tail in
    cut_last one two c d (append_cancel_right (one ++ c ∷ []) (two ++ d ∷ []) (10 ∷ []) (sym (stop_letter sys k r reason head c e) ∙ same ∙ stop_letter sys j s other tail d f))

-- A stop for steps is no end of another kind.
pub not_horizon : (sys : System) (k r : ℕ) (reason : Reason) (h : ℕ) → last_line sys (AtStop k r reason) ≡ last_line sys (AtHorizon h) → ⊥
not_horizon sys k r reason h e = let clash : 115 ≡ 101 = front_is 115 101 _ _ e in omega (arith, clash)

pub not_divide : (sys : System) (k r j s : ℕ) → last_line sys (AtStop k r Steps) ≡ last_line sys (AtStop j s Divide) → ⊥
not_divide sys k r j s e = let clash : 115 ≡ 101 = letters_one sys k r j s Steps Divide (codes "step") (codes "divid") 115 101 refl refl e in omega (arith, clash)

pub not_range : (sys : System) (k r j s : ℕ) → last_line sys (AtStop k r Steps) ≡ last_line sys (AtStop j s Range) → ⊥
not_range sys k r j s e = let clash : 115 ≡ 101 = letters_one sys k r j s Steps Range (codes "step") (codes "rang") 115 101 refl refl e in omega (arith, clash)

-- ---- Names of resources

last_contained : {A : Type 0} (xs : List A) (x : A) → Contains (xs ++ x ∷ []) x
last_contained xs x = Contains-append_right xs (x ∷ []) x (Contains-here x [])

module _ (i : Inputs) (accepted : AreAccepted i) where
  abbrev sys : System
  sys = system_of i

  names_once : Twice (resource_names_of i.plan) → ⊥
  names_once h = accepted 20 (inl (refl, inl (resource_names_of i.plan, among, h)))
    where
      among : Contains (name_spaces i.library i.plan) (resource_names_of i.plan)
      among =
          last_contained
          (block_type_names i.library ∷ map port_names i.library.blocks ++ map algorithm_names (basics i.library) ++ map state_names (basics i.library)
          ++ map (λ n. instance_names n.1) (networks i.library) ++ flat_map with_lists (interfaces i.library) ++ flat_map (λ n. parameter_lists n.1) (networks i.library))
          (resource_names_of i.plan)

  -- the first index of the name of a resource is its own
  record IsNamed (r : ℕ) : Type 0 where
    name : Name
    is : name_at sys r ≡ name
    first : position (same_name name) (resource_names_of i.plan) ≡ Some r

  named : (r : ℕ) → r < length sys.resource_names → IsNamed r
  named r small =
      let at = has_at sys.resource_names r small in
      let entry = map_has (λ (x : ResourceEntry). x.name) i.plan.resources r at.0 at.1 in
      record {
        name = entry.0.name;
        is = ap (λ (o : Option Name). unwrap_or o []) at.1 ∙ entry.2;
        first = position_of_once (λ (x : ResourceEntry). x.name) i.plan.resources r entry.0 names_once entry.1;
      }

  one_resource : (r s : ℕ) → r < length sys.resource_names → s < length sys.resource_names → name_at sys r ≡ name_at sys s → r ≡ s
  one_resource r s low high e =
      let one = named r low in
      let two = named s high in
      let same : one.name ≡ two.name = sym one.is ∙ e ∙ two.is in
      same_Some r s (sym one.first ∙ ap (λ (n : Name). position (same_name n) (resource_names_of i.plan)) same ∙ two.first)

  after_tick : (k r : ℕ) → last_line sys (AtStop k r Steps) ≡ codes "stop " ++ ((decimal k ++ codes " ") ++ (name_at sys r ++ (codes " " ++ (codes "steps" ++ 10 ∷ []))))
  after_tick k r = parts (codes "stop ") (decimal k ++ codes " ") (name_at sys r) (codes " ") (codes "steps") (10 ∷ [])
    where
      parts : (A B C D E G : List ℕ) → (((A ++ (B ++ C)) ++ D) ++ E) ++ G ≡ A ++ (B ++ (C ++ (D ++ (E ++ G))))
      parts A B C D E G = simp append_assoc

  -- The text of a stop for steps is that of its tick and its resource alone.
  pub stop_once :
      (k r j s : ℕ) → k < 2 ^ 64 → j < 2 ^ 64 → r < length sys.resource_names → s < length sys.resource_names → last_line sys (AtStop k r Steps) ≡ last_line sys (AtStop j s Steps) → (k ≡ j) × (r ≡ s)
  stop_once k r j s low high small little e =
      let rest = append_cancel_left (codes "stop ") _ _ (sym (after_tick k r) ∙ e ∙ after_tick j s) in
      let both = number_once k j (name_at sys r ++ (codes " " ++ (codes "steps" ++ 10 ∷ []))) (name_at sys s ++ (codes " " ++ (codes "steps" ++ 10 ∷ []))) (omega (arith, low)) (omega (arith, high)) rest in
      (both.0, one_resource r s small little (append_cancel_right (name_at sys r) (name_at sys s) (codes " " ++ (codes "steps" ++ 10 ∷ [])) both.1))
