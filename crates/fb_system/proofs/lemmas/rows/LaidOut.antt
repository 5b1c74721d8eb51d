-- What is laid out has the rows of all instances at their numbers.
use Rattle.fb_system.proofs.lemmas.Common.{◌≡◌, ℕ, zero, suc, ◌+◌, ◌<◌, ◌≤◌, List, [], ◌∷◌, ◌++◌, map, length, get_or, Option, Some, None, Contains, refl, sym, ◌∙◌, ap, subst, inl, arith, slice_get, option_and_then, unwrap_or, flat_map, length-append, slice_get_within, slice_get-get_or, Path, inside, network_at, kind_at, kind_of_instance, paths_of, parent, NameTwice, networks, networks_in, Library, CompositeType, Instance, Network, Plan, IsResolved, each_or_none, type_number, NetworkNumbers, Resolved, TypeNumber, InstanceRow, Layout, layer, network_inside, path_of, index_at, route_to, AreNumbers, AreComponents, IsRow}
use Rattle.fb_types.proofs.Common.{All-cons, All-nil, paths_inside, TooHigh, path_text}
use Rattle.fb_types.specs.Flat.{number_of}
use Rattle.fb_types.proofs.lemmas.lists.Elements.{Contains-here}
use Rattle.fb_check_names.proofs.lemmas.Each.{each_parts}
use Rattle.fb_system.specs.Layers.{Around, Layer, layer_of, layer_inside, layer_among, row_under, with_components}
use Rattle.fb_system.specs.Layouts.{IsLayout}
use Rattle.fb_types.proofs.lemmas.lists.ByIndex.{element_of_index}
use Rattle.fb_system.proofs.lemmas.networks.InsideInstances.{IsFound, found_inside, type_by_number, kind_known, network_known}
use Rattle.fb_system.proofs.lemmas.networks.Distinct.{AreOnce, below, paths_from, paths_once, position_of_path}
use Rattle.fb_system.proofs.lemmas.lists.ListParts.{AreEach, each-nil, each-head, each-tail, each-left, each-right, each-append, each-cons, IsPart, part_whole}
use Rattle.fb_system.proofs.lemmas.networks.Sites.{all_once, IsDeep, deep_inside, never_deeper, IsAround, IsRound, around_later, text_is, route_is, parent_is, IsSite, instance_is, inside_is, index_is}

-- ---- What is known of a declaration

pub record IsFit (lib : Library) (r : Resolved) : Type 0 where
  pub plan : Plan
  pub resolved : IsResolved lib plan r
  pub once : AreOnce lib
  pub low : ¬ (TooHigh lib)

abbrev AreTyped : Library → List Instance → List TypeNumber → Type 0
AreTyped lib is ts = each_or_none (λ i. type_number lib i.block_type) is ≡ Some ts

-- ---- What must be shown of what is laid out

-- the rows of instances of a network, and of all inside them
pub record IsLaid (lib : Library) (first : ℕ) (p : Path) (paths : List Path) (is : List Instance) (l : Layer) : Type 0 where
  pub counted : length l.rows ≡ length paths
  pub rows : AreEach (IsRow lib) first l.rows
  pub numbers : AreNumbers lib p is l.numbers

-- the rows of all inside the instance at a path
pub record IsInside (lib : Library) (first : ℕ) (q : Path) (paths : List Path) (l : Layer) : Type 0 where
  pub counted : length l.rows ≡ length paths
  pub rows : AreEach (IsRow lib) first l.rows
  pub components : AreComponents lib q l.numbers

-- ---- One row

-- An instance with its type, at an index of a network and at its number.
pub record IsHere (lib : Library) (p : Path) (o : Around) (number : ℕ) (net : Network) (index : ℕ) (i : Instance) (t : TypeNumber) : Type 0 where
  pub site : IsSite lib p net
  pub around : IsAround lib p number o
  pub instance : slice_get net.instances index ≡ Some i
  pub typed : type_number lib i.block_type ≡ Some t
  pub path : slice_get (paths_of lib) number ≡ Some (i.name ∷ p)

row_is :
    (lib : Library) (p : Path) (o : Around) (number : ℕ) (net : Network) (index : ℕ) (i : Instance) (t : TypeNumber) (components : List ℕ)
    → IsHere lib p o number net index i t → AreComponents lib (i.name ∷ p) components → IsRow lib number (with_components (row_under o i t index []) components)
row_is lib p o number net index i t components h inner =
    let at : path_of lib number ≡ i.name ∷ p = ap (λ (o : Option Path). unwrap_or o []) h.path in
    let k = kind_known lib i.block_type t h.typed in
    let placed : index_at lib p i.name ≡ index = index_is lib p net index i h.site h.instance in
    record {
      text = text_is lib p number o i.name h.around ∙ ap path_text (sym at);
      kind = k.0;
      is_kind = ap (kind_at lib) at ∙ ap (option_and_then (kind_of_instance lib)) (instance_is lib p net index i h.site h.instance)
          ∙ type_by_number lib i.block_type t h.typed ∙ k.1;
      numbered = k.1;
      parent_is = parent_is lib p number o i.name at h.around;
      placed = record {
        network = net;
        is_network = ap (λ (q : Path). network_at lib (parent q)) at ∙ h.site.network;
        index = index;
        instance = i;
        is_instance = h.instance;
        is_path = at ∙ ap (λ (q : Path). i.name ∷ parent q) (sym at);
        is_index = ap (λ (q : Path). index_at lib (parent q) i.name) at ∙ placed;
      };
      route = ap (λ (z : List ℕ). z ++ index ∷ []) (route_is lib p number o h.around)
          ∙ ap (λ k. route_to lib p ++ k ∷ []) (sym placed) ∙ ap (route_to lib) (sym at);
      components = subst (λ (q : Path). AreComponents lib q components) (sym at) inner;
    }

-- ---- What is inside one instance

-- what is known of a network that is laid out
pub record IsAt (lib : Library) (d : ℕ) (p : Path) (o : Around) (first : ℕ) (net : Network) (ts : List TypeNumber) : Type 0 where
  pub network : network_at lib p ≡ Some net
  pub composite : Option CompositeType
  pub known : Contains (networks lib) (composite, net)
  pub typed : AreTyped lib net.instances ts
  pub around : IsAround lib p first o
  pub deep : IsDeep lib d net

-- networks of this depth are laid out
abbrev AreLaidOut : Library → Resolved → ℕ → Type 0
AreLaidOut lib r d =
    (o : Around) (first : ℕ) (p : Path) (net : Network) (ts : List TypeNumber) → IsAt lib d p o first net ts → IsPart (paths_of lib) first (paths_inside d lib p net)
    → IsLaid lib first p (paths_inside d lib p net) net.instances (layer d lib r o first net ts)

-- the numbers of the components where such a network, or none, is inside
abbrev components_of : Library → Path → List ℕ → Option Network → Type 0
components_of lib q numbers None = numbers ≡ []
components_of lib q numbers (Some net) = AreNumbers lib q net.instances numbers

inside_found :
    (lib : Library) (r : Resolved) (d number : ℕ) (q : Path) (row : InstanceRow) (i : Instance) (net : Network) (o : Option Network) (n : Option (Network × NetworkNumbers))
    → inside lib i ≡ o → network_at lib q ≡ o → IsFound lib o n → IsRound lib q (number + 1) (number, row) → IsDeep lib (suc d) net → Contains net.instances i
    → AreLaidOut lib r d → IsPart (paths_of lib) (number + 1) (below d lib q o)
    → IsInside lib (number + 1) q (below d lib q o) (layer_inside (layer d lib r) number row n)
inside_found lib r d number q row i net None n is at found round deep among laid part =
    let P : Option (Network × NetworkNumbers) → Type 0 = λ n. IsInside lib (number + 1) q [] (layer_inside (layer d lib r) number row n) in
    let C : Option Network → Type 0 = λ o. components_of lib q [] o in
    subst P (sym found) (record {
      counted = refl;
      rows = each-nil (IsRow lib) (number + 1);
      components = subst C (sym at) refl;
    })
inside_found lib r d number q row i net (Some inner) n is at found round deep among laid part =
    let P : Option (Network × NetworkNumbers) → Type 0 =
    λ n. IsInside lib (number + 1) q (paths_inside d lib q inner) (layer_inside (layer d lib r) number row n) in
    let x = found.1 in
    let known = network_known lib i inner is in
    let l = laid (Some (number, row)) (number + 1) q inner x.types
    (record { network = at; composite = Some known.0; known = known.1; typed = found.3.types; around = round; deep = deep_inside lib d net i inner deep among is }) part in
    let C : Option Network → Type 0 = λ o. components_of lib q (layer d lib r (Some (number, row)) (number + 1) inner x.types).numbers o in
    subst P (sym found.2) (record { counted = l.counted; rows = l.rows; components = subst C (sym at) l.numbers })

inside_laid :
    (lib : Library) (r : Resolved) (d : ℕ) (p : Path) (o : Around) (number : ℕ) (net : Network) (index : ℕ) (i : Instance) (t : TypeNumber)
    → IsFit lib r → IsHere lib p o number net index i t → IsDeep lib (suc d) net → AreLaidOut lib r d
    → IsPart (paths_of lib) (number + 1) (below d lib (i.name ∷ p) (inside lib i))
    → IsInside lib (number + 1) (i.name ∷ p) (below d lib (i.name ∷ p) (inside lib i)) (layer_inside (layer d lib r) number (row_under o i t index []) (network_inside lib r t))
inside_laid lib r d p o number net index i t fit h deep laid part =
    let placed : index_at lib p i.name ≡ index = index_is lib p net index i h.site h.instance in
    let later : number < number + 1 = omega arith in
    let round : IsRound lib (i.name ∷ p) (number + 1) (number, row_under o i t index []) =
    record {
      earlier = later;
      there = ap (λ (o : Option Path). unwrap_or o []) h.path;
      text = text_is lib p number o i.name h.around;
      route = ap (λ (z : List ℕ). z ++ index ∷ []) (route_is lib p number o h.around) ∙ ap (λ k. route_to lib p ++ k ∷ []) (sym placed);
      last = i.name;
      outer = p;
      split = refl;
    } in
    inside_found lib r d number (i.name ∷ p) (row_under o i t index []) i net (inside lib i) (network_inside lib r t) refl
    (inside_is lib p net index i h.site h.instance) (found_inside lib fit.plan r i t fit.resolved h.typed) round deep
    (element_of_index net.instances index i h.instance) laid part

-- ---- The instances of a network

numbers_more :
    (lib : Library) (p : Path) (number : ℕ) (i : Instance) (is : List Instance) (numbers : List ℕ) → slice_get (paths_of lib) number ≡ Some (i.name ∷ p)
    → AreNumbers lib p is numbers → AreNumbers lib p (i ∷ is) (number ∷ numbers)
numbers_more lib p number i is numbers at rest =
    let here : path_of lib number ≡ i.name ∷ p = ap (λ (o : Option Path). unwrap_or o []) at in
    record {
      paths = ap (λ (q : Path). q ∷ map (path_of lib) numbers) here ∙ ap (λ (qs : List Path). (i.name ∷ p) ∷ qs) rest.paths;
      within = All-cons (λ k. k < length (paths_of lib)) number numbers (slice_get_within (paths_of lib) number (i.name ∷ p) at) rest.within;
    }

-- an instance, what is inside it, and then its next siblings
put_together :
    (lib : Library) (p : Path) (number : ℕ) (i : Instance) (is : List Instance) (row : InstanceRow) (inner rest : List Path) (below next : Layer)
    → slice_get (paths_of lib) number ≡ Some (i.name ∷ p) → IsRow lib number (with_components row below.numbers)
    → IsInside lib (number + 1) (i.name ∷ p) inner below → IsLaid lib (number + 1 + length below.rows) p rest is next
    → IsLaid lib number p ((i.name ∷ p) ∷ inner ++ rest) (i ∷ is) (layer_of number row below next)
put_together lib p number i is row inner rest below next at here under others = record {
  counted = ap suc (length-append below.rows next.rows ∙ ap (λ n. n + length next.rows) under.counted
      ∙ ap (λ n. length inner + n) others.counted ∙ sym (length-append inner rest));
  rows = each-cons (IsRow lib) number (with_components row below.numbers) (below.rows ++ next.rows) here
      (each-append (IsRow lib) (number + 1) below.rows next.rows under.rows others.rows);
  numbers = numbers_more lib p number i is next.numbers at others.numbers;
}

among_laid :
    (lib : Library) (r : Resolved) (d : ℕ) (p : Path) (o : Around) (number : ℕ) (net : Network) (index : ℕ) (is : List Instance) (ts : List TypeNumber)
    → IsFit lib r → IsSite lib p net → IsAround lib p number o → IsDeep lib (suc d) net → AreLaidOut lib r d
    → IsPart net.instances index is → AreTyped lib is ts → IsPart (paths_of lib) number (flat_map (paths_from d lib p) is)
    → IsLaid lib number p (flat_map (paths_from d lib p) is) is (layer_among (layer d lib r) lib r o number index is ts)
among_laid lib r d p o number net index [] ts fit site around deep laid instances typed part = record {
  counted = refl;
  rows = each-nil (IsRow lib) number;
  numbers = record { paths = refl; within = All-nil (λ k. k < length (paths_of lib)) };
}
among_laid lib r d p o number net index (i ∷ is) ts fit site around deep laid instances typed part =
    let q : Path = i.name ∷ p in
    let first = each_parts (λ (i : Instance). type_number lib i.block_type) i is ts typed in
    let t : TypeNumber = first.0 in
    let row : InstanceRow = row_under o i t index [] in
    let inner : List Path = below d lib q (inside lib i) in
    let rest : List Path = flat_map (paths_from d lib p) is in
    let under : Layer = layer_inside (layer d lib r) number row (network_inside lib r t) in
    let At : ℕ → Path → Type 0 = λ k q. slice_get (paths_of lib) k ≡ Some q in
    let at : slice_get (paths_of lib) number ≡ Some q = each-head At number q (inner ++ rest) part in
    let after = each-tail At number q (inner ++ rest) part in
    let here : IsHere lib p o number net index i t =
    record {
      site = site;
      around = around;
      instance = each-head (λ k i. slice_get net.instances k ≡ Some i) index i is instances;
      typed = first.2;
      path = at;
    } in
    let inside_it : IsInside lib (number + 1) q inner under =
    inside_laid lib r d p o number net index i t fit here deep laid (each-left At (number + 1) inner rest after) in
    let next : ℕ = number + 1 + length under.rows in
    let later : number < suc next = omega arith in
    let rest_part : IsPart (paths_of lib) next rest =
    subst (λ n. IsPart (paths_of lib) (number + 1 + n) rest) (sym inside_it.counted) (each-right At (number + 1) inner rest after) in
    let others = among_laid lib r d p o next net (index + 1) is first.1 fit site (around_later lib p number next o later around) deep laid
    (each-tail (λ k i. slice_get net.instances k ≡ Some i) index i is instances) first.3 rest_part in
    let P : List TypeNumber → Type 0 =
    λ ts. IsLaid lib number p (q ∷ inner ++ rest) (i ∷ is) (layer_among (layer d lib r) lib r o number index (i ∷ is) ts) in
    subst P (sym first.4)
    (put_together lib p number i is row inner rest under (layer_among (layer d lib r) lib r o next (index + 1) is first.1) at
    (row_is lib p o number net index i t under.numbers here inside_it.components) inside_it others)

-- ---- All networks

laid_out : (lib : Library) (r : Resolved) (d : ℕ) → IsFit lib r → AreLaidOut lib r d
unfolding layer
laid_out lib r zero fit = λ o first p net ts at part. absurd (never_deeper lib net fit.low at.deep)
laid_out lib r (suc d) fit =
    λ o first p net ts at part.
    among_laid lib r d p o first net 0 net.instances ts fit
    (record { network = at.network; once = fit.once.each (at.composite, net) at.known }) at.around at.deep (laid_out lib r d fit)
    (part_whole net.instances) at.typed part

-- ---- The application

pub fit_of : (lib : Library) (plan : Plan) (r : Resolved) → ¬ (NameTwice lib plan) → IsResolved lib plan r → ¬ (TooHigh lib) → IsFit lib r
fit_of lib plan r once resolved low = record { plan = plan; resolved = resolved; once = all_once lib plan once; low = low }

-- the application's network is one of the declaration
application_known : (lib : Library) → Contains (networks lib) (None, lib.application.network)
application_known lib = Contains-here (None, lib.application.network) (flat_map networks_in lib.blocks)

pub application_laid :
    (lib : Library) (r : Resolved) → IsFit lib r
    → IsLaid lib 0 [] (paths_of lib) lib.application.network.instances (layer 17 lib r None 0 lib.application.network r.application.types)
application_laid lib r fit =
    laid_out lib r 17 fit None 0 [] lib.application.network r.application.types
    (record {
      network = refl;
      composite = None;
      known = application_known lib;
      typed = fit.resolved.application.types;
      around = refl;
      deep = inl refl;
    })
    (part_whole (paths_of lib))

-- each path is at its number
number_is : (lib : Library) (r : Resolved) (k : ℕ) → IsFit lib r → k < length (paths_of lib) → number_of (paths_of lib) (path_of lib k) ≡ k
number_is lib r k fit h =
    let ps = paths_of lib in
    let at : slice_get ps k ≡ Some (get_or ps k []) = slice_get-get_or ps k [] h in
    let is : path_of lib k ≡ get_or ps k [] = ap (λ (o : Option Path). unwrap_or o []) at in
    let once = paths_once 17 lib [] (None, lib.application.network) fit.once (application_known lib) in
    ap (number_of ps) is ∙ ap (λ (o : Option ℕ). unwrap_or o 0) (position_of_path ps k (get_or ps k []) once at)

-- the application laid out
abbrev pub whole : Library → Resolved → Layer
whole lib r = layer 17 lib r None 0 lib.application.network r.application.types

pub few_rows : (lib : Library) (r : Resolved) → IsFit lib r → length (paths_of lib) ≤ 4096 → 0 + length (whole lib r).rows ≤ 4096
few_rows lib r fit few = let counted = (application_laid lib r fit).counted in omega (arith, counted, few)

-- it is the layout
pub layout_is : (lib : Library) (r : Resolved) (x : Layout) → IsFit lib r → x.rows ≡ (whole lib r).rows → x.top ≡ (whole lib r).numbers → IsLayout lib x
layout_is lib r x fit rows top =
    let laid = application_laid lib r fit in
    record {
      counted = ap length rows ∙ laid.counted;
      rows = λ k w h.
          let zero_more : 0 + k ≡ k = omega arith in
          subst (λ k. IsRow lib k w) zero_more (laid.rows.at k w (ap (λ (ws : List InstanceRow). slice_get ws k) (sym rows) ∙ h));
      top = subst (λ (numbers : List ℕ). AreNumbers lib [] lib.application.network.instances numbers) (sym top) laid.numbers;
      numbers = λ k h. number_is lib r k fit h;
    }
