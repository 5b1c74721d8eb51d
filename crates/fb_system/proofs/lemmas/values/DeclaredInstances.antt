-- Instances as they are declared, and their parameters by number.
use Rattle.fb_system.proofs.lemmas.Common.{◌≡◌, ℕ, ◌<◌, List, length, Bor, Option, Some, None, sym, ◌∙◌, ap, slice_get, option_and_then, option_copied, same_Some, instance_at, instance_in, last_of, network_at, network_of, paths_of, Instance, Library, Network, kind_of_number, parameter_numbers, NetworkNumbers, IsRow, path_of, Layout, InstanceRow, IsWired}
use Rattle.fb_types.proofs.lemmas.lists.Positions.{named_of_once}
use Rattle.fb_check_names.proofs.lemmas.Each.{each_at}
use Rattle.fb_system.specs.Networks.{AreTables, path_around}
use Rattle.fb_system.proofs.lemmas.networks.Wired.{around_wired, last_of_route, network_by_kind, parent_around, parent_within}

-- ---- Networks

pub network_outermost : (lib : Library) (around : Option ℕ) → around ≡ None → Some lib.application.network ≡ network_at lib (path_around lib around)
network_outermost lib around e = ap (λ (o : Option ℕ). network_at lib (path_around lib o)) (sym e)

pub network_inside :
    (lib : Library) (i : ℕ) (r : InstanceRow) (around : Option ℕ) (o : Option Network) → IsRow lib i r → around ≡ Some i
    → o ≡ option_and_then network_of (kind_of_number lib r.kind) → o ≡ network_at lib (path_around lib around)
network_inside lib i r around o is e h =
    h ∙ ap (option_and_then network_of) (is.numbered ∙ sym is.is_kind) ∙ sym (network_by_kind lib i is.placed)
    ∙ ap (λ (o : Option ℕ). network_at lib (path_around lib o)) (sym e)

-- ---- An instance in the network that contains it

pub around_there : (lib : Library) (i : ℕ) (r : InstanceRow) → (is : IsRow lib i r) → network_at lib (path_around lib r.parent) ≡ Some is.placed.network
around_there lib i r is = ap (network_at lib) (parent_around lib i r.parent is.parent_is) ∙ is.placed.is_network

pub none_last : (lib : Library) (i : ℕ) (r : InstanceRow) (o : Option ℕ) (route : List ℕ) → IsRow lib i r → o ≡ last_of route → route ≡ r.route → o ≡ None → ⊥
none_last lib i r o route is h same e =
    let g : None ≡ Some is.placed.index = sym e ∙ h ∙ ap last_of same ∙ last_of_route lib i r is in cc

index_is : (lib : Library) (i : ℕ) (r : InstanceRow) (o : Option ℕ) (route : List ℕ) (index : ℕ) → (is : IsRow lib i r) → o ≡ last_of route → route ≡ r.route → o ≡ Some index → index ≡ is.placed.index
index_is lib i r o route index is h same e =
    same_Some index is.placed.index (sym e ∙ h ∙ ap last_of same ∙ last_of_route lib i r is)

network_is :
    (lib : Library) (i : ℕ) (r : InstanceRow) (o : Option (Bor Network)) (net : Bor Network) → (is : IsRow lib i r) → option_copied o ≡ network_at lib (path_around lib r.parent)
    → o ≡ Some net → net.now ≡ is.placed.network
network_is lib i r o net is h e =
    same_Some net.now is.placed.network (sym (ap option_copied e) ∙ h ∙ around_there lib i r is)

-- the instance at its index in the network that is read
pub declared_there :
    (lib : Library) (i : ℕ) (r : InstanceRow) (o : Option (Bor Network)) (net : Bor Network) (q : Option ℕ) (route : List ℕ) (index : ℕ) (all : List Instance) → (is : IsRow lib i r)
    → option_copied o ≡ network_at lib (path_around lib r.parent) → o ≡ Some net → q ≡ last_of route → route ≡ r.route → q ≡ Some index → all ≡ net.now.instances
    → slice_get all index ≡ Some is.placed.instance
declared_there lib i r o net q route index all is h e last same f read =
    ap (λ (xs : List Instance). slice_get xs index) (read ∙ ap (λ (n : Network). n.instances) (network_is lib i r o net is h e))
    ∙ ap (slice_get is.placed.network.instances) (index_is lib i r q route index is last same f)
    ∙ is.placed.is_instance

pub none_got : {A : Type 0} (o : Option (Bor A)) (p : Option A) (x : A) → option_copied o ≡ p → p ≡ Some x → o ≡ None → ⊥
none_got o p x h there e = let g : None ≡ Some x = sym (ap option_copied e) ∙ h ∙ there in cc

pub got : {A : Type 0} (o : Option (Bor A)) (p : Option A) (x : A) (b : Bor A) → option_copied o ≡ p → p ≡ Some x → o ≡ Some b → Some x ≡ Some b.now
got o p x b h there e = sym there ∙ sym h ∙ ap option_copied e

-- the instance with the path is the one that the row has
pub declared_is :
    (lib : Library) (layout : Layout) (app : NetworkNumbers) (blocks : List (Option NetworkNumbers)) (i : ℕ) (r : InstanceRow) → AreTables lib layout app blocks
    → i < length (paths_of lib) → (is : IsRow lib i r) → instance_at lib (path_of lib i) ≡ Some is.placed.instance
declared_is lib layout app blocks i r are within is =
    let s = is.placed in
    let wired = around_wired lib layout app blocks r.parent s.network are (parent_within lib i r.parent within is.parent_is) (around_there lib i r is) in
    let same : wired.1.network ≡ s.network = same_Some wired.1.network s.network (sym wired.1.is_network ∙ around_there lib i r is) in
    let there : slice_get wired.1.network.instances s.index ≡ Some s.instance =
    ap (λ (n : Network). slice_get n.instances s.index) same ∙ s.is_instance in
    ap (instance_at lib) s.is_path
    ∙ ap (option_and_then (λ (n : Network). instance_in n s.instance.name)) s.is_network
    ∙ ap (λ (n : Network). instance_in n s.instance.name) (sym same)
    ∙ named_of_once (λ (x : Instance). x.name) wired.1.network.instances s.index s.instance wired.1.once there

-- ---- Parameters

-- the parameters by number of the instance at its index
pub parameters_there :
    (lib : Library) (i : ℕ) (r : InstanceRow) (w : NetworkNumbers) (q : Option ℕ) (route : List ℕ) (index : ℕ) (all : List (List ℕ)) → (is : IsRow lib i r)
    → IsWired lib (path_around lib r.parent) w → q ≡ last_of route → route ≡ r.route → q ≡ Some index → all ≡ w.parameters
    → (ks : List ℕ) × (slice_get all index ≡ Some ks) × (parameter_numbers lib is.placed.instance ≡ Some ks)
parameters_there lib i r w q route index all is wired last same f read =
    let s = is.placed in
    let net : wired.network ≡ s.network = same_Some wired.network s.network (sym wired.is_network ∙ around_there lib i r is) in
    let there : slice_get wired.network.instances index ≡ Some s.instance =
    ap (λ (n : Network). slice_get n.instances index) net
    ∙ ap (slice_get s.network.instances) (index_is lib i r q route index is last same f) ∙ s.is_instance in
    let at = each_at (parameter_numbers lib) wired.network.instances w.parameters index s.instance wired.numbers.parameters there in
    (at.0, ap (λ (ks : List (List ℕ)). slice_get ks index) read ∙ at.1, at.2)

pub parameters_of_instance :
    (lib : Library) (layout : Layout) (app : NetworkNumbers) (blocks : List (Option NetworkNumbers)) (i : ℕ) (r : InstanceRow) (ks ls ms : List ℕ) (x : Instance)
    → AreTables lib layout app blocks → i < length (paths_of lib) → (is : IsRow lib i r) → parameter_numbers lib is.placed.instance ≡ Some ks → Some ks ≡ Some ls → ms ≡ ls
    → instance_at lib (path_of lib i) ≡ Some x → parameter_numbers lib x ≡ Some ms
parameters_of_instance lib layout app blocks i r ks ls ms x are within is at same out h =
    ap (parameter_numbers lib) (same_Some x is.placed.instance (sym h ∙ declared_is lib layout app blocks i r are within is))
    ∙ at ∙ same ∙ ap (λ (l : List ℕ). Some l) (sym out)
