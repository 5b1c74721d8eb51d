-- Lists of what belongs to the networks of a declaration.
use Rattle.fb_types.proofs.Common.{◌≡◌, ℕ, List, [], Some, None, Contains, refl, ap, subst, inl, inr, All, flat_map, slice_get, option_and_then, All-append, All-contains, All-nil, same_Some, OwnedNetwork, networks, networks_in}
use Rattle.fb_types.specs.declared.library.BlockType.{BlockType}
use Rattle.fb_types.specs.declared.library.Library.{Library}
use Rattle.fb_types.specs.declared.library.BlockType.TheVariants as block
use Rattle.fb_types.proofs.lemmas.lists.ByIndex.{element_of_index}
use Rattle.fb_types.proofs.lemmas.lists.Elements.{Contains-cons_cases, Contains-flat_map, Contains-here, Contains-nil, Contains-there, flat_map-Contains}
use Rattle.fb_check_names.specs.Listed.{each_at}
use Rattle.fb_check_names.specs.Sites.{in_networks, inside_of, network_at, network_inside}
use Rattle.fb_check_names.specs.declared.location.Site.{Site}
use Rattle.fb_check_names.specs.declared.location.Site.TheVariants.{Application, Inside}
use Rattle.fb_check_names.proofs.lemmas.Listing.{all_each, none_each_of, none_left, none_right}

-- ---- The network of a site

inside_networks : (t : BlockType) (n : OwnedNetwork) → network_inside t ≡ Some n → Contains (networks_in t) n
inside_networks (block.Basic t) n h = absurd (cc)
inside_networks (block.Composite t) n h =
    let here : OwnedNetwork = (Some t, t.network) in
    subst (λ (m : OwnedNetwork). Contains (networks_in (block.Composite t)) m) (same_Some here n h) (Contains-here here [])

pub site_network : (lib : Library) (s : Site) (n : OwnedNetwork) → network_at lib s ≡ Some n → Contains (networks lib) n
site_network lib Application n h =
    let here : OwnedNetwork = (None, lib.application.network) in
    subst (λ (m : OwnedNetwork). Contains (networks lib) m) (same_Some here n h) (Contains-here here (flat_map networks_in lib.blocks))
site_network lib (Inside k) n h =
    let here : OwnedNetwork = (None, lib.application.network) in
    elim (slice_get lib.blocks k) as (λ o. slice_get lib.blocks k ≡ o → option_and_then network_inside o ≡ Some n → Contains (networks lib) n) [
      | None ↦ λ e h. absurd (cc)
      | Some t ↦ λ e h.
          Contains-there here (flat_map networks_in lib.blocks) n
          (Contains-flat_map networks_in lib.blocks t n (element_of_index lib.blocks k t e) (inside_networks t n h))
    ] refl h

-- ---- What holds of each location

all_inside :
    {B : Type 0} (P : B → Type 0) (f : Site → OwnedNetwork → List B) (lib : Library) → ((s : Site) (n : OwnedNetwork) → network_at lib s ≡ Some n → All P (f s n))
    → (b : ℕ) (t : BlockType) → slice_get lib.blocks b ≡ Some t → All P (inside_of f b t)
all_inside P f lib h b (block.Basic t) at = All-nil P
all_inside P f lib h b (block.Composite t) at = h (Inside b) (Some t, t.network) (ap (option_and_then network_inside) at)

pub all_in_networks :
    {B : Type 0} (P : B → Type 0) (f : Site → OwnedNetwork → List B) (lib : Library) → ((s : Site) (n : OwnedNetwork) → network_at lib s ≡ Some n → All P (f s n))
    → All P (in_networks f lib)
all_in_networks P f lib h =
    let top : OwnedNetwork = (None, lib.application.network) in
    All-append P (each_at (inside_of f) lib.blocks) (f Application top) (all_each P (inside_of f) lib.blocks (all_inside P f lib h)) (h Application top refl)

-- ---- Networks without a location

abbrev AreFree : (OwnedNetwork → Type 0) → BlockType → Type 0
AreFree Q t = (n : OwnedNetwork) → Contains (networks_in t) n → Q n

none_inside :
    {B : Type 0} (f : Site → OwnedNetwork → List B) (Q : OwnedNetwork → Type 0) → ((s : Site) (n : OwnedNetwork) → f s n ≡ [] → Q n)
    → (b : ℕ) (t : BlockType) → inside_of f b t ≡ [] → AreFree Q t
none_inside f Q q b (block.Basic t) h n c = absurd (Contains-nil n c)
none_inside f Q q b (block.Composite t) h n c =
    let here : OwnedNetwork = (Some t, t.network) in
    elim (Contains-cons_cases here [] n c) [
      | inl e ↦ subst Q e (q (Inside b) here h)
      | inr none ↦ absurd (Contains-nil n none)
    ]

pub none_in_networks :
    {B : Type 0} (f : Site → OwnedNetwork → List B) (Q : OwnedNetwork → Type 0) (lib : Library) → ((s : Site) (n : OwnedNetwork) → f s n ≡ [] → Q n)
    → in_networks f lib ≡ [] → (n : OwnedNetwork) → Contains (networks lib) n → Q n
none_in_networks {B} f Q lib q h n c =
    let top : OwnedNetwork = (None, lib.application.network) in
    let inside : List B = each_at (inside_of f) lib.blocks in
    elim (Contains-cons_cases top (flat_map networks_in lib.blocks) n c) [
      | inl e ↦ subst Q e (q Application top (none_right inside (f Application top) h))
      | inr rest ↦
          let r = flat_map-Contains networks_in lib.blocks n rest in
          All-contains (AreFree Q) lib.blocks r.0 (none_each_of (AreFree Q) (inside_of f) lib.blocks 0 (none_inside f Q q) (none_left inside (f Application top) h)) r.1 n r.2
    ]
