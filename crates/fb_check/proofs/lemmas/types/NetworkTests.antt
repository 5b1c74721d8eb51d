-- Tests that all networks of a declaration pass.
use Rattle.fb_types.proofs.Common.{◌≡◌, Bool, true, [], Some, None, Contains, sym, ◌∙◌, ap, inl, inr, flat_map, list_all, OwnedNetwork, networks, networks_in}
use Rattle.fb_types.specs.declared.library.BlockType.{BlockType}
use Rattle.fb_types.specs.declared.library.Library.{Library}
use Rattle.fb_types.specs.declared.library.BlockType.TheVariants as block
use Rattle.fb_types.proofs.lemmas.lists.Elements.{flat_map-Contains, Contains-cons_cases, Contains-nil}
use Rattle.fb_types.proofs.lemmas.lists.ListTests.{passes_at}
use Rattle.fb_check_names.specs.Sites.{each_inside}

inside_passes : (test : OwnedNetwork → Bool) (t : BlockType) (n : OwnedNetwork) → each_inside test t ≡ true → Contains (networks_in t) n → test n ≡ true
inside_passes test (block.Basic t) n h c = absurd (Contains-nil n c)
inside_passes test (block.Composite t) n h c =
    let here : OwnedNetwork = (Some t, t.network) in
    elim (Contains-cons_cases here [] n c) [
      | inl e ↦ ap test (sym e) ∙ h
      | inr none ↦ absurd (Contains-nil n none)
    ]

pub network_passes :
    (test : OwnedNetwork → Bool) (lib : Library) (n : OwnedNetwork) → test (None, lib.application.network) ≡ true → list_all (each_inside test) lib.blocks ≡ true
    → Contains (networks lib) n → test n ≡ true
network_passes test lib n here inside c =
    let of_application : OwnedNetwork = (None, lib.application.network) in
    elim (Contains-cons_cases of_application (flat_map networks_in lib.blocks) n c) [
      | inl e ↦ ap test (sym e) ∙ here
      | inr rest ↦
          let r = flat_map-Contains networks_in lib.blocks n rest in
          inside_passes test r.0 n (passes_at (each_inside test) lib.blocks r.0 inside r.1) r.2
    ]
