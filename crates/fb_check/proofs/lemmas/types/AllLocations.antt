-- Declarations and deployments in which each name is known.
use Rattle.fb_types.proofs.Common.{◌≡◌, ◌&&◌, true, List, [], ◌∷◌, Some, None, Contains, refl, sym, subst, inl, inr, flat_map, All, list_all, All-contains, OwnedNetwork, networks_in, NameUnknown}
use Rattle.fb_types.specs.declared.library.BlockType.{BlockType}
use Rattle.fb_types.specs.declared.library.Library.{Library}
use Rattle.fb_types.specs.declared.deploy.Plan.{Plan}
use Rattle.fb_types.specs.declared.library.BlockType.TheVariants as block
use Rattle.fb_types.proofs.lemmas.lists.Elements.{Contains-nil, Contains-cons_cases, Contains-here, Contains-there, flat_map-Contains}
use Rattle.fb_check.specs.types.Checks.{is_known_block}
use Rattle.fb_check.proofs.lemmas.types.Checks.{known_answer}
use Rattle.fb_check_names.specs.Unknown.{NetworkUnknown, DeploymentUnknown}
use Rattle.fb_check_names.proofs.lemmas.unknown.Resolving.{all_known}
use Rattle.fb_check_names.specs.declared.location.UnknownName.{UnknownName}
use Rattle.fb_check_names.specs.declared.location.UnknownName.TheVariants.{InstanceType, Parameter, End, With, Transition, Action, Guard, Body, Mapped, LinkEnd}
use Rattle.fb_check.specs.types.Unknown.{IsUnknownIn, IsUnknownAt, IsBlockKnown}

-- a location in the declaration is one of all
pub in_declaration : (lib : Library) (plan : Plan) (p : UnknownName) → IsUnknownIn lib p → IsUnknownAt lib plan p
in_declaration lib plan (InstanceType s i) h = h
in_declaration lib plan (Parameter s i p) h = h
in_declaration lib plan (End s f k side) h = h
in_declaration lib plan (With b d e v) h = h
in_declaration lib plan (Transition b x part) h = h
in_declaration lib plan (Action b s a part) h = h
in_declaration lib plan (Guard b x m) h = h
in_declaration lib plan (Body b a m) h = h
in_declaration lib plan (Mapped r i) h = absurd h
in_declaration lib plan (LinkEnd k side) h = absurd h

-- ---- All of a declaration and a deployment

names_known : (lib : Library) (ts us : List BlockType) → ((t : BlockType) → Contains us t → Contains ts t) → All (IsBlockKnown lib) ts → list_all is_known_block us ≡ true
names_known lib ts [] inside h = refl
names_known lib ts (u ∷ us) inside h =
    λ i. (All-contains (IsBlockKnown lib) ts u h (inside u (Contains-here u us))).names i && names_known lib ts us (λ t c. inside t (Contains-there u us t c)) h i

inside_known : (lib : Library) (t : BlockType) (n : OwnedNetwork) → IsBlockKnown lib t → Contains (networks_in t) n → ¬ (NetworkUnknown lib n)
inside_known lib (block.Basic t) n known c = absurd (Contains-nil n c)
inside_known lib (block.Composite t) n known c =
    let here : OwnedNetwork = (Some t, t.network) in
    elim (Contains-cons_cases here [] n c) [
      | inl e ↦ subst (λ (n : OwnedNetwork). ¬ (NetworkUnknown lib n)) e (known.network here refl)
      | inr none ↦ absurd (Contains-nil n none)
    ]

pub name_known :
    (lib : Library) (plan : Plan) → ¬ (NetworkUnknown lib (None, lib.application.network)) → All (IsBlockKnown lib) lib.blocks → ¬ (DeploymentUnknown lib plan)
    → ¬ (NameUnknown lib plan)
name_known lib plan application blocks deployment =
    let of_application : OwnedNetwork = (None, lib.application.network) in
    all_known lib plan ((known_answer lib true (sym (names_known lib lib.blocks lib.blocks (λ t c. c) blocks))).0 refl)
    (λ n c. elim (Contains-cons_cases of_application (flat_map networks_in lib.blocks) n c) [
      | inl e ↦ subst (λ (n : OwnedNetwork). ¬ (NetworkUnknown lib n)) e application
      | inr rest ↦
          let r = flat_map-Contains networks_in lib.blocks n rest in
          inside_known lib r.0 n (All-contains (IsBlockKnown lib) lib.blocks r.0 blocks r.1) r.2
    ])
    deployment
