-- Deployments in which a name is unknown, and those in which each is known.
use Rattle.fb_types.proofs.Common.{◌≡◌, ◌&&◌, ℕ, true, false, List, [], ◌∷◌, map, Some, sym, ◌∙◌, ap, flat_map, slice_get, option_map, option_and_then, list_all, list_any, list_all-append, Name, same_name, resource_names_of, instance_names, all_of, required_deployment}
use Rattle.fb_types.specs.declared.library.Instance.{Instance}
use Rattle.fb_types.specs.declared.library.Library.{Library}
use Rattle.fb_types.specs.declared.deploy.Link.{Link}
use Rattle.fb_types.specs.declared.deploy.Plan.{Plan}
use Rattle.fb_types.specs.declared.deploy.ResourceEntry.{ResourceEntry}
use Rattle.fb_check.proofs.lemmas.types.Checks.{and_true}
use Rattle.fb_check_names.specs.Unknown.{DeploymentUnknown}
use Rattle.fb_types.proofs.lemmas.lists.ListTests.{list_all-flat_map, list_all-agree}
use Rattle.fb_check_names.proofs.lemmas.unknown.NetworkUnknown.{met, met_required, list_all-all_of}
use Rattle.fb_check_names.specs.declared.location.Side.{Side}
use Rattle.fb_check.specs.types.Unknown.{Unmet, mapped_required, link_required, side_of, is_instance, is_resource, are_mapped, are_sides_met}
use Rattle.fb_check.proofs.lemmas.types.NetworkLocations.{any_map, unmet_is}

abbrev named_instances : List Instance → List Name
named_instances is = map (λ i. i.name) is

abbrev named_resources : List ResourceEntry → List Name
named_resources rs = map (λ r. r.name) rs

-- ---- Mapped instances

abbrev pub FoundMapped : List Instance → List ResourceEntry → ℕ × ℕ → Type 0
FoundMapped is rs r = (x : ResourceEntry) × (slice_get rs r.0 ≡ Some x) × ((n : Name) × (slice_get x.instances r.1 ≡ Some n) × (is_instance is n ≡ false))

pub mapped_location :
    (lib : Library) (plan : Plan) (is : List Instance) (rs : List ResourceEntry) (r : ℕ × ℕ) → is ≡ lib.application.network.instances → rs ≡ plan.resources
    → FoundMapped is rs r → Unmet (mapped_required lib plan r.0 r.1)
mapped_location lib plan is rs r same all found =
    let ns : List Name = instance_names lib.application.network in
    let n = found.2.0 in (
      (n, ns),
      ap (option_and_then (λ (x : ResourceEntry). option_map (λ (n : Name). (n, ns)) (slice_get x.instances r.1))) (ap (λ (rs : List ResourceEntry). slice_get rs r.0) (sym all) ∙ found.1)
          ∙ ap (option_map (λ (n : Name). (n, ns))) found.2.1,
      unmet_is (n, ns)
          (sym (any_map (λ (i : Instance). i.name) n lib.application.network.instances) ∙ ap (λ (is : List Instance). is_instance is n) (sym same) ∙ found.2.2),
    )

-- ---- Ends of links

abbrev pub FoundLink : List ResourceEntry → List Link → ℕ × Side → Type 0
FoundLink rs ls r = (l : Link) × (slice_get ls r.0 ≡ Some l) × (is_resource rs (side_of r.1 l) ≡ false)

pub link_location :
    (plan : Plan) (rs : List ResourceEntry) (ls : List Link) (r : ℕ × Side) → rs ≡ plan.resources → ls ≡ plan.links → FoundLink rs ls r → Unmet (link_required plan r.0 r.1)
link_location plan rs ls r same all found =
    let ns : List Name = resource_names_of plan in
    let n : Name = side_of r.1 found.0 in (
      (n, ns),
      ap (option_map (λ (l : Link). (side_of r.1 l, ns))) (ap (λ (ls : List Link). slice_get ls r.0) (sym all) ∙ found.1),
      unmet_is (n, ns)
          (sym (any_map (λ (r : ResourceEntry). r.name) n plan.resources) ∙ ap (λ (rs : List ResourceEntry). is_resource rs n) (sym same) ∙ found.2),
    )

-- ---- Deployments in which all is known

list_met : (is : List Instance) (r : ResourceEntry) → list_all met (all_of r.instances (named_instances is)) ≡ are_mapped is r
list_met is r =
    list_all-all_of r.instances (named_instances is)
    ∙ list_all-agree (λ n. list_any (same_name n) (named_instances is)) (is_instance is) (λ n. sym (any_map (λ (i : Instance). i.name) n is)) r.instances

link_met : (rs : List ResourceEntry) (l : Link) → list_all met (all_of (l.from ∷ l.to ∷ []) (named_resources rs)) ≡ are_sides_met rs l
link_met rs l =
    (λ i. sym (any_map (λ (r : ResourceEntry). r.name) l.from rs) i && (sym (any_map (λ (r : ResourceEntry). r.name) l.to rs) i && true))
    ∙ ap (λ b. is_resource rs l.from && b) (and_true (is_resource rs l.to))

pub deployment_known :
    (lib : Library) (plan : Plan) (is : List Instance) (rs : List ResourceEntry) (ls : List Link) → is ≡ lib.application.network.instances → rs ≡ plan.resources → ls ≡ plan.links
    → list_all (are_mapped is) rs ≡ true → list_all (are_sides_met rs) ls ≡ true → ¬ (DeploymentUnknown lib plan)
deployment_known lib plan is rs ls instances resources links mapped joined unknown =
    let js : List Instance = lib.application.network.instances in
    let lists : list_all met (flat_map (λ (r : ResourceEntry). all_of r.instances (named_instances js)) plan.resources) ≡ true =
    list_all-flat_map met (λ (r : ResourceEntry). all_of r.instances (named_instances js)) plan.resources
    ∙ list_all-agree (λ (r : ResourceEntry). list_all met (all_of r.instances (named_instances js))) (are_mapped js) (list_met js) plan.resources
    ∙ (λ i. list_all (are_mapped (sym instances i)) (sym resources i)) ∙ mapped in
    let ends : list_all met (flat_map (λ (l : Link). all_of (l.from ∷ l.to ∷ []) (resource_names_of plan)) plan.links) ≡ true =
    list_all-flat_map met (λ (l : Link). all_of (l.from ∷ l.to ∷ []) (resource_names_of plan)) plan.links
    ∙ list_all-agree (λ (l : Link). list_all met (all_of (l.from ∷ l.to ∷ []) (named_resources plan.resources))) (are_sides_met plan.resources) (link_met plan.resources) plan.links
    ∙ (λ i. list_all (are_sides_met (sym resources i)) (sym links i)) ∙ joined in
    met_required (required_deployment lib plan)
    (list_all-append met (flat_map (λ (r : ResourceEntry). all_of r.instances (named_instances js)) plan.resources) (flat_map (λ (l : Link). all_of (l.from ∷ l.to ∷ []) (resource_names_of plan)) plan.links)
    ∙ (λ i. lists i && ends i))
    unknown.0 unknown.1 unknown.2
