-- Instances of the application that are mapped, and names that are mapped twice.
use Rattle.fb_check.proofs.lemmas.Common.{◌≡◌, true, false, cond, List, [], ◌∷◌, ◌++◌, map, None, Contains, sym, ◌∙◌, ap, subst, inl, inr, All, position, flat_map, unwrap_or, list_all, true≢false, append-nil, All-append, Contains-append_left, Contains-append_right, Name, same_name, among, resource_names_of, Twice, NameTwice, networks, networks_in, basics, interfaces, block_type_names, port_names, algorithm_names, state_names, instance_names, with_lists, parameter_lists, Library, Instance, Plan, ResourceEntry, each_at, NotMappedAt, Again, owners_in}
use Rattle.fb_types.proofs.Common.{All-contains, All-map, All-weaker}
use Rattle.std.proofs.lemmas.List.Sums.{AllPass-from_list_all}
use Rattle.fb_types.specs.Mapped.{NotMapped, mapped}
use Rattle.fb_types.proofs.lemmas.lists.ByIndex.{element_of_index}
use Rattle.fb_types.proofs.lemmas.names.NameLaws.{contains_from_any, any_from_contains, same_name-Decides}
use Rattle.fb_types.proofs.lemmas.lists.Elements.{Contains-here, Contains-map}
use Rattle.fb_check_names.specs.Repeats.{IsPair, repeats}
use Rattle.fb_check_names.specs.declared.location.NotMappedAt.TheVariants.{Unlisted}
use Rattle.fb_check_names.proofs.lemmas.Listing.{all_each, all_unless, none_each, none_left, none_right, none_said, none_unless}
use Rattle.fb_check_names.proofs.lemmas.twice.Repeating.{each_pair, none_mapped, once_of, pair_twice}
use Rattle.fb_check.specs.networks.Applies.{NotMappedApplies}
use Rattle.fb_check_names.specs.Indexes.{AreLastIndexes}
use Rattle.fb_check.specs.networks.Mapping.{IsMapping, owned}
use Rattle.fb_check.specs.networks.NotMapped.{IsNotMappedAmong, IsNotMappedAt, unlisted_at, not_mapped_all, not_mapped_among}
use Rattle.fb_check.specs.declared.networks.mapping.Listed.{Listed}
use Rattle.fb_check.specs.declared.networks.mapping.Mapping.TheVariants as mapping
use Rattle.fb_check.proofs.lemmas.networks.Owners.{first_owner}

-- ---- What is listed

pub each_not_mapped : (lib : Library) (plan : Plan) → All (IsNotMappedAt lib plan) (not_mapped_all lib plan)
each_not_mapped lib plan =
    let ns : List Name = mapped lib plan in
    let is : List Instance = lib.application.network.instances in
    let P : NotMappedAt → Type 0 = IsNotMappedAmong ns is in
    All-append P (each_at (unlisted_at ns) is) (map (λ r. Again r) (repeats same_name ns))
    (all_each P (unlisted_at ns) is
    (λ k i at. all_unless P (among ns i.name) (Unlisted k)
    (λ fails. record { instance = i; at_index = at; unlisted = λ c. true≢false (sym (any_from_contains i.name ns c) ∙ fails) })))
    (All-map P (λ r. Again r) (repeats same_name ns)
    (All-weaker (IsPair ns) (λ r. P (Again r)) (λ r p. p) (repeats same_name ns) (each_pair same_name same_name-Decides ns)))

pub none_not_mapped : (lib : Library) (plan : Plan) → not_mapped_all lib plan ≡ [] → ¬ (NotMapped lib plan)
none_not_mapped lib plan h =
    let ns : List Name = mapped lib plan in
    let is : List Instance = lib.application.network.instances in
    let unlisted = each_at (unlisted_at ns) is in
    let again : List NotMappedAt = map (λ r. Again r) (repeats same_name ns) in
    let all : list_all (λ i. among ns i.name) is ≡ true =
    none_each (unlisted_at ns) (λ (i : Instance). among ns i.name) is (λ k i e. none_unless (among ns i.name) (Unlisted k) e) (none_left unlisted again h) in
    let listed : (i : Instance) → Contains is i → Contains ns i.name =
    λ i c. contains_from_any i.name ns (All-contains (λ (y : Instance). among ns y.name ≡ true) is i (AllPass-from_list_all (λ (y : Instance). among ns y.name) is all) c) in
    let once : ¬ (Twice ns) = once_of same_name same_name-Decides ns (none_mapped (λ r. Again r) (repeats same_name ns) (none_right unlisted again h)) in
    λ n. elim n [ inl w ↦ w.2 (listed w.0 w.1) | inr t ↦ once t ]

pub not_mapped_applies : NotMappedApplies
not_mapped_applies lib plan (Unlisted k) h = inl (h.instance, element_of_index lib.application.network.instances k h.instance h.at_index, h.unlisted)
not_mapped_applies lib plan (Again r) h = inr (pair_twice (mapped lib plan) r h)

-- ---- One resource holds all

-- the instances of the application are a name space
instances_once : (lib : Library) (plan : Plan) → ¬ (NameTwice lib plan) → ¬ (Twice (instance_names lib.application.network))
instances_once lib plan once t =
    let own = instance_names lib.application.network in
    let own_all : List (List Name) = map (λ n. instance_names n.1) (networks lib) in
    let before = block_type_names lib ∷ map port_names lib.blocks ++ map algorithm_names (basics lib) ++ map state_names (basics lib) in
    let withs = flat_map with_lists (interfaces lib) in
    let parameters = flat_map (λ n. parameter_lists n.1) (networks lib) in
    let here : Contains own_all own =
    Contains-map (λ n. instance_names n.1) (networks lib) (None, lib.application.network) (Contains-here (None, lib.application.network) (flat_map networks_in lib.blocks)) in
    once (inl (
      own,
      Contains-append_left (before ++ own_all ++ withs ++ parameters) (resource_names_of plan ∷ []) own
          (Contains-append_left (before ++ own_all ++ withs) parameters own
          (Contains-append_left (before ++ own_all) withs own (Contains-append_right before own_all own here))),
      t,
    ))

pub all_mapped : (lib : Library) (plan : Plan) → plan.holds_all ≡ true → ¬ (NameTwice lib plan) → IsMapping lib plan mapping.All
all_mapped lib plan h once =
    let all : mapped lib plan ≡ instance_names lib.application.network = ap (λ b. cond b (instance_names lib.application.network) (flat_map (λ r. r.instances) plan.resources)) h in
    record {
      each = λ n.
          elim n [
            | inl i ↦ i.2 (let P : List Name → Type 0 = λ ns. Contains ns i.0.name in subst P (sym all) (Contains-map (λ i. i.name) lib.application.network.instances i.0 i.1))
            | inr t ↦ instances_once lib plan once (let P : List Name → Type 0 = λ ns. Twice ns in subst P all t)
          ];
      holds = record { holder = λ n. sym (ap (λ b. cond b 0 (unwrap_or (position (λ r. among r.instances n) plan.resources) 0)) h) };
    }

-- then nothing is listed
pub none_of_all :
    (lib : Library) (plan : Plan) (found : List NotMappedAt) → plan.holds_all ≡ true → ¬ (NameTwice lib plan) → found ≡ found ++ not_mapped_all lib plan
none_of_all lib plan found h once =
    let none : not_mapped_all lib plan ≡ [] = none_said (IsNotMappedAt lib plan) (not_mapped_all lib plan) (λ p at. (all_mapped lib plan h once).each (not_mapped_applies lib plan p at)) (each_not_mapped lib plan) in
    sym (append-nil found) ∙ ap (λ (ps : List NotMappedAt). found ++ ps) (sym none)

-- ---- Resources list what they hold

listed_all : (lib : Library) (plan : Plan) → plan.holds_all ≡ false → mapped lib plan ≡ flat_map (λ r. r.instances) plan.resources
listed_all lib plan h = ap (λ b. cond b (instance_names lib.application.network) (flat_map (λ r. r.instances) plan.resources)) h

pub all_listed :
    (lib : Library) (plan : Plan) (l : Listed) (rs : List ResourceEntry) → rs ≡ plan.resources → plan.holds_all ≡ false → AreLastIndexes (flat_map (λ r. r.instances) rs) l.indexes
    → l.owners.items ≡ each_at owners_in rs → not_mapped_all lib plan ≡ [] → IsMapping lib plan (mapping.Listed l)
all_listed lib plan l rs same h indexes owners none =
    let each : ¬ (NotMapped lib plan) = none_not_mapped lib plan none in
    let names : flat_map (λ (r : ResourceEntry). r.instances) rs ≡ mapped lib plan = ap (flat_map (λ (r : ResourceEntry). r.instances)) same ∙ sym (listed_all lib plan h) in
    let once : ¬ (Twice (flat_map (λ (r : ResourceEntry). r.instances) rs)) = λ t. each (inr (subst (λ (ns : List Name). Twice ns) names t)) in
    record {
      each = each;
      holds = record {
        holder = λ n.
            (λ i. unwrap_or (owned (owners i) (indexes n i)) 0)
            ∙ ap (λ o. unwrap_or o 0) (first_owner rs n once)
            ∙ ap (λ (rs : List ResourceEntry). unwrap_or (position (λ r. among r.instances n) rs) 0) same
            ∙ sym (ap (λ b. cond b 0 (unwrap_or (position (λ r. among r.instances n) plan.resources) 0)) h);
      };
    }

pub found_among :
    (lib : Library) (plan : Plan) (ns : List Name) (is : List Instance) → plan.holds_all ≡ false → ns ≡ flat_map (λ r. r.instances) plan.resources → is ≡ lib.application.network.instances
    → not_mapped_among ns is ≡ not_mapped_all lib plan
found_among lib plan ns is h names same =
    let all : ns ≡ mapped lib plan = names ∙ sym (listed_all lib plan h) in
    λ i. not_mapped_among (all i) (same i)
