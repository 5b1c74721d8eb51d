-- The catalog of all names, from its parts.
use Rattle.fb_types.proofs.Common.{◌≡◌, List, ◌++◌, map, ◌∙◌, ap, append_assoc, inl, subst, event_blocks, type_name, resource_names_of, NameTwice, Twice, instance_names}
use Rattle.fb_types.specs.declared.library.Library.{Library}
use Rattle.fb_types.specs.declared.library.BlockType.{BlockType}
use Rattle.fb_types.specs.declared.deploy.Plan.{Plan}
use Rattle.fb_types.proofs.lemmas.lists.ByIndex.{element_of_index}
use Rattle.fb_types.proofs.lemmas.lists.TwiceLaws.{Twice-append_right}
use Rattle.fb_check_names.specs.declared.catalog.Catalog.{Catalog}
use Rattle.fb_check_names.specs.Catalog.{IsCatalog}
use Rattle.fb_check_names.specs.GivenTwice.{AreBlocks, NetworkTwice}
use Rattle.fb_check_names.specs.Indexes.{IsIndex}
use Rattle.fb_check_names.proofs.lemmas.twice.NameTwice.{types_twice, block_twice, network_twice, plan_twice}

-- ---- The catalog

pub catalog_made :
    (lib : Library) (plan : Plan) (c : Catalog) (ts : List BlockType) → ts ≡ lib.blocks
    → (¬ (Twice (map type_name ts)) → IsIndex (map type_name ts) c.types) → AreBlocks ts c.blocks.items
    → (¬ (NetworkTwice lib.application.network) → IsIndex (instance_names lib.application.network) c.instances)
    → (¬ (Twice (resource_names_of plan)) → IsIndex (resource_names_of plan) c.resources)
    → ¬ (NameTwice lib plan) → IsCatalog lib plan c
catalog_made lib plan c ts same types blocks instances resources once =
    let named : ¬ (Twice (map type_name lib.blocks)) → IsIndex (map type_name lib.blocks) c.types =
    subst (λ (ts : List BlockType). ¬ (Twice (map type_name ts)) → IsIndex (map type_name ts) c.types) same types in
    let are : AreBlocks lib.blocks c.blocks.items = subst (λ (ts : List BlockType). AreBlocks ts c.blocks.items) same blocks in
    record {
      once = once;
      types = named (λ t. once (types_twice lib plan (Twice-append_right (map (λ e. e.0) event_blocks) (map type_name lib.blocks) t)));
      counted = are.counted;
      blocks = λ k t x h g. are.each k t x h g (λ twice. once (block_twice lib plan t (element_of_index lib.blocks k t h) twice));
      instances = instances (λ t. once (network_twice lib plan t));
      resources = resources (λ t. once (plan_twice lib plan (inl t)));
    }

-- ---- What was added

pub all_added :
    {A : Type 0} (old events types blocks application deployed f1 f2 f3 f4 f5 : List A)
    → f1 ≡ old ++ events → f2 ≡ f1 ++ types → f3 ≡ f2 ++ blocks → f4 ≡ f3 ++ application → f5 ≡ f4 ++ deployed
    → f5 ≡ old ++ ((events ++ (types ++ (blocks ++ application))) ++ deployed)
all_added {A} old events types blocks application deployed f1 f2 f3 f4 f5 e1 e2 e3 e4 e5 =
    let third : f4 ≡ f2 ++ (blocks ++ application) = e4 ∙ ap (λ (xs : List A). xs ++ application) e3 ∙ append_assoc f2 blocks application in
    let second : f4 ≡ f1 ++ (types ++ (blocks ++ application)) =
    third ∙ ap (λ (xs : List A). xs ++ (blocks ++ application)) e2 ∙ append_assoc f1 types (blocks ++ application) in
    let declared = events ++ (types ++ (blocks ++ application)) in
    let first : f4 ≡ old ++ declared =
    second ∙ ap (λ (xs : List A). xs ++ (types ++ (blocks ++ application))) e1 ∙ append_assoc old events (types ++ (blocks ++ application)) in
    e5 ∙ ap (λ (xs : List A). xs ++ deployed) first ∙ append_assoc old declared deployed
