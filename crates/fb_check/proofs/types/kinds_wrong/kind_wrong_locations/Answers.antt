use Rattle.fb_check.proofs.lemmas.Common.{◌≡◌, [], List, None, sym, subst, ◌∙◌, ap, ◌++◌, refl, All, KindWrong, Library, each_at, KindWrongAt, Application, kinds_wrong_in_block, IsKindWrongAt}
use Rattle.fb_check_names.specs.declared.catalog.BlockIndexes.{BlockIndexes}
use Rattle.fb_check.specs.types.Checks.{AreBlocks}
use Rattle.fb_check.proofs.lemmas.types.GrowingLists.{and_both, ok_joined}
use Rattle.fb_check_names.proofs.lemmas.Listing.{of_list}
use Rattle.fb_check.specs.networks.Parameters.{kinds_wrong_in_network}
use Rattle.fb_check.specs.types.KindWrongLists.{kinds_wrong_all}
use Rattle.fb_check.proofs.lemmas.types.KindWitnesses.{each_kind_wrong, none_kind_wrong}
use Rattle.fb_check.proofs.lemmas.types.NumberedKinds.{all_inside}
use Rattle.fb_check.proofs.types.kinds_wrong.kind_wrong_locations.Goals as goal

pub push_in_blocks-requires : goal.push_in_blocks-requires
push_in_blocks-requires c =
    let lib = c.args.library.now in
    let catalog = c.requires.catalog.1 in
    let right : AreBlocks lib.blocks c.args.catalog.now.blocks.items = record { counted = catalog.counted; blocks = catalog.blocks } in
    record {
      indexes = subst (λ (xs : List BlockIndexes). AreBlocks lib.blocks xs) (sym c.as_slice-indexes.ensures.value) right;
      numbers = all_inside lib c.requires.numbers.0 c.args.numbers.now c.requires.numbers.1;
    }

pub push_wrong_parameters-requires : goal.push_wrong_parameters-requires
push_wrong_parameters-requires c = ((None, c.args.library.now.application.network), refl, c.requires.numbers.1.application)

-- what two calls add to the empty list
are_all :
    (lib : Library) (f0 f1 f2 : List KindWrongAt) → f0 ≡ [] → f1 ≡ f0 ++ each_at (kinds_wrong_in_block lib) lib.blocks
    → f2 ≡ f1 ++ kinds_wrong_in_network lib Application lib.application.network.instances → f2 ≡ kinds_wrong_all lib
are_all lib f0 f1 f2 empty blocks application =
    let last : List KindWrongAt = kinds_wrong_in_network lib Application lib.application.network.instances in
    application ∙ ap (λ (ps : List KindWrongAt). ps ++ last) (blocks ∙ ap (λ (ps : List KindWrongAt). ps ++ each_at (kinds_wrong_in_block lib) lib.blocks) empty)

pub returns-clause-listed : goal.returns-clause-listed
returns-clause-listed c =
    let lib = c.args.library.now in
    ok_joined _ c.and-2.result c.and.result c.push_wrong_parameters.new.found c.and-2.ensures
    (and_both c.and.result c.push_in_blocks.result c.push_wrong_parameters.result c.and.ensures
    (λ one two. are_all lib _ _ _ c.new-found.ensures.items one two) c.push_in_blocks.ensures c.push_wrong_parameters.ensures)
    (λ are. are)

pub returns-clause-each : goal.returns-clause-each
returns-clause-each c =
    let lib = c.args.library.now in
    of_list c.and-2.result (λ ps. All (IsKindWrongAt lib) ps)
    (ok_joined _ c.and-2.result c.and.result c.push_wrong_parameters.new.found c.and-2.ensures
    (and_both c.and.result c.push_in_blocks.result c.push_wrong_parameters.result c.and.ensures
    (λ one two. are_all lib _ _ _ c.new-found.ensures.items one two) c.push_in_blocks.ensures c.push_wrong_parameters.ensures)
    (λ are. are))
    (each_kind_wrong lib)

pub returns-clause-none : goal.returns-clause-none
returns-clause-none c =
    let lib = c.args.library.now in
    of_list c.and-2.result (λ ps. ps ≡ [] → ¬ (KindWrong lib))
    (ok_joined _ c.and-2.result c.and.result c.push_wrong_parameters.new.found c.and-2.ensures
    (and_both c.and.result c.push_in_blocks.result c.push_wrong_parameters.result c.and.ensures
    (λ one two. are_all lib _ _ _ c.new-found.ensures.items one two) c.push_in_blocks.ensures c.push_wrong_parameters.ensures)
    (λ are. are))
    (none_kind_wrong lib)
