use Rattle.fb_check.proofs.lemmas.Common.{◌≡◌, ◌++◌, [], List, None, ◌∙◌, ap, All, NameTwice, Plan, Library, each_at, IsResolved, OutOfRangeAt, Application, Resolved, out_at_index}
use Rattle.fb_types.proofs.Common.{OutOfRange}
use Rattle.fb_check.proofs.lemmas.types.GrowingLists.{and_both, ok_joined}
use Rattle.fb_check_names.proofs.lemmas.Listing.{of_list}
use Rattle.fb_check.specs.networks.OutOfRange.{IsOutOfRangeAt, out_of_range_all, out_in}
use Rattle.fb_check.proofs.lemmas.networks.Ranges.{each_out_of_range, out_of_range_are, none_out_of_range}
use Rattle.fb_check.proofs.networks.ranges.out_of_range_locations.Goals as goal

-- what two calls add to the empty list
are_all :
    (lib : Library) (plan : Plan) (r : Resolved) (f0 f1 f2 : List OutOfRangeAt) → ¬ (NameTwice lib plan) → IsResolved lib plan r → f0 ≡ []
    → f1 ≡ f0 ++ each_at (out_at_index lib r.blocks) lib.blocks → f2 ≡ f1 ++ out_in lib Application None r.application → f2 ≡ out_of_range_all lib
are_all lib plan r f0 f1 f2 once is empty blocks application =
    let inside : List OutOfRangeAt = each_at (out_at_index lib r.blocks) lib.blocks in
    let last : List OutOfRangeAt = out_in lib Application None r.application in
    application ∙ ap (λ (ps : List OutOfRangeAt). ps ++ last) (blocks ∙ ap (λ (ps : List OutOfRangeAt). ps ++ inside) empty) ∙ out_of_range_are lib plan r once is

pub returns-clause-listed : goal.returns-clause-listed
returns-clause-listed c =
    let lib = c.args.library.now in
    ok_joined _ c.and-2.result c.and.result c.push_in_network.new.found c.and-2.ensures
    (and_both c.and.result c.push_in_blocks.result c.push_in_network.result c.and.ensures
    (λ one two. are_all lib c.requires.0 c.args.numbers.now _ _ _ c.requires.2 c.requires.1 c.new-found.ensures.items one two) c.push_in_blocks.ensures c.push_in_network.ensures)
    (λ are. are)

pub returns-clause-each : goal.returns-clause-each
returns-clause-each c =
    let lib = c.args.library.now in
    of_list c.and-2.result (λ ps. All (IsOutOfRangeAt lib) ps)
    (ok_joined _ c.and-2.result c.and.result c.push_in_network.new.found c.and-2.ensures
    (and_both c.and.result c.push_in_blocks.result c.push_in_network.result c.and.ensures
    (λ one two. are_all lib c.requires.0 c.args.numbers.now _ _ _ c.requires.2 c.requires.1 c.new-found.ensures.items one two) c.push_in_blocks.ensures c.push_in_network.ensures)
    (λ are. are))
    (each_out_of_range lib)

pub returns-clause-none : goal.returns-clause-none
returns-clause-none c =
    let lib = c.args.library.now in
    of_list c.and-2.result (λ ps. ps ≡ [] → ¬ (OutOfRange lib))
    (ok_joined _ c.and-2.result c.and.result c.push_in_network.new.found c.and-2.ensures
    (and_both c.and.result c.push_in_blocks.result c.push_in_network.result c.and.ensures
    (λ one two. are_all lib c.requires.0 c.args.numbers.now _ _ _ c.requires.2 c.requires.1 c.new-found.ensures.items one two) c.push_in_blocks.ensures c.push_in_network.ensures)
    (λ are. are))
    (none_out_of_range lib)
