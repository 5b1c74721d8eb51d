use Rattle.fb_types.proofs.Common.{◌≡◌, ◌∙◌, ◌<◌, ℕ, List, [], Option, Some, option_map, ap, sym, subst, refl, arith, length, slice_get, slice_get_read, slice_get-map, unwrap_or}
use Rattle.clap.specs.Words.{Text}
use Rattle.fb_types.specs.Flat.{type_name}
use Rattle.fb_types.specs.Names.{Name}
use Rattle.fb_types.specs.declared.library.BlockType.{BlockType}
use Rattle.fbsim_command.specs.Nearest.{IsBest, distance, type_at, type_distance}
use Rattle.fbsim_command.specs.declared.near.Candidate.{Candidate}
use Rattle.fbsim_command.proofs.lemmas.names.Nearest.{least_of, none_of}
use Rattle.fbsim_command.proofs.near.nearest_type.Goals as goal

pub loop-index-preserved : goal.loop-index-preserved
loop-index-preserved c =
    let lib = c.args.library.now in
    let k = c.loop-index.index in
    let t = c.index-blocks-index.result in
    let bs = c.as_slice-blocks.result.now in
    let at : slice_get lib.blocks k ≡ Some t =
    ap (λ (ts : List BlockType). slice_get ts k) (sym c.as_slice-blocks.ensures) ∙ slice_get_read bs (length bs) k t refl c.loop-index-test.true c.index-blocks-index.is in
    let name : type_at lib k ≡ type_name t = ap (λ (o : Option Name). unwrap_or o []) (slice_get-map type_name lib.blocks k ∙ ap (option_map type_name) at) in
    c.nearer-best.ensures (type_distance lib c.args.text.now) c.loop-index.invariant
    (c.in_ok-far.ensures ∙ ap (λ (p : Text). distance p c.args.text.now) (c.as_bytes.ensures ∙ c.type_name.ensures ∙ sym name))

pub returns-in-Some-clause-nearest : goal.returns-in-Some-clause-nearest
returns-in-Some-clause-nearest c =
    let lib = c.args.library.now in
    let f = type_distance lib c.args.text.now in
    let end : c.loop-index.index ≡ length c.as_slice-blocks.result.now = omega (arith, c.loop-index-test.false, c.loop-index.auto.index-end) in
    least_of f c.loop-index.index (length lib.blocks) c.in-Some.candidate (subst (λ (o : Option Candidate). IsBest f c.loop-index.index o) c.in-Some.is c.loop-index.invariant)
    (end ∙ ap (λ (ts : List BlockType). length ts) c.as_slice-blocks.ensures)

pub returns-in-None-clause-nearest : goal.returns-in-None-clause-nearest
returns-in-None-clause-nearest c =
    let lib = c.args.library.now in
    let f = type_distance lib c.args.text.now in
    let end : c.loop-index.index ≡ length c.as_slice-blocks.result.now = omega (arith, c.loop-index-test.false, c.loop-index.auto.index-end) in
    none_of f c.loop-index.index (length lib.blocks) (subst (λ (o : Option Candidate). IsBest f c.loop-index.index o) c.in-None.is c.loop-index.invariant)
    (end ∙ ap (λ (ts : List BlockType). length ts) c.as_slice-blocks.ensures)
