use Rattle.fb_types.proofs.Common.{◌≡◌, ◌∙◌, ◌<◌, ℕ, Bor, List, [], Option, Some, map, option_map, ap, sym, subst, refl, arith, length, slice_get, slice_get_read, slice_get-map, unwrap_or}
use Rattle.clap.specs.Words.{Text}
use Rattle.fb_types.specs.Names.{Name}
use Rattle.fbsim_command.specs.Nearest.{IsBest, distance, name_at, name_distance}
use Rattle.fbsim_command.specs.declared.near.Candidate.{Candidate}
use Rattle.fbsim_command.proofs.lemmas.names.KnownNames.{now}
use Rattle.fbsim_command.proofs.lemmas.names.Nearest.{least_of, none_of}
use Rattle.fbsim_command.proofs.near.nearest_index.Goals as goal

pub loop-index-preserved : goal.loop-index-preserved
loop-index-preserved c =
    let xs = c.args.names.now in
    let k = c.loop-index.index in
    let n = c.index-names-index.result in
    let at : slice_get xs k ≡ Some n = slice_get_read xs (length xs) k n refl c.loop-index-test.true c.index-names-index.is in
    let name : name_at (map now xs) k ≡ n.now = ap (λ (o : Option Name). unwrap_or o []) (slice_get-map now xs k ∙ ap (option_map now) at) in
    c.nearer-best.ensures (name_distance (map now xs) c.args.text.now) c.loop-index.invariant
    (c.in_ok-far.ensures ∙ ap (λ (p : Text). distance p c.args.text.now) (c.as_bytes.ensures ∙ sym name))

pub returns-in-Some-clause-nearest : goal.returns-in-Some-clause-nearest
returns-in-Some-clause-nearest c =
    let xs = c.args.names.now in
    let f = name_distance (map now xs) c.args.text.now in
    let end : c.loop-index.index ≡ length xs = omega (arith, c.loop-index-test.false, c.loop-index.auto.index-end) in
    least_of f c.loop-index.index (length xs) c.in-Some.candidate (subst (λ (o : Option Candidate). IsBest f c.loop-index.index o) c.in-Some.is c.loop-index.invariant) end

pub returns-in-None-clause-nearest : goal.returns-in-None-clause-nearest
returns-in-None-clause-nearest c =
    let xs = c.args.names.now in
    let f = name_distance (map now xs) c.args.text.now in
    let end : c.loop-index.index ≡ length xs = omega (arith, c.loop-index-test.false, c.loop-index.auto.index-end) in
    none_of f c.loop-index.index (length xs) (subst (λ (o : Option Candidate). IsBest f c.loop-index.index o) c.in-None.is c.loop-index.invariant) end
