use Rattle.fb_types.proofs.Common.{◌≡◌, ◌<◌, ℕ, ◌+◌, List, length, drop, ap, ◌∙◌, arith, system_of, path_at, path_text}
use Rattle.fb_wave.proofs.lemmas.Heading.{own_fits, own_inner}
use Rattle.fb_wave.proofs.lemmas.Known.{path_some}
use Rattle.fb_wave.proofs.head.own_name.Goals as goal

pub rest_from-requires : goal.rest_from-requires
rest_from-requires c =
    let sys = system_of c.args.system.now in
    let p = path_at sys c.args.instance in
    let q = path_at sys c.in-Some.parent in
    let above : c.in-Some.parent < c.args.instance = c.in-Some.ensures.0 in
    let within : c.in-Some.parent < length sys.paths = omega (arith, above, c.requires) in
    let fits = own_fits p q c.in-Some.ensures.1 (path_some c.args.system.now c.in-Some.parent within) in
    let outer : length c.path.result.now ≡ length (path_text q) = ap length c.path.ensures in
    let own : length c.path-path.result.now ≡ length (path_text p) = ap length c.path-path.ensures in
    omega (arith, fits, outer, own)

pub returns-in-Some : goal.returns-in-Some
returns-in-Some c =
    let sys = system_of c.args.system.now in
    let p = path_at sys c.args.instance in
    let q = path_at sys c.in-Some.parent in
    let above : c.in-Some.parent < c.args.instance = c.in-Some.ensures.0 in
    let within : c.in-Some.parent < length sys.paths = omega (arith, above, c.requires) in
    c.rest_from.ensures
    ∙ ap (λ (t : List ℕ). drop (length t + 1) c.path-path.result.now) c.path.ensures
    ∙ ap (λ (t : List ℕ). drop (length (path_text q) + 1) t) c.path-path.ensures
    ∙ own_inner p q c.in-Some.ensures.1 (path_some c.args.system.now c.in-Some.parent within)
