use Rattle.fb_wave.proofs.lemmas.Common.{◌≡◌, ◌<◌, ℕ, ◌+◌, ◌-◌, ◌^◌, List, ◌++◌, get_or, length, sym, ap, subst, ◌∙◌, arith, append_assoc, system_of, Name, path_at, ports_at, Ports, closed, own_name, first_signal, size_of}
use Rattle.fb_wave.specs.Scopes.{opened, ports_declared}
use Rattle.fb_wave.proofs.lemmas.Heading.{route_length}
use Rattle.fb_wave.proofs.lemmas.Known.{path_some}
use Rattle.fb_wave.proofs.lemmas.Numbering.{signals_fit}
use Rattle.fb_wave.proofs.head.put_instance.Goals as goal

regroup : (t c o p : List ℕ) → ((t ++ c) ++ o) ++ p ≡ t ++ ((c ++ o) ++ p)
regroup t c o p = simp append_assoc

pub put_ports-requires : goal.put_ports-requires
put_ports-requires c =
    let sys = system_of c.args.system.now in
    let i = c.args.instance in
    subst (λ (its : Ports). get_or c.args.firsts.now i 0 + size_of its < 2 ^ 64) (sym c.ports.ensures) (signals_fit sys c.args.firsts.now i c.requires.instance c.requires.firsts)

pub returns-clause-height : goal.returns-clause-height
returns-clause-height c =
    ap length c.route-height.ensures ∙ route_length c.args.system.now.library (path_at (system_of c.args.system.now) c.args.instance)

pub returns-clause-text : goal.returns-clause-text
returns-clause-text c =
    let sys = system_of c.args.system.now in
    let p = path_at sys c.args.instance in
    let text = c.args.text.now.items in
    let first = get_or c.args.firsts.now c.args.instance 0 in
    let height : length c.route-height.result.now ≡ length p = ap length c.route-height.ensures ∙ route_length c.args.system.now.library p in
    let some : 0 < length p = path_some c.args.system.now c.args.instance c.requires.instance in
    let ended : c.saturating_sub-ended.result ≡ c.args.depth + 1 - length p =
    omega (arith, height, some, c.saturating_sub-outside.ensures, c.saturating_sub-ended.ensures)
    in
    c.in_ok-put_ports.ensures
    ∙ ap (λ (t : List ℕ). t ++ ports_declared first c.ports.result.now)
    (c.in_ok-put_opened.ensures ∙ ap (λ (t : List ℕ). t ++ opened c.own_name.result.now) c.in_ok-put_closed.ensures)
    ∙ ap (λ (its : Ports). ((text ++ closed c.saturating_sub-ended.result) ++ opened c.own_name.result.now) ++ ports_declared first its) c.ports.ensures
    ∙ ap (λ (n : Name). ((text ++ closed c.saturating_sub-ended.result) ++ opened n) ++ ports_declared first (ports_at sys p)) c.own_name.ensures
    ∙ ap (λ (k : ℕ). ((text ++ closed k) ++ opened (own_name p)) ++ ports_declared first (ports_at sys p)) ended
    ∙ ap (λ (s : ℕ). ((text ++ closed (c.args.depth + 1 - length p)) ++ opened (own_name p)) ++ ports_declared s (ports_at sys p))
    (c.requires.firsts.each c.args.instance (omega (arith, c.requires.instance)))
    ∙ regroup text (closed (c.args.depth + 1 - length p)) (opened (own_name p)) (ports_declared (first_signal sys c.args.instance) (ports_at sys p))
