use Rattle.fb_types.proofs.Common.{◌≡◌, ◌∙◌, ◌<◌, ℕ, Bool, true, false, ◌&&◌, length, below_more, sym, ap, arith, and_from, system_of, path_at, ports_at}
use Rattle.fb_wave.specs.Named.{are_ports_named, is_name, is_named_at}
use Rattle.fb_wave.specs.Scopes.{own_name}
use Rattle.fb_wave.proofs.lemmas.Naming.{has_names, instance_unnamed, resource_unnamed}
use Rattle.fb_wave.proofs.names.has_names.Goals as goal
use Rattle.fb_wave.proofs.names.has_names.Goals.{then-not-is_name-2-via-then-not-is_name-2, then-not-is_name-2-via-else-not-is_name-2+then-not-are_ports_named}

pub returns-then-not-is_name-clause-unnamed : goal.returns-then-not-is_name-clause-unnamed
returns-then-not-is_name-clause-unnamed c is names =
    let within : c.loop-resource.resource < length (system_of c.args.system.now).resource_names = omega arith in
    resource_unnamed c.args.system.now c.loop-resource.resource within (sym (c.is_name.ensures ∙ ap is_name c.resource_name.ensures) ∙ c.if-not-is_name.true) names

pub loop-index-preserved : goal.loop-index-preserved
loop-index-preserved c =
    let sys = system_of c.args.system.now in
    let p = path_at sys c.loop-index.index in
    below_more (λ (k : ℕ). is_named_at sys k ≡ true) c.loop-index.index c.loop-index.invariant
    (and_from (is_name (own_name p)) (are_ports_named (ports_at sys p))
    (sym (c.is_name-in-loop-index.ensures ∙ ap is_name c.own_name.ensures) ∙ c.if-not-is_name-2.false)
    (sym (c.are_ports_named.ensures ∙ ap are_ports_named c.ports.ensures) ∙ c.if-not-are_ports_named.false))

pub returns-then-not-is_name-2-clause-unnamed : goal.returns-then-not-is_name-2-clause-unnamed
returns-then-not-is_name-2-clause-unnamed c is names =
    let sys = system_of c.args.system.now in
    let i = c.loop-index.index in
    let p = path_at sys i in
    let within : i < length sys.paths = omega arith in
    let own : c.is_name-in-loop-index.result ≡ is_name (own_name p) = c.is_name-in-loop-index.ensures ∙ ap is_name c.own_name.ensures in
    let unnamed : is_named_at sys i ≡ false =
    elim c.then-not-is_name-2.branch [
      | then-not-is_name-2-via-then-not-is_name-2 w ↦ ap (λ (b : Bool). b && are_ports_named (ports_at sys p)) (sym own ∙ w.if-not-is_name-2.true)
      | then-not-is_name-2-via-else-not-is_name-2+then-not-are_ports_named w ↦
          ap (λ (b : Bool). b && are_ports_named (ports_at sys p)) (sym own ∙ w.if-not-is_name-2.false)
          ∙ (sym (w.are_ports_named.ensures ∙ ap are_ports_named w.ports.ensures) ∙ w.if-not-are_ports_named.true)
    ]
    in
    instance_unnamed c.args.system.now i within unnamed names

pub returns-clause-named : goal.returns-clause-named
returns-clause-named c is =
    has_names c.args.system.now (λ k within. c.loop-resource.invariant k (omega (arith, within))) (λ k within. c.loop-index.invariant k (omega (arith, within)))
