use Rattle.fb_net.proofs.lemmas.Common.{◌≡◌, ◌<◌, length, refl, arith, ap, ◌∙◌, if◌then◌else◌, system_of, path_at, ports_at, Ports, Covers}
use Rattle.fb_net.proofs.lemmas.opening.OpeningCopies.{below_next, within_side}
use Rattle.fb_net.proofs.opening.copies.hold_sources.Goals as goal
use Rattle.fb_net.proofs.opening.copies.hold_sources.Goals.{then-is_output, else-is_output}

pub loop-variable-preserved : goal.loop-variable-preserved
loop-variable-preserved c = record {
  covered = λ v h.
      below_next (λ v. Covers c.args.system.now c.args.resource c.hold.new.held (record { instance = c.args.instance; variable = v; is_output = c.args.is_output }))
      c.loop-variable.variable v h
      (λ w g. c.in_ok-hold.ensures.kept (record { instance = c.args.instance; variable = w; is_output = c.args.is_output }) (c.loop-variable.invariant.covered w g))
      c.in_ok-hold.ensures.covered;
  kept = λ to h. c.in_ok-hold.ensures.kept to (c.loop-variable.invariant.kept to h);
}

pub returns-clause-covered : goal.returns-clause-covered
returns-clause-covered c = λ v is.
    let sys = system_of c.args.system.now in
    let its = ports_at sys (path_at sys c.args.instance) in
    let side : c.if-is_output.count ≡ length (if c.args.is_output then its.outputs else its.inputs) =
    elim c.if-is_output.branch [
      | then-is_output w ↦ rw (w.count-is, w.if-is_output.true) (w.count-count.ensures.value ∙ ap (λ (p : Ports). length p.outputs) c.ports-ports.ensures)
      | else-is_output w ↦ rw (w.count-is, w.if-is_output.false) (w.count-count-else-is_output.ensures.value ∙ ap (λ (p : Ports). length p.inputs) c.ports-ports.ensures)
    ] in
    let within : v < length (if c.args.is_output then its.outputs else its.inputs) =
    within_side c.args.system.now c.args.instance v c.args.is_output (if c.args.is_output then its.outputs else its.inputs) refl is in
    c.loop-variable.invariant.covered v (omega (arith, within, side))
