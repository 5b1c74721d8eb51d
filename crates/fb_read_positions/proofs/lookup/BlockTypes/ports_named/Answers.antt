use Rattle.fb_types.proofs.Common.{Some, None, sym, ◌∙◌, ap, slice_get, option_copied, event_block_named}
use Rattle.fb_types.specs.declared.library.Ports.{Ports}
use Rattle.fb_read_positions.proofs.lemmas.TypePorts.{event_ports_are, declared_ports_are}
use Rattle.fb_read_positions.proofs.lookup.BlockTypes.ports_named.Goals as goal

pub returns-in-Some : goal.returns-in-Some
returns-in-Some c =
    let self = c.args.self.now in
    c.get.ensures.value ∙ ap (slice_get self.event_ports) c.index.ensures
    ∙ event_ports_are self.library.now self.event_ports c.args.name.now c.in-Some.kind self.of_kinds
    (sym (ap event_block_named c.as_bytes.ensures) ∙ sym c.kind_named.ensures ∙ c.in-Some.is)

pub returns-in_err-block-in-None : goal.returns-in_err-block-in-None
returns-in_err-block-in-None c =
    ap option_copied c.from_residual.ensures
    ∙ declared_ports_are c.args.self.now.library.now c.as_slice.result.now c.args.name.now None
    (sym (ap event_block_named c.as_bytes.ensures) ∙ sym c.kind_named.ensures ∙ c.in-None.is) c.as_slice.ensures
    (sym (ap option_copied c.in_err-block-in-None.was) ∙ c.block_named.ensures)

pub returns-in_ok-block-in-None : goal.returns-in_ok-block-in-None
returns-in_ok-block-in-None c =
    ap (λ (p : Ports). Some p) c.ports.ensures
    ∙ declared_ports_are c.args.self.now.library.now c.as_slice.result.now c.args.name.now (Some c.in_ok-block-in-None.block.now)
    (sym (ap event_block_named c.as_bytes.ensures) ∙ sym c.kind_named.ensures ∙ c.in-None.is) c.as_slice.ensures
    (sym (ap option_copied c.in_ok-block-in-None.was) ∙ c.block_named.ensures)
