use Rattle.fb_types.proofs.Common.{◌≡◌, ◌<◌, ℕ, [], get_or, length, refl, sym, subst, ap, ◌∙◌, Decides-eqb, slice_eq-Decides, system_of, path_at}
use Rattle.fb_wave.specs.Ports.{holder_name}
use Rattle.fb_wave.proofs.lemmas.Bounds.{resource_named}
use Rattle.fb_inspect.specs.refused.LineFaults.{path_event, sign_text}
use Rattle.fb_inspect.proofs.lemmas.words.NamesApart.{alike, differ}
use Rattle.fb_inspect.proofs.lemmas.words.PortWords.{begins_with, renamed}
use Rattle.fb_inspect.proofs.refused.fault_port.port_fault.Goals as goal

pub returns-in_default-resource_of : goal.returns-in_default-resource_of
returns-in_default-resource_of c =
    (c.in-Some.words.sign.now, c.in-Some.words.port.now, c.in-Some.words.rest.now, c.in-Some.ensures, c.in_default-resource_of.ensures.none)

pub returns-in-Err : goal.returns-in-Err
returns-in-Err c = c.in-Err.ensures.fault c.args.text.now c.in-Some.ensures

pub resource_name-requires : goal.resource_name-requires
resource_name-requires c =
    let sys = system_of c.args.system.now in
    subst (λ (r : ℕ). r < length sys.resource_names) (sym c.resource-holder.ensures)
    (resource_named c.args.system.now (path_at sys c.in-Ok.port.instance) c.facts.ensures.limits)

pub returns-then-ne : goal.returns-then-ne
returns-then-ne c =
    let sys = system_of c.args.system.now in
    let w = c.in-Some.words in
    let p = c.in-Ok.port in
    let held : c.resource_name.result.now ≡ holder_name sys p.instance = c.resource_name.ensures ∙ ap (λ r. get_or sys.resource_names r []) c.resource-holder.ensures in (
      w.resource.now,
      w.rest.now,
      renamed c.args.text.now w.resource.now w.sign.now w.port.now w.rest.now (sign_text p.taken) (path_event sys p) c.in-Ok.ensures.sign c.in-Ok.ensures.named c.in-Some.ensures,
      c.in-Ok.ensures.port,
      λ same. differ _ c.ne.result (slice_eq-Decides Decides-eqb c.resource_name.result.now w.resource.now _ refl) c.ne.ensures c.if-ne.true (held ∙ same),
    )

pub returns-in-Some-port_values_fault : goal.returns-in-Some-port_values_fault
returns-in-Some-port_values_fault c =
    let sys = system_of c.args.system.now in
    let w = c.in-Some.words in
    let p = c.in-Ok.port in
    let held : c.resource_name.result.now ≡ holder_name sys p.instance = c.resource_name.ensures ∙ ap (λ r. get_or sys.resource_names r []) c.resource-holder.ensures in
    let home : c.resource_name.result.now ≡ w.resource.now =
    alike _ c.ne.result (slice_eq-Decides Decides-eqb c.resource_name.result.now w.resource.now _ refl) c.ne.ensures c.if-ne.false
    in (
      w.rest.now,
      begins_with sys p c.args.text.now w.resource.now w.sign.now w.port.now w.rest.now c.in-Ok.ensures.port c.in-Some.ensures (sym home ∙ held) c.in-Ok.ensures.sign c.in-Ok.ensures.named,
      c.in-Some-port_values_fault.ensures,
    )

pub returns-in-None : goal.returns-in-None
returns-in-None c =
    let sys = system_of c.args.system.now in
    let w = c.in-Some.words in
    let p = c.in-Ok.port in
    let held : c.resource_name.result.now ≡ holder_name sys p.instance = c.resource_name.ensures ∙ ap (λ r. get_or sys.resource_names r []) c.resource-holder.ensures in
    let home : c.resource_name.result.now ≡ w.resource.now =
    alike _ c.ne.result (slice_eq-Decides Decides-eqb c.resource_name.result.now w.resource.now _ refl) c.ne.ensures c.if-ne.false
    in
    record {
      port = p;
      rest = w.rest.now;
      begins = begins_with sys p c.args.text.now w.resource.now w.sign.now w.port.now w.rest.now c.in-Ok.ensures.port c.in-Some.ensures (sym home ∙ held) c.in-Ok.ensures.sign c.in-Ok.ensures.named;
      values = c.in-None.ensures.0;
      are = c.in-None.ensures.1;
    }
