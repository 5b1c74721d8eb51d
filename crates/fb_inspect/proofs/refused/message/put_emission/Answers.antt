use Rattle.fb_inspect.proofs.lemmas.Common.{◌≡◌, ◌∙◌, ◌<◌, List, ◌++◌, ap, arith, length, map, path_at, pair_up, ports_at, subst, system_of, Name, Value, Variable}
use Rattle.std.specs.Prelude.{string_bytes}
use Rattle.fb_types.specs.Numbers.{event_at}
use Rattle.fb_types.specs.declared.library.EventPort.{EventPort}
use Rattle.fb_types.specs.declared.library.Ports.{Ports}
use Rattle.fb_wave.specs.Reading.{name_at}
use Rattle.fb_wave.proofs.lemmas.Handing.{on_ok}
use Rattle.fb_inspect.specs.refused.Messages.{bindings_text}
use Rattle.fb_inspect.proofs.lemmas.words.NamesApart.{same_event}
use Rattle.fb_inspect.proofs.lemmas.words.Texts.{emission_added}
use Rattle.fb_inspect.proofs.refused.message.put_emission.Goals as goal

pub returns : goal.returns
returns c =
    let sys = system_of c.args.system.now in
    let i = c.args.instance in
    let k = c.args.emission.now.event in
    let its = ports_at sys (path_at sys i) in
    let ks = c.outputs_with-indexes.result.now in
    let ns : List Name = map (name_at c.as_slice.result.now) ks in
    let counted = c.count.ensures in
    let less : i < length sys.paths = omega (arith, counted) in
    let events_are : c.as_slice-events.result.now ≡ its.event_outputs = c.as_slice-events.ensures ∙ ap (λ (p : Ports). p.event_outputs) c.ports-ports.ensures in
    let outputs_are : c.as_slice.result.now ≡ its.outputs = c.as_slice.ensures ∙ ap (λ (p : Ports). p.outputs) c.ports-ports.ensures in
    let here : k < length c.as_slice-events.result.now = omega arith in
    on_ok c.put_values.result _ _ c.put_values.ensures
    (λ e.
    emission_added sys i c.args.emission.now (string_bytes c.args.text.now) (string_bytes c.put_shown.new.text) (string_bytes c.push_str.new.self) (string_bytes c.put_shown-2.new.text)
    (string_bytes c.put_values.new.text) c.path.result.now c.as_bytes.result.now ns less (subst (λ (es : List EventPort). k < length es) events_are here) c.path.ensures
    (same_event c.as_slice-events.result.now k c.index-events-emission.result c.as_bytes.result.now here c.as_bytes.ensures
    ∙ ap (λ (es : List EventPort). event_at es k) events_are)
    (ap (λ (us : List Variable). map (name_at us) ks) outputs_are ∙ c.outputs_with-indexes.ensures.named) c.in_ok-put_shown.ensures c.in_ok-push_str.ensures.bytes c.in_ok-put_shown-2.ensures
    (e ∙ ap (λ (vs : List Value). string_bytes c.put_shown-2.new.text ++ bindings_text (pair_up ns vs)) c.as_slice-2.ensures))
