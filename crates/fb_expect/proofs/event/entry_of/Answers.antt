use Rattle.std.proofs.Common.{◌≡◌, ℕ, ◌++◌, Bool, Bor, Some, codes, refl, sym, ap, ◌∙◌}
use Rattle.fb_types.specs.declared.run.Form.{Form}
use Rattle.fb_expect.specs.Events.{IsHead, IsLine, IsPortText, IsStart, event_of, side_text}
use Rattle.fb_expect.specs.LineReading.{after_head, port_of, read_line, side_of, start_of}
use Rattle.fb_expect.specs.Words.{Text}
use Rattle.fb_expect.specs.declared.entry.Entry.{Entry}
use Rattle.fb_expect.proofs.event.entry_of.Goals as goal

line :
    (form : Form) (text after rest last : Text) (e : Entry) (tick : ℕ) (resource : Bor Text) (taken : Bool) (port values : Bor Text) → e.tick ≡ tick → e.resource ≡ resource
    → e.taken ≡ taken → e.port ≡ port → e.values ≡ values → (head : Text) × IsHead form head × (text ≡ head ++ after) → IsStart after tick resource.now rest
    → rest ≡ side_text taken ++ last → IsPortText last port.now values.now → IsLine form text (event_of e)
line form text after rest last e tick resource taken port values is-tick is-resource is-taken is-port are-values front start side end =
    rw (is-tick, is-resource, is-taken, is-port, are-values)
    (record {
      head = front.0;
      digits = start.digits;
      is_head = front.1;
      tick_is = start.tick_is;
      resource_is = start.resource_is;
      port_is = end.port_is;
      values_are = end.values_are;
      parts =
          front.2
          ∙ ap (λ (t : Text). front.0 ++ t)
          (start.parts ∙ ap (λ (t : Text). start.digits ++ (codes " " ++ (resource.now ++ t))) (side ∙ ap (λ (t : Text). side_text taken ++ t) end.parts));
    })

pub returns-clause-line : goal.returns-clause-line
returns-clause-line c =
    line c.args.form c.args.text.now _ _ _ c.of.result _ _ _ _ _ c.of.ensures.tick c.of.ensures.resource c.of.ensures.taken c.of.ensures.port c.of.ensures.values c.in_ok-after_head.ensures.parts
    c.in_ok-tick.ensures.parts c.in_ok-taken.ensures.parts c.in_ok-port.ensures.parts

read :
    (form : Form) (text after rest last : Text) (e : Entry) (tick : ℕ) (resource : Bor Text) (taken : Bool) (port values : Bor Text) → e.tick ≡ tick → e.resource ≡ resource
    → e.taken ≡ taken → e.port ≡ port → e.values ≡ values → Some after ≡ after_head form text → Some (tick, resource.now, rest) ≡ start_of after → Some (taken, last) ≡ side_of rest
    → Some (port.now, values.now) ≡ port_of last → Some (event_of e) ≡ read_line form text
unfolding read_line
read form text after rest last e tick resource taken port values is-tick is-resource is-taken is-port are-values front start side end =
    rw (is-tick, is-resource, is-taken, is-port, are-values, sym front, sym start, sym side, sym end) refl

pub returns-clause-exact : goal.returns-clause-exact
returns-clause-exact c =
    read c.args.form c.args.text.now _ _ _ c.of.result _ _ _ _ _ c.of.ensures.tick c.of.ensures.resource c.of.ensures.taken c.of.ensures.port c.of.ensures.values c.in_ok-after_head.ensures.exact
    c.in_ok-tick.ensures.exact c.in_ok-taken.ensures.exact c.in_ok-port.ensures.exact
