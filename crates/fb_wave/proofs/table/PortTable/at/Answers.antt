use Rattle.fb_types.proofs.Common.{◌≡◌, List, ℕ, Some, ◌++◌, length, refl, sym, ap, subst, ◌∙◌, slice_get, slice_get_read, system_of}
use Rattle.fb_wave.specs.Ports.{IsPortOf}
use Rattle.fb_wave.proofs.lemmas.Finding.{no_text_past, none_past, unended_port}
use Rattle.fb_wave.proofs.lemmas.Gluing.{port_named}
use Rattle.fb_wave.proofs.table.PortTable.at.Goals as goal

pub returns-clause-found : goal.returns-clause-found
returns-clause-found c =
    let sys = system_of c.args.self.now.system.now in
    let found = c.in_ok-port.ensures.lookup in
    let ports = c.args.self.now.ports.now in
    let texts = c.args.self.now.texts.now in
    let k = c.args.index in
    let port = c.in_ok-port.port.now in
    let name = c.in_ok-name.name.now in
    let rest = c.in_ok-rest.rest.now in
    let at : slice_get ports k ≡ Some port = slice_get_read ports (length ports) k port refl c.in_ok-port.ensures.lookup.3.0 c.in_ok-port.ensures.lookup.1 in
    let is : slice_get texts k ≡ Some name = slice_get_read texts (length texts) k name refl c.in_ok-name.ensures.lookup.3.0 c.in_ok-name.ensures.lookup.1 in
    let parts : c.args.text.now ≡ name ++ rest = c.in_ok-rest.ensures ∙ ap (λ (n : List ℕ). n ++ rest) c.as_bytes.ensures in
    record {
      port = subst (IsPortOf sys) (sym found.1) (c.args.self.now.ports_are k c.in_ok-port.port.now found.3.0);
      ended = sym c.ends_word.ensures ∙ c.if-not-ends_word.false;
      parts = parts ∙ ap (λ (n : List ℕ). n ++ rest) (port_named sys ports texts k port name c.args.self.now.texts_are at is);
    }

pub returns-then-not-ends_word-clause-none : goal.returns-then-not-ends_word-clause-none
returns-then-not-ends_word-clause-none c p rest0 at0 begins =
    let sys = system_of c.args.self.now.system.now in
    let ports = c.args.self.now.ports.now in
    let texts = c.args.self.now.texts.now in
    let k = c.args.index in
    let name = c.in_ok-name.name.now in
    let rest = c.in_ok-rest.rest.now in
    let is : slice_get texts k ≡ Some name = slice_get_read texts (length texts) k name refl c.in_ok-name.ensures.lookup.3.0 c.in_ok-name.ensures.lookup.1 in
    let parts : c.args.text.now ≡ name ++ rest = c.in_ok-rest.ensures ∙ ap (λ (n : List ℕ). n ++ rest) c.as_bytes.ensures in
    unended_port sys c.args.text.now rest p rest0 (parts ∙ ap (λ (n : List ℕ). n ++ rest) (port_named sys ports texts k p name c.args.self.now.texts_are at0 is)) begins
    (sym c.ends_word.ensures ∙ c.if-not-ends_word.true)

pub returns-in_err-port-clause-none : goal.returns-in_err-port-clause-none
returns-in_err-port-clause-none c =
    rw c.from_residual.ensures (λ p rest at begins. none_past c.args.self.now.ports.now c.args.index p c.in_err-port.ensures.lookup.3 at)

pub returns-in_err-name-clause-none : goal.returns-in_err-name-clause-none
returns-in_err-name-clause-none c =
    rw c.from_residual-in_err-name.ensures
    (λ p rest at begins. no_text_past (system_of c.args.self.now.system.now) c.args.self.now.ports.now c.args.self.now.texts.now c.args.index p c.args.self.now.texts_are c.in_err-name.ensures.lookup.3 at)

pub returns-in_err-rest-clause-none : goal.returns-in_err-rest-clause-none
returns-in_err-rest-clause-none c =
    let sys = system_of c.args.self.now.system.now in
    let ports = c.args.self.now.ports.now in
    let texts = c.args.self.now.texts.now in
    let k = c.args.index in
    let name = c.in_ok-name.name.now in
    let is : slice_get texts k ≡ Some name = slice_get_read texts (length texts) k name refl c.in_ok-name.ensures.lookup.3.0 c.in_ok-name.ensures.lookup.1 in
    rw c.from_residual-in_err-rest.ensures
    (λ p rest at begins. c.in_err-rest.ensures rest (begins.parts ∙ ap (λ (n : List ℕ). n ++ rest) (sym (c.as_bytes.ensures ∙ port_named sys ports texts k p name c.args.self.now.texts_are at is))))
