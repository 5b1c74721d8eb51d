use Rattle.fb_types.proofs.Common.{ap, sym, ◌∙◌, system_of, Name}
use Rattle.fb_check_names.specs.Indexes.{index_in}
use Rattle.fb_wave.proofs.lemmas.Finding.{begins_three, front_is_port, port_placed, port_there}
use Rattle.fb_wave.proofs.lemmas.Handing.{none_then}
use Rattle.fb_wave.proofs.table.PortTable.find.Goals as goal

pub returns-in_err-length-clause-none : goal.returns-in_err-length-clause-none
returns-in_err-length-clause-none c names =
    let sys = system_of c.args.self.now.system.now in
    rw c.from_residual.ensures (λ p rest begins. c.in_err-length.ensures.three _ _ _ _ (begins_three sys c.args.text.now p rest names begins))

pub returns-in_err-index-clause-none : goal.returns-in_err-index-clause-none
returns-in_err-index-clause-none c names =
    let sys = system_of c.args.self.now.system.now in
    let t = c.args.self.now in
    rw c.from_residual-in_err-index.ensures
    (λ p rest begins.
    port_placed t p begins.port
    (ap (λ (n : Name). index_in t.indexes n) (sym (front_is_port sys c.args.text.now p rest c.in_ok-length.length names begins c.in_ok-length.ensures.three)) ∙ sym c.in_err-index.ensures))

pub returns-clause-none : goal.returns-clause-none
returns-clause-none c names =
    let sys = system_of c.args.self.now.system.now in
    let t = c.args.self.now in
    none_then c.at-2.result _ _ c.at-2.ensures.none
    (λ none p rest begins.
    none p rest
    (port_there t p c.in_ok-index.index begins.port
    (ap (λ (n : Name). index_in t.indexes n) (sym (front_is_port sys c.args.text.now p rest c.in_ok-length.length names begins c.in_ok-length.ensures.three)) ∙ sym c.in_ok-index.ensures))
    begins)
