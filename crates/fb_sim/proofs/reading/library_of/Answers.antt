use Rattle.std.proofs.Common.{List, ℕ, ap, subst}
use Rattle.fb_sim.specs.Serial.{IsReadFault}
use Rattle.fb_sim.proofs.lemmas.runs.Refused.{read_fault}
use Rattle.fb_sim.proofs.reading.library_of.Goals as goal

pub returns-in-Memory-clause-refused : goal.returns-in-Memory-clause-refused
returns-in-Memory-clause-refused c = tt

pub returns-in_default : goal.returns-in_default
returns-in_default c = record {
  read = tt;
  refused =
      let e = c.in-Err.error in
      let said = c.in-Err.ensures in
      subst (λ (x : List ℕ). IsReadFault x e) (ap (λ g. g.declaration) c.inputs.view_is)
      (read_fault _ e c.in_default.not-Memory said.none said.nesting said.too_long said.byte said.token said.grammar said.exact);
}
