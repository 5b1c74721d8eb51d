use Rattle.fb_wave.proofs.lemmas.Common.{ℕ, List, map, Contains, Option, sym, ap, subst, ◌∙◌, All, MatchOption, system_of, Name, Twice, IsPortOf, port_text, Port}
use Rattle.fb_types.proofs.Common.{Bor, BTreeMap}
use Rattle.fb_check_names.specs.Indexes.{IsIndex}
use Rattle.fb_wave.proofs.lemmas.Alike.{texts_differ}
use Rattle.fb_wave.proofs.table.PortTable.of.Goals as goal

pub invariant_of-result : goal.invariant_of-result
invariant_of-result c =
    let sys = system_of c.args.ports.now.system.now in
    let ports = c.args.ports.now in
    let found = c.in_ok-indexes.ensures in
    let texts = ports.texts_are ∙ ap (map (port_text sys)) (sym c.as_slice-in-Some.ensures.value) in
    let names = c.as_slice.ensures.value ∙ texts in
    record {
      accepted = c.facts.ensures.accepted;
      limits = c.facts.ensures.limits;
      ports_are = subst (All (IsPortOf sys)) (sym c.as_slice-in-Some.ensures.value) ports.are;
      all = λ p is. subst (λ (ps : List Port). ∥ Contains ps p ∥₁) (sym c.as_slice-in-Some.ensures.value) (ports.all p is);
      texts_are = c.as_slice-in-Some-2.ensures.value ∙ texts;
      index =
          subst (λ (ns : List Name). IsIndex ns c.in-Some.indexes) names
          (subst (λ (o : Option (BTreeMap (Bor Name) ℕ)). MatchOption o (Twice c.as_slice.result.now) (IsIndex c.as_slice.result.now)) c.in-Some.is found);
    }

-- no two ports are written alike
pub returns-in-None-clause-some : goal.returns-in-None-clause-some
returns-in-None-clause-some c named =
    let i = c.args.ports.now.system.now in
    let ports = c.args.ports.now in
    let names = c.as_slice.ensures.value ∙ ports.texts_are in
    let twice = subst (λ (o : Option (BTreeMap (Bor Name) ℕ)). MatchOption o (Twice c.as_slice.result.now) (IsIndex c.as_slice.result.now)) c.in-None.is c.in_ok-indexes.ensures in
    absurd (texts_differ i c.facts.ensures.accepted c.facts.ensures.numbered named ports.ports.items ports.are ports.once (subst (λ (ns : List Name). Twice ns) names twice))
