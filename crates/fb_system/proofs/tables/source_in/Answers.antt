use Rattle.fb_system.proofs.lemmas.Common.{Some, sym, ap, ◌∙◌, option_map, Port, variable_of}
use Rattle.fb_system.proofs.lemmas.networks.EndLookups.{composite_around, index_is, index_small, index_within, named_end, some_tested, source_end, source_none}
use Rattle.fb_system.proofs.tables.source_in.Goals as goal

pub returns-in_err-from-clause-comes : goal.returns-in_err-from-clause-comes
returns-in_err-from-clause-comes c = λ q key.
    ap (option_map (variable_of c.args.tables.now.library)) c.from_residual-in_err-from.ensures
    ∙ sym (source_none _ c.requires.netlist.plan _ _ _ q c.requires.netlist.once c.in_ok-wiring.ensures key (sym c.in_err-from.ensures))

pub instance_at-requires-clause-there : goal.instance_at-requires-clause-there
instance_at-requires-clause-there c =
    let r = source_end _ c.requires.netlist.plan _ _ _ _ _ c.requires.netlist.once c.in_ok-wiring.ensures c.requires.end.1 (sym c.in_ok-from.ensures) in
    (r.0.at, r.2.there, named_end _ _ _ _ _ _ r.2)

pub overflow_cast-result : goal.overflow_cast-result
overflow_cast-result c =
    let r = source_end _ c.requires.netlist.plan _ _ _ _ _ c.requires.netlist.once c.in_ok-wiring.ensures c.requires.end.1 (sym c.in_ok-from.ensures) in
    record { fits = index_small _ _ _ _ c.requires.netlist.narrow r.2 }

pub returns-clause-comes : goal.returns-clause-comes
returns-clause-comes c = λ q key.
    let r = source_end _ c.requires.netlist.plan _ _ _ _ q c.requires.netlist.once c.in_ok-wiring.ensures key (sym c.in_ok-from.ensures) in
    ap (λ (q : Port). Some q) (index_is _ _ _ r.0 _ _ (c.instance_at.ensures.path r.0.at r.2.there) c.is_some.ensures r.2) ∙ sym r.1

pub returns-clause-within : goal.returns-clause-within
returns-clause-within c =
    let r = source_end _ c.requires.netlist.plan _ _ _ _ _ c.requires.netlist.once c.in_ok-wiring.ensures c.requires.end.1 (sym c.in_ok-from.ensures) in
    let at = c.instance_at.ensures.path _ r.2.there in
    record {
      variable = index_within _ _ _ _ _ _ at c.instance_at.ensures.within c.is_some.ensures r.2;
      composite = λ out. composite_around _ _ c.in_ok-wiring.ensures.network _ _ _ _ _ c.in_ok-wiring.ensures.is_network at (some_tested _ _ c.is_some.ensures out) r.2;
    }
