use Rattle.fb_system.proofs.lemmas.Common.{Some, List, length, sym, ap, ◌∙◌, option_map, Port, ConnectionEnd, port_of, NetlistTarget}
use Rattle.fb_system.proofs.lemmas.networks.EndLookups.{composite_around, more_follow, named_end, none_tested, past_all, read_at, target_end, target_is, target_past, target_small, target_within, targets_counted}
use Rattle.fb_system.proofs.tables.target_in.Goals as goal

pub returns-in_err-to-clause-leads : goal.returns-in_err-to-clause-leads
returns-in_err-to-clause-leads c = λ q key.
    ap (option_map (λ (r : NetlistTarget). port_of c.args.tables.now.library r.target)) c.from_residual-in_err-to.ensures
    ∙ sym (target_past _ c.requires.netlist.plan _ _ _ q _ c.requires.netlist.once c.in_ok-wiring.ensures key (past_all _ _ _ c.targets-ends.ensures c.in_err-to.ensures.lookup.3))

pub instance_at-requires-clause-there : goal.instance_at-requires-clause-there
instance_at-requires-clause-there c =
    let l = c.in_ok-to.ensures.lookup in
    let r = target_end _ c.requires.netlist.plan _ _ _ _ _ _ c.requires.netlist.once c.in_ok-wiring.ensures c.requires.end.1 (read_at _ _ _ _ c.targets-ends.ensures l.3.0 l.1) in
    (r.0.at, r.2.there, named_end _ _ _ _ _ _ r.2)

pub overflow_cast-result : goal.overflow_cast-result
overflow_cast-result c =
    let l = c.in_ok-to.ensures.lookup in
    let r = target_end _ c.requires.netlist.plan _ _ _ _ _ _ c.requires.netlist.once c.in_ok-wiring.ensures c.requires.end.1 (read_at _ _ _ _ c.targets-ends.ensures l.3.0 l.1) in
    record { fits = target_small _ _ _ _ c.requires.netlist.narrow r.2 }

pub returns-clause-leads : goal.returns-clause-leads
returns-clause-leads c = λ q key.
    let l = c.in_ok-to.ensures.lookup in
    let r = target_end _ c.requires.netlist.plan _ _ _ _ q _ c.requires.netlist.once c.in_ok-wiring.ensures key (read_at _ _ _ _ c.targets-ends.ensures l.3.0 l.1) in
    ap (λ (q : Port). Some q) (target_is _ _ _ r.0 _ _ (c.instance_at.ensures.path r.0.at r.2.there) (none_tested _ _ c.is_none.ensures) r.2) ∙ sym r.1

pub returns-clause-within : goal.returns-clause-within
returns-clause-within c =
    let l = c.in_ok-to.ensures.lookup in
    let r = target_end _ c.requires.netlist.plan _ _ _ _ _ _ c.requires.netlist.once c.in_ok-wiring.ensures c.requires.end.1 (read_at _ _ _ _ c.targets-ends.ensures l.3.0 l.1) in
    let at = c.instance_at.ensures.path _ r.2.there in
    let tested = none_tested _ _ c.is_none.ensures in
    record {
      port = target_within _ _ _ _ _ _ at c.instance_at.ensures.within tested r.2;
      composite = λ out. composite_around _ _ c.in_ok-wiring.ensures.network _ _ _ _ _ c.in_ok-wiring.ensures.is_network at (sym tested ∙ out) r.2;
    }

pub returns-clause-more : goal.returns-clause-more
returns-clause-more c = λ q key.
    let counted = targets_counted _ c.requires.netlist.plan _ _ _ q c.requires.netlist.once c.in_ok-wiring.ensures key in
    more_follow _ _ c.args.index (ap (λ (ends : List ConnectionEnd). length ends) c.targets-ends.ensures ∙ counted)
