use Rattle.fb_types.proofs.Common.{◌≡◌, ◌∙◌, ArePortsOfKinds}
use Rattle.fb_types.specs.declared.library.Library.{Library}
use Rattle.fb_system.specs.Linking.{IsLinked}
use Rattle.fb_system.proofs.lemmas.inputs.TablesOfInputs.{few_of, low_of, made, ok_read, ok_seen, once_of, view_made}
use Rattle.fb_system.proofs.system.System.of.Goals as goal

pub of-netlist-requires-clause-resolved : goal.of-netlist-requires-clause-resolved
of-netlist-requires-clause-resolved c = (_, once_of _ c.requires.accepted, c.requires.given.numbers)

pub of-netlist-requires-clause-height : goal.of-netlist-requires-clause-height
of-netlist-requires-clause-height c = low_of _ c.requires.accepted

pub of-netlist-requires-clause-few : goal.of-netlist-requires-clause-few
of-netlist-requires-clause-few c = few_of _ c.requires.accepted

pub of_tables-requires-clause-stands : goal.of_tables-requires-clause-stands
of_tables-requires-clause-stands c =
    let all = c.in_ok-rest.ensures in
    let given = c.requires.given in
    let linked = c.of-links.ensures c.args.library c.args.deploy given.numbers (once_of _ c.requires.accepted) given.holders in
    made _ _ _ _ _ _ _ _ _ _ _ _ _ c.requires.accepted given.interfaces given.rows (ok_read _ (IsLinked c.args.library c.args.deploy) _ linked all.first)
    (ok_read _ ArePortsOfKinds _ c.all_ports.ensures all.third) (ok_read _ (λ (f : Library). f ≡ c.args.library) _ c.of-netlist.ensures all.second)
    (λ j. (all.given j).0) (c.from_vec.ensures ∙ (λ j. (all.given j).1.items)) (λ j. (all.given j).2) (λ j. (all.given j).3)

pub of_tables-requires-clause-bare : goal.of_tables-requires-clause-bare
of_tables-requires-clause-bare c = record { heads = c.new-2.ensures.heads; ports = c.new-2.ensures.ports; sources = c.new-2.ensures.sources }

pub returns : goal.returns
returns c =
    let all = c.in_ok-rest.ensures in
    ok_seen _ _ _
    (view_made _ _ _ _ _ _ (ok_read _ (λ (f : Library). f ≡ c.args.library) _ c.of-netlist.ensures all.second) (λ j. (all.given j).0)
    (c.from_vec.ensures ∙ (λ j. (all.given j).1.items)))
    c.of_tables.ensures
