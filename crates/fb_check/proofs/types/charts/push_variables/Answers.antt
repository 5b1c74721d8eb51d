use Rattle.fb_check.proofs.lemmas.Common.{among, Name, names_of_kind, unless}
use Rattle.fb_check_names.specs.declared.location.UnknownName.TheVariants as location
use Rattle.fb_check_names.proofs.lemmas.Listing.{added_unless, each_done_of, each_more}
use Rattle.fb_check.proofs.types.charts.push_variables.Goals as goal

pub loop-variable-preserved : goal.loop-variable-preserved
loop-variable-preserved c =
    each_more (λ v (n : Name). unless (among (names_of_kind c.args.port_kind c.args.interface.now.ports) n) (location.With c.args.block c.args.direction c.args.event v)) c.as_slice-names.result.now c.loop-variable.variable c.index-names-variable.result c.loop-variable.found.items c.push_unless.new.found.items _
    c.loop-variable-test.true c.index-names-variable.is (added_unless c.loop-variable.found.items c.push_unless.new.found.items c.has_port-is_of_kind.result (among (names_of_kind c.args.port_kind c.args.interface.now.ports) c.index-names-variable.result) (location.With c.args.block c.args.direction c.args.event c.loop-variable.variable) c.has_port-is_of_kind.ensures c.in_ok-push_unless.ensures) c.loop-variable.invariant

pub returns : goal.returns
returns c = each_done_of (λ v (n : Name). unless (among (names_of_kind c.args.port_kind c.args.interface.now.ports) n) (location.With c.args.block c.args.direction c.args.event v)) c.as_slice-names.result.now c.args.declared.now.with c.loop-variable.variable c.args.found.now.items c.loop-variable.found.items c.as_slice-names.ensures c.loop-variable-test.false c.loop-variable.invariant
