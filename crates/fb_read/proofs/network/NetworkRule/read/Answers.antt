use Rattle.fb_types.proofs.Common.{List, Ok, ap, sym, arith, err_from_is_err_and}
use Rattle.fb_types.specs.declared.library.Instance.{Instance}
use Rattle.fb_read.specs.Network.{network}
use Rattle.fb_read.specs.Nodes.{network_of}
use Rattle.fb_read.proofs.lemmas.rules.Counts.{instances-count}
use Rattle.fb_read.proofs.lemmas.rules.Reading.{stops, stops_later, went_on}
use Rattle.fb_read.proofs.network.NetworkRule.read.Goals as goal

pub returns-in_err-expect : goal.returns-in_err-expect
unfolding network
returns-in_err-expect c =
    let p = err_from_is_err_and c.from_residual.result c.from_residual.ensures.1 in
    rw (p.1, p.2) (stops _ _ _ _ c.in_err-expect.ensures)

pub returns-in_err-instances : goal.returns-in_err-instances
unfolding network
returns-in_err-instances c =
    let p = err_from_is_err_and c.from_residual-in_err-instances.result c.from_residual-in_err-instances.ensures.1 in
    rw (p.1, p.2) (stops_later _ _ _ _ _ _ c.in_ok-expect.ensures (stops _ _ _ _ c.in_err-instances.ensures))

pub returns-in_err-event_connections : goal.returns-in_err-event_connections
unfolding network
returns-in_err-event_connections c =
    let p = err_from_is_err_and c.from_residual-in_err-event_connections.result c.from_residual-in_err-event_connections.ensures.1 in
    rw (p.1, p.2) (stops_later _ _ _ _ _ _ c.in_ok-expect.ensures (stops_later _ _ _ _ _ _ c.in_ok-instances.ensures (stops _ _ _ _ c.in_err-event_connections.ensures)))

pub returns-in_err-data_connections : goal.returns-in_err-data_connections
unfolding network
returns-in_err-data_connections c =
    let p = err_from_is_err_and c.from_residual-in_err-data_connections.result c.from_residual-in_err-data_connections.ensures.1 in
    rw (p.1, p.2) (stops_later _ _ _ _ _ _ c.in_ok-expect.ensures (stops_later _ _ _ _ _ _ c.in_ok-instances.ensures (stops_later _ _ _ _ _ _ c.in_ok-event_connections.ensures (stops _ _ _ _ c.in_err-data_connections.ensures))))

pub returns : goal.returns
unfolding network
returns c = went_on _ _ _ _ _ c.in_ok-expect.ensures (went_on _ _ _ _ _ c.in_ok-instances.ensures (went_on _ _ _ _ _ c.in_ok-event_connections.ensures (went_on _ _ _ _ _ c.in_ok-data_connections.ensures (ap (λ (l : List Instance). Ok (network_of l c.in_ok-event_connections.event_connections c.in_ok-data_connections.data_connections, c.section-2.new.cursor)) (sym c.new.ensures)))))

pub new-requires : goal.new-requires
new-requires c = omega (arith, instances-count c.in_ok-instances.instances c.expect.new.self _ c.in_ok-instances.ensures, c.bound.ensures)
