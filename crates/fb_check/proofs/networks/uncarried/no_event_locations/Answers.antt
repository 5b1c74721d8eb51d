use Rattle.fb_types.proofs.Common.{◌≡◌, ℕ, [], List, subst, sym, All, ArePortsOfKinds}
use Rattle.fb_types.specs.Mapped.{NoEvent}
use Rattle.fb_check_names.proofs.lemmas.Listing.{of_list}
use Rattle.fb_check.specs.networks.NoEvent.{IsNoEventAt}
use Rattle.fb_check.proofs.lemmas.networks.NoEvent.{each_no_event, none_no_event}
use Rattle.fb_check.proofs.networks.uncarried.no_event_locations.Goals as goal

pub serve_all-requires : goal.serve_all-requires
serve_all-requires c = record {
  events = c.new-events.ensures.empty;
  served = c.new-served.ensures.empty;
  interfaces = subst ArePortsOfKinds (sym c.as_slice.ensures) c.in_ok-interfaces.ensures;
  mapping = c.requires.mapping.holds;
  numbers = c.requires.resolved.application;
}

pub no_event_connections-requires : goal.no_event_connections-requires
no_event_connections-requires c =
    record { once = c.requires.once; mapping = c.requires.mapping.holds; numbers = c.requires.resolved.application; served = c.in_ok-serve_all.ensures }

pub returns-clause-each : goal.returns-clause-each
returns-clause-each c =
    of_list c.no_event_connections.result (λ (ps : List ℕ). All (IsNoEventAt c.args.library.now c.args.plan.now) ps) c.no_event_connections.ensures (each_no_event c.args.library.now c.args.plan.now)

pub returns-clause-none : goal.returns-clause-none
returns-clause-none c =
    of_list c.no_event_connections.result (λ (ps : List ℕ). ps ≡ [] → ¬ (NoEvent c.args.library.now c.args.plan.now)) c.no_event_connections.ensures (none_no_event c.args.library.now c.args.plan.now)
