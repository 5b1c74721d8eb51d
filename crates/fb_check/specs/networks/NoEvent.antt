-- Where no event serves a data connection between two resources (E28; that it needs a matching event connection is this
-- project's profile).
use Rattle.std.specs.Prelude.{◌≡◌, ℕ, Bool, false, ◌&&◌, ◌||◌, nat_eq, List, [], Option, Some, None, slice_get}
use Rattle.std.specs.List.{list_any}
use Rattle.fb_types.specs.Names.{Name, same_path}
use Rattle.fb_types.specs.Blocks.{Kind, among, ports_of, outputs_with}
use Rattle.fb_types.specs.Flat.{kind_at, port_in, resource_of}
use Rattle.fb_types.specs.Mapped.{IsCrossing, IsServed}
use Rattle.fb_types.specs.declared.library.Connection.{Connection}
use Rattle.fb_types.specs.declared.library.Library.{Library}
use Rattle.fb_types.specs.declared.deploy.Plan.{Plan}
use Rattle.fb_check_names.specs.Listed.{each_at, unless}
use Rattle.fb_check.specs.networks.Links.{pair_of}

-- whether an output event of the type has the variable WITH it
abbrev pub carries : Option Kind → (event variable : Name) → Bool
carries None e v = false
carries (Some k) e v = among (outputs_with (ports_of k) e) v

-- whether the connections begin at one block
abbrev pub begin_together : (c d : Connection) → Bool
begin_together c d = same_path (port_in [] c.from).at (port_in [] d.from).at

-- whether the connections lead to one resource
abbrev pub end_together : Plan → (c d : Connection) → Bool
end_together plan c d = nat_eq (resource_of plan (port_in [] c.to).at) (resource_of plan (port_in [] d.to).at)

-- whether the event brings the data: from the same block, WITH the variable, to the same resource
abbrev pub brings : Library → Plan → (d e : Connection) → Bool
brings lib plan d e =
    begin_together e d && (carries (kind_at lib (port_in [] d.from).at) e.from.port d.from.port && end_together plan e d)

-- one resource holds both ends of a connection
abbrev pub is_whole : Plan → Connection → Bool
is_whole plan d = nat_eq (resource_of plan (port_in [] d.from).at) (resource_of plan (port_in [] d.to).at)

-- one resource holds both ends, or an event serves the data connection
abbrev pub is_served : Library → Plan → Connection → Bool
is_served lib plan d = is_whole plan d || list_any (brings lib plan d) lib.application.network.event_connections

-- The data connection is there, its ends are in two resources, and no event serves it.
pub record IsNoEventAt (lib : Library) (plan : Plan) (k : ℕ) : Type 0 where
  pub at_index : Connection
  pub found : slice_get lib.application.network.data_connections k ≡ Some at_index
  pub crossing : IsCrossing plan (pair_of at_index)
  pub alone : ¬ (IsServed lib plan (pair_of at_index))

-- all such data connections, in the order of the declaration
abbrev pub no_event_at : Library → Plan → ℕ → Connection → List ℕ
no_event_at lib plan k d = unless (is_served lib plan d) k

abbrev pub no_event_all : Library → Plan → List ℕ
no_event_all lib plan = each_at (no_event_at lib plan) lib.application.network.data_connections
