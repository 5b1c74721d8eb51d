-- E26 to E28: how instances and connections are mapped to resources and links (IEC 61499-1, 7; links are this project's profile).
use Rattle.std.specs.Prelude.{◌≡◌, ◌≢◌, ◌⊎◌, List, [], ◌++◌, flat_map, if◌then◌else◌, None, Some, Contains}
use Rattle.fb_types.specs.Names.{Name, Port}
use Rattle.fb_types.specs.Blocks.{Kind, ports_of, outputs_with}
use Rattle.fb_types.specs.Flat.{pairs_in, kind_at, resource_of, link_between}
use Rattle.fb_types.specs.Repeated.{Twice, instance_names}
use Rattle.fb_types.specs.declared.library.Library.{Library}
use Rattle.fb_types.specs.declared.library.Instance.{Instance}
use Rattle.fb_types.specs.declared.deploy.Plan.{Plan}

-- the names that the resources list, each as often as it is listed
abbrev pub mapped : Library → Plan → List Name
mapped lib plan = if plan.holds_all then instance_names lib.application.network else flat_map (λ r. r.instances) plan.resources

-- E26: an instance of the application is not mapped, or a name is mapped twice.
abbrev pub NotMapped : Library → Plan → Type 0
NotMapped lib plan =
    ((i : Instance) × Contains lib.application.network.instances i × ¬ (Contains (mapped lib plan) i.name)) ⊎ Twice (mapped lib plan)

abbrev pub event_pairs_of : Library → List (Port × Port)
event_pairs_of lib = pairs_in [] lib.application.network.event_connections

abbrev pub data_pairs_of : Library → List (Port × Port)
data_pairs_of lib = pairs_in [] lib.application.network.data_connections

-- a connection whose ends are in two resources
abbrev pub IsCrossing : Plan → Port × Port → Type 0
IsCrossing plan c = resource_of plan c.0.at ≢ resource_of plan c.1.at

-- E27: a crossing connection has no link.
abbrev pub NoLink : Library → Plan → Type 0
NoLink lib plan =
    (c : Port × Port) × Contains (event_pairs_of lib ++ data_pairs_of lib) c × IsCrossing plan c
    × (link_between plan (resource_of plan c.0.at) (resource_of plan c.1.at) ≡ None)

-- An output event WITH the variable goes from the same block to the same resource.
abbrev pub IsServed : Library → Plan → Port × Port → Type 0
IsServed lib plan c =
    (e : Port × Port) × (k : Kind) × Contains (event_pairs_of lib) e × (e.0.at ≡ c.0.at) × (kind_at lib c.0.at ≡ Some k)
    × Contains (outputs_with (ports_of k) e.0.name) c.0.name × (resource_of plan e.1.at ≡ resource_of plan c.1.at)

-- E28: no event serves a crossing data connection.
abbrev pub NoEvent : Library → Plan → Type 0
NoEvent lib plan = (c : Port × Port) × Contains (data_pairs_of lib) c × IsCrossing plan c × ¬ (IsServed lib plan c)
