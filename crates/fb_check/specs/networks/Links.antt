-- Links as ordered pairs of the names of resources, and the connections that have none (this project's profile).
use Rattle.std.specs.Prelude.{◌≡◌, ℕ, Bool, List, [], ◌++◌, ◌&&◌, ◌||◌, map, nat_eq, None, Some, Contains, slice_get}
use Rattle.std.specs.List.{list_any}
use Rattle.std.specs.Bool.{Decides}
use Rattle.std.specs.Ordering.{nat_cmp, ordering_then}
use Rattle.std.specs.Cmp.Lexicographic.{slice_cmp}
use Rattle.std.specs.BTreeSet.{BTreeSet, contains_by}
use Rattle.std.specs.Borrow.{Bor}
use Rattle.fb_types.specs.Names.{Name, Port, same_name}
use Rattle.fb_types.specs.Flat.{link_between, name_of_resource, port_in, resource_of}
use Rattle.fb_types.specs.Mapped.{IsCrossing}
use Rattle.fb_types.specs.declared.library.Connection.{Connection}
use Rattle.fb_types.specs.declared.library.Library.{Library}
use Rattle.fb_types.specs.declared.deploy.Plan.{Plan}
use Rattle.fb_types.specs.declared.deploy.Link.{Link}
use Rattle.fb_check_names.specs.Listed.{each_at, unless}
use Rattle.fb_check_names.specs.Sites.{connections_of}
use Rattle.fb_check_names.specs.declared.location.FlowKind.{FlowKind}
use Rattle.fb_check_names.specs.declared.location.FlowKind.TheVariants.{Data, Events}
use Rattle.fb_check_names.specs.declared.location.NoLinkAt.{NoLinkAt}

-- the ends of a connection of the application
abbrev pub pair_of : Connection → Port × Port
pair_of c = (port_in [] c.from, port_in [] c.to)

abbrev pub names_of_link : Link → Name × Name
names_of_link l = (l.from, l.to)

-- The set has the ordered pairs of resources that have a link.
pub record AreWays (links : List Link) (ways : BTreeSet (Bor Name × Bor Name)) : Type 0 where
  pub has : (from to : Name)
      → Decides (contains_by (λ k. ordering_then (slice_cmp nat_cmp from k.0.now) (slice_cmp nat_cmp to k.1.now)) ways) (Contains {X = Name × Name} (map names_of_link links) (from, to))

-- the link leads from the one resource to the other
abbrev pub is_joining : (from to : Name) → Link → Bool
is_joining from to l = same_name l.from from && same_name l.to to

abbrev pub are_linked : Plan → (from to : ℕ) → Bool
are_linked plan r s = nat_eq r s || list_any (is_joining (name_of_resource plan r) (name_of_resource plan s)) plan.links

-- one resource holds both ends, or there is a link for them
abbrev pub is_linked : Plan → Connection → Bool
is_linked plan c = are_linked plan (resource_of plan (pair_of c).0.at) (resource_of plan (pair_of c).1.at)

-- The connection is there, its ends are in two resources, and there is no link (E27).
pub record IsNoLinkAt (lib : Library) (plan : Plan) (u : NoLinkAt) : Type 0 where
  pub at_index : Connection
  pub found : slice_get (connections_of u.flow lib.application.network) u.connection ≡ Some at_index
  pub crossing : IsCrossing plan (pair_of at_index)
  pub none : link_between plan (resource_of plan (pair_of at_index).0.at) (resource_of plan (pair_of at_index).1.at) ≡ None

-- ---- All, in the order of the declaration

abbrev pub no_link_at : Plan → FlowKind → ℕ → Connection → List NoLinkAt
no_link_at plan f k c = unless (is_linked plan c) (record { flow = f; connection = k })

abbrev pub no_link_all : Library → Plan → List NoLinkAt
no_link_all lib plan =
    each_at (no_link_at plan Events) lib.application.network.event_connections ++ each_at (no_link_at plan Data) lib.application.network.data_connections
