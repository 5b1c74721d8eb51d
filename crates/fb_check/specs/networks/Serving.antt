-- The data that event connections carry along: an output event brings the variables WITH it (IEC 61499-1, 5.2.1 and 7;
-- that a data connection between resources needs a matching event connection is this project's profile).
use Rattle.std.specs.Prelude.{◌≡◌, ◌⊎◌, ℕ, List, [], ◌∷◌, Option, Some, None, Contains, slice_get, option_and_then, IsTrue}
use Rattle.std.specs.Bool.{Decides}
use Rattle.std.specs.Ordering.{nat_cmp, ordering_then}
use Rattle.std.specs.Option.{option_cmp}
use Rattle.std.specs.BTreeSet.{BTreeSet, contains}
use Rattle.std.specs.Borrow.{Bor}
use Rattle.std.specs.declared.cmp.Ordering.{Ordering}
use Rattle.fb_types.specs.Names.{Name, Path, Port}
use Rattle.fb_types.specs.NameOrder as names
use Rattle.fb_types.specs.Blocks.{named, ports_of}
use Rattle.fb_types.specs.Flat.{kind_at, resource_of}
use Rattle.fb_types.specs.Mapped.{event_pairs_of}
use Rattle.fb_types.specs.declared.library.Library.{Library}
use Rattle.fb_types.specs.declared.library.EventPort.{EventPort}
use Rattle.fb_types.specs.declared.deploy.Plan.{Plan}
use Rattle.fb_check_names.specs.Numbers.{kind_of_number}
use Rattle.fb_check_names.specs.declared.numbers.NetworkNumbers.{NetworkNumbers}

-- ---- Variables WITH output events

-- the variables that an event of a list lists, whether they are declared or not
abbrev pub listed_with : List EventPort → Name → List Name
listed_with events e = elim (named (λ p. p.name) e events) [ None ↦ [] | Some p ↦ p.with ]

-- the variables that an output event of an instance lists
abbrev pub withs_of : Library → Port → List Name
withs_of lib q = elim (kind_at lib q.at) [ None ↦ [] | Some k ↦ listed_with (ports_of k).event_outputs q.name ]

-- the output event at which the event connection with a number begins
abbrev pub output_at : Library → NetworkNumbers → ℕ → Option EventPort
output_at lib net c =
    option_and_then (λ w. option_and_then (λ i. option_and_then (λ t.
    option_and_then (λ k. slice_get (ports_of k).event_outputs w.from.port) (kind_of_number lib t)) (slice_get net.types i)) w.from.component) (slice_get net.event_wires c)

abbrev pub withs_at : Library → NetworkNumbers → ℕ → List Name
withs_at lib net c = elim (output_at lib net c) [ None ↦ [] | Some p ↦ p.with ]

-- ---- Ends of connections with the resources to which they lead

abbrev pub Lead : Type 0
Lead = Option (Bor Name) × Bor Name × ℕ

abbrev pub name_cmp : Bor Name → Bor Name → Ordering
name_cmp x y = names.name_cmp x.now y.now

abbrev pub lead_cmp : Lead → Lead → Ordering
lead_cmp a b = ordering_then (ordering_then (option_cmp name_cmp a.0 b.0) (name_cmp a.1 b.1)) (nat_cmp a.2 b.2)

abbrev pub path_of : Option (Bor Name) → Path
path_of o = elim o [ None ↦ [] | Some c ↦ c.now ∷ [] ]

-- the port that the names represent
abbrev pub lead_port : Lead → Port
lead_port k = record { at = path_of k.0; name = k.1.now }

-- ---- What is served

-- An output event that lists the variable goes from the same instance to the resource.
abbrev pub Serves : Library → Plan → Port → ℕ → Type 0
Serves lib plan q r =
    (e : Port × Port) × Contains (event_pairs_of lib) e × (e.0.at ≡ q.at) × Contains (withs_of lib e.0) q.name × (resource_of plan e.1.at ≡ r)

-- The set has the ends that are served, with the resources.
pub record AreServed (lib : Library) (plan : Plan) (served : BTreeSet Lead) : Type 0 where
  pub has : (k : Lead) → Decides (contains lead_cmp served k) (Serves lib plan (lead_port k) k.2)

-- the names in the list, at the component, lead to the resource, in addition to what led there before
pub record IsExtended (component : Option (Bor Name)) (names : List Name) (resource : ℕ) (old new : BTreeSet Lead) : Type 0 where
  pub has : (k : Lead)
      → Decides (contains lead_cmp new k) (IsTrue (contains lead_cmp old k) ⊎ ((path_of component ≡ (lead_port k).at) × Contains names (lead_port k).name × (resource ≡ k.2)))
