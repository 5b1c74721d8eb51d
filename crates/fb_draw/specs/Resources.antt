-- Resources with their instances, and links with their latencies.
use Rattle.std.specs.Prelude.{ℕ, List, [], ◌∷◌, ◌++◌, if◌then◌else◌, ◌==◌, codes, decimal}
use Rattle.std.specs.List.{flat_map}
use Rattle.fb_types.specs.Names.{Name}
use Rattle.fb_types.specs.declared.deploy.Link.{Link}
use Rattle.fb_types.specs.declared.deploy.Plan.{Plan}
use Rattle.fb_types.specs.declared.deploy.ResourceEntry.{ResourceEntry}
use Rattle.fb_types.specs.declared.latency.Entry.{Entry}
use Rattle.fb_types.specs.declared.library.Instance.{Instance}
use Rattle.fb_types.specs.declared.library.Library.{Library}
use Rattle.fb_text.specs.Pieces.{joined}
use Rattle.fb_draw.specs.Dot.{head, foot}
use Rattle.fb_draw.specs.Networks.{network_text}

-- ---- Resources

abbrev pub member : Name → List ℕ
member n = joined (codes "    \"" ∷ n ∷ codes "\";\n" ∷ [])

abbrev pub members : Plan → List Instance → ResourceEntry → List ℕ
members plan is r = if plan.holds_all then flat_map (λ i. member i.name) is else flat_map member r.instances

-- A resource is a cluster of nodes. Links begin and end at a point in it that is not drawn.
abbrev pub resource_head : (device name : Name) → List ℕ
resource_head device name =
    joined
    (codes "  subgraph \"cluster " ∷ name ∷ codes "\" {\n    label=\"" ∷ device ∷ codes "." ∷ name ∷ codes "\";\n    \"resource "
    ∷ name ∷ codes "\" [shape=point, style=invis];\n" ∷ [])

abbrev pub resource_cluster : Plan → List Instance → ResourceEntry → List ℕ
resource_cluster plan is r = resource_head r.device r.name ++ members plan is r ++ codes "  }\n"

-- ---- Links

-- an entry of a table of latencies, with the tick from which it holds
abbrev pub entry_text : Entry → List ℕ
entry_text e = (if e.from == 0 then [] else joined (codes ", from " ∷ decimal e.from ∷ codes ": " ∷ [])) ++ decimal e.latency ++ codes " ms"

abbrev pub link_head : (from to : Name) → List ℕ
link_head from to =
    joined
    (codes "  \"resource " ∷ from ∷ codes "\" -> \"resource " ∷ to ∷ codes "\" [ltail=\"cluster " ∷ from ∷ codes "\", lhead=\"cluster "
    ∷ to ∷ codes "\", style=bold, label=\"" ∷ [])

abbrev pub link_edge : Link → List ℕ
link_edge l = link_head l.from l.to ++ flat_map entry_text l.latency ++ codes "\"];\n"

-- ---- The application

abbrev pub application_text : Library → Plan → List ℕ
application_text lib plan =
    head (codes "record") lib.application.name ++ network_text lib lib.application.network
    ++ flat_map (resource_cluster plan lib.application.network.instances) plan.resources ++ flat_map link_edge plan.links ++ foot
