-- What connections and links are compared by.
use Rattle.std.specs.Prelude.{◌&&◌, Bool, List, [], ◌∷◌, map, Option, Some}
use Rattle.std.specs.Option.{option_copied}
use Rattle.std.specs.Borrow.{Bor}
use Rattle.fb_types.specs.Names.{Name, Port, same_name, same_port}
use Rattle.fb_types.specs.Flat.{port_in}
use Rattle.fb_types.specs.declared.library.Connection.{Connection}

abbrev pub same_ends : Port × Port → Port × Port → Bool
same_ends c d = same_port c.0 d.0 && same_port c.1 d.1

-- the names of two links
abbrev pub same_sides : Name × Name → Name × Name → Bool
same_sides c d = same_name c.0 d.0 && same_name c.1 d.1

-- the names at both ends of a connection: of its beginning the component, if there is one, and the port, and the same of
-- its end
abbrev pub Key : Type 0
Key = List (Option (Bor Name))

-- the names themselves
abbrev pub key_names : Key → List (Option Name)
key_names k = map option_copied k

abbrev pub names_at : Connection → List (Option Name)
names_at c = c.from.component ∷ Some c.from.port ∷ c.to.component ∷ Some c.to.port ∷ []

-- the two ports that a connection joins
abbrev pub ends_of : Connection → Port × Port
ends_of c = (port_in [] c.from, port_in [] c.to)

-- the names of the resources at both ends of a link
abbrev pub link_names : Bor Name × Bor Name → Name × Name
link_names p = (p.0.now, p.1.now)
