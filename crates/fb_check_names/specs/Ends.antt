-- Ends of connections by their names (IEC 61499-1, 5.3), and of links (this project's profile).
use Rattle.std.specs.Prelude.{[], ◌∷◌, Option, Some, None}
use Rattle.std.specs.Borrow.{Bor}
use Rattle.fb_types.specs.Names.{Name, Port}
use Rattle.fb_types.specs.declared.deploy.Link.{Link}

-- the names at an end: the component, if there is one, and the port
abbrev pub End : Type 0
End = Option (Bor Name) × Bor Name

-- the port that they represent in a network
abbrev pub end_port : End → Port
end_port e = elim e.0 [ None ↦ record { at = []; name = e.1.now } | Some c ↦ record { at = c.now ∷ []; name = e.1.now } ]

-- the resources that a link joins, in its direction
abbrev pub link_ends : Link → Name × Name
link_ends l = (l.from, l.to)
