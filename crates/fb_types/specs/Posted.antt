-- The lines of emissions (this project's profile).
use Rattle.std.specs.Prelude.{false}
use Rattle.fb_types.specs.Names.{Path}
use Rattle.fb_types.specs.Blocks.{Emission}
use Rattle.fb_types.specs.States.{Line}
use Rattle.fb_types.specs.declared.key.Key.{Key}

-- the line of an emission of the instance at a path
abbrev pub emission_line : Key → Path → Emission → Line
emission_line k p e = record { key = k; taken = false; at = p; event = e.event; values = e.values }
