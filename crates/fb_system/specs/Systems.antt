-- What the tables of a system represent (the numbers are this project's profile).
use Rattle.std.specs.Prelude.{◌≡◌, []}
use Rattle.fb_types.specs.EventPorts.{ArePortsOfKinds}
use Rattle.fb_types.specs.Headline.{Inputs, AreAccepted, system_of}
use Rattle.fb_check_names.specs.Numbers.{IsResolved}
use Rattle.fb_system.specs.Tables.{AreInterfaces}
use Rattle.fb_system.specs.Linking.{AreInstanceResources, IsLinked, holders_of}
use Rattle.fb_system.specs.Rows.{AreRows}
use Rattle.fb_system.specs.Ends.{AreSources}
use Rattle.fb_system.specs.PortRows.{ArePortRows}
use Rattle.fb_system.specs.Heads.{AreHeads}
use Rattle.fb_system.specs.declared.given.Given.{Given}
use Rattle.fb_system.specs.declared.kept.Kept.{Kept}
use Rattle.fb_system.specs.declared.whole.Whole.{Whole}

-- what the check makes of accepted inputs
pub record IsGiven (i : Inputs) (x : Given) : Type 0 where
  pub numbers : IsResolved i.library i.plan x.numbers
  pub holders : x.holders ≡ holders_of i.library i.plan
  pub interfaces : AreInterfaces i.library x.interfaces
  pub rows : AreRows i.library i.stimuli x.rows

-- the inputs that the tables were made from
abbrev pub inputs_of : Whole → Inputs
inputs_of w = record { library = w.netlist; plan = w.deploy; stimuli = w.stimuli }

-- Accepted inputs, with the tables in which their numbers are looked up.
pub record AreTables (w : Whole) : Type 0 where
  pub accepted : AreAccepted (inputs_of w)
  pub links : IsLinked w.netlist w.deploy w.links
  pub event_blocks : ArePortsOfKinds w.event_blocks
  pub interfaces : AreInterfaces w.netlist w.interfaces
  pub rows : AreRows w.netlist w.stimuli w.rows
  pub instance_resources : AreInstanceResources w.netlist w.deploy w.instance_resources

-- The rows that are kept are among them: heads of lines, event ports, and sources of variables.
pub record HaveRows (w : Whole) : Type 0 where
  pub tables : AreTables w
  pub heads : AreHeads (system_of (inputs_of w)) w.kept.heads
  pub ports : ArePortRows (inputs_of w) w.kept.ends
  pub sources : AreSources (system_of (inputs_of w)) w.kept.ends

-- No rows are kept.
pub record IsBare (k : Kept) : Type 0 where
  pub heads : k.heads.ranges ≡ []
  pub ports : k.ends.port_ranges ≡ []
  pub sources : k.ends.source_ranges ≡ []

-- Rows that may be kept in a system of these inputs.
pub record IsKept (i : Inputs) (k : Kept) : Type 0 where
  pub heads : AreHeads (system_of i) k.heads
  pub ports : ArePortRows i k.ends
  pub sources : AreSources (system_of i) k.ends
