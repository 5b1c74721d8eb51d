-- The flat system: instances by their paths, and connections as pairs of ports (IEC 61499-1, 5.3 and 7; links are this project's profile).
use Rattle.std.specs.Prelude.{ℕ, List, Option}
use Rattle.fb_types.specs.Names.{Name, Path, Port}
use Rattle.fb_types.specs.Blocks.{Kind}
use Rattle.fb_types.specs.declared.value.Value.{Value}

pub record System : Type 0 where
  -- the instances, in the order of their numbers
  pub paths : List Path
  pub number : Path → ℕ
  -- the type of the instance at a path
  pub kind : Path → Option Kind
  -- the resource that holds an instance
  pub resource : Path → ℕ
  -- where the event connections from a port lead, in the order of the text
  pub targets : Port → List Port
  -- what a data input, or the output of a composite from inside, is connected to
  pub source : Port → Option Port
  -- the initial value of a variable
  pub initial : Port → Value
  -- the link from a resource to another
  pub link : (from to : ℕ) → ℕ
  -- how many links there are, and the two ends of each
  pub links : ℕ
  pub sender : (link : ℕ) → ℕ
  pub receiver : (link : ℕ) → ℕ
  -- when a message arrives that is sent on a link at a tick
  pub arrival : (link sent : ℕ) → ℕ
  pub resource_names : List Name
