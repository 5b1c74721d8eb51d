-- Where warnings are in a declaration (this project's own).
use Rattle.std.specs.Prelude.{ℕ, Option, Some, None}
use Rattle.fb_check_names.specs.declared.ports.PortKind.{PortKind}
use Rattle.fb_check_names.specs.declared.ports.PortKind.TheVariants as kind
use Rattle.fb_read_positions.specs.declared.position.Position.{Position}
use Rattle.fb_read_positions.specs.declared.position.Position.TheVariants.{InApplication, Block, InPorts, InBasic, InComposite}
use Rattle.fb_read_positions.specs.declared.position.BasicPart.TheVariants as basic
use Rattle.fb_read_positions.specs.declared.position.NetworkPart.TheVariants.{Instance, EventConnection}
use Rattle.fb_read_positions.specs.declared.position.ConnectionPart.TheVariants as end
use Rattle.fb_read_positions.specs.declared.position.PortPart.{PortPart}
use Rattle.fb_read_positions.specs.declared.position.PortPart.TheVariants as port
use Rattle.fb_read_positions.specs.declared.position.TransitionPart.TheVariants as part
use Rattle.fb_check_names.specs.declared.location.Site.{Site}
use Rattle.fb_check_names.specs.declared.location.Site.TheVariants.{Application, Inside}
use Rattle.fb_lint.specs.declared.warning.Warning.{Warning}
use Rattle.fb_lint.specs.declared.warning.Warning.TheVariants.{UnsampledInput, UnfedInput, UnsampledInGuard, UnsampledInAlgorithm, UnreachedState, FinalState, ShadowedTransition, UnnamedEvent, UnusedAlgorithm, UnusedType, UnusedPort, UnassignedEvent, UnusedLink, UnsentOutput, UnreachedInstance, UnreachedEvent, UnheldConstant, ZeroDivisor, ZeroDivisorInGuard, EndlessState, SilentSource, RepeatedLabel, UnreadInternal, EarlyStimulus}

abbrev pub port_of : PortKind → ℕ → PortPart
port_of kind.EventInput k = port.EventInput k
port_of kind.EventOutput k = port.EventOutput k
port_of kind.Input k = port.Input k
port_of kind.Output k = port.Output k

abbrev pub instance_of : Site → ℕ → Position
instance_of Application i = InApplication (Instance i)
instance_of (Inside b) i = InComposite b (Instance i)

-- an event connection, at its beginning
abbrev pub connection_of : Site → ℕ → Position
connection_of Application c = InApplication (EventConnection c end.From)
connection_of (Inside b) c = InComposite b (EventConnection c end.From)

-- a link and a stimulus are not in the declaration
abbrev pub position_of : Warning → Option Position
position_of (UnsampledInput b k) = Some (InPorts b (port.Input k))
position_of (UnfedInput s i k) = Some (instance_of s i)
position_of (UnsampledInGuard b x k) = Some (InBasic b (basic.Transition x part.Guard))
position_of (UnsampledInAlgorithm b a k) = Some (InBasic b (basic.Algorithm a))
position_of (UnreachedState b k) = Some (InBasic b (basic.State k))
position_of (FinalState b k) = Some (InBasic b (basic.State k))
position_of (ShadowedTransition b k) = Some (InBasic b (basic.Transition k part.From))
position_of (UnnamedEvent b k) = Some (InPorts b (port.EventInput k))
position_of (UnusedAlgorithm b k) = Some (InBasic b (basic.Algorithm k))
position_of (UnusedType b) = Some (Block b)
position_of (UnusedPort b p k) = Some (InPorts b (port_of p k))
position_of (UnassignedEvent b k) = Some (InPorts b (port.EventOutput k))
position_of (UnusedLink k) = None
position_of (UnsentOutput b k) = Some (InPorts b (port.Output k))
position_of (UnreachedInstance s i) = Some (instance_of s i)
position_of (UnreachedEvent s i k) = Some (instance_of s i)
position_of (UnheldConstant b a k) = Some (InBasic b (basic.Statement a k))
position_of (ZeroDivisor b a k) = Some (InBasic b (basic.Statement a k))
position_of (ZeroDivisorInGuard b x) = Some (InBasic b (basic.Transition x part.Guard))
position_of (EndlessState b s) = Some (InBasic b (basic.State s))
position_of (SilentSource s c) = Some (connection_of s c)
position_of (RepeatedLabel b a k) = Some (InBasic b (basic.Statement a k))
position_of (UnreadInternal b v) = Some (InBasic b (basic.Internal v))
position_of (EarlyStimulus s) = None
