-- What taking an event puts out, by numbers (IEC 61499-1, 5.2.2 and 5.3.2; messages are this project's profile).
use Rattle.std.specs.Prelude.{◌≡◌, ◌≢◌, ℕ, List, [], ◌++◌, map, All}
use Rattle.fb_types.specs.Headline.{Inputs, system_of}
use Rattle.fb_types.specs.Numbers.{path_at, port_of, carried_of, line_of}
use Rattle.fb_types.specs.Reactions as reactions
use Rattle.fb_types.specs.Reactions.{Outcome}
use Rattle.fb_types.specs.States.{Line}
use Rattle.fb_types.specs.Systems.{System}
use Rattle.fb_types.specs.declared.run.Target.{Target}
use Rattle.fb_types.specs.declared.run.TimerAsk.{TimerAsk}
use Rattle.fb_types.specs.declared.run.TimerAsk.TheVariants.{Keep, Clear, At}
use Rattle.fb_system.specs.Lines.{BelongsTo}
use Rattle.fb_system.specs.Ports.{IsCarried, IsTarget}
use Rattle.fb_net.specs.Worlds.{IsForest}
use Rattle.fb_net.specs.declared.resource.Forest.{Forest}
use Rattle.fb_net.specs.declared.outbox.Out.{Out}
use Rattle.fb_net.specs.declared.outbox.Out.TheVariants.{Local, Send}
use Rattle.fb_net.specs.declared.outbox.Outbox.{Outbox}
use Rattle.fb_net.specs.declared.outbox.OutgoingMessage.{OutgoingMessage}

-- what goes out, in the model
abbrev pub out_of : System → Out → reactions.Out
out_of sys (Local t) = reactions.Local (port_of sys t)
out_of sys (Send s) = reactions.Sends (port_of sys s.target) (map (carried_of sys) s.values)

-- An event that goes to another resource goes over the link to it.
pub record IsOutgoing (sys : System) (r : ℕ) (s : OutgoingMessage) : Type 0 where
  pub target : IsTarget sys s.target
  pub away : sys.resource (path_at sys s.target.instance) ≢ r
  pub link : s.link ≡ sys.link r (sys.resource (path_at sys s.target.instance))
  pub values : All (IsCarried sys) s.values

-- An event in the same resource.
pub record IsLocal (sys : System) (r : ℕ) (t : Target) : Type 0 where
  pub target : IsTarget sys t
  pub here : sys.resource (path_at sys t.instance) ≡ r

abbrev pub IsOut : System → (resource : ℕ) → Out → Type 0
IsOut sys r (Local t) = IsLocal sys r t
IsOut sys r (Send s) = IsOutgoing sys r s

-- All that is put out of a resource belongs to the system.
pub record AreOuts (sys : System) (r : ℕ) (x : Outbox) : Type 0 where
  pub lines : All (BelongsTo sys) x.lines.items
  pub outs : All (IsOut sys r) x.outs.items

-- What is put out belongs to the system, if what was put out before does.
abbrev pub StillAreOuts : Inputs → Forest → Outbox → Forest → Outbox → Type 0
StillAreOuts i old before new x = AreOuts (system_of i) old.resource before → AreOuts (system_of i) new.resource x

-- ---- What the outbox gathers

-- What the outbox has, in the model.
pub record Gathered : Type 0 where
  pub lines : List Line
  pub outs : List reactions.Out
  pub timer : TimerAsk

abbrev pub gathered : Inputs → Outbox → Gathered
gathered i x = record { lines = map (line_of (system_of i)) x.lines.items; outs = map (out_of (system_of i)) x.outs.items; timer = x.timer }

-- lines, and nothing else
abbrev pub only_lines : List Line → Gathered
only_lines ls = record { lines = ls; outs = []; timer = Keep }

-- what is asked of a timer of which something was asked before
abbrev pub asked : (before now : TimerAsk) → TimerAsk
asked before Keep = before
asked before Clear = Clear
asked before (At tick) = At tick

-- The blocks represent the result of a reaction, and so does what was put out after what the outbox had before.
pub record RepresentsOutcome (i : Inputs) (before : Gathered) (f : Forest) (x : Outbox) (o : Outcome) : Type 0 where
  pub world : IsForest i f o.world
  pub lines : map (line_of (system_of i)) x.lines.items ≡ before.lines ++ o.lines
  pub outs : map (out_of (system_of i)) x.outs.items ≡ before.outs ++ o.outs
  pub timer : x.timer ≡ asked before.timer o.timer
