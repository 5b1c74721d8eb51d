-- What contracts say of the blocks of a system: its value is the accepted inputs, and each of these is of the flat system.
use Rattle.std.specs.Prelude.{ℕ, List}
use Rattle.fb_types.specs.Blocks.{Bound}
use Rattle.fb_types.specs.Names.{Name, Path}
use Rattle.fb_types.specs.Headline.{Inputs, system_of}
use Rattle.fb_types.specs.Reactions as reactions
use Rattle.fb_types.specs.States as model
use Rattle.fb_types.specs.declared.run.InstanceVariable.{InstanceVariable}
use Rattle.fb_types.specs.declared.run.Target.{Target}
use Rattle.fb_types.specs.declared.value.Value.{Value}
use Rattle.fb_laws.specs.Typed as typed
use Rattle.fb_types.specs.declared.run.InputValue.{InputValue}
use Rattle.fb_net.specs.Emitting as emitting
use Rattle.fb_net.specs.Outs as outs
use Rattle.fb_net.specs.Samples as samples
use Rattle.fb_net.specs.Worlds as worlds
use Rattle.fb_net.specs.declared.outbox.Out.{Out}
use Rattle.fb_net.specs.declared.outbox.Outbox.{Outbox}
use Rattle.fb_net.specs.declared.block.Block.{Block}
use Rattle.fb_net.specs.declared.shell.Shell.{Shell}

abbrev pub Represents : Inputs → Path → Block → model.Block → Type 0
Represents i = worlds.Represents (system_of i)

abbrev pub ShellRepresents : Inputs → Path → Shell → model.Block → Type 0
ShellRepresents i = worlds.ShellRepresents (system_of i)

abbrev pub IsComposite : Inputs → InstanceVariable → Type 0
IsComposite i = worlds.IsComposite (system_of i)

abbrev pub TakesSamples : Inputs → InstanceVariable → Type 0
TakesSamples i = worlds.TakesSamples (system_of i)

-- every value is of its type
abbrev pub IsTypedSystem : Inputs → Type 0
IsTypedSystem i = typed.IsTypedSystem (system_of i)

-- what a block is after a stimulus has set slots
abbrev pub slots_set : Inputs → (instance : ℕ) → List InputValue → model.Block → model.Block
slots_set i = samples.slots_set (system_of i)

-- the names of the variables WITH the event at an event input, and at an event output
abbrev pub names_in : Inputs → Target → List Name
names_in i = samples.names_in (system_of i)

abbrev pub names_out : Inputs → Target → List Name
names_out i = samples.names_out (system_of i)

-- what goes out, in the model
abbrev pub out_of : Inputs → Out → reactions.Out
out_of i = outs.out_of (system_of i)

abbrev pub IsOut : Inputs → (resource : ℕ) → Out → Type 0
IsOut i = outs.IsOut (system_of i)

abbrev pub AreOuts : Inputs → (resource : ℕ) → Outbox → Type 0
AreOuts i = outs.AreOuts (system_of i)

-- values, each with the data output at its index
abbrev pub outputs_at : Inputs → (instance : ℕ) → (indexes : List ℕ) → List Value → List Bound
outputs_at i = emitting.outputs_at (system_of i)
