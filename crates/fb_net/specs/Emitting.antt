-- How the emission of an output event is done by numbers (IEC 61499-1, 5.2.2 and 5.3.2; messages are this project's profile).
use Rattle.std.specs.Prelude.{◌≡◌, ◌==◌, ℕ, List, [], ◌∷◌, ◌++◌, map, All, if◌then◌else◌}
use Rattle.std.specs.List.{zip}
use Rattle.fb_system.specs.IndexLists.{variable_at}
use Rattle.fb_system.specs.declared.next_target.NextTarget.{NextTarget}
use Rattle.fb_types.specs.Blocks.{Bound}
use Rattle.fb_types.specs.Headline.{Inputs, system_of}
use Rattle.fb_types.specs.Names.{Port}
use Rattle.fb_types.specs.Numbers.{carried_of, emission_of, pair_up, path_at, port_of, ports_at}
use Rattle.fb_types.specs.Reactions as reactions
use Rattle.fb_types.specs.Reactions.{Outcome, emitted_all, spread, with_values}
use Rattle.fb_types.specs.States as model
use Rattle.fb_types.specs.Systems.{System}
use Rattle.fb_types.specs.declared.key.Key.{Key}
use Rattle.fb_types.specs.declared.run.Carried.{Carried}
use Rattle.fb_types.specs.declared.run.Emission as run
use Rattle.fb_types.specs.declared.run.Target.{Target}
use Rattle.fb_types.specs.declared.value.Value.{Value}
use Rattle.fb_net.specs.declared.resource.Forest.{Forest}
use Rattle.fb_net.specs.Outs.{Gathered, StillAreOuts, IsOut, RepresentsOutcome, out_of}
use Rattle.fb_net.specs.declared.outbox.Out.{Out}
use Rattle.fb_net.specs.declared.outbox.Out.TheVariants.{Local, Send}
use Rattle.fb_net.specs.declared.outbox.Outbox.{Outbox}

-- what goes out to a target: a local event, or a message where the target is in another resource
abbrev pub out_at : System → (resource : ℕ) → List (Port × Value) → Port → reactions.Out
out_at sys r carried q = if sys.resource q.at == r then reactions.Local q else reactions.Sends q carried

-- the resource of a port's instance
abbrev pub home_of : Inputs → Target → ℕ
home_of i from = (system_of i).resource (path_at (system_of i) from.instance)

-- It goes out to a target, and belongs to the system.
pub record GoesTo (sys : System) (r : ℕ) (carried : List (Port × Value)) (q : Port) (out : Out) : Type 0 where
  pub is : out_of sys out ≡ out_at sys r carried q
  pub belongs : IsOut sys r out

-- It goes out to a target, after what went out before.
abbrev pub PutsOut : System → (resource : ℕ) → List (Port × Value) → Port → (before outs : List Out) → Type 0
PutsOut sys r carried q before outs = (out : Out) × GoesTo sys r carried q out × (outs ≡ before ++ out ∷ [])

-- the message to a target in another resource, by its link
abbrev pub message_to : NextTarget → List Carried → Out
message_to n carried = Send (record { link = n.link; target = n.target; values = carried })

-- what is put out to a target: a local event, or a message where the target is in another resource
abbrev pub out_to : NextTarget → List Carried → Out
out_to n carried = if n.here then Local n.target else message_to n carried

-- the emission of an event output without values
abbrev pub bare : (event : ℕ) → run.Emission
bare event = record { event = event; values = [] }

-- values, each with the data output at its index
abbrev pub outputs_at : System → (instance : ℕ) → (indexes : List ℕ) → List Value → List Bound
outputs_at sys k indexes values = pair_up (map (variable_at (ports_at sys (path_at sys k)).outputs) indexes) values

-- some data outputs show other values
abbrev pub outputs_shown : List Bound → model.Block → model.Block
outputs_shown bs b = record b { published = with_values bs b.published }

-- values, each with the number of the data output at its index
abbrev pub carried_by : (instance : ℕ) → (indexes : List ℕ) → List Value → List Carried
carried_by k indexes values = map (λ x. record { instance = k; variable = x.0; value = x.1 }) (zip indexes values)

-- The blocks and what was put out represents what the emissions of an instance make of what they represented.
abbrev pub EmitsSo : Inputs → Key → (instance : ℕ) → Forest → Outbox → List run.Emission → Forest → Outbox → Type 0
EmitsSo i key k f x es g y =
    (before : Gathered) (o : Outcome) → RepresentsOutcome i before f x o →
    RepresentsOutcome i before g y (emitted_all (system_of i) key (path_at (system_of i) k) (map (emission_of (ports_at (system_of i) (path_at (system_of i) k))) es) o)

-- An instance has emitted so.
pub record HasEmitted (i : Inputs) (key : Key) (k : ℕ) (f : Forest) (x : Outbox) (es : List run.Emission) (g : Forest) (y : Outbox) : Type 0 where
  pub emitted : EmitsSo i key k f x es g y
  pub outs : StillAreOuts i f x g y
  pub resource : g.resource ≡ f.resource

-- An event went out from a port, with these values, to where its connections lead.
pub record WentOut (i : Inputs) (from : Target) (carried : List Carried) (before outs : List Out) : Type 0 where
  pub sent : map (out_of (system_of i)) outs
      ≡ map (out_of (system_of i)) before ++ spread (system_of i) (home_of i from) (map (carried_of (system_of i)) carried) ((system_of i).targets (port_of (system_of i) from))
  pub belong : All (IsOut (system_of i) (home_of i from)) before → All (IsOut (system_of i) (home_of i from)) outs
