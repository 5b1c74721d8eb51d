-- Where connections lead to and come from, by number (this project's profile).
use Rattle.std.specs.Prelude.{◌≡◌, ℕ, Bool, ◌<◌, ◌+◌, ◌↔◌, Option, length, IfSome, IsTrue, option_map, slice_get}
use Rattle.fb_types.specs.Numbers.{port_of}
use Rattle.fb_types.specs.Systems.{System}
use Rattle.fb_types.specs.declared.run.InstanceVariable.{InstanceVariable}
use Rattle.fb_types.specs.declared.run.Target.{Target}
use Rattle.fb_system.specs.declared.next_target.NextTarget.{NextTarget}
use Rattle.fb_system.specs.Ports.{AreTogether, IsSource, IsTarget, link_of, variable_of}
use Rattle.fb_system.specs.RowRanges.{AreInRanges}
use Rattle.fb_system.specs.declared.ends.Ends.{Ends}
use Rattle.fb_system.specs.declared.ends.SourceRow.{SourceRow}
use Rattle.fb_system.specs.declared.source.Source.{Source}

-- Where the event connection with an index among those from a port leads, if there is one.
pub record LeadsTo (sys : System) (from : Target) (index : ℕ) (o : Option NextTarget) : Type 0 where
  pub leads : option_map (λ (r : NextTarget). port_of sys r.target) o ≡ slice_get (sys.targets (port_of sys from)) index
  pub within : IfSome o (λ (r : NextTarget). IsTarget sys r.target)
  pub more : IfSome o (λ (r : NextTarget). IsTrue r.more ↔ (index + 1 < length (sys.targets (port_of sys from))))
  pub here : IfSome o (λ (r : NextTarget). IsTrue r.here ↔ AreTogether sys r.target.instance from.instance)
  pub link : IfSome o (λ (r : NextTarget). r.link ≡ link_of sys from.instance r.target.instance)

-- What a variable is connected to, if anything.
pub record ComesFrom (sys : System) (to : InstanceVariable) (o : Option InstanceVariable) : Type 0 where
  pub comes : option_map (variable_of sys) o ≡ sys.source (variable_of sys to)
  pub within : IfSome o (IsSource sys)

-- What a variable is connected to, if anything, and whether it is in the same resource.
pub record IsSourceOf (sys : System) (to : InstanceVariable) (o : Option Source) : Type 0 where
  pub comes : ComesFrom sys to (option_map (λ (s : Source). s.variable) o)
  pub here : IfSome o (λ (s : Source). IsTrue s.here ↔ AreTogether sys s.variable.instance to.instance)

-- The row of a data input, or of a data output, of an instance.
abbrev pub IsSourceRowAt : System → (instance : ℕ) → (is_output : Bool) → (variable : ℕ) → SourceRow → Type 0
IsSourceRowAt sys i side v r = ComesFrom sys (record { instance = i; variable = v; is_output = side }) r.source

abbrev pub AreSources : System → Ends → Type 0
AreSources sys ends = AreInRanges (IsSourceRowAt sys) ends.sources ends.source_ranges
