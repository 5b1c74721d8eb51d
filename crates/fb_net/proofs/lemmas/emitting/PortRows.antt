-- What the rows of event ports say, where a step of taking an event needs it.
use Rattle.fb_types.proofs.Common.{◌≡◌, ◌≢◌, ℕ, Bool, true, false, cond, List, refl, sym, subst, ap, ◌∙◌, ◌↔◌, IsTrue, Option, Some, Basic, Composite, Event, event_output, path_at, port_of, ports_at, System}
use Rattle.fb_types.specs.declared.event_kind.EventKind.{EventKind}
use Rattle.fb_types.specs.declared.library.BasicType.{BasicType}
use Rattle.fb_types.specs.declared.library.CompositeType.{CompositeType}
use Rattle.fb_types.specs.declared.run.InstanceVariable.{InstanceVariable}
use Rattle.fb_types.specs.declared.run.Target.{Target}
use Rattle.fb_types.specs.Numbers.{event_input}
use Rattle.fb_system.specs.Ends.{IsSourceOf, LeadsTo}
use Rattle.fb_system.specs.IndexLists.{AreIndexes}
use Rattle.fb_system.specs.Ports.{AreTogether, IsCompositeAt, IsTarget}
use Rattle.fb_system.specs.PortRows.{IsOneWith, IsWith, names_of, port_names, port_variables, variables_of}
use Rattle.fb_system.specs.declared.next_target.NextTarget.{NextTarget}
use Rattle.fb_system.specs.declared.port_row.With.{With}
use Rattle.fb_system.specs.declared.port_row.With.TheVariants.{Nothing, One}
use Rattle.fb_system.specs.declared.source.Source.{Source}
use Rattle.fb_net.specs.Samples.{names_in, names_out}

-- ---- A port whose direction is known

pub at_output : (at : Target) → at.is_output ≡ true → at ≡ record { instance = at.instance; event = at.event; is_output = true }
at_output at e = (let to : Bool → Target = λ b. record { instance = at.instance; event = at.event; is_output = b } in ap to e)

-- a port is of its instance
pub path-of_port : (sys : System) (at : Target) → (port_of sys at).at ≡ path_at sys at.instance
path-of_port sys at = go at.is_output
  where
    go : (b : Bool) → (cond b (event_output sys at.instance at.event) (event_input sys at.instance at.event)).at ≡ path_at sys at.instance
    go true = refl
    go false = refl

-- an event goes to a leaf at an event input
leaf_input : (sys : System) (at : Target) → IsTarget sys at → ((c : CompositeType) → sys.kind (path_at sys at.instance) ≢ Some (Composite c)) → at.is_output ≡ false
leaf_input sys at target leaf = go at.is_output refl
  where
    go : (b : Bool) → at.is_output ≡ b → at.is_output ≡ false
    go false e = e
    go true e = (let composite = target.composite e in absurd (leaf composite.0 composite.1))

pub basic_input : (sys : System) (at : Target) (t : BasicType) → IsTarget sys at → sys.kind (path_at sys at.instance) ≡ Some (Basic t) → at.is_output ≡ false
basic_input sys at t target is = leaf_input sys at target (λ c composite. (let both : Some (Basic t) ≡ Some (Composite c) = sym is ∙ composite in cc))

pub event_block_input : (sys : System) (at : Target) (kind : EventKind) → IsTarget sys at → sys.kind (path_at sys at.instance) ≡ Some (Event kind) → at.is_output ≡ false
event_block_input sys at kind target is = leaf_input sys at target (λ c composite. (let both : Some (Event kind) ≡ Some (Composite c) = sym is ∙ composite in cc))

-- a composite is no basic block, and neither is an event block
pub composite-no_basic : (sys : System) (k : ℕ) → IsCompositeAt sys k → (b : BasicType) → sys.kind (path_at sys k) ≢ Some (Basic b)
composite-no_basic sys k composite b is = let both : Some (Basic b) ≡ Some (Composite composite.0) = sym is ∙ composite.1 in absurd (cc)

pub event-no_basic : (sys : System) (k : ℕ) (kind : EventKind) → sys.kind (path_at sys k) ≡ Some (Event kind) → (b : BasicType) → sys.kind (path_at sys k) ≢ Some (Basic b)
event-no_basic sys k kind event b is = let both : Some (Basic b) ≡ Some (Event kind) = sym is ∙ event in absurd (cc)

-- ---- A part of a row that is known

pub none_with : (sys : System) (at : Target) (w : With) → w ≡ Nothing → IsWith sys at w → IsWith sys at Nothing
none_with sys at w e h = subst (λ (x : With). IsWith sys at x) e h

pub one_with : (sys : System) (at : Target) (w : With) (v : ℕ) (s : Option Source) → w ≡ One v s → IsWith sys at w → IsOneWith sys at v s
one_with sys at w v s e h = subst (λ (x : With). IsWith sys at x) e h

pub leads_to : (sys : System) (from : Target) (index : ℕ) (o : Option NextTarget) (r : NextTarget) → LeadsTo sys from index o → o ≡ Some r → LeadsTo sys from index (Some r)
leads_to sys from index o r h e = subst (λ (x : Option NextTarget). LeadsTo sys from index x) e h

pub source_of : (sys : System) (to : InstanceVariable) (o p : Option Source) → IsSourceOf sys to o → o ≡ p → IsSourceOf sys to p
source_of sys to o p h e = subst (λ (x : Option Source). IsSourceOf sys to x) e h

-- what is in one resource with an instance of a resource is in it
pub near : (sys : System) (r a b : ℕ) (here : Bool) → (IsTrue here ↔ AreTogether sys a b) → sys.resource (path_at sys b) ≡ r → IsTrue here ↔ (sys.resource (path_at sys a) ≡ r)
near sys r a b here together lies = (λ on. together.0 on ∙ lies, λ e. together.1 (e ∙ sym lies))

-- ---- The variables WITH an event input

pub indexes_in :
    (sys : System) (at : Target) (indexes : List ℕ) → at.is_output ≡ false → AreIndexes (port_variables sys at) (port_names sys at) indexes
    → AreIndexes (ports_at sys (path_at sys at.instance)).inputs (names_in sys at) indexes
indexes_in sys at indexes input h =
    let its = ports_at sys (path_at sys at.instance) in subst (λ (b : Bool). AreIndexes (variables_of its b) (names_of its b at.event) indexes) input h

pub source_in :
    (sys : System) (at : Target) (v : ℕ) (s : Option Source) → at.is_output ≡ false → IsOneWith sys at v s
    → IsSourceOf sys (record { instance = at.instance; variable = v; is_output = false }) s
source_in sys at v s input h = subst (λ (b : Bool). IsSourceOf sys (record { instance = at.instance; variable = v; is_output = b }) s) input h.comes

-- ---- The variables WITH an event output

pub indexes_out :
    (sys : System) (at : Target) (indexes : List ℕ) → at.is_output ≡ true → AreIndexes (port_variables sys at) (port_names sys at) indexes
    → AreIndexes (ports_at sys (path_at sys at.instance)).outputs (names_out sys at) indexes
indexes_out sys at indexes output h =
    let its = ports_at sys (path_at sys at.instance) in subst (λ (b : Bool). AreIndexes (variables_of its b) (names_of its b at.event) indexes) output h

pub source_out :
    (sys : System) (at : Target) (v : ℕ) (s : Option Source) → at.is_output ≡ true → IsOneWith sys at v s
    → IsSourceOf sys (record { instance = at.instance; variable = v; is_output = true }) s
source_out sys at v s output h = subst (λ (b : Bool). IsSourceOf sys (record { instance = at.instance; variable = v; is_output = b }) s) output h.comes
