-- Whether both ends of a connection are in the same resource.
use Rattle.fb_types.proofs.Common.{◌≡◌, ℕ, ◌<◌, ◌+◌, Bool, Option, Some, None, length, sym, subst, ◌∙◌, IfSome, IsTrue, ◌↔◌, nat_eq, option_map, slice_get, eq-eqb, eqb-true, path_at, port_of, System}
use Rattle.fb_types.specs.declared.run.InstanceVariable.{InstanceVariable}
use Rattle.fb_types.specs.declared.run.Target.{Target}
use Rattle.fb_system.specs.Ends.{ComesFrom, IsSourceOf, LeadsTo}
use Rattle.fb_system.specs.Ports.{AreTogether, IsSource, IsTarget, link_of}
use Rattle.fb_system.specs.declared.netlist_target.NetlistTarget.{NetlistTarget}
use Rattle.fb_system.specs.declared.next_target.NextTarget.{NextTarget}
use Rattle.fb_system.specs.declared.source.Source.{Source}

-- whether two instances are in the same resource, by the resources that were read
pub together : (sys : System) (a b one other : ℕ) → one ≡ sys.resource (path_at sys a) → other ≡ sys.resource (path_at sys b) → IsTrue (nat_eq one other) ↔ AreTogether sys a b
together sys a b one other first second = (λ yes. sym first ∙ eqb-true _ _ yes ∙ second, λ same. eq-eqb _ _ (first ∙ same ∙ sym second))

-- ---- Events

-- what a netlist says of where a connection leads
abbrev Leads : System → Target → (index : ℕ) → Option NetlistTarget → Type 0
Leads sys from index o = option_map (λ (r : NetlistTarget). port_of sys r.target) o ≡ slice_get (sys.targets (port_of sys from)) index

abbrev Follows : System → Target → (index : ℕ) → Option NetlistTarget → Type 0
Follows sys from index o = IfSome o (λ (r : NetlistTarget). IsTrue r.more ↔ (index + 1 < length (sys.targets (port_of sys from))))

pub leads_on :
    (sys : System) (from : Target) (index : ℕ) (o : Option NetlistTarget) (r : NetlistTarget) (here : Bool) (link : ℕ) → o ≡ Some r → Leads sys from index o
    → IfSome o (λ (r : NetlistTarget). IsTarget sys r.target) → Follows sys from index o → (IsTrue here ↔ AreTogether sys r.target.instance from.instance)
    → link ≡ link_of sys from.instance r.target.instance → LeadsTo sys from index (Some (record { target = r.target; more = r.more; here = here; link = link }))
leads_on sys from index o r here link is leads within more together over =
    record {
      leads = subst (λ (o : Option NetlistTarget). Leads sys from index o) is leads;
      within = subst (λ (o : Option NetlistTarget). IfSome o (λ (r : NetlistTarget). IsTarget sys r.target)) is within;
      more = subst (λ (o : Option NetlistTarget). Follows sys from index o) is more;
      here = together;
      link = over;
    }

pub leads_nowhere :
    (sys : System) (from : Target) (index : ℕ) (o : Option NetlistTarget) (n : Option NextTarget) → o ≡ None → n ≡ None → Leads sys from index o
    → LeadsTo sys from index n
leads_nowhere sys from index o n is none leads =
    subst (λ (n : Option NextTarget). LeadsTo sys from index n) (sym none)
    (record { leads = subst (λ (o : Option NetlistTarget). Leads sys from index o) is leads; within = tt; more = tt; here = tt; link = tt })

-- the instance of what was found
pub target_there : (sys : System) (o : Option NetlistTarget) (r : NetlistTarget) → o ≡ Some r → IfSome o (λ (r : NetlistTarget). IsTarget sys r.target) → r.target.instance < length sys.paths
target_there sys o r is within = (subst (λ (o : Option NetlistTarget). IfSome o (λ (r : NetlistTarget). IsTarget sys r.target)) is within).port.instance

-- ---- Variables

pub comes_from :
    (sys : System) (to : InstanceVariable) (o : Option InstanceVariable) (x : InstanceVariable) (here : Bool) → o ≡ Some x → ComesFrom sys to o
    → (IsTrue here ↔ AreTogether sys x.instance to.instance) → IsSourceOf sys to (Some (record { variable = x; here = here }))
comes_from sys to o x here is h together = record { comes = subst (λ (o : Option InstanceVariable). ComesFrom sys to o) is h; here = together }

pub comes_from_nothing :
    (sys : System) (to : InstanceVariable) (o : Option InstanceVariable) (n : Option Source) → o ≡ None → n ≡ None → ComesFrom sys to o → IsSourceOf sys to n
comes_from_nothing sys to o n is none h =
    subst (λ (n : Option Source). IsSourceOf sys to n) (sym none) (record { comes = subst (λ (o : Option InstanceVariable). ComesFrom sys to o) is h; here = tt })

pub source_there : (sys : System) (o : Option InstanceVariable) (x : InstanceVariable) → o ≡ Some x → IfSome o (IsSource sys) → x.instance < length sys.paths
source_there sys o x is within = (subst (λ (o : Option InstanceVariable). IfSome o (IsSource sys)) is within).variable.instance
