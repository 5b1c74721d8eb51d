-- Changes of values that keep the types, and the look-up of ports among all variables.
use Rattle.fb_types.proofs.Common.{◌≡◌, refl, sym, subst, ◌∙◌, ap, Bool, true, false, cond, List, [], ◌∷◌, ◌++◌, Option, Some, None, All, All-head, All-tail, Name, Path, with_value, same_name, Values, fits, Kind, Basic, Event, Composite, ports_of, Bound, variables_in, with_values, System, same_Some}
use Rattle.fb_types.specs.declared.library.Variable.{Variable}
use Rattle.fb_types.specs.declared.value.Value.{Value}
use Rattle.fb_types.proofs.lemmas.names.NameLaws.{same_from_same_name}
use Rattle.fb_laws.specs.Typed.{variable_named, AllFit, IsTypedSystem}
use Rattle.fb_laws.proofs.lemmas.typing.DeclaredVariables.{named-front, named-back}

-- ---- Changes of values

-- a value is of the type of the variable, if there is one
abbrev pub FitsIn : List Variable → Name → Value → Type 0
FitsIn vs n v = (x : Variable) → variable_named n vs ≡ Some x → fits x.ty v ≡ true

pub with_value-fits : (vs : List Variable) (n : Name) (v : Value) (all : Values) → FitsIn vs n v → AllFit vs all → AllFit vs (with_value n v all)
with_value-fits vs n v all f g m x h = go (same_name m n) refl
  where
    go : (b : Bool) → same_name m n ≡ b → fits x.ty (cond b v (all m)) ≡ true
    go true e = f x (subst (λ z. variable_named z vs ≡ Some x) (same_from_same_name m n e) h)
    go false e = g m x h

pub with_values-fit : (vs : List Variable) (bs : List Bound) (all : Values) → All (λ b. FitsIn vs b.variable b.value) bs → AllFit vs all
    → AllFit vs (with_values bs all)
with_values-fit vs [] all f g = g
with_values-fit vs (b ∷ bs) all f g =
    with_values-fit vs bs (with_value b.variable b.value all) (All-tail (λ b. FitsIn vs b.variable b.value) b bs f)
    (with_value-fits vs b.variable b.value all (All-head (λ b. FitsIn vs b.variable b.value) b bs f) g)

-- ---- Ports among all variables

pub kind_one : (o : Option Kind) (k l : Kind) → o ≡ Some k → o ≡ Some l → k ≡ l
kind_one o k l e f = same_Some k l (sym e ∙ f)

abbrev pub port_variables : Kind → List Variable
port_variables k = (ports_of k).inputs ++ (ports_of k).outputs

-- a variable that is a port is found as that among all variables
pub port-found : (k : Kind) (n : Name) (x : Variable) → variable_named n (port_variables k) ≡ Some x → variable_named n (variables_in k) ≡ Some x
port-found (Basic t) n x h = named-front (t.ports.inputs ++ t.ports.outputs) t.internals n x h
port-found (Event kind) n x h = h
port-found (Composite t) n x h = h

pub input-found : (k : Kind) (n : Name) (x : Variable) → variable_named n (ports_of k).inputs ≡ Some x → variable_named n (port_variables k) ≡ Some x
input-found k n x h = named-front (ports_of k).inputs (ports_of k).outputs n x h

-- what is among the variables is the port of its name, if there is one
port-first : (k : Kind) (n : Name) (x y : Variable) → variable_named n (variables_in k) ≡ Some x → variable_named n (port_variables k) ≡ Some y → x ≡ y
port-first k n x y h g = same_Some x y (sym h ∙ port-found k n y g)

pub output-found : (sys : System) → IsTypedSystem sys → (p : Path) (k : Kind) (n : Name) (x : Variable) → sys.kind p ≡ Some k
    → variable_named n (ports_of k).outputs ≡ Some x → variable_named n (port_variables k) ≡ Some x
output-found sys typed p k n x is h = go (variable_named n (ports_of k).inputs) refl
  where
    go : (o : Option Variable) → variable_named n (ports_of k).inputs ≡ o → variable_named n (port_variables k) ≡ Some x
    go None e = named-back (ports_of k).inputs (ports_of k).outputs n e ∙ h
    go (Some y) e =
        let found = input-found k n y e in
        let same : x ≡ y = port-first k n x y (typed.outputs p k n x is h) found in
        found ∙ ap Some (sym same)
