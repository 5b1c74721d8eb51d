-- What is read at an index of a shell is what the model's block holds for the name there.
use Rattle.fb_net.proofs.lemmas.Common.{◌≡◌, ◌≢◌, ℕ, ◌<◌, suc, List, [], ◌∷◌, length, true, false, get_or, refl, ap, sym, ◌∙◌, subst, Option, Some, unwrap_or, slice_get, if◌then◌else◌, Path, Values, Basic, Composite, variable_names, Inputs, system_of, path_at, ports_at, System, BasicType, Variable, Value, InstanceVariable, IsVariable, variable_of, ShellRepresents, index_in, value_in, Forest, Shell}
use Rattle.fb_types.proofs.Common.{slice_get_read, zero_value}
use Rattle.fb_types.specs.States as model
use Rattle.fb_system.specs.Ports.{data_input, data_output, variables_at}
use Rattle.fb_net.specs.Worlds.{IsComposite, Reads, ValuesRepresent}
use Rattle.fb_types.proofs.lemmas.lists.ByIndex.{element_at}

-- ---- Values

pub as_many : (vs : List Variable) → length (variable_names vs) ≡ length vs
as_many [] = refl
as_many (v ∷ vs) = ap suc (as_many vs)

value_stands : (sys : System) (p : Path) (vs : List Variable) (values : List Value) (all : Values) → ValuesRepresent sys p (variable_names vs) values all →
    (k : ℕ) → k < length vs → value_in values k ≡ all (unwrap_or (slice_get (variable_names vs) k) [])
value_stands sys p vs values all s k h =
    let n = element_at (variable_names vs) k (subst (λ l. k < l) (sym (as_many vs)) h) in
    let v = element_at values k (subst (λ l. k < l) (sym (s.each ∙ as_many vs)) h) in
    ap (λ o. unwrap_or o zero_value) v.1 ∙ sym (s.at_index k n.0 v.0 n.1 v.1) ∙ ap (λ o. all (unwrap_or o [])) (sym n.1)

reads_at : (sys : System) (p : Path) (vs these : List Variable) → vs ≡ these → (values : List Value) (all : Values) →
    ValuesRepresent sys p (variable_names these) values all → (k : ℕ) → k < length vs → value_in values k ≡ all (unwrap_or (slice_get (variable_names vs) k) [])
reads_at sys p vs these is values all s k h =
    value_stands sys p these values all s k (subst (λ l. k < length l) is h) ∙ ap (λ l. all (unwrap_or (slice_get (variable_names l) k) [])) (sym is)

-- ---- Variables by index

-- the port of a variable, whichever variables it is among
pub variable_is : (sys : System) (x : InstanceVariable) → variable_of sys x ≡ record { at = path_at sys x.instance; name = unwrap_or (slice_get (variable_names (variables_at sys x)) x.variable) [] }
variable_is sys x =
    let its = ports_at sys (path_at sys x.instance) in
    elim x.is_output as
    (λ o. (if o then data_output sys x.instance x.variable else data_input sys x.instance x.variable)
    ≡ record { at = path_at sys x.instance; name = unwrap_or (slice_get (variable_names (if o then its.outputs else its.inputs)) x.variable) [] }) [ true ↦ refl | false ↦ refl ]

pub name_is : (sys : System) (x : InstanceVariable) → (variable_of sys x).name ≡ unwrap_or (slice_get (variable_names (variables_at sys x)) x.variable) []
name_is sys x = ap (λ q. q.name) (variable_is sys x)

pub at_is : (sys : System) (x : InstanceVariable) → (variable_of sys x).at ≡ path_at sys x.instance
at_is sys x = ap (λ q. q.at) (variable_is sys x)

-- its name is at its index
pub name_there : (sys : System) (x : InstanceVariable) → IsVariable sys x → slice_get (variable_names (variables_at sys x)) x.variable ≡ Some (variable_of sys x).name
name_there sys x variable =
    let n = element_at (variable_names (variables_at sys x)) x.variable (subst (λ l. x.variable < l) (sym (as_many (variables_at sys x))) variable.variable) in
    n.1 ∙ ap Some (sym (name_is sys x ∙ ap (λ o. unwrap_or o []) n.1))

pub among_inputs : (sys : System) (x : InstanceVariable) → x.is_output ≡ false → variables_at sys x ≡ (ports_at sys (path_at sys x.instance)).inputs
among_inputs sys x e = ap (λ o. if o then (ports_at sys (path_at sys x.instance)).outputs else (ports_at sys (path_at sys x.instance)).inputs) e

pub among_outputs : (sys : System) (x : InstanceVariable) → x.is_output ≡ true → variables_at sys x ≡ (ports_at sys (path_at sys x.instance)).outputs
among_outputs sys x e = ap (λ o. if o then (ports_at sys (path_at sys x.instance)).outputs else (ports_at sys (path_at sys x.instance)).inputs) e

-- ---- One shell

module _ (sys : System) (x : InstanceVariable) (s : Shell) (m : model.Block) (variable : IsVariable sys x) (represents : ShellRepresents sys (path_at sys x.instance) s m) where
  pub slot_stands : x.is_output ≡ false → value_in s.slots x.variable ≡ m.slots (variable_of sys x).name
  slot_stands e =
      reads_at sys (path_at sys x.instance) (variables_at sys x) _ (among_inputs sys x e) s.slots m.slots represents.slots x.variable variable.variable
      ∙ ap m.slots (sym (name_is sys x))

  pub published_stands : x.is_output ≡ true → value_in s.published x.variable ≡ m.published (variable_of sys x).name
  published_stands e =
      reads_at sys (path_at sys x.instance) (variables_at sys x) _ (among_outputs sys x e) s.published m.published represents.published x.variable variable.variable
      ∙ ap m.published (sym (name_is sys x))

  pub copy_stands : IsComposite sys x → x.is_output ≡ false → value_in s.inputs x.variable ≡ m.variables (variable_of sys x).name
  copy_stands composite e =
      reads_at sys (path_at sys x.instance) (variables_at sys x) _ (among_inputs sys x e) s.inputs m.variables (represents.inputs (λ t is. no_basic t (sym composite.1 ∙ is))) x.variable variable.variable
      ∙ ap m.variables (sym (name_is sys x))
    where
      no_basic : (t : BasicType) → Some (Composite composite.0) ≢ Some (Basic t)
      no_basic t e = cc

-- ---- The indexes

same_found : {A : Type 0} (o : Option A) (a b : A) → o ≡ Some a → o ≡ Some b → a ≡ b
same_found o a b e f = cc

-- what is read at the index that is the index of an instance is its shell
pub shell_read :
    (t : Forest) (k index : ℕ) (shells : List Shell) (s : Shell) → index_in t.shell_indexes k < length t.shells → index ≡ index_in t.shell_indexes k → shells ≡ t.shells → s ≡ get_or shells index s →
    slice_get t.shells (index_in t.shell_indexes k) ≡ Some s
shell_read t k index shells s within at same read =
    slice_get_read t.shells (length t.shells) (index_in t.shell_indexes k) s refl within
    (read ∙ ap (λ (xs : List Shell). get_or xs index s) same ∙ ap (λ (n : ℕ). get_or t.shells n s) at)

-- what the shell at the index of an instance holds is what the block of the model holds
pub shell_there_reads :
    (i : Inputs) (t : Forest) (x : InstanceVariable) (part : model.Block → Values) (s : Shell) (v : Value) → x.instance < length (system_of i).paths →
    slice_get t.shells (index_in t.shell_indexes x.instance) ≡ Some s →
    ((m : model.Block) → ShellRepresents (system_of i) (path_at (system_of i) x.instance) s m → v ≡ part m (variable_of (system_of i) x).name) →
    Reads i t x part v
shell_there_reads i t x part s v number found reads w forest within =
    let there = forest.shells x.instance number within in
    let p = path_at (system_of i) x.instance in
    reads (w.blocks p) (subst (λ (y : Shell). ShellRepresents (system_of i) p y (w.blocks p)) (same_found _ there.shell s there.stood found) there.represents)
    ∙ ap (λ q. part (w.blocks q) (variable_of (system_of i) x).name) (sym (at_is (system_of i) x))
