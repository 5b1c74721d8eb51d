-- A value that is put at the index of a name is put at the name, where each name is once.
use Rattle.fb_net.proofs.lemmas.Common.{◌≡◌, ◌≢◌, ℕ, ◌<◌, zero, suc, List, [], ◌∷◌, length, Bool, true, false, Contains, refl, ap, sym, ◌∙◌, subst, inl, inr, cases_eq, true≢false, Option, Some, None, slice_get, slice_set, if◌then◌else◌, Name, Path, same_name, same_path, with_value, Values, Kind, Basic, Event, Composite, ports, ports_of, variable_names, AreAccepted, Inputs, system_of, path_at, World, with_block, Twice, System, BasicType, Ports, Value, InstanceVariable, IsVariable, variable_of, components_of, own_of, Changes, block_at, put_at, InForest, IsForest, ShellRepresents, Represents, index_in, way_in, Block, Block-F, Forest, Shell}
use Rattle.fb_types.proofs.Common.{⊎_elim}
use Rattle.fb_types.specs.States as model
use Rattle.fb_types.proofs.lemmas.names.PathLaws.{same_path_is, same_path_itself}
use Rattle.fb_types.proofs.lemmas.names.NameLaws.{any_from_contains, same_name-itself, same_name-apart}
use Rattle.fb_net.specs.Blocks.{with_input, with_published, with_slot}
use Rattle.fb_net.specs.Changes as specs
use Rattle.fb_net.specs.Trees.{PutAlone}
use Rattle.fb_net.specs.Worlds.{NodeRepresents, ShellAt, RepresentsAt, TakesSamples, ValuesRepresent, input_names, output_names, with_shell_at}
use Rattle.fb_net.specs.declared.block.Block.TheViews.{out-Block}
use Rattle.fb_net.proofs.lemmas.values.NamesDiffer.{kind_apart}
use Rattle.fb_types.proofs.lemmas.lists.ByIndex.{element_of_index}
use Rattle.fb_net.proofs.lemmas.blocks.OtherBlocks.{get_set_other, get_set_same, others_stay}
use Rattle.fb_net.proofs.lemmas.opening.ShellIndexes.{shell_indexes_differ}
use Rattle.fb_net.proofs.lemmas.blocks.WaysInTrees.{ways_differ}
use Rattle.fb_net.proofs.lemmas.values.ShownValues.{among_inputs, among_outputs, name_there}

length_set : (vs : List Value) (k : ℕ) (v : Value) → length (slice_set vs k v) ≡ length vs
length_set [] k v = refl
length_set (x ∷ vs) zero v = refl
length_set (x ∷ vs) (suc k) v = ap suc (length_set vs k v)

get_set_here : (vs : List Value) (k : ℕ) (v u : Value) → slice_get (slice_set vs k v) k ≡ Some u → u ≡ v
get_set_here [] k v u e = cc
get_set_here (x ∷ vs) zero v u e = cc
get_set_here (x ∷ vs) (suc k) v u e = get_set_here vs k v u e

-- a name that is there once is at one index
pub one_index : (names : List Name) → ¬ (Twice names) → (j k : ℕ) (n : Name) → slice_get names j ≡ Some n → slice_get names k ≡ Some n → j ≡ k
one_index [] once j k n e f = cc
one_index (m ∷ ms) once zero zero n e f = refl
one_index (m ∷ ms) once zero (suc k) n e f = absurd (once (inl (subst (λ z. Contains ms z) (same n m e) (element_of_index ms k n f))))
  where
    same : (a b : Name) → Some b ≡ Some a → a ≡ b
    same a b h = cc
one_index (m ∷ ms) once (suc j) zero n e f = absurd (once (inl (subst (λ z. Contains ms z) (same n m f) (element_of_index ms j n e))))
  where
    same : (a b : Name) → Some b ≡ Some a → a ≡ b
    same a b h = cc
one_index (m ∷ ms) once (suc j) (suc k) n e f = ap suc (one_index ms (λ t. once (inr t)) j k n e f)

module _ (sys : System) (p : Path) (names : List Name) (values : List Value) (all : Values) (stand : ValuesRepresent sys p names values all)
    (once : ¬ (Twice names)) (k : ℕ) (name : Name) (named : slice_get names k ≡ Some name) (v : Value) where
  here : (n : Name) (u : Value) → slice_get names k ≡ Some n → slice_get (slice_set values k v) k ≡ Some u → with_value name v all n ≡ u
  here n u e f =
      ap (λ b. if b then v else all n) (ap (λ m. same_name m name) (same n name (sym e ∙ named)) ∙ same_name-itself name) ∙ sym (get_set_here values k v u f)
    where
      same : (a b : Name) → Some a ≡ Some b → a ≡ b
      same a b h = cc

  there : (j : ℕ) → j ≢ k → (n : Name) (u : Value) → slice_get names j ≡ Some n → slice_get (slice_set values k v) j ≡ Some u → with_value name v all n ≡ u
  there j ne n u e f =
      ap (λ b. if b then v else all n) (same_name-apart n name (λ s. ne (one_index names once j k name (e ∙ ap Some s) named)))
      ∙ stand.at_index j n u e (sym (get_set_other values k j v ne) ∙ f)

  -- the values represent what they did, but for the name of the index
  pub values_set : ValuesRepresent sys p names (slice_set values k v) (with_value name v all)
  values_set =
      record {
        each = length_set values k v ∙ stand.each;
        at_index = λ j n u e f. ⊎_elim (λ s. here n u (sym (ap (slice_get names) s) ∙ e) (sym (ap (slice_get (slice_set values k v)) s) ∙ f)) (λ ne. there j ne n u e f) (cases_eq j k);
        others = λ n e. ap (λ b. if b then v else all n)
            (same_name-apart n name (λ s. true≢false (sym (any_from_contains n names (subst (λ m. Contains names m) (sym s) (element_of_index names k name named))) ∙ e)))
            ∙ stand.others n e;
      }

-- ---- One shell

module _ (sys : System) (p : Path) (s : Shell) (m : model.Block) (represents : ShellRepresents sys p s m) where
  -- a slot is set
  pub slot_set : ¬ (Twice (input_names sys p)) → (k : ℕ) (n : Name) → slice_get (input_names sys p) k ≡ Some n → (v : Value) →
      ShellRepresents sys p (with_slot k v s) (record m { slots = with_value n v m.slots })
  slot_set once k n named v =
      record { slots = values_set sys p (input_names sys p) s.slots m.slots represents.slots once k n named v; published = represents.published; inputs = represents.inputs }

  -- an output is published
  pub output_set : ¬ (Twice (output_names sys p)) → (k : ℕ) (n : Name) → slice_get (output_names sys p) k ≡ Some n → (v : Value) →
      ShellRepresents sys p (with_published k v s) (record m { published = with_value n v m.published })
  output_set once k n named v =
      record { slots = represents.slots; published = values_set sys p (output_names sys p) s.published m.published represents.published once k n named v; inputs = represents.inputs }

  -- a data input is sampled
  pub input_set : ¬ (Twice (input_names sys p)) → (k : ℕ) (n : Name) → slice_get (input_names sys p) k ≡ Some n → (v : Value) →
      ShellRepresents sys p (with_input k v s) (record m { variables = with_value n v m.variables })
  input_set once k n named v =
      record {
        slots = represents.slots;
        published = represents.published;
        inputs = λ no_basic. values_set sys p (input_names sys p) s.inputs m.variables (represents.inputs no_basic) once k n named v;
      }

-- what a block that is no basic one remembers is not its data inputs
pub node_kept :
    (k : Option Kind) (x : Block-F Block) (m : model.Memory) (old new : Values) → ((t : BasicType) → k ≢ Some (Basic t)) → NodeRepresents k x m old → NodeRepresents k x m new
node_kept None (Block-F.Basic s) m old new never represents = absurd represents
node_kept None (Block-F.Event s) m old new never represents = absurd represents
node_kept None (Block-F.Composite bs) m old new never represents = absurd represents
node_kept (Some (Basic t)) x m old new never represents = absurd (never t refl)
node_kept (Some (Event k)) (Block-F.Basic s) m old new never represents = absurd represents
node_kept (Some (Event k)) (Block-F.Event s) m old new never represents = represents
node_kept (Some (Event k)) (Block-F.Composite bs) m old new never represents = absurd represents
node_kept (Some (Composite t)) (Block-F.Basic s) m old new never represents = absurd represents
node_kept (Some (Composite t)) (Block-F.Event s) m old new never represents = absurd represents
node_kept (Some (Composite t)) (Block-F.Composite bs) m old new never represents = represents

-- ---- One instance among all

-- what each system keeps of its numbers
abbrev pub AreNumbered : Inputs → Type 0
AreNumbered i = (k : ℕ) → k < length (system_of i).paths → (system_of i).number (path_at (system_of i) k) ≡ k

-- What holds of one instance in its new state and of all others in their old one holds of all in the world in which that one alone has changed.
pub each_instance :
    (i : Inputs) → AreNumbered i → (w : World) (k : ℕ) → k < length (system_of i).paths → (after : model.Block) (At : ℕ → model.Block → Type 0) → At k after →
    (j : ℕ) → j < length (system_of i).paths → (j ≢ k → At j (w.blocks (path_at (system_of i) j))) → At j ((with_block (path_at (system_of i) k) after w).blocks (path_at (system_of i) j))
each_instance i numbered w k number after At here j h there = by_path (same_path (path_at (system_of i) j) (path_at (system_of i) k)) refl
  where
    by_path : (same : Bool) → same_path (path_at (system_of i) j) (path_at (system_of i) k) ≡ same → At j (if same then after else w.blocks (path_at (system_of i) j))
    by_path true e =
        let paths : path_at (system_of i) j ≡ path_at (system_of i) k = same_path_is (path_at (system_of i) j) (path_at (system_of i) k) e in
        subst (λ (m : ℕ). At m after) (sym (numbered k number) ∙ ap (system_of i).number (sym paths) ∙ numbered j h) here
    by_path false e =
        there (λ is. true≢false (sym (ap (λ (m : ℕ). same_path (path_at (system_of i) m) (path_at (system_of i) k)) is ∙ same_path_itself (path_at (system_of i) k)) ∙ e))

module _ (i : Inputs) (numbered : AreNumbered i) (t : Forest) (w : World) (forest : IsForest i t w) (k : ℕ) (number : k < length (system_of i).paths) (lies : InForest i t k) (after : model.Block) where
  -- another shell at the index of the instance
  pub shell_there_forest :
      (s : Shell) → ShellRepresents (system_of i) (path_at (system_of i) k) s after →
      ((own : Block) → Represents (system_of i) (path_at (system_of i) k) own (w.blocks (path_at (system_of i) k)) → Represents (system_of i) (path_at (system_of i) k) own after) →
      IsForest i (with_shell_at t k s) (with_block (path_at (system_of i) k) after w)
  shell_there_forest s represents kept =
      let shell_index = index_in t.shell_indexes k in
      let here = forest.shells k number lies in
      let block = forest.blocks k number lies in
      record {
        blocks = λ j h lies_j. each_instance i numbered w k number after (λ n b. RepresentsAt i t.roots t.blocks n b)
            (record { own = block.own; stood = block.stood; represents = kept block.own block.represents }) j h (λ other. forest.blocks j h lies_j);
        ways = forest.ways;
        shells = λ j h lies_j. each_instance i numbered w k number after (λ n b. ShellAt i t.shell_indexes (slice_set t.shells shell_index s) n b)
            (record { shell = s; stood = get_set_same t.shells shell_index here.shell s here.stood; represents = represents }) j h
            (λ other.
            (let there = forest.shells j h lies_j in
            record {
              shell = there.shell;
              stood =
                  get_set_other t.shells shell_index (index_in t.shell_indexes j) s
                  (λ shell_indexes. other (shell_indexes_differ i t.resource (length (system_of i).paths) t.shell_indexes forest.apart j k h number lies_j lies shell_indexes))
                  ∙ there.stood;
              represents = there.represents;
            }));
        has_shells = forest.has_shells;
        apart = forest.apart;
        held = forest.held;
      }

  -- another block on the way to the instance, with the same components
  pub put_forest :
      (b x : Block) → block_at t.blocks (way_in i t.roots k) ≡ Some b → components_of x ≡ components_of b → Represents (system_of i) (path_at (system_of i) k) (own_of x) after →
      ((s : Shell) → ShellRepresents (system_of i) (path_at (system_of i) k) s (w.blocks (path_at (system_of i) k)) → ShellRepresents (system_of i) (path_at (system_of i) k) s after) →
      IsForest i (record t { blocks = put_at t.blocks (way_in i t.roots k) x }) (with_block (path_at (system_of i) k) after w)
  put_forest b x stood same represents kept =
      let way = way_in i t.roots k in
      let put : PutAlone t.blocks way (own_of x) (put_at t.blocks way x) = others_stay t.blocks way b x stood same in
      let shell = forest.shells k number lies in
      record {
        blocks = λ j h lies_j. each_instance i numbered w k number after (λ n y. RepresentsAt i t.roots (put_at t.blocks way x) n y)
            (record { own = own_of x; stood = put.here; represents = represents }) j h
            (λ other.
            (let there = forest.blocks j h lies_j in
            record {
              own = there.own;
              stood = put.elsewhere (way_in i t.roots j) (λ ways. other (ways_differ i t.resource t.roots forest.ways j k h number lies_j lies ways)) ∙ there.stood;
              represents = there.represents;
            }));
        ways = forest.ways;
        shells = λ j h lies_j. each_instance i numbered w k number after (λ n y. ShellAt i t.shell_indexes t.shells n y)
            (record { shell = shell.shell; stood = shell.stood; represents = kept shell.shell shell.represents }) j h (λ other. forest.shells j h lies_j);
        has_shells = forest.has_shells;
        apart = forest.apart;
        held = forest.held;
      }

same_shell : (a b : Shell) → Some a ≡ Some b → a ≡ b
same_shell a b e = cc

-- ---- What is changed of an instance

pub input_there : (sys : System) (x : InstanceVariable) → IsVariable sys x → x.is_output ≡ false → slice_get (input_names sys (path_at sys x.instance)) x.variable ≡ Some (variable_of sys x).name
input_there sys x variable e = sym (ap (λ vs. slice_get (variable_names vs) x.variable) (among_inputs sys x e)) ∙ name_there sys x variable

pub output_there : (sys : System) (x : InstanceVariable) → IsVariable sys x → x.is_output ≡ true → slice_get (output_names sys (path_at sys x.instance)) x.variable ≡ Some (variable_of sys x).name
output_there sys x variable e = sym (ap (λ vs. slice_get (variable_names vs) x.variable) (among_outputs sys x e)) ∙ name_there sys x variable

pub inputs_once : (i : Inputs) → AreAccepted i → (p : Path) → ¬ (Twice (input_names (system_of i) p))
inputs_once i accepted p =
    elim ((system_of i).kind p) as (λ o. (system_of i).kind p ≡ o → (let its : Ports = elim o [ None ↦ ports [] [] [] [] | Some k ↦ ports_of k ] in ¬ (Twice (variable_names its.inputs)))) [
      | None ↦ λ e t. t
      | Some k ↦ λ e. (kind_apart i.library i.plan (λ t. accepted 20 (inl (refl, t))) p k e).inputs
    ] refl

pub outputs_once : (i : Inputs) → AreAccepted i → (p : Path) → ¬ (Twice (output_names (system_of i) p))
outputs_once i accepted p =
    elim ((system_of i).kind p) as (λ o. (system_of i).kind p ≡ o → (let its : Ports = elim o [ None ↦ ports [] [] [] [] | Some k ↦ ports_of k ] in ¬ (Twice (variable_names its.outputs)))) [
      | None ↦ λ e t. t
      | Some k ↦ λ e. (kind_apart i.library i.plan (λ t. accepted 20 (inl (refl, t))) p k e).outputs
    ] refl

module _ (i : Inputs) (accepted : AreAccepted i) (numbered : AreNumbered i) (old : Forest) (x : InstanceVariable) (variable : IsVariable (system_of i) x) (v : Value)
    (s : Shell) (found : slice_get old.shells (index_in old.shell_indexes x.instance) ≡ Some s) where
  abbrev pub path : Path
  path = path_at (system_of i) x.instance

  abbrev pub name : Name
  name = (variable_of (system_of i) x).name

  changes :
      (f : Shell → Shell) (change : model.Block → model.Block) → ((m : model.Block) → ShellRepresents (system_of i) path s m → ShellRepresents (system_of i) path (f s) (change m)) →
      ((m : model.Block) (own : Block) → Represents (system_of i) path own m → Represents (system_of i) path own (change m)) →
      Changes i old x.instance change (with_shell_at old x.instance (f s))
  changes f change keeps kept =
      record {
        resource = refl;
        represents = λ w forest lies.
            (let here = forest.shells x.instance variable.instance lies in
            shell_there_forest i numbered old w forest x.instance variable.instance lies (change (w.blocks path)) (f s)
            (keeps (w.blocks path) (subst (λ (y : Shell). ShellRepresents (system_of i) path y (w.blocks path)) (same_shell here.shell s (sym here.stood ∙ found)) here.represents))
            (kept (w.blocks path)));
      }

  pub slot_changes : x.is_output ≡ false → Changes i old x.instance (specs.slot_set name v) (with_shell_at old x.instance (with_slot x.variable v s))
  slot_changes into =
      changes (with_slot x.variable v) (specs.slot_set name v)
      (λ m represents. slot_set (system_of i) path s m represents (inputs_once i accepted path) x.variable name (input_there (system_of i) x variable into) v) (λ m own represents. represents)

  pub output_changes : x.is_output ≡ true → Changes i old x.instance (specs.output_shown name v) (with_shell_at old x.instance (with_published x.variable v s))
  output_changes out =
      changes (with_published x.variable v) (specs.output_shown name v)
      (λ m represents. output_set (system_of i) path s m represents (outputs_once i accepted path) x.variable name (output_there (system_of i) x variable out) v) (λ m own represents. represents)

  pub input_changes : x.is_output ≡ false → TakesSamples (system_of i) x → Changes i old x.instance (specs.input_sampled name v) (with_shell_at old x.instance (with_input x.variable v s))
  input_changes into takes =
      changes (with_input x.variable v) (specs.input_sampled name v)
      (λ m represents. input_set (system_of i) path s m represents (inputs_once i accepted path) x.variable name (input_there (system_of i) x variable into) v)
      (λ m own represents. node_kept ((system_of i).kind path) (out-Block own) m.memory m.variables (with_value name v m.variables) takes.no_basic represents)
