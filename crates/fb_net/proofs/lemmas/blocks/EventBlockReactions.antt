-- What the reactions of an event block, to an event and to its timer, leave of the blocks of its resource.
use Rattle.fb_net.proofs.lemmas.Common.{◌≡◌, ◌≢◌, ◌<◌, ℕ, List, [], ◌++◌, length, map, Some, None, Result, Ok, Err, refl, sym, ap, subst, ◌∙◌, arith, All, slice_get, none-some, on_ok_weaker, Name, Path, Basic, Event, ports_of_event_block, variable_names, Inputs, system_of, event_at, path_at, ports_at, World, memory_of, System, EventKind, BasicType, Halt, Target, TimerAsk, Value, components_of, own_of, block_in, with_instance, Changed, block_at, put_at, InForest, IsForest, ShellRepresents, Represents, index_in, way_in, Block, Forest, Shell, IsEmission, EventCame, taken_reaction}
use Rattle.fb_types.proofs.Common.{OnOk, Memory, Reaction, reaction, expiry}
use Rattle.fb_types.specs.Numbers.{by_index}
use Rattle.fb_types.specs.States as model
use Rattle.fb_types.specs.declared.run.Emission as run
use Rattle.fb_event.specs.Reactions.{FitInputs, IsWellFormed, emissions_of, expiry_of, meanings, reaction_to}
use Rattle.fb_event.specs.State.{State}
use Rattle.fb_net.specs.Changes.{remembered}
use Rattle.fb_net.specs.Worlds.{EventRepresents, input_names}
use Rattle.fb_net.specs.declared.block.Block.TheVariants as block
use Rattle.fb_net.proofs.lemmas.opening.Components.{leaf_event}
use Rattle.fb_net.proofs.lemmas.blocks.Descents.{stood_at}
use Rattle.fb_net.proofs.lemmas.values.Writing.{AreNumbered, put_forest}
use Rattle.fb_net.specs.Leaves.{HasAnswered, HasTurned, HasTypedInputs, IsEventAt, IsOne, IsTypedAt, expiry_reaction}
use Rattle.fb_net.proofs.lemmas.blocks.Leaves.{event_is, reads_inputs, stands_event, values_by_name}

-- ---- What the shell holds

-- the block of an event block has its ports
ports_is : (sys : System) (p : Path) (k : EventKind) → sys.kind p ≡ Some (Event k) → input_names sys p ≡ variable_names (ports_of_event_block k).inputs
ports_is sys p k is = rw (is, ports_at)

-- the samples of the data inputs hold what the model's variables do
inputs_are : (sys : System) (p : Path) (k : EventKind) (shell : Shell) (b : model.Block) → sys.kind p ≡ Some (Event k) → ShellRepresents sys p shell b
    → map b.variables (variable_names (ports_of_event_block k).inputs) ≡ shell.inputs
inputs_are sys p k shell b is h =
    let stand = h.inputs (λ t e. no_basic t (sym is ∙ e)) in
    ap (map b.variables) (sym (ports_is sys p k is)) ∙ values_by_name (input_names sys p) shell.inputs b.variables stand.each stand.at_index
  where
    no_basic : (t : BasicType) → Some (Event k) ≢ Some (Basic t)
    no_basic t e = cc

-- the program's reaction to an event is the model's
taken_agrees : (sys : System) (p : Path) (k : EventKind) (s : State) (shell : Shell) (b : model.Block) (event tick : ℕ) → sys.kind p ≡ Some (Event k) → EventRepresents k s b.memory → ShellRepresents sys p shell b
    → reaction_to s event tick shell.inputs ≡ reaction k (memory_of b.memory) (event_at (ports_of_event_block k).event_inputs event) tick b.variables
taken_agrees sys p k s shell b event tick is h represents =
    let names = variable_names (ports_of_event_block k).inputs in
    let e : Name = event_at (ports_of_event_block k).event_inputs event in
    let remembered : s.memory ≡ memory_of b.memory = sym (ap memory_of h.memory) in
    ap (λ (j : EventKind). reaction j s.memory (event_at (ports_of_event_block j).event_inputs event) tick (by_index (variable_names (ports_of_event_block j).inputs) shell.inputs)) h.is_kind
    ∙ ap (λ (vs : List Value). reaction k s.memory e tick (by_index names vs)) (sym (inputs_are sys p k shell b is represents))
    ∙ reads_inputs k s.memory e tick b.variables
    ∙ ap (λ (m : Memory). reaction k m e tick b.variables) remembered

-- the reaction of an event block to its timer is the model's
expired_agrees : (k : EventKind) (s : State) (b : model.Block) (tick : ℕ) → EventRepresents k s b.memory → expiry_of s tick ≡ expiry k (memory_of b.memory) tick
expired_agrees k s b tick h =
    ap (λ (j : EventKind). expiry j s.memory tick) h.is_kind ∙ ap (λ (m : Memory). expiry k m tick) (sym (ap memory_of h.memory))

-- ---- The block before its reaction

-- The instance is one of an event block.
module _ (i : Inputs) (old : Forest) (k : ℕ) (kind : EventKind) (of_kind : (system_of i).kind (path_at (system_of i) k) ≡ Some (Event kind)) (number : k < length (system_of i).paths) where
  pub there : (w : World) → IsForest i old w → InForest i old k
      → (s : State) × (block_at old.blocks (way_in i old.roots k) ≡ Some (block.Event s)) × EventRepresents kind s (block_in i w k).memory
  there w forest lies =
      let sys = system_of i in
      let p = path_at sys k in
      let b = block_in i w k in
      let here = forest.blocks k number lies in
      let found = stood_at old.blocks (way_in i old.roots k) here.own here.stood in
      let represents : Represents sys p (own_of found.block) b = subst (λ (y : Block). Represents sys p y b) (sym found.own_is) here.represents in
      let s = stands_event sys p found.block b represents kind of_kind in
      (s.0, found.is ∙ ap Some s.1, subst (λ T. T) (event_is sys p kind s.0 b of_kind) (subst (λ (y : Block). Represents sys p (own_of y) b) s.1 represents))

  -- an event block is there
  pub event_there : IsOne i old k → IsEventAt old.blocks (way_in i old.roots k)
  event_there (w, forest, lies) = (let s = there w forest lies in (s.0, s.1))

  same_shell : (a b : Shell) → Some a ≡ Some b → a ≡ b
  same_shell a b e = cc

  shell_there : (w : World) → IsForest i old w → InForest i old k → (shell : Shell) → slice_get old.shells (index_in old.shell_indexes k) ≡ Some shell
      → ShellRepresents (system_of i) (path_at (system_of i) k) shell (block_in i w k)
  shell_there w forest lies shell found =
      let here = forest.shells k number lies in
      subst (λ (s : Shell). ShellRepresents (system_of i) (path_at (system_of i) k) s (block_in i w k)) (same_shell here.shell shell (sym here.stood ∙ found)) here.represents

  -- the data inputs of the event block hold values of their types
  pub typed_there : (w : World) → IsForest i old w → InForest i old k → HasTypedInputs i kind k w → (shell : Shell) → slice_get old.shells (index_in old.shell_indexes k) ≡ Some shell
      → IsTypedAt shell.inputs old.blocks (way_in i old.roots k)
  typed_there w forest lies fit shell found =
      let sys = system_of i in
      let p = path_at sys k in
      let b = block_in i w k in
      let s = there w forest lies in
      let hold : map b.variables (input_names sys p) ≡ shell.inputs =
      ap (map b.variables) (ports_is sys p kind of_kind) ∙ inputs_are sys p kind shell b of_kind (shell_there w forest lies shell found) in
      record {
        state = s.0;
        stood = s.1;
        typed =
            subst (λ (j : EventKind). FitInputs j shell.inputs) (sym s.2.is_kind)
            (subst (λ (vs : List Value). FitInputs kind vs) hold fit);
      }

-- no instance of the resource is without a shell
pub no_shell : (i : Inputs) (old : Forest) (k : ℕ) → k < length (system_of i).paths → (w : World) → IsForest i old w → InForest i old k → slice_get old.shells (index_in old.shell_indexes k) ≡ None → ⊥
no_shell i old k number w forest lies none = (let here = forest.shells k number lies in none-some here.shell (sym none ∙ here.stood))

-- what fits the interface of an event block by its kind
all_fit : (k : EventKind) (es : List run.Emission) → All (IsWellFormed k) es → All (IsEmission (ports_of_event_block k)) es
all_fit k es fit n d h = record { event = (fit n d h).0; values = (fit n d h).1 }

-- ---- The block has reacted where it is

module _ (i : Inputs) (numbered : AreNumbered i) (old : Forest) (k : ℕ) (number : k < length (system_of i).paths) (kind : EventKind) (of_kind : (system_of i).kind (path_at (system_of i) k) ≡ Some (Event kind))
    (turn : State → Reaction) (ask : TimerAsk) (emits : List run.Emission) (r : Result (Unit {0}) Halt) (bs : List Block)
    (changed : Changed (HasTurned turn ask emits) old.blocks (way_in i old.roots k) r bs) where
  abbrev pub new : Forest
  new = record old { blocks = bs }

  stood : (w : World) → IsForest i old w → InForest i old k → EventRepresents kind changed.ends.event (block_in i w k).memory
  stood w forest lies =
      let sys = system_of i in
      let p = path_at sys k in
      let b = block_in i w k in
      let s = there i old k kind of_kind number w forest lies in
      let both : own_of (block.Event s.0) ≡ own_of (block.Event changed.ends.event) =
      ap own_of (same_block (block.Event s.0) changed.before (sym s.1 ∙ changed.stood) ∙ changed.ends.was_event) in
      subst (λ T. T) (sym (event_is sys p kind s.0 b of_kind) ∙ ap (λ (y : Block). Represents sys p y b) both ∙ event_is sys p kind changed.ends.event b of_kind) s.2
    where
      same_block : (a b : Block) → Some a ≡ Some b → a ≡ b
      same_block a b e = cc

  stands_after : (w : World) → IsForest i old w → InForest i old k → IsForest i new (with_instance i k (remembered changed.ends.state.memory (block_in i w k)) w)
  stands_after w forest lies =
      let sys = system_of i in
      let p = path_at sys k in
      let way = way_in i old.roots k in
      let b : model.Block = remembered changed.ends.state.memory (block_in i w k) in
      let represents : EventRepresents kind changed.ends.state b.memory = record { is_kind = changed.ends.kind ∙ (stood w forest lies).is_kind; memory = refl } in
      subst (λ (cs : List Block). IsForest i (record old { blocks = cs }) (with_instance i k b w))
      (sym (changed.represents ∙ ap (put_at old.blocks way) changed.ends.is_event))
      (put_forest i numbered old w forest k number lies b changed.before (block.Event changed.ends.state) changed.stood
      (leaf_event changed.ends.state ∙ sym (ap components_of changed.ends.was_event ∙ leaf_event changed.ends.event))
      (subst (λ T. T) (sym (event_is sys p kind changed.ends.state b of_kind)) represents)
      (λ s shell. record { slots = shell.slots; published = shell.published; inputs = shell.inputs }))

  -- each instance has its block then
  pub turned_whole : IsOne i old k → (v : World) × IsForest i new v
  turned_whole (w, forest, lies) = (with_instance i k (remembered changed.ends.state.memory (block_in i w k)) w, stands_after w forest lies)

  pub turned_fit : IsOne i old k → All (IsEmission (ports_of_event_block kind)) emits
  turned_fit (w, forest, lies) =
      subst (λ (j : EventKind). All (IsEmission (ports_of_event_block j)) emits) (stood w forest lies).is_kind (all_fit changed.ends.event.kind emits changed.ends.well_formed)

  came : (model_turn : World → Reaction) → ((w : World) → IsForest i old w → InForest i old k → EventRepresents kind changed.ends.event (block_in i w k).memory → turn changed.ends.event ≡ model_turn w)
      → HasAnswered changed.ends.event.kind (turn changed.ends.event) changed.ends.state ask emits → (w : World) → IsForest i old w → InForest i old k → EventCame i k kind (model_turn w) new ask emits w
  came model_turn agrees answered w forest lies =
      let b = block_in i w k in
      let was = stood w forest lies in
      let same = agrees w forest lies was in
      let kept : changed.ends.state.memory ≡ (model_turn w).memory = answered.memory ∙ ap (λ (x : Reaction). x.memory) same in
      record {
        represents = subst (λ (m : Memory). IsForest i new (with_instance i k (remembered m b) w)) kept (stands_after w forest lies);
        timer = answered.timer ∙ ap (λ (x : Reaction). x.timer) same;
        emitted =
            subst (λ (j : EventKind). meanings j emits ≡ emissions_of j (turn changed.ends.event)) was.is_kind answered.sent
            ∙ ap (emissions_of kind) same;
      }

  -- what the reaction came to, where it is the model's
  pub turned_came : (model_turn : World → Reaction) → ((w : World) → IsForest i old w → InForest i old k → EventRepresents kind changed.ends.event (block_in i w k).memory → turn changed.ends.event ≡ model_turn w)
      → OnOk r ((w : World) → IsForest i old w → InForest i old k → EventCame i k kind (model_turn w) new ask emits w)
  turned_came model_turn agrees = on_ok_weaker r (came model_turn agrees) changed.ends.answered

-- the reaction to an event is the model's
pub taken_is : (i : Inputs) (old : Forest) (at : Target) (kind : EventKind) (tick : ℕ) (shell : Shell) → (system_of i).kind (path_at (system_of i) at.instance) ≡ Some (Event kind)
    → at.instance < length (system_of i).paths → slice_get old.shells (index_in old.shell_indexes at.instance) ≡ Some shell → (s : State)
    → (w : World) → IsForest i old w → InForest i old at.instance → EventRepresents kind s (block_in i w at.instance).memory → reaction_to s at.event tick shell.inputs ≡ taken_reaction i kind at tick w
taken_is i old at kind tick shell of_kind number found s w forest lies stood =
    taken_agrees (system_of i) (path_at (system_of i) at.instance) kind s shell (block_in i w at.instance) at.event tick of_kind stood
    (shell_there i old at.instance kind of_kind number w forest lies shell found)

-- the reaction to the timer is the model's
pub expired_is : (i : Inputs) (old : Forest) (k : ℕ) (kind : EventKind) (tick : ℕ) (s : State)
    → (w : World) → IsForest i old w → InForest i old k → EventRepresents kind s (block_in i w k).memory → expiry_of s tick ≡ expiry_reaction i kind k tick w
expired_is i old k kind tick s w forest lies stood = expired_agrees kind s (block_in i w k) tick stood

-- ---- What the program's calls promise

-- no emission is ill-formed
none_emitted : (P : run.Emission → Type 0) → All P []
none_emitted P n d lt = absurd (omega arith)

-- where nothing was emitted before, all emissions are well-formed
pub all_new : (k : EventKind) (old new : List run.Emission) → old ≡ [] → (All (IsWellFormed k) old → All (IsWellFormed k) new) → All (IsWellFormed k) new
all_new k old new fresh kept = kept (subst (λ (es : List run.Emission). All (IsWellFormed k) es) (sym fresh) (none_emitted (IsWellFormed k)))

-- the block at the index is the one whose inputs fit their types
pub typed_here :
    (slot : Block) (s t : State) (inputs : List Value) → slot ≡ block.Event t → Some slot ≡ Some (block.Event s)
    → FitInputs s.kind inputs → FitInputs t.kind inputs
typed_here slot s t inputs is stood fit =
    let same : s ≡ t = cc in subst (λ (r : State). FitInputs r.kind inputs) same fit

-- the emissions, the memory and the timer are the reaction's
pub has_answered : (r : Result (Unit {0}) Halt) (k : EventKind) (x : Reaction) (s : State) (ask : TimerAsk) (old new : List run.Emission) → old ≡ []
    → OnOk r (s.memory ≡ x.memory) → OnOk r (ask ≡ x.timer) → OnOk r (meanings k new ≡ meanings k old ++ emissions_of k x) → OnOk r (HasAnswered k x s ask new)
has_answered (Ok u) k x s ask old new fresh memory timer emitted = record {
  memory = memory;
  timer = timer;
  sent = emitted ∙ ap (λ (es : List run.Emission). meanings k es ++ emissions_of k x) fresh;
}
has_answered (Err h) k x s ask old new fresh memory timer emitted = tt
