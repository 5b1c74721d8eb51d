-- What the reaction of a basic block leaves of the blocks of its resource.
use Rattle.fb_net.proofs.lemmas.Common.{◌≡◌, ℕ, ◌<◌, List, [], length, Option, Some, None, Result, Ok, Err, refl, sym, ap, subst, ◌∙◌, fun_ext, Path, Values, Basic, inputs_with, Inputs, system_of, event_at, pair_up, path_at, World, with_values, System, BasicType, Halt, Target, Value, values_of, BasicState, components_of, own_of, block_in, with_instance, Changed, block_at, put_at, InForest, IsForest, ShellRepresents, Represents, way_in, Block, Forest, Shell}
use Rattle.fb_types.proofs.Common.{ChartReacts, Moving, Position, state_of}
use Rattle.fb_types.specs.declared.value.Reason.{Reason}
use Rattle.fb_types.specs.States as model
use Rattle.fb_types.specs.declared.run.Emission as run
use Rattle.fb_types.specs.declared.run.Halt.TheVariants as halt
use Rattle.fb_ecc.specs.Indexes.{Ended, index, sampled}
use Rattle.fb_ecc.specs.Sound.{IsSound}
use Rattle.fb_net.specs.Worlds.{BasicRepresents}
use Rattle.fb_net.specs.declared.block.Block.TheVariants as block
use Rattle.fb_net.proofs.lemmas.opening.Components.{leaf_basic}
use Rattle.fb_net.proofs.lemmas.blocks.Descents.{stood_at}
use Rattle.fb_net.proofs.lemmas.values.Writing.{AreNumbered, put_forest}
use Rattle.fb_net.specs.Leaves.{ChartCame, ChartEnded, EachWorld, HasCharted, IsOne, IsReadyAt, chart_start, charted_block}
use Rattle.fb_net.proofs.lemmas.blocks.Leaves.{basic_is, stands_basic}

-- where the program's chart begins
abbrev begun : BasicType → BasicState → (event : ℕ) → List Value → (left : ℕ) → List run.Emission → Position
begun t s e values left emits =
    record (index t s.state s.frame left emits) { vars = sampled t e values (values_of s.frame) }

-- where it is
abbrev after_it : BasicType → BasicState → (left : ℕ) → List run.Emission → Position
after_it t s left emits = index t s.state s.frame left emits

abbrev reacting : BasicType → (event : ℕ) → Moving
reacting t e = ChartReacts t (event_at t.ports.event_inputs e)

-- the program's chart begins where the model's does
start_is : (t : BasicType) (s : BasicState) (b : model.Block) (e : ℕ) (values : List Value) (left : ℕ) → BasicRepresents t s b.memory b.variables
    → begun t s e values left [] ≡ chart_start t b e values left
start_is t s b e values left h =
    let vars : values_of s.frame ≡ b.variables = sym (fun_ext h.variables) in
    let state = sym (ap state_of h.memory) in
    ap (λ (vs : Values). record (after_it t s left []) { vars = with_values (pair_up (inputs_with t.ports (event_at t.ports.event_inputs e)) values) vs }) vars
    ∙ ap (λ n. record (chart_start t b e values left) { state = n }) state

-- the shell of a basic block has no part in its reaction
shell_kept : (sys : System) (p : Path) (t : BasicType) (b : model.Block) (c : Position) (s : Shell) → sys.kind p ≡ Some (Basic t) → ShellRepresents sys p s b → ShellRepresents sys p s (charted_block c b)
shell_kept sys p t b c s kind represents = record { slots = represents.slots; published = represents.published; inputs = λ no_basic. absurd (no_basic t kind) }

-- The instance is one of a basic type t.
module _ (i : Inputs) (old : Forest) (k : ℕ) (t : BasicType) (kind : (system_of i).kind (path_at (system_of i) k) ≡ Some (Basic t)) (number : k < length (system_of i).paths) where
  there : (w : World) → IsForest i old w → InForest i old k
      → (s : BasicState) × (block_at old.blocks (way_in i old.roots k) ≡ Some (block.Basic s)) × BasicRepresents t s (block_in i w k).memory (block_in i w k).variables
  there w forest lies =
      let sys = system_of i in
      let p = path_at sys k in
      let b = block_in i w k in
      let here = forest.blocks k number lies in
      let found = stood_at old.blocks (way_in i old.roots k) here.own here.stood in
      let represents : Represents sys p (own_of found.block) b = subst (λ (y : Block). Represents sys p y b) (sym found.own_is) here.represents in
      let s = stands_basic sys p found.block b represents t kind in
      (s.0, found.is ∙ ap Some s.1, subst (λ T. T) (basic_is sys p t s.0 b kind) (subst (λ (y : Block). Represents sys p (own_of y) b) s.1 represents))

  pub is_sound : IsOne i old k → IsSound t
  is_sound (w, forest, lies) = (there w forest lies).2.sound

  pub is_ready : IsOne i old k → IsReadyAt t old.blocks (way_in i old.roots k)
  is_ready (w, forest, lies) = (let s = there w forest lies in record { basic = s.0; stood = s.1; ready = s.2.block })

-- It has reacted where it is.
module _ (i : Inputs) (numbered : AreNumbered i) (old : Forest) (at : Target) (t : BasicType) (values : List Value) (before after : ℕ) (emitted emits : List run.Emission) (r : Result (Unit {0}) Halt)
    (kind : (system_of i).kind (path_at (system_of i) at.instance) ≡ Some (Basic t)) (number : at.instance < length (system_of i).paths)
    (bs : List Block) (changed : Changed (HasCharted t at.event values before emitted after emits) old.blocks (way_in i old.roots at.instance) r bs) where
  abbrev pub new : Forest
  new = record old { blocks = bs }

  abbrev came_to : BasicState
  came_to = changed.ends.state

  stood : (w : World) → IsForest i old w → InForest i old at.instance → BasicRepresents t changed.ends.basic (block_in i w at.instance).memory (block_in i w at.instance).variables
  stood w forest lies =
      let s = there i old at.instance t kind number w forest lies in
      let b = block_in i w at.instance in
      let both : own_of (block.Basic s.0) ≡ own_of (block.Basic changed.ends.basic) =
      ap own_of (same_block (block.Basic s.0) changed.before (sym s.1 ∙ changed.stood) ∙ changed.ends.was_basic) in
      subst (λ T. T) (sym (basic_is (system_of i) (path_at (system_of i) at.instance) t s.0 b kind)
      ∙ ap (λ (y : Block). Represents (system_of i) (path_at (system_of i) at.instance) y b) both
      ∙ basic_is (system_of i) (path_at (system_of i) at.instance) t changed.ends.basic b kind) s.2
    where
      same_block : (a b : Block) → Some a ≡ Some b → a ≡ b
      same_block a b e = cc

  -- the blocks represent the world with the block as it is now
  stands_after : (w : World) → IsForest i old w → InForest i old at.instance
      → IsForest i new (with_instance i at.instance (charted_block (after_it t came_to after emits) (block_in i w at.instance)) w)
  stands_after w forest lies =
      let sys = system_of i in
      let p : Path = path_at sys at.instance in
      let way = way_in i old.roots at.instance in
      let c : Position = after_it t came_to after emits in
      let b : model.Block = charted_block c (block_in i w at.instance) in
      let represents : BasicRepresents t came_to b.memory b.variables =
      record { sound = (stood w forest lies).sound; block = changed.ends.ready; memory = refl; variables = λ n. refl } in
      subst (λ (cs : List Block). IsForest i (record old { blocks = cs }) (with_instance i at.instance b w))
      (sym (changed.represents ∙ ap (put_at old.blocks way) changed.ends.is_basic))
      (put_forest i numbered old w forest at.instance number lies b changed.before (block.Basic came_to) changed.stood
      (leaf_basic came_to ∙ sym (ap components_of changed.ends.was_basic ∙ leaf_basic changed.ends.basic))
      (subst (λ T. T) (sym (basic_is sys p t came_to b kind)) represents)
      (λ s shell. shell_kept sys p t (block_in i w at.instance) c s kind shell))

  -- however the reaction has ended, each instance has its block
  pub whole_from : IsOne i old at.instance → (w : World) × IsForest i new w
  whole_from (w, forest, lies) =
      (with_instance i at.instance (charted_block (after_it t came_to after emits) (block_in i w at.instance)) w, stands_after w forest lies)

  came : (stop : Option Reason) → reacting t at.event (begun t changed.ends.basic at.event values before []) stop (after_it t came_to after emits)
      → EachWorld i old at (ChartCame i old at t values before stop new after emits)
  came stop moves w forest lies =
      let c : Position = after_it t came_to after emits in
      record {
        index = c;
        reacts = subst (λ (q : Position). reacting t at.event q stop c) (start_is t changed.ends.basic (block_in i w at.instance) at.event values before (stood w forest lies)) moves;
        represents = stands_after w forest lies;
        left = refl;
        emitted = refl;
      }

  ended : (e : Result (Unit {0}) Halt) → Ended e (reacting t at.event) (begun t changed.ends.basic at.event values before []) (after_it t came_to after emits)
      → ChartEnded i old at t values before e new after emits
  ended (Ok u) moves = came None moves
  ended (Err (halt.Stop e)) moves = came (Some e) moves
  ended (Err halt.Memory) moves = tt

  -- the reaction has ended, where nothing was emitted before
  pub ended_from : emitted ≡ [] → ChartEnded i old at t values before r new after emits
  ended_from fresh =
      ended r (subst (λ (es : List run.Emission). Ended r (reacting t at.event) (begun t changed.ends.basic at.event values before es) (after_it t came_to after emits)) fresh changed.ends.reacted)
