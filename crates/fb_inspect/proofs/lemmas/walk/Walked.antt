-- One taking of a walk through a trace, from the reaction of one instance.
use Rattle.fb_inspect.proofs.lemmas.Common.{◌≡◌, ◌<◌, ◌≤◌, ◌^◌, ℕ, min, suc, Bool, true, false, List, [], ◌∷◌, ◌++◌, length, Option, Some, None, refl, sym, ◌∙◌, ap, subst, inl, inr, append-nil, arith, ◌==◌, ◌&&◌, if◌then◌else◌, slice_get, slice_set, take, list_any, false_from_ne_true, nat_tests, slice_get_within, Basic, Composite, Emission, Event, Kind, Position, Name, Path, same_path, event_at, line_of, path_at, ports_at, state_of, with_values, System, line_text, Values, EventKind, Key, BasicType, BlockType, CompositeType, EventPort, Ports, Form, Line, Reason, values_of, FitInputs, IsLineOf, ChartMarks, Marks, Page, Piece, ShowsReaction, is_loss, ChartGoes, place, sys_of, left_of, IsTaking, IsTakingAt, IsTakingWith, Left, Look, Seen, Taking, emissions_by, emits_pieces, left_at, memory_pieces, pieces_text, reacted, with_left, with_seen, PiecesMark, event_number, Goes, StaysAlone, shown_text, IsBlockKept, taken_reaction, AreKept, IsKept, IsLookOf, WalkTakes, Chart, EventBlock, Remembered, ChartTaking, TickSteps, Trail, Walk}
use Rattle.fb_types.proofs.Common.{◌≢◌, take_at}
use Rattle.std.proofs.Math.ListN.{length-set}
use Rattle.fb_types.specs.States as model
use Rattle.fb_types.specs.declared.library.BlockType.TheVariants as declared
use Rattle.fb_types.proofs.lemmas.lists.ByIndex.{element_at}
use Rattle.fb_types.proofs.lemmas.names.PathLaws.{same_path_is, same_path_itself}
use Rattle.fb_ecc.specs.Indexes.{sampled}
use Rattle.fb_ecc.specs.Sound.{IsSound}
use Rattle.fb_net.proofs.lemmas.blocks.OtherBlocks.{get_set_other, get_set_same}
use Rattle.fb_net.proofs.lemmas.values.Sampling.{ports-of_kind}
use Rattle.fb_coverage.specs.Sets.{with_taken}
use Rattle.fb_inspect.specs.Selections.{is_wanted}
use Rattle.fb_inspect.specs.walk.Charting.{IsChartOf, IsChartTaking}
use Rattle.fb_inspect.specs.walk.Looks.{IsTakingByBlock, IsTakingByChart, IsTakingByTimer, taking_text}
use Rattle.fb_inspect.specs.Markings.{ChartMarked, TakingMarks, TakingMarksAt}
use Rattle.fb_inspect.specs.walk.Timing.{BlockGoes, IsBlockLine, TimerGoes, taken_variables, timer_reaction}
use Rattle.fb_inspect.specs.walk.Walking.{CanReact, HasStepped, IsChartKept, KeptGoes, ReactGoes, has_lost, is_chart, may_show, with_steps}
use Rattle.fb_inspect.specs.declared.walk.blocks.Remembered.TheVariants as kept
use Rattle.fb_inspect.proofs.lemmas.marks.Losses.{loss_is}
use Rattle.fb_inspect.proofs.lemmas.marks.Marked.{event_number_at}
use Rattle.fb_inspect.proofs.lemmas.lines.Moving.{aside, goes_as, goes_same, goes_then, shown-append}
use Rattle.fb_inspect.proofs.lemmas.reactions.Timed.{taken_is}

-- ---- What is kept of an instance, by its kind

pub kept_chart : (k : Option Kind) (c : Chart) (s : Seen) → IsKept k (kept.Basic c) s → (t : BasicType) × (k ≡ Some (Basic t)) × IsChartKept t c s
kept_chart None c s h = absurd h
kept_chart (Some (Basic t)) c s h = (t, refl, h)
kept_chart (Some (Event e)) c s h = absurd h
kept_chart (Some (Composite t)) c s h = absurd h

kept_event : (k : Option Kind) (b : EventBlock) (s : Seen) → IsKept k (kept.Event b) s → (e : EventKind) × (k ≡ Some (Event e)) × IsBlockKept e b s
kept_event None b s h = absurd h
kept_event (Some (Basic t)) b s h = absurd h
kept_event (Some (Event e)) b s h = (e, refl, h)
kept_event (Some (Composite t)) b s h = absurd h

kept_composite : (k : Option Kind) (s : Seen) → IsKept k kept.Composite s → (t : CompositeType) × (k ≡ Some (Composite t))
kept_composite None s h = absurd h
kept_composite (Some (Basic t)) s h = absurd h
kept_composite (Some (Event e)) s h = absurd h
kept_composite (Some (Composite t)) s h = (t, refl)

same_basic : (t u : BasicType) (k : Option Kind) → k ≡ Some (Basic t) → k ≡ Some (Basic u) → t ≡ u
same_basic t u k h i = cc

-- what is kept of a basic block whose type is known
pub chart_kept_at : (k : Option Kind) (t : BasicType) (c : Chart) (s : Seen) → k ≡ Some (Basic t) → IsKept k (kept.Basic c) s → IsChartKept t c s
chart_kept_at k t c s is h =
    let one = kept_chart k c s h in
    subst (λ (u : BasicType). IsChartKept u c s) (same_basic one.0 t k one.1 is) one.2

module _ (sys : System) (form : Form) (b : EventBlock) (line : Line) (text : List ℕ) (can : CanReact sys form (kept.Event b) line text) where
  abbrev at : Path
  at = path_at sys line.instance

  abbrev found : (e : EventKind) × (sys.kind at ≡ Some (Event e)) × IsBlockKept e b can.seen
  found = kept_event (sys.kind at) b can.seen can.kept

  pub event_line : IsBlockLine sys b line
  event_line = record {
    line = can.is.line;
    kind = found.1 ∙ ap (λ (e : EventKind). Some (Event e)) (sym found.2.kind_is);
    early = can.early;
    typed = subst (λ (e : EventKind). FitInputs e b.inputs) (sym found.2.kind_is) found.2.typed;
  }

pub event_kept_at : (k : Option Kind) (b : EventBlock) (s : Seen) → IsKept k (kept.Event b) s → IsBlockKept b.state.kind b s
event_kept_at k b s h = (let one = kept_event k b s h in subst (λ (e : EventKind). IsBlockKept e b s) (sym one.2.kind_is) one.2)

-- ---- The look after a taking

-- what an instance remembers done
seen_here : (p : Path) (s : Seen) (look : Look) → (with_seen p s look).blocks p ≡ s
seen_here p s look = ap (λ (b : Bool). if b then s else look.blocks p) (same_path_itself p)

seen_there : (p q : Path) (s : Seen) (look : Look) → same_path q p ≡ false → (with_seen p s look).blocks q ≡ look.blocks q
seen_there p q s look apart = ap (λ (b : Bool). if b then s else look.blocks q) apart

-- a line, and what is shown of the reaction to it
module _ (sys : System) (form : Form) (line : Line) where
  abbrev first : model.Line
  first = line_of sys line

  walk_takes :
      (a y z : Trail) (ls : List Line) (ps : List Piece) (l k j : Option (List ℕ))
      → Goes sys form line.key.tick (line ∷ []) (shown_text a.is_shown (line_text form sys first)) a y l k
      → Goes sys form line.key.tick ls (shown_text y.is_shown (pieces_text form sys first ps)) y z k j
      → Goes sys form line.key.tick (line ∷ ls) (shown_text a.is_shown (line_text form sys first ++ pieces_text form sys first ps)) a z l j
  walk_takes a y z ls ps l k j passed goes =
      goes_as sys form line.key.tick a z (line ∷ ls) _ _ l j
      (ap (λ (v : Bool). shown_text a.is_shown (line_text form sys first) ++ shown_text v (pieces_text form sys first ps)) passed.kept
      ∙ sym (shown-append a.is_shown (line_text form sys first) (pieces_text form sys first ps)))
      (goes_then sys form line.key.tick a y z (line ∷ []) ls _ _ l k j passed goes)

-- ---- A basic block

abbrev events_if : System → Line → Bool → List EventPort
events_if sys l t = let own = ports_at sys (path_at sys l.instance) in if t then own.event_inputs else own.event_outputs

-- a line of a basic block that takes an event
pub chart_taking :
    (x : ChartTaking) → IsLineOf (sys_of x) x.line.now → x.line.now.taken ≡ true
    → (sys_of x).kind (path_at (sys_of x) x.line.now.instance) ≡ Some (Basic x.block.now) → IsSound x.block.now
    → slice_get x.fixed.table.now.system.now.library.blocks x.number ≡ Some (declared.Basic x.block.now) → IsChartTaking x
chart_taking x line taken kind sound number = record {
  line = line;
  taken = taken;
  kind = kind;
  sound = sound;
  number = number;
  event = subst (λ (own : Ports). x.line.now.event < length own.event_inputs) (ports-of_kind (sys_of x) (path_at (sys_of x) x.line.now.instance) (Basic x.block.now) kind)
      (subst (λ (es : List EventPort). x.line.now.event < length es) (ap (events_if (sys_of x) x.line.now) taken) line.belongs.event);
}

module _ (x : ChartTaking) (look : Look) (c d : Chart) (left steps : ℕ) (stop : Option Reason) where
  abbrev pub basic : BasicType
  basic = x.block.now

  abbrev pub line : Line
  line = x.line.now

  abbrev pub path : Path
  path = path_at (sys_of x) line.instance

  abbrev pub before : Seen
  before = look.blocks path

  abbrev pub begun : Position
  begun = record (place basic c left) { vars = sampled basic line.event line.values (values_of c.state.frame) }

  abbrev pub started : Position
  started = record {
    state = state_of before.memory;
    vars = with_values (line_of (sys_of x) line).values before.variables;
    left = left;
    emitted = [];
  }

  pub starts : IsChartTaking x → IsChartKept basic c before → begun ≡ started
  starts taking is =
      let here = taken_is (sys_of x) basic.ports line taking.taken (ports-of_kind (sys_of x) path (Basic basic) taking.kind) in
      let all : before.variables ≡ values_of c.state.frame = (λ i. λ n. is.variables_are n i) in
      ap (λ (n : Name). record begun { state = n }) (sym (ap state_of is.memory_is))
      ∙ ap (λ (v : Values). record started { vars = v })
      (ap (sampled basic line.event line.values) (sym all) ∙ ap (λ (m : model.Line). with_values m.values before.variables) (sym here))

  pub chart_goes :
      (a y z : Trail) (m : ChartMarks) (l k j : Option (List ℕ)) → IsChartTaking x → IsChartKept basic c before → y.marks.charts ≡ a.marks.charts
      → m ≡ with_taken x.number line.event y.marks.charts
      → Goes (sys_of x) x.fixed.form line.key.tick (line ∷ []) (shown_text a.is_shown (line_text x.fixed.form (sys_of x) (line_of (sys_of x) line))) a y l k
      → StaysAlone a.reading y.reading l k
      → ChartGoes x (ShowsReaction basic (event_at basic.ports.event_inputs line.event)) begun stop (place basic d steps) (record y { marks = record (y.marks) { charts = m } }) z k j
      → IsChartOf basic d → KeptGoes x.fixed.table.now.system.now.library.blocks (sys_of x) x.fixed.form look left line stop (kept.Basic d) steps a z l j
  chart_goes a y z m l k j taking is charts_are taken_marked passed stays goes chart =
      let end : Position = record (place basic d steps) { emitted = goes.emits } in
      let after_seen : Seen = record before { memory = model.InState end.state; variables = end.vars } in
      let here = taken_is (sys_of x) basic.ports line taking.taken (ports-of_kind (sys_of x) path (Basic basic) taking.kind) in
      let marked_trail : Trail = record y { marks = record (y.marks) { charts = m } } in
      let it : Taking = record {
        first = line_of (sys_of x) line;
        emits = goes.emits;
        pieces = goes.pieces;
        stop = stop;
        after = with_seen path after_seen (with_left line.key steps look);
      } in
      let chart_kept : IsChartKept basic d after_seen = record {
        sound = is.sound;
        chart = chart;
        memory_is = refl;
        variables_are = λ n. refl;
      } in
      let numbered : event_number basic (line_of (sys_of x) line).event ≡ line.event =
      ap (λ (n : model.Line). event_number basic n.event) here ∙ event_number_at basic line.event taking.sound taking.event in
      let marked : ChartMarked x.fixed.table.now.system.now.library.blocks basic it a.marks.charts z.marks.charts = record {
        number = x.number;
        type_is = taking.number;
        pieces = subst (λ (e : ℕ). PiecesMark basic x.number e goes.pieces (with_taken x.number e a.marks.charts) z.marks.charts) (sym numbered)
            (subst (λ (n : ChartMarks). PiecesMark basic x.number line.event goes.pieces n z.marks.charts) (taken_marked ∙ ap (with_taken x.number line.event) charts_are) goes.marked);
      } in
      let is_taking : IsTakingByChart left look basic it = record {
        taken = taking.taken;
        end = end;
        shown = subst (λ (e : Name). ShowsReaction basic e started stop end goes.pieces) (ap (λ (m : model.Line). m.event) (sym here))
            (subst (λ (p : Position). ShowsReaction basic (event_at basic.ports.event_inputs line.event) p stop end goes.pieces) (starts taking is) goes.shows);
        emitted = refl;
        is = refl;
      } in
      record {
        taking = it;
        first_is = refl;
        stop_is = refl;
        is_taking = subst (λ (o : Option Kind). IsTakingAt left look o it) (sym taking.kind) is_taking;
        kept = subst (λ (v : Seen). IsKept ((sys_of x).kind path) (kept.Basic d) v) (sym (seen_here path after_seen (with_left line.key steps look)))
            (subst (λ (o : Option Kind). IsKept o (kept.Basic d) after_seen) (sym taking.kind) chart_kept);
        others = λ q apart. seen_there path q after_seen (with_left line.key steps look) apart;
        steps_are = refl;
        lines = line ∷ goes.lines;
        lines_are = ap (λ (ls : List model.Line). line_of (sys_of x) line ∷ ls) goes.are;
        goes = walk_takes (sys_of x) x.fixed.form line a y z goes.lines goes.pieces l k j passed
            (goes_same (sys_of x) x.fixed.form line.key.tick goes.lines (shown_text y.is_shown (pieces_text x.fixed.form (sys_of x) (line_of (sys_of x) line) goes.pieces)) marked_trail y z k j
            (aside y marked_trail refl refl refl refl) refl refl goes.goes);
        marked = subst (λ (o : Option Kind). TakingMarksAt x.fixed.table.now.system.now.library.blocks o it a.marks.charts z.marks.charts) (sym taking.kind) marked;
        alone = λ alone. goes.alone (stays alone);
      }

-- ---- An event block

module _ (types : List BlockType) (sys : System) (form : Form) (look : Look) (left : ℕ) (event_line_of : Line) (b d : EventBlock) (kind_is : sys.kind (path_at sys event_line_of.instance) ≡ Some (Event b.state.kind)) where
  abbrev own : Line
  own = event_line_of

  abbrev there : Path
  there = path_at sys own.instance

  abbrev was : Seen
  was = look.blocks there

  kept_then : (s : Seen) → IsBlockKept b.state.kind d s → IsKept (sys.kind there) (kept.Event d) ((with_seen there s (with_left own.key left look)).blocks there)
  kept_then s is =
      subst (λ (v : Seen). IsKept (sys.kind there) (kept.Event d) v) (sym (seen_here there s (with_left own.key left look)))
      (subst (λ (o : Option Kind). IsKept o (kept.Event d) s) (sym kind_is) is)

  pub event_goes :
      (a y z : Trail) (l k j : Option (List ℕ)) → own.taken ≡ true → z.marks.charts ≡ a.marks.charts
      → Goes sys form own.key.tick (own ∷ []) (shown_text a.is_shown (line_text form sys (line_of sys own))) a y l k
      → StaysAlone a.reading y.reading l k
      → BlockGoes sys form b.state.kind own (taken_reaction sys b.state.kind was own) (taken_variables sys was own) was.due was d y z k j
      → KeptGoes types sys form look left own None (kept.Event d) left a z l j
  event_goes a y z l k j taken charts_are passed stays goes =
      let r = taken_reaction sys b.state.kind was own in
      let after_seen : Seen = reacted was r (taken_variables sys was own) was.due in
      let outs : List Emission = emissions_by b.state.kind r in
      let ps : List Piece = memory_pieces was after_seen ++ emits_pieces outs in
      let it : Taking = record {
        first = line_of sys own;
        emits = outs;
        pieces = ps;
        stop = None;
        after = with_seen there after_seen (with_left own.key left look);
      } in
      let is_taking : IsTakingByBlock left look b.state.kind it = record { taken = taken; goes_on = refl; is = (refl, refl, refl) } in
      record {
        taking = it;
        first_is = refl;
        stop_is = refl;
        is_taking = subst (λ (o : Option Kind). IsTakingAt left look o it) (sym kind_is) (inl is_taking);
        kept = kept_then after_seen goes.kept;
        others = λ q apart. seen_there there q after_seen (with_left own.key left look) apart;
        steps_are = refl;
        lines = own ∷ goes.lines;
        lines_are = ap (λ (ls : List model.Line). line_of sys own ∷ ls) goes.are;
        goes = walk_takes sys form own a y z goes.lines ps l k j passed goes.goes;
        marked = subst (λ (o : Option Kind). TakingMarksAt types o it a.marks.charts z.marks.charts) (sym kind_is) charts_are;
        alone = λ alone. goes.alone (stays alone);
      }

  pub expired_goes :
      (a z : Trail) (l j : Option (List ℕ)) → z.marks.charts ≡ a.marks.charts → TimerGoes sys form b.state.kind own was d a z l j
      → KeptGoes types sys form look left own None (kept.Event d) left a z l j
  expired_goes a z l j charts_are goes =
      let r = timer_reaction b.state.kind was own in
      let after_seen : Seen = reacted was r was.variables None in
      let it : Taking = record {
        first = line_of sys own;
        emits = [];
        pieces = memory_pieces was after_seen ++ [];
        stop = None;
        after = with_seen there after_seen (with_left own.key left look);
      } in
      let is_taking : IsTakingByTimer left look b.state.kind it = record { emitted = goes.emitted; due = goes.due; goes_on = refl; is = (goes.only, refl, refl) } in
      record {
        taking = it;
        first_is = refl;
        stop_is = refl;
        is_taking = subst (λ (o : Option Kind). IsTakingAt left look o it) (sym kind_is) (inr is_taking);
        kept = kept_then after_seen goes.kept;
        others = λ q apart. seen_there there q after_seen (with_left own.key left look) apart;
        steps_are = refl;
        lines = own ∷ [];
        lines_are = refl;
        goes = goes.goes;
        marked = subst (λ (o : Option Kind). TakingMarksAt types o it a.marks.charts z.marks.charts) (sym kind_is) charts_are;
        alone = goes.alone;
      }

-- ---- A composite

pub composite_goes :
    (types : List BlockType) (sys : System) (form : Form) (look : Look) (left : ℕ) (line : Line) (a y : Trail) (l j : Option (List ℕ)) → y.marks.charts ≡ a.marks.charts
    → IsKept (sys.kind (path_at sys line.instance)) kept.Composite (look.blocks (path_at sys line.instance))
    → Goes sys form line.key.tick (line ∷ []) (shown_text a.is_shown (line_text form sys (line_of sys line))) a y l j
    → StaysAlone a.reading y.reading l j
    → KeptGoes types sys form look left line None kept.Composite left a y l j
composite_goes types sys form look left line a y l j charts_are is passed stays =
    let p : Path = path_at sys line.instance in
    let one = kept_composite (sys.kind p) (look.blocks p) is in
    let it : Taking = record { first = line_of sys line; emits = []; pieces = []; stop = None; after = with_left line.key left look } in
    record {
      taking = it;
      first_is = refl;
      stop_is = refl;
      is_taking = subst (λ (o : Option Kind). IsTakingAt left look o it) (sym one.1) (record { none = refl; silent = refl; goes_on = refl; is = refl });
      kept = is;
      others = λ q apart. refl;
      steps_are = refl;
      lines = line ∷ [];
      lines_are = refl;
      goes = goes_as sys form line.key.tick a y (line ∷ []) _ _ l j (ap (shown_text a.is_shown) (sym (append-nil (line_text form sys (line_of sys line))))) passed;
      marked = subst (λ (o : Option Kind). TakingMarksAt types o it a.marks.charts y.marks.charts) (sym one.1) charts_are;
      alone = stays;
    }

-- ---- All instances

apart_paths : (sys : System) (j k : ℕ) → ((i : ℕ) → i < length sys.paths → sys.number (path_at sys i) ≡ i) → j < length sys.paths → k < length sys.paths → j ≢ k
    → same_path (path_at sys j) (path_at sys k) ≡ false
apart_paths sys j k numbered here there differ =
    false_from_ne_true (same_path (path_at sys j) (path_at sys k))
    (λ same. differ (sym (numbered j here) ∙ ap sys.number (same_path_is (path_at sys j) (path_at sys k) same) ∙ numbered k there))

-- a number is another one, or not
pub one_or_other : (j k : ℕ) (P : Type 0) → (j ≡ k → P) → (j ≢ k → P) → P
one_or_other j k P same other =
    elim (j == k) as (λ (b : Bool). (j == k) ≡ b → P) [
      | true ↦ λ e. same (grind (arith, nat_tests))
      | false ↦ λ e. other (λ h. grind (arith, nat_tests))
    ] refl

module _ (sys : System) (numbered : (i : ℕ) → i < length sys.paths → sys.number (path_at sys i) ≡ i) where
  -- what is kept of the blocks, after one of them has reacted
  pub kept_after :
      (old new : List Remembered) (look done : Look) (k : ℕ) (b : Remembered) → k < length sys.paths → new ≡ slice_set old k b → AreKept sys old look
      → IsKept (sys.kind (path_at sys k)) b (done.blocks (path_at sys k)) → ((q : Path) → same_path q (path_at sys k) ≡ false → done.blocks q ≡ look.blocks q)
      → AreKept sys new done
  kept_after old new look done k b within is are here others = record {
    all = ap length is ∙ length-set old k b ∙ are.all;
    each = λ j c at.
        let found : slice_get (slice_set old k b) j ≡ Some c = ap (λ (l : List Remembered). slice_get l j) (sym is) ∙ at in
        let inside : j < length sys.paths =
        subst (λ (n : ℕ). j < n) (length-set old k b ∙ are.all) (slice_get_within (slice_set old k b) j c found) in
        one_or_other j k (IsKept (sys.kind (path_at sys j)) c (done.blocks (path_at sys j)))
        (λ same.
        let stood = element_there old k (subst (λ (n : ℕ). k < n) (sym are.all) within) in
        let own_is : c ≡ b = same_some c b (sym (subst (λ (i : ℕ). slice_get (slice_set old k b) i ≡ Some c) same found) ∙ get_set_same old k stood.0 b stood.1) in
        subst (λ (i : ℕ). IsKept (sys.kind (path_at sys i)) c (done.blocks (path_at sys i))) (sym same)
        (subst (λ (r : Remembered). IsKept (sys.kind (path_at sys k)) r (done.blocks (path_at sys k))) (sym own_is) here))
        (λ differ.
        subst (λ (s : Seen). IsKept (sys.kind (path_at sys j)) c s) (sym (others (path_at sys j) (apart_paths sys j k numbered inside within differ)))
        (are.each j c (sym (get_set_other old k j b differ) ∙ found)));
  }
    where
      same_some : (a b : Remembered) → Some a ≡ Some b → a ≡ b
      same_some a b e = cc

      element_there : (xs : List Remembered) (i : ℕ) → i < length xs → (x : Remembered) × (slice_get xs i ≡ Some x)
      element_there xs i h = element_at xs i h

-- ---- Steps

module _ (sys : System) (limit : ℕ) (key : Key) (look done : Look) (old mid new : List TickSteps) (stepped : HasStepped limit key old mid) (own : TickSteps) (stood : slice_get mid key.resource ≡ Some own) (left : ℕ)
    (steps_are : new ≡ slice_set mid key.resource (with_steps own left)) (then_is : done.steps ≡ (with_left key left look).steps) where
  same_steps : (a b : TickSteps) → Some a ≡ Some b → a ≡ b
  same_steps a b e = cc

  pub own_is : own ≡ stepped.after
  own_is =
      same_steps own stepped.after
      (sym stood ∙ ap (λ (l : List TickSteps). slice_get l key.resource) stepped.steps_are ∙ get_set_same old key.resource stepped.before stepped.after stepped.stood)

  pub counts_after : length new ≡ length old
  counts_after = ap length steps_are ∙ length-set mid key.resource (with_steps own left) ∙ ap length stepped.steps_are ∙ length-set old key.resource stepped.after

  here_left :
      (s : TickSteps) → ((q : ℕ) (u : TickSteps) → slice_get old q ≡ Some u → look.steps q ≡ left_of u) → slice_get new key.resource ≡ Some s
      → done.steps key.resource ≡ left_of s
  here_left s lefts at =
      let is : s ≡ with_steps own left =
      same_steps s (with_steps own left)
      (sym at ∙ ap (λ (l : List TickSteps). slice_get l key.resource) steps_are ∙ get_set_same mid key.resource own (with_steps own left) stood) in
      let mine : (key.resource == key.resource) ≡ true = grind (arith, nat_tests) in
      let fewest : (look.steps key.resource).least ≡ own.least =
      ap (λ (l : Left). l.least) (lefts key.resource stepped.before stepped.stood) ∙ sym (ap (λ (o : TickSteps). o.least) own_is ∙ stepped.least_is) in
      ap (λ (f : ℕ → Left). f key.resource) then_is
      ∙ ap (λ (b : Bool). if b then record { tick = Some key.tick; left = left; least = min (look.steps key.resource).least left } else look.steps key.resource) mine
      ∙ ap (λ (t : Option ℕ). record { tick = t; left = left; least = min (look.steps key.resource).least left }) (sym (ap (λ (o : TickSteps). o.tick) own_is ∙ stepped.tick_is))
      ∙ ap (λ (n : ℕ). record { tick = own.tick; left = left; least = min n left }) fewest
      ∙ sym (ap left_of is)

  other_left :
      (r : ℕ) (s : TickSteps) → r ≢ key.resource → ((q : ℕ) (u : TickSteps) → slice_get old q ≡ Some u → look.steps q ≡ left_of u) → slice_get new r ≡ Some s
      → done.steps r ≡ left_of s
  other_left r s differ lefts at =
      let theirs : (r == key.resource) ≡ false = false_from_ne_true (r == key.resource) (λ e. differ (grind (arith, nat_tests))) in
      ap (λ (f : ℕ → Left). f r) then_is
      ∙ ap (λ (b : Bool). if b then record { tick = Some key.tick; left = left; least = min (look.steps key.resource).least left } else look.steps r) theirs
      ∙ lefts r s
      (sym (get_set_other old key.resource r stepped.after differ) ∙ ap (λ (l : List TickSteps). slice_get l r) (sym stepped.steps_are)
      ∙ sym (get_set_other mid key.resource r (with_steps own left) differ) ∙ ap (λ (l : List TickSteps). slice_get l r) (sym steps_are) ∙ at)

  pub lefts_after :
      ((q : ℕ) (u : TickSteps) → slice_get old q ≡ Some u → look.steps q ≡ left_of u) → (r : ℕ) (s : TickSteps) → slice_get new r ≡ Some s → done.steps r ≡ left_of s
  lefts_after lefts r s at =
      one_or_other r key.resource (done.steps r ≡ left_of s)
      (λ same.
      subst (λ (i : ℕ). done.steps i ≡ left_of s) (sym same) (here_left s lefts (subst (λ (i : ℕ). slice_get new i ≡ Some s) same at)))
      (λ differ. other_left r s differ lefts at)

-- ---- What is left out

take_front : (xs ys : List ℕ) → take (length xs) (xs ++ ys) ≡ xs
take_front xs ys = take_at xs ys (length xs) refl

-- a text after which something was added, if it is shown, and left out again, unless it is wanted
text_left :
    (front wanted : Bool) (old new last t : List ℕ) → new ≡ old ++ shown_text front t → last ≡ (if wanted then new else take (length old) new)
    → last ≡ old ++ shown_text (front && wanted) t
text_left true true old new last t added left = left ∙ added
text_left false true old new last t added left = left ∙ added
text_left true false old new last t added left = left ∙ ap (take (length old)) added ∙ take_front old t ∙ sym (append-nil old)
text_left false false old new last t added left = left ∙ ap (take (length old)) added ∙ take_front old [] ∙ sym (append-nil old)

-- ---- One taking

module _ (types : List BlockType) (sys : System) (form : Form) (limit : ℕ) (look : Look) (numbered : (i : ℕ) → i < length sys.paths → sys.number (path_at sys i) ≡ i) where
  takings_at :
      (key : Key) (p : Path) (left : ℕ) (x : Taking) → x.first.key ≡ key → x.first.at ≡ p → left_at limit key.tick (look.steps key.resource) ≡ suc left → key.tick ≤ 10 ^ 12
      → IsTakingAt left look (sys.kind p) x → IsTaking sys limit look x
  takings_at key p left x key_is at_is used early is_taking =
      subst (λ (n : ℕ). IsTakingWith sys look n x) (sym (ap (λ (k : Key). left_at limit k.tick (look.steps k.resource)) key_is ∙ used))
      (subst (λ (k : Key). k.tick ≤ 10 ^ 12) (sym key_is) early, subst (λ (q : Path). IsTakingAt left look (sys.kind q) x) (sym at_is) is_taking)

  -- what was added is left out again, unless it is wanted
  pub taking_gone :
      (line : Line) (stop : Option Reason) (old mid new : Walk) (page : Page) (remaining rest : Option (List ℕ)) → line.instance < length sys.paths
      → IsLookOf sys old.blocks.items old.steps.items look → line.key.tick ≤ 10 ^ 12 → HasStepped limit line.key old.steps.items mid.steps.items
      → mid.blocks.items ≡ old.blocks.items → mid.shown ≡ old.shown → mid.trail.marks ≡ old.trail.marks → mid.trail.passed ≡ old.trail.passed → mid.trail.is_shown ≡ may_show old.shown line
      → mid.trail.reading.line.items ≡ old.trail.reading.line.items → mid.trail.page.text.items ≡ old.trail.page.text.items → mid.trail.reading.number ≡ old.trail.reading.number
      → page.text.items ≡ (if is_wanted old.shown.events (has_lost new line.instance) then new.trail.page.text.items else take (length old.trail.page.text.items) new.trail.page.text.items)
      → ReactGoes types sys form look line stop mid new remaining rest
      → WalkTakes types sys form limit look line stop old (record new { trail = record (new.trail) { page = page } }) remaining rest
  taking_gone line stop old mid new page remaining rest within look_is early stepped blocks_same shown_same marks_same passed_same flag line_same text_same number_same left_out goes =
      let x = goes.goes.taking in
      let stays : slice_get new.blocks.items line.instance ≡ Some goes.block =
      (let there : line.instance < length mid.blocks.items =
      subst (λ (n : ℕ). line.instance < n) (sym (ap length blocks_same ∙ look_is.are.all)) within in
      let one = element_at mid.blocks.items line.instance there in
      ap (λ (l : List Remembered). slice_get l line.instance) goes.blocks_are ∙ get_set_same mid.blocks.items line.instance one.0 goes.block one.1) in
      let loss : has_lost new line.instance ≡ list_any is_loss x.pieces =
      ap (λ (o : Option Remembered). new.trail.marks.charts.lost && is_chart o) stays
      ∙ loss_is types goes.own.meter.left look (sys.kind (path_at sys line.instance)) x mid.trail.marks.charts new.trail.marks.charts goes.block _ goes.goes.is_taking
      (subst (λ (p : Path). TakingMarksAt types (sys.kind p) x mid.trail.marks.charts new.trail.marks.charts) (ap (λ (m : model.Line). m.at) goes.goes.first_is) goes.goes.marked)
      goes.goes.kept in
      let front = goes_same sys form line.key.tick goes.goes.lines (shown_text (may_show old.shown line) (taking_text form sys x)) mid.trail
      (record (old.trail) { is_shown = may_show old.shown line }) new.trail remaining rest
      (aside (record (old.trail) { is_shown = may_show old.shown line }) mid.trail flag (ap (λ (m : Marks). m.ports) marks_same) passed_same number_same) line_same text_same
      (goes_as sys form line.key.tick mid.trail new.trail goes.goes.lines _ _ remaining rest (ap (λ (b : Bool). shown_text b (taking_text form sys x)) flag) goes.goes.goes) in
      let mine : goes.own ≡ stepped.after =
      own_is sys limit line.key look x.after old.steps.items mid.steps.items new.steps.items stepped goes.own goes.stood goes.left goes.steps_are goes.goes.steps_are in
      let used : left_at limit line.key.tick (look.steps line.key.resource) ≡ suc goes.own.meter.left =
      ap (left_at limit line.key.tick) (look_is.lefts line.key.resource stepped.before stepped.stood) ∙ stepped.used ∙ ap (λ (o : TickSteps). suc o.meter.left) (sym mine) in
      record {
        taking = x;
        first_is = goes.goes.first_is;
        stop_is = goes.goes.stop_is;
        is_taking = takings_at line.key (path_at sys line.instance) goes.own.meter.left x (ap (λ (m : model.Line). m.key) goes.goes.first_is) (ap (λ (m : model.Line). m.at) goes.goes.first_is) used early
            goes.goes.is_taking;
        look_after = record {
          are = kept_after sys numbered old.blocks.items new.blocks.items look x.after line.instance goes.block within
              (goes.blocks_are ∙ ap (λ (l : List Remembered). slice_set l line.instance goes.block) blocks_same) look_is.are goes.goes.kept goes.goes.others;
          counts = counts_after sys limit line.key look x.after old.steps.items mid.steps.items new.steps.items stepped goes.own goes.stood goes.left goes.steps_are goes.goes.steps_are ∙ look_is.counts;
          lefts = lefts_after sys limit line.key look x.after old.steps.items mid.steps.items new.steps.items stepped goes.own goes.stood goes.left goes.steps_are goes.goes.steps_are look_is.lefts;
        };
        shown_are = goes.shown_are ∙ shown_same;
        lines = goes.goes.lines;
        lines_are = goes.goes.lines_are;
        goes = record {
          each = front.each;
          kept = front.kept;
          taken = front.taken;
          took = front.took;
          read = front.read;
          text = text_left (may_show old.shown line) (is_wanted old.shown.events (list_any is_loss x.pieces)) old.trail.page.text.items new.trail.page.text.items page.text.items (taking_text form sys x) front.text
              (left_out
              ∙ ap (λ (b : Bool). if is_wanted old.shown.events b then new.trail.page.text.items else take (length old.trail.page.text.items) new.trail.page.text.items) loss);
          ported = front.ported;
          passed = front.passed;
          numbered = front.numbered;
        };
        marked = subst (λ (m : Marks). TakingMarks types sys x m.charts new.trail.marks.charts) marks_same goes.goes.marked;
      }
