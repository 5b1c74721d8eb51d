-- The reaction of an event block, gone through part by part.
use Rattle.fb_inspect.proofs.lemmas.Common.{◌≡◌, ◌<◌, ℕ, Bool, true, false, List, [], ◌∷◌, ◌++◌, length, map, Option, None, refl, sym, ◌∙◌, ap, subst, append-nil, ◌&&◌, if◌then◌else◌, Emission, Event, inputs_with, outputs_with, ports_of_event_block, variable_names, Name, Path, emission_of, event_at, line_of, pair_up, path_at, ports_at, memory_of, with_values, System, line_text, lines_text, Values, EventKind, EventPort, Ports, Variable, Form, Line, Value, FitInputs, AreIndexes, line_variables, fit_each, type_at, Seen, due_after, emission_line, emissions_by, memory_pieces, pieces_text, reacted, Piece, EmitsGo, Goes, StaysAlone, shown_text, IsBlockKept, taken_reaction, EventBlock, Trail}
use Rattle.fb_types.specs.EventBlocks as blocks
use Rattle.fb_types.specs.Numbers.{by_index}
use Rattle.fb_types.specs.States as model
use Rattle.fb_types.specs.declared.run.Emission as run
use Rattle.fb_event.specs.Reactions.{meanings, reaction_to}
use Rattle.fb_net.proofs.lemmas.blocks.Leaves.{reads_inputs}
use Rattle.fb_net.proofs.lemmas.values.Sampling.{ports-of_kind}
use Rattle.fb_wave.specs.Lines.{line_side}
use Rattle.fb_inspect.specs.walk.Looks.{due_of, same_memory, same_tick}
use Rattle.fb_inspect.specs.walk.Chains.{Has}
use Rattle.fb_inspect.specs.walk.Moves.{IsAside}
use Rattle.fb_inspect.specs.walk.Notes.{memory_note}
use Rattle.fb_inspect.specs.walk.Timing.{BlockGoes, HasExpired, HasReacted, IsBlockLine, TimerGoes, inputs_after, taken_variables, timer_reaction}
use Rattle.fb_inspect.proofs.lemmas.lines.Emitted.{emission_is, emissions_are, emits_text, shown_pieces}
use Rattle.fb_inspect.proofs.lemmas.lines.Moving.{alone_from, alone_on, goes_as, goes_note, goes_then, shown-append}
use Rattle.fb_inspect.proofs.lemmas.reactions.Showing.{emits_pieces}
use Rattle.fb_inspect.proofs.lemmas.reactions.Sampled.{all_or_none, sampled_are, sampled_typed}

-- ---- Lines that are taken

-- the line of an event that is taken
abbrev pub in_line : Ports → Path → Line → model.Line
in_line its p l =
    let n = event_at its.event_inputs l.event in record { key = l.key; taken = true; at = p; event = n; values = pair_up (inputs_with its n) l.values }

-- a line, where it is taken or not
abbrev by_side : System → Line → Bool → model.Line
by_side sys l b = line_of sys (record l { taken = b })

pub taken_is :
    (sys : System) (its : Ports) (l : Line) → l.taken ≡ true → ports_at sys (path_at sys l.instance) ≡ its → line_of sys l ≡ in_line its (path_at sys l.instance) l
taken_is sys its l taken ports =
    ap (by_side sys l) taken ∙ ap (λ (own : Ports). in_line own (path_at sys l.instance) l) ports

-- ---- The note

abbrev pub note_text : (before after : blocks.Memory) → (due then_due : Option ℕ) → List ℕ
note_text m n d e = if same_memory m n && same_tick d e then [] else memory_note n e

noted : (form : Form) (sys : System) (l : model.Line) (m n : blocks.Memory) (d e : Option ℕ)
    → note_text m n d e ≡ pieces_text form sys l (if same_memory m n && same_tick d e then [] else Has n e ∷ [])
noted form sys l m n d e =
    elim (same_memory m n && same_tick d e) as (λ (b : Bool). (if b then [] else memory_note n e) ≡ pieces_text form sys l (if b then [] else Has n e ∷ [])) [
      | true ↦ refl
      | false ↦ sym (append-nil (memory_note n e))
    ]

-- what is seen of a block
pub record IsSeenAs (b : EventBlock) (m : blocks.Memory) (due : Option ℕ) : Type 0 where
  pub memory_is : m ≡ b.state.memory
  pub due_is : due ≡ due_of m b.due

-- the note of a change is that of what the definitions say that blocks remember
pub memory_noted :
    (form : Form) (sys : System) (l : model.Line) (k j : EventKind) (b c : EventBlock) (s t : Seen) (m n : blocks.Memory) (d e : Option ℕ) → IsBlockKept k b s → IsBlockKept j c t
    → IsSeenAs b m d → IsSeenAs c n e → note_text m n d e ≡ pieces_text form sys l (memory_pieces s t)
memory_noted form sys l k j b c s t m n d e was now seen after =
    let before_is : m ≡ memory_of s.memory = seen.memory_is ∙ sym (ap memory_of was.memory_is) in
    let after_is : n ≡ memory_of t.memory = after.memory_is ∙ sym (ap memory_of now.memory_is) in
    let due_before : d ≡ due_of (memory_of s.memory) s.due =
    seen.due_is ∙ ap (λ (x : blocks.Memory). due_of x b.due) before_is ∙ ap (due_of (memory_of s.memory)) was.due_is in
    let due_later : e ≡ due_of (memory_of t.memory) t.due =
    after.due_is ∙ ap (λ (x : blocks.Memory). due_of x c.due) after_is ∙ ap (due_of (memory_of t.memory)) now.due_is in
    ap (λ (x : blocks.Memory). note_text x n d e) before_is
    ∙ ap (λ (x : blocks.Memory). note_text (memory_of s.memory) x d e) after_is
    ∙ ap (λ (x : Option ℕ). note_text (memory_of s.memory) (memory_of t.memory) x e) due_before
    ∙ ap (note_text (memory_of s.memory) (memory_of t.memory) (due_of (memory_of s.memory) s.due)) due_later
    ∙ noted form sys l (memory_of s.memory) (memory_of t.memory) (due_of (memory_of s.memory) s.due) (due_of (memory_of t.memory) t.due)

-- ---- The reaction to an event

abbrev sides : System → Line → Bool → List Variable
sides sys l t = let own = ports_at sys (path_at sys l.instance) in if t then own.inputs else own.outputs

abbrev events_by : System → Line → Bool → List EventPort
events_by sys l t = let own = ports_at sys (path_at sys l.instance) in if t then own.event_inputs else own.event_outputs

abbrev names_by : System → Line → Bool → List Name
names_by sys l t =
    let own = ports_at sys (path_at sys l.instance) in
    let n = (by_side sys l t).event in
    if t then inputs_with own n else outputs_with own n

module _ (sys : System) (b : EventBlock) (l : Line) (line : IsBlockLine sys b l) (taken : l.taken ≡ true) where
  abbrev its : Ports
  its = ports_of_event_block b.state.kind

  its_are : ports_at sys (path_at sys l.instance) ≡ its
  its_are = ports-of_kind sys (path_at sys l.instance) (Event b.state.kind) line.kind

  abbrev names : List Name
  names = inputs_with its (event_at its.event_inputs l.event)

  here : line_of sys l ≡ in_line its (path_at sys l.instance) l
  here = taken_is sys its l taken its_are

  event_within : l.event < length its.event_inputs
  event_within =
      subst (λ (x : Ports). l.event < length x.event_inputs) its_are
      (subst (λ (es : List EventPort). l.event < length es) (ap (events_by sys l) taken) line.line.belongs.event)

  names_are : line_variables sys l ≡ names
  names_are = ap (names_by sys l) taken ∙ ap (λ (x : Ports). inputs_with x (event_at x.event_inputs l.event)) its_are

  side_is : line_side sys l ≡ its.inputs
  side_is = ap (sides sys l) taken ∙ ap (λ (x : Ports). x.inputs) its_are

  counted : length l.values ≡ length names
  counted = line.line.belongs.values ∙ ap length names_are

  -- the inputs have values of their types, also after they were sampled
  pub fits_after : FitInputs b.state.kind (inputs_after b.inputs l.values)
  fits_after =
      sampled_typed b.state.kind names l.values b.inputs line.line.indexes (all_or_none b.state.kind l.event event_within)
      (subst (λ (ns : List Name). AreIndexes its.inputs ns line.line.indexes) names_are (subst (λ (vs : List Variable). AreIndexes vs (line_variables sys l) line.line.indexes) side_is line.line.stand))
      (subst (λ (vs : List Variable). fit_each (map (type_at vs) line.line.indexes) l.values ≡ true) side_is line.line.typed) counted line.typed

  abbrev taken_block : EventBlock
  taken_block = record b { inputs = inputs_after b.inputs l.values }

  module _ (s : Seen) (kept : IsBlockKept b.state.kind b s) where
    abbrev taken_seen : Seen
    taken_seen = record s { variables = taken_variables sys s l }

    -- what is kept of the block says what it remembers after it has sampled its inputs
    pub sampled_kept : IsBlockKept b.state.kind taken_block taken_seen
    sampled_kept = record {
      kind_is = refl;
      memory_is = kept.memory_is;
      inputs_are = sampled_are its.inputs names l.values b.inputs s.variables (all_or_none b.state.kind l.event event_within) counted kept.inputs_are
          ∙ ap (λ (x : model.Line). map (with_values x.values s.variables) (variable_names its.inputs)) (sym here);
      typed = fits_after;
      due_is = kept.due_is;
    }

    abbrev reaction : blocks.Reaction
    reaction = taken_reaction sys b.state.kind s l

    reaction_is : reaction_to b.state l.event l.key.tick (inputs_after b.inputs l.values) ≡ reaction
    reaction_is =
        let k = b.state.kind in
        let all = variable_names its.inputs in
        let e : Name = event_at its.event_inputs l.event in
        let vars : Values = taken_variables sys s l in
        let tick : ℕ = l.key.tick in
        ap (λ (vs : List Value). blocks.reaction k b.state.memory e tick (by_index all vs)) sampled_kept.inputs_are
        ∙ reads_inputs k b.state.memory e tick vars
        ∙ ap (λ (m : blocks.Memory). blocks.reaction k m e tick vars) (sym (ap memory_of kept.memory_is))
        ∙ ap (λ (x : model.Line). blocks.reaction k (memory_of s.memory) x.event tick vars) (sym here)

    answered : (c : EventBlock) (es : List run.Emission) → HasReacted (reaction_to b.state l.event l.key.tick (inputs_after b.inputs l.values)) b.due taken_block c es
        → HasReacted reaction b.due taken_block c es
    answered c es h = subst (λ (r : blocks.Reaction). HasReacted r b.due taken_block c es) reaction_is h

    -- the emissions are those of the definitions
    pub emitted_as :
        (c : EventBlock) (es : List run.Emission) → HasReacted (reaction_to b.state l.event l.key.tick (inputs_after b.inputs l.values)) b.due taken_block c es
        → map (emission_of (ports_at sys (path_at sys l.instance))) es ≡ emissions_by b.state.kind reaction
    emitted_as c es has = ap (λ (x : Ports). map (emission_of x) es) its_are ∙ (answered c es has).emitted

    answered_kept : (c : EventBlock) (es : List run.Emission) → HasReacted reaction b.due taken_block c es
        → IsBlockKept b.state.kind c (reacted s reaction (taken_variables sys s l) s.due)
    answered_kept c es h = record {
      kind_is = h.kind;
      memory_is = ap model.Remembers (sym h.memory);
      inputs_are = h.inputs ∙ sampled_kept.inputs_are;
      typed = subst (λ (vs : List Value). FitInputs b.state.kind vs) (sym h.inputs) fits_after;
      due_is = h.due_is ∙ ap (due_after reaction.timer) kept.due_is;
    }

    -- the reaction, its note and its emissions
    pub block_goes :
        (form : Form) (c : EventBlock) (es : List run.Emission) (m n : blocks.Memory) (d e : Option ℕ) (a y z : Trail) (left after : Option (List ℕ))
        → HasReacted (reaction_to b.state l.event l.key.tick (inputs_after b.inputs l.values)) b.due taken_block c es → IsSeenAs taken_block m d → IsSeenAs c n e
        → IsAside a y → y.reading.line.items ≡ a.reading.line.items → y.page.text.items ≡ a.page.text.items ++ shown_text a.is_shown (note_text m n d e)
        → EmitsGo sys form l es y z left after
        → BlockGoes sys form b.state.kind l reaction (taken_variables sys s l) s.due s c a z left after
    block_goes form c es m n d e a y z left after has before now aside_is line_is text goes =
        let h = answered c es has in
        let is_kept = answered_kept c es h in
        let at : model.Line = line_of sys l in
        let outs : List Emission = emissions_by b.state.kind reaction in
        let changes : List Piece = memory_pieces s (reacted s reaction (taken_variables sys s l) s.due) in
        let are : map (line_of sys) goes.lines ≡ map (emission_line at) outs =
        emissions_are sys its goes.lines l es its_are goes.are ∙ ap (map (emission_line at)) h.emitted in
        let first : Goes sys form l.key.tick [] (shown_text a.is_shown (pieces_text form sys at changes)) a y left left =
        goes_note sys form l.key.tick a y (shown_text a.is_shown (pieces_text form sys at changes)) left aside_is line_is
        (text ∙ ap (λ (x : List ℕ). a.page.text.items ++ shown_text a.is_shown x)
        (memory_noted form sys at b.state.kind b.state.kind taken_block c taken_seen (reacted s reaction (taken_variables sys s l) s.due) m n d e sampled_kept is_kept before now)) in
        let second : Goes sys form l.key.tick goes.lines (shown_text y.is_shown (pieces_text form sys at (emits_pieces outs))) y z left after =
        goes_as sys form l.key.tick y z goes.lines _ _ left after
        (ap (λ (ls : List model.Line). shown_text y.is_shown (lines_text form sys ls)) are ∙ ap (shown_text y.is_shown) (sym (emits_text form sys at outs))) goes.goes in
        record {
          kept = is_kept;
          lines = goes.lines;
          are = are;
          goes = goes_as sys form l.key.tick a z goes.lines _ _ left after (shown_pieces form sys at a.is_shown y.is_shown changes (emits_pieces outs) aside_is.kept)
              (goes_then sys form l.key.tick a y z [] goes.lines _ _ left left after first second);
          alone = alone_from a y z left after line_is goes.alone;
        }

-- ---- The reaction to the timer

abbrev pub shown_emission : model.Line → Emission
shown_emission x = record { event = x.event; values = x.values }

module _ (sys : System) (b : EventBlock) (l : Line) (line : IsBlockLine sys b l) (s : Seen) (kept : IsBlockKept b.state.kind b s) where
  abbrev own : Ports
  own = ports_of_event_block b.state.kind

  own_are : ports_at sys (path_at sys l.instance) ≡ own
  own_are = ports-of_kind sys (path_at sys l.instance) (Event b.state.kind) line.kind

  abbrev expiry : blocks.Reaction
  expiry = timer_reaction b.state.kind s l

  expired : (c : EventBlock) (es : List run.Emission) → HasReacted (blocks.expiry b.state.kind b.state.memory l.key.tick) None b c es → HasReacted expiry None b c es
  expired c es h =
      subst (λ (r : blocks.Reaction). HasReacted r None b c es) (ap (λ (m : blocks.Memory). blocks.expiry b.state.kind m l.key.tick) (sym (ap memory_of kept.memory_is))) h

  expired_kept : (c : EventBlock) (es : List run.Emission) → HasReacted expiry None b c es → IsBlockKept b.state.kind c (reacted s expiry s.variables None)
  expired_kept c es h = record {
    kind_is = h.kind;
    memory_is = ap model.Remembers (sym h.memory);
    inputs_are = h.inputs ∙ kept.inputs_are;
    typed = subst (λ (vs : List Value). FitInputs b.state.kind vs) (sym h.inputs) kept.typed;
    due_is = h.due_is;
  }

  only_is : (c : EventBlock) (has : HasExpired l b c) → shown_emission (line_of sys l) ∷ [] ≡ emissions_by b.state.kind expiry
  only_is c has =
      ap (λ (x : model.Line). shown_emission x ∷ []) (emission_is sys own l l has.only.0 own_are has.only.2)
      ∙ ap (λ (es : List run.Emission). meanings b.state.kind es) (sym has.only.1)
      ∙ (expired c has.emits has.reacted).emitted

  -- the line, and the note of what the block remembers then
  pub timer_goes :
      (form : Form) (c : EventBlock) (m n : blocks.Memory) (d e : Option ℕ) (a y z : Trail) (left after : Option (List ℕ)) → HasExpired l b c → IsSeenAs b m d → IsSeenAs c n e
      → Goes sys form l.key.tick (l ∷ []) (shown_text a.is_shown (line_text form sys (line_of sys l))) a y left after → StaysAlone a.reading y.reading left after
      → IsAside y z → z.reading.line.items ≡ y.reading.line.items → z.page.text.items ≡ y.page.text.items ++ shown_text y.is_shown (note_text m n d e)
      → TimerGoes sys form b.state.kind l s c a z left after
  timer_goes form c m n d e a y z left after has before now passed stays aside_is line_is text =
      let h = expired c has.emits has.reacted in
      let is_kept = expired_kept c has.emits h in
      let at : model.Line = line_of sys l in
      let changes : List Piece = memory_pieces s (reacted s expiry s.variables None) in
      let noted_is : Goes sys form l.key.tick [] (shown_text y.is_shown (pieces_text form sys at changes)) y z after after =
      goes_note sys form l.key.tick y z (shown_text y.is_shown (pieces_text form sys at changes)) after aside_is line_is
      (text ∙ ap (λ (x : List ℕ). y.page.text.items ++ shown_text y.is_shown x)
      (memory_noted form sys at b.state.kind b.state.kind b c s (reacted s expiry s.variables None) m n d e kept is_kept before now)) in
      record {
        emitted = has.only.2.taken;
        due = sym kept.due_is ∙ has.due;
        only = only_is c has;
        kept = is_kept;
        goes = goes_as sys form l.key.tick a z (l ∷ []) _ _ left after
            (ap (λ (v : Bool). shown_text a.is_shown (line_text form sys at) ++ shown_text v (pieces_text form sys at changes)) passed.kept
            ∙ sym (shown-append a.is_shown (line_text form sys at) (pieces_text form sys at changes))
            ∙ ap (λ (ps : List Piece). shown_text a.is_shown (line_text form sys at ++ pieces_text form sys at ps)) (sym (append-nil changes)))
            (goes_then sys form l.key.tick a y z (l ∷ []) [] _ _ left after after passed noted_is);
        alone = alone_on a y z left after line_is stays;
      }
