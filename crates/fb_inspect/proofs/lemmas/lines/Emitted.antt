-- What is shown of emissions: their lines.
use Rattle.fb_inspect.proofs.lemmas.Common.{◌≡◌, ℕ, Bool, false, List, [], ◌∷◌, ◌++◌, map, Option, refl, sym, ◌∙◌, ap, append_assoc, append-nil, map-append, if◌then◌else◌, Emission, inputs_with, outputs_with, Path, emission_of, event_at, line_of, pair_up, path_at, ports_at, System, line_text, lines_text, Key, Ports, Form, Line, Value, Piece, emission_line, pieces_text, EmitsGo, Goes, StaysAlone, shown_text, Trail}
use Rattle.fb_types.specs.States as model
use Rattle.fb_types.specs.declared.run.Emission as run
use Rattle.fb_inspect.specs.walk.Looks.{piece_text}
use Rattle.fb_inspect.specs.walk.Moves.{AreEmissions, IsEmission}
use Rattle.fb_inspect.proofs.lemmas.lines.Moving.{aside_none, goes_as, goes_note, goes_then, lines-append, shown-append, shown-nil}
use Rattle.fb_inspect.proofs.lemmas.reactions.Showing.{emits_pieces}

-- ---- Texts

pub pieces-append :
    (form : Form) (sys : System) (l : model.Line) (ps qs : List Piece) → pieces_text form sys l (ps ++ qs) ≡ pieces_text form sys l ps ++ pieces_text form sys l qs
pieces-append form sys l [] qs = refl
pieces-append form sys l (p ∷ ps) qs =
    ap (λ (t : List ℕ). piece_text form sys l p ++ t) (pieces-append form sys l ps qs) ∙ sym (append_assoc (piece_text form sys l p) (pieces_text form sys l ps) (pieces_text form sys l qs))

-- pieces that are shown after others
pub shown_pieces :
    (form : Form) (sys : System) (l : model.Line) (b c : Bool) (ps qs : List Piece) → c ≡ b
    → shown_text b (pieces_text form sys l ps) ++ shown_text c (pieces_text form sys l qs) ≡ shown_text b (pieces_text form sys l (ps ++ qs))
shown_pieces form sys l b c ps qs same =
    ap (λ (d : Bool). shown_text b (pieces_text form sys l ps) ++ shown_text d (pieces_text form sys l qs)) same
    ∙ sym (shown-append b (pieces_text form sys l ps) (pieces_text form sys l qs)) ∙ ap (shown_text b) (sym (pieces-append form sys l ps qs))

-- emissions are shown by their lines
pub emits_text :
    (form : Form) (sys : System) (l : model.Line) (es : List Emission) → pieces_text form sys l (emits_pieces es) ≡ lines_text form sys (map (emission_line l) es)
emits_text form sys l [] = refl
emits_text form sys l (e ∷ es) = ap (λ (t : List ℕ). line_text form sys (emission_line l e) ++ t) (emits_text form sys l es)

-- ---- Lines of emissions

-- the line of an output event
abbrev out_line : Ports → Path → Key → (event : ℕ) → List Value → model.Line
out_line its p k event values =
    let n = event_at its.event_outputs event in record { key = k; taken = false; at = p; event = n; values = pair_up (outputs_with its n) values }

-- a line, where it is taken or not
abbrev taken_line : System → Line → Bool → model.Line
taken_line sys l b =
    let p = path_at sys l.instance in
    let its = ports_at sys p in
    let n = if b then event_at its.event_inputs l.event else event_at its.event_outputs l.event in
    record { key = l.key; taken = b; at = p; event = n; values = pair_up (if b then inputs_with its n else outputs_with its n) l.values }

pub emission_is :
    (sys : System) (its : Ports) (l line : Line) (e : run.Emission) → ports_at sys (path_at sys line.instance) ≡ its → IsEmission l line e
    → line_of sys l ≡ emission_line (line_of sys line) (emission_of its e)
emission_is sys its l line e ports is =
    let p : Path = path_at sys line.instance in
    ap (taken_line sys l) is.taken
    ∙ ap (λ (i : ℕ). out_line (ports_at sys (path_at sys i)) (path_at sys i) l.key l.event l.values) is.instance
    ∙ ap (λ (k : Key). out_line (ports_at sys p) p k l.event l.values) is.key
    ∙ ap (λ (n : ℕ). out_line (ports_at sys p) p line.key n l.values) is.event
    ∙ ap (λ (vs : List Value). out_line (ports_at sys p) p line.key e.event vs) is.values
    ∙ ap (λ (own : Ports). out_line own p line.key e.event e.values) ports

pub emissions_are :
    (sys : System) (its : Ports) (ls : List Line) (line : Line) (es : List run.Emission) → ports_at sys (path_at sys line.instance) ≡ its → AreEmissions ls line es
    → map (line_of sys) ls ≡ map (emission_line (line_of sys line)) (map (emission_of its) es)
emissions_are sys its [] line [] ports are = refl
emissions_are sys its [] line (e ∷ es) ports are = absurd are
emissions_are sys its (l ∷ ls) line [] ports are = absurd are
emissions_are sys its (l ∷ ls) line (e ∷ es) ports are =
    ap (λ (x : model.Line). x ∷ map (line_of sys) ls) (emission_is sys its l line e ports are.0)
    ∙ ap (λ (xs : List model.Line). emission_line (line_of sys line) (emission_of its e) ∷ xs) (emissions_are sys its ls line es ports are.1)

-- ---- Emissions one by one

-- no emission was gone through yet
pub emits_none : (sys : System) (form : Form) (line : Line) (b : Trail) (l : Option (List ℕ)) → EmitsGo sys form line [] b b l l
emits_none sys form line b l = record {
  lines = [];
  are = tt;
  goes = goes_note sys form line.key.tick b b (shown_text b.is_shown []) l (aside_none b) refl
      (sym (ap (λ (t : List ℕ). b.page.text.items ++ t) (shown-nil b.is_shown) ∙ append-nil b.page.text.items));
  alone = λ alone. alone;
}

-- one more emission was gone through
pub emits_one :
    (sys : System) (form : Form) (line : Line) (es : List run.Emission) (e : run.Emission) (y : Line) (b c d : Trail) (l k j : Option (List ℕ)) → EmitsGo sys form line es b c l k → IsEmission y line e
    → Goes sys form line.key.tick (y ∷ []) (shown_text c.is_shown (line_text form sys (line_of sys y))) c d k j → StaysAlone c.reading d.reading k j
    → EmitsGo sys form line (es ++ e ∷ []) b d l j
emits_one sys form line es e y b c d l k j before one goes stays =
    let L : List model.Line = map (line_of sys) before.lines in
    let here : List ℕ = line_text form sys (line_of sys y) in
    record {
      lines = before.lines ++ y ∷ [];
      are = are_more before.lines es y e line before.are one;
      goes = goes_as sys form line.key.tick b d (before.lines ++ y ∷ []) _ _ l j
          (ap (λ (v : Bool). shown_text b.is_shown (lines_text form sys L) ++ shown_text v here) before.goes.kept
          ∙ sym (shown-append b.is_shown (lines_text form sys L) here)
          ∙ ap (shown_text b.is_shown)
          (ap (λ (z : List ℕ). lines_text form sys L ++ z) (sym (append-nil here))
          ∙ sym (ap (lines_text form sys) (map-append (line_of sys) before.lines (y ∷ [])) ∙ lines-append form sys L (line_of sys y ∷ []))))
          (goes_then sys form line.key.tick b c d before.lines (y ∷ []) _ _ l k j before.goes goes);
      alone = λ alone. stays (before.alone alone);
    }
  where
    are_more :
        (ls : List Line) (es : List run.Emission) (y : Line) (e : run.Emission) (line : Line) → AreEmissions ls line es → IsEmission y line e
        → AreEmissions (ls ++ y ∷ []) line (es ++ e ∷ [])
    are_more [] [] y e line are one = (one, tt)
    are_more [] (f ∷ fs) y e line are one = absurd are
    are_more (z ∷ zs) [] y e line are one = absurd are
    are_more (z ∷ zs) (f ∷ fs) y e line are one = (are.0, are_more zs fs y e line are.1 one)
