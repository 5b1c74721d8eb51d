-- Each trace of a run is accepted.
use Rattle.fb_inspect.proofs.lemmas.Common.{◌≡◌, ◌<◌, ◌≤◌, ◌^◌, ℕ, List, [], ◌∷◌, ◌++◌, length, map, All, refl, sym, ap, subst, ◌∙◌, arith, All-cons, All-head, All-nil, All-tail, Inputs, stimuli_of, system_of, Each, line_of, AtHorizon, AtStop, Ending, path_of, System, last_line, Key, Form, One, Two, Steps, Divide, Range, IsEndOf, IsInRange, IsLineOf, EndsSo, all_lines, Taking, most, IsGiven}
use Rattle.fb_types.proofs.Common.{IsTrace, IsSimulation, Taken, ending_of, lines_of, opening, trace_text}
use Rattle.fb_types.specs.States.{Line}
use Rattle.fb_types.specs.declared.run.Line as run
use Rattle.fb_types.proofs.lemmas.lists.EachLaws.{each_append, each_both, each_map}
use Rattle.fb_laws.specs.Sound.{AreGood}
use Rattle.fb_laws.proofs.lemmas.soundness.Accepting.{sound_of}
use Rattle.fb_laws.proofs.lemmas.takings.KeysRise.{keys_rise}
use Rattle.fb_system.specs.Networks.{AreNarrow}
use Rattle.fb_wave.specs.Waves.{EndsAfter}
use Rattle.fb_inspect.specs.Refusals.{IsAccepted}
use Rattle.fb_inspect.specs.walk.RunLines.{HaveRoom, bare_key}
use Rattle.fb_inspect.proofs.lemmas.lines.PlainKeys.{bare, bare_taking, bare_text, lines_bare}
use Rattle.fb_inspect.proofs.lemmas.runs.Followed.{IsExact, run_row}
use Rattle.fb_inspect.proofs.lemmas.lines.LinesOfSystem.{IsLineThere, line_there}
use Rattle.fb_inspect.proofs.lemmas.runs.RunGiven.{IsGivenTaking, run_given}
use Rattle.fb_inspect.proofs.lemmas.runs.RunRises.{Rises, chain_end, chain_ends, chain_rises, last_is, last_of, rise_from}
use Rattle.fb_inspect.proofs.lemmas.runs.ShownRows.{JudgesLast, ends_shown, exact_shown}
use Rattle.fb_inspect.proofs.lemmas.reactions.EventPorts.{stimuli_there, targets_there}

-- ---- Lines by numbers

-- lines of the system that are these
record AreLinesThere (sys : System) (ls : List Line) : Type 0 where
  lines : List run.Line
  are : map (line_of sys) lines ≡ ls
  of : All (IsLineOf sys) lines

lines_there : (sys : System) (ls : List Line) → Each (IsLineThere sys) ls → AreLinesThere sys ls
lines_there sys [] h = record { lines = []; are = refl; of = All-nil (IsLineOf sys) }
lines_there sys (l ∷ ls) h =
    let rest = lines_there sys ls h.1 in
    record {
      lines = h.0.line ∷ rest.lines;
      are = ap (λ (m : Line). m ∷ map (line_of sys) rest.lines) h.0.is ∙ ap (λ (ms : List Line). l ∷ ms) rest.are;
      of = All-cons (IsLineOf sys) h.0.line rest.lines h.0.of rest.of;
    }

-- A text of lines of the system that are those of takings is accepted.
accepted_by :
    (sys : System) (steps : ℕ) (form : Form) (text : List ℕ) (ls : List Line) (end : Ending) (takings : List Taking) → Each (IsLineThere sys) ls → Rises 0 ls → IsEndOf sys end
    → EndsAfter (last_of 0 ls) end → text ≡ trace_text form sys ls end → all_lines takings ≡ ls → (ends : EndsSo sys steps takings end) → JudgesLast sys steps takings end ends
    → (a : IsAccepted sys steps text) × JudgesLast sys steps a.takings a.end a.ends
accepted_by sys steps form text ls end takings each rises can after is lines ends exact =
    let there = lines_there sys ls each in (
      record {
        form = form;
        lines = there.lines;
        end = end;
        trace = record {
          lines = record { each = there.of; rise = rise_from sys 0 there.lines (subst (Rises 0) (sym there.are) rises) };
          last = can;
          ends = subst (λ (t : ℕ). EndsAfter t end) (ap (last_of 0) (sym there.are) ∙ last_is sys 0 there.lines) after;
          is = is ∙ ap (λ (ms : List Line). trace_text form sys ms end) (sym there.are);
        };
        takings = takings;
        lines_are = there.are ∙ sym lines;
        ends = ends;
      },
      exact,
    )

-- ---- Without what form One leaves out

given_bare : (sys : System) (k : Key) (l : Line) → IsGiven sys k l → IsGiven sys (bare_key k) (bare l)
given_bare sys k l h =
    record { key_is = ap bare_key h.key_is; kind = h.kind; kind_is = h.kind_is; event = h.event; vars = h.vars; values = h.values; fit = h.fit; home = h.home }

rises_bare : (t : ℕ) (ls : List Line) → Rises t ls → Rises t (map bare ls)
rises_bare t [] h = h
rises_bare t (l ∷ ls) h = (h.0, rises_bare l.key.tick ls h.1)

last_bare : (t : ℕ) (ls : List Line) → last_of t (map bare ls) ≡ last_of t ls
last_bare t [] = refl
last_bare t (l ∷ ls) = last_bare l.key.tick ls

-- ---- A run

module _ (i : Inputs) (good : AreGood i) (narrow : AreNarrow i.library.blocks) where
  abbrev sys : System
  sys = system_of i

  -- The line is given under a key of an early tick.
  record IsEarly (horizon : ℕ) (l : Line) : Type 0 where
    key : Key
    given : IsGiven sys key l
    early : key.tick < horizon

  early_taking : (horizon : ℕ) (t : Taken) → IsGivenTaking sys t → t.key.tick < horizon → Each (IsEarly horizon) t.effect.lines
  early_taking horizon t given early = each_map (IsGiven sys t.key) (IsEarly horizon) t.effect.lines (λ l h. record { key = t.key; given = h; early = early }) given.lines

  early_lines : (horizon : ℕ) (ts : List Taken) → Each (IsGivenTaking sys) ts → All (λ (t : Taken). t.key.tick < horizon) ts → Each (IsEarly horizon) (lines_of ts)
  early_lines horizon [] given below = tt
  early_lines horizon (t ∷ ts) given below =
      each_append (IsEarly horizon) t.effect.lines (lines_of ts) (early_taking horizon t given.0 (All-head (λ (t : Taken). t.key.tick < horizon) t ts below))
      (early_lines horizon ts given.1 (All-tail (λ (t : Taken). t.key.tick < horizon) t ts below))

  bare_there : (horizon : ℕ) → horizon ≤ 10 ^ 12 → (ls : List Line) → Each (IsEarly horizon) ls → Each (IsLineThere sys) (map bare ls)
  bare_there horizon small [] h = tt
  bare_there horizon small (l ∷ ls) h =
      let early = h.0.early in
      let tick : l.key.tick ≡ h.0.key.tick = ap (λ (k : Key). k.tick) h.0.given.key_is in (
        line_there i good narrow (bare_key h.0.key) (bare l) (given_bare sys h.0.key l h.0.given)
            (record { tick = omega (arith, small, early, tick); class = omega arith; a = omega arith; b = omega arith }),
        bare_there horizon small ls h.1,
      )

  record IsRun (form : Form) (horizon limit : ℕ) (ts : List Taken) : Type 0 where
    lines : List Line
    there : Each (IsLineThere sys) lines
    rises : Rises 0 lines
    after : EndsAfter (last_of 0 lines) (ending_of horizon ts)
    text : trace_text form sys (lines_of ts) (ending_of horizon ts) ≡ trace_text form sys lines (ending_of horizon ts)
    takings : List Taking
    lines_are : all_lines takings ≡ lines
    ends : EndsSo sys limit takings (ending_of horizon ts)
    exact : JudgesLast sys limit takings (ending_of horizon ts) ends

  module _ (horizon limit : ℕ) (some : 0 < horizon) (small : horizon ≤ 10 ^ 12) (within : limit ≤ most) (ts : List Taken) (is : IsSimulation sys (stimuli_of i) horizon limit ts) where
    given : Each (IsGivenTaking sys) ts
    given = run_given i good.accepted horizon limit ts is

    homes : Each (λ (t : Taken). t.key.resource < length sys.resource_names) ts
    homes =
        each_map (IsGivenTaking sys) (λ (t : Taken). t.key.resource < length sys.resource_names) ts
        (λ t h. subst (λ (r : ℕ). r < length sys.resource_names) (sym h.home) ((sound_of i good).counted (path_of t.event))) given

    rises : Rises 0 (lines_of ts)
    rises = chain_rises sys limit ts (opening sys (stimuli_of i)) 0 (λ j v h. omega arith) (keys_rise sys (sound_of i good) limit (stimuli_of i) horizon ts is) given is.chain

    after : EndsAfter (last_of 0 (lines_of ts)) (ending_of horizon ts)
    after =
        chain_ends sys limit horizon ts (opening sys (stimuli_of i)) 0 (λ j v h. omega arith) (keys_rise sys (sound_of i good) limit (stimuli_of i) horizon ts is) given is.chain is.below some

    abbrev Row : Type 0
    Row = (takings : List Taking) × (all_lines takings ≡ lines_of ts) × (ends : EndsSo sys limit takings (ending_of horizon ts)) × IsExact sys limit within (targets_there i good.accepted) takings (ending_of horizon ts) ends

    exact_is : (takings : List Taking) (end : Ending) (e : EndsSo sys limit takings end) → IsExact sys limit within (targets_there i good.accepted) takings end e → JudgesLast sys limit takings end e
    exact_is takings (AtHorizon h) e x = x
    exact_is takings (AtStop t r Steps) e x = λ none front z parts basic tick resource. x none front z parts tick resource
    exact_is takings (AtStop t r Divide) e x = x
    exact_is takings (AtStop t r Range) e x = x

    row : Row
    row = run_row sys limit within (targets_there i good.accepted) horizon small (stimuli_of i) (stimuli_there i good.accepted) ts is

    run_in : (form : Form) → HaveRoom form (lines_of ts) → IsRun form horizon limit ts
    run_in One room =
        record {
          lines = map bare (lines_of ts);
          there = bare_there horizon small (lines_of ts) (early_lines horizon ts given is.below);
          rises = rises_bare 0 (lines_of ts) rises;
          after = subst (λ (t : ℕ). EndsAfter t (ending_of horizon ts)) (sym (last_bare 0 (lines_of ts))) after;
          text = ap (λ (t : List ℕ). t ++ last_line sys (ending_of horizon ts)) (sym (bare_text sys (lines_of ts)));
          takings = map bare_taking row.0;
          lines_are = lines_bare row.0 ∙ ap (map bare) row.1;
          ends = ends_shown sys One limit row.0 (ending_of horizon ts) row.2;
          exact = exact_shown sys limit One row.0 (ending_of horizon ts) row.2 (exact_is row.0 (ending_of horizon ts) row.2 row.3);
        }
    run_in Two room =
        record {
          lines = lines_of ts;
          there = each_both (IsEarly horizon) (λ (l : Line). IsInRange l.key) (IsLineThere sys) (lines_of ts) (λ l early range. line_there i good narrow early.key l early.given range)
              (early_lines horizon ts given is.below) room;
          rises = rises;
          after = after;
          text = refl;
          takings = row.0;
          lines_are = row.1;
          ends = row.2;
          exact = exact_is row.0 (ending_of horizon ts) row.2 row.3;
        }

  -- Each trace of a run is accepted, and its takings are those of the run.
  pub trace_exact :
      (form : Form) (horizon limit : ℕ) (bytes : List ℕ) (end : Ending) → 0 < horizon → horizon ≤ 10 ^ 12 → limit ≤ most → (trace : IsTrace i form horizon limit bytes end)
      → HaveRoom form (lines_of trace.takings) → (a : IsAccepted sys limit bytes) × JudgesLast sys limit a.takings a.end a.ends
  trace_exact form horizon limit bytes end some small within trace room =
      let ts = trace.takings in
      let run = run_in horizon limit some small within ts trace.simulation form room in
      accepted_by sys limit form bytes run.lines (ending_of horizon ts) run.takings run.there run.rises (chain_end sys limit horizon ts small trace.simulation.below (homes horizon limit some small within ts trace.simulation))
      run.after (trace.text ∙ ap (trace_text form sys (lines_of ts)) trace.ending ∙ run.text) run.lines_are run.ends run.exact
