-- Takings that fail: the line of an event with which none begins, or a line after it that is another one.
use Rattle.fb_inspect.proofs.lemmas.Common.{◌≡◌, ◌≤◌, ◌^◌, ◌⊎◌, ℕ, zero, suc, true, false, List, [], ◌∷◌, ◌++◌, map, Option, Some, None, refl, sym, ap, subst, ◌∙◌, arith, inl, inr, map-append, Basic, Emission, Event, Kind, Position, Name, memory_of, event_at, line_of, path_at, System, EventKind, BasicType, Form, Line, ShowsReaction, sys_of, IsTaking, IsTakingAt, IsTakingWith, Look, Seen, Taking, emission_line, emissions_by, emits_pieces, left_at, memory_pieces, reacted, with_left, with_seen, ChartFails, EmitsFail, FailsBy, IsUnbegun, IsUnstarted, Finding, Refusal, taken_reaction, Chart, ChartTaking, Reading}
use Rattle.fb_types.specs.EventBlocks as blocks
use Rattle.fb_types.specs.States as model
use Rattle.fb_inspect.specs.walk.Charting.{IsChartTaking}
use Rattle.fb_inspect.specs.walk.Looks.{IsTakingByBlock, IsTakingByChart, IsTakingByTimer}
use Rattle.fb_inspect.specs.Refusals.{HasRead, IsEmitted, IsNoTaking, IsNotDue, TakingFails}
use Rattle.fb_inspect.specs.declared.refused.finding.Finding.TheVariants as why
use Rattle.fb_inspect.specs.walk.Timing.{taken_variables}
use Rattle.fb_inspect.specs.walk.Walking.{IsChartKept}
use Rattle.fb_inspect.proofs.lemmas.results.Refused.{reads_then}
use Rattle.fb_inspect.proofs.lemmas.reactions.Timed.{taken_is}
use Rattle.fb_net.proofs.lemmas.values.Sampling.{ports-of_kind}
use Rattle.fb_inspect.proofs.lemmas.walk.Walked.{begun, started, starts}

-- ---- Where no taking begins

-- the line of an event that a basic block does not take
pub untaken_chart : (sys : System) (k : Option Kind) (t : BasicType) (look : Look) (left : ℕ) (line : Line) (old : Reading) (n : Refusal) → k ≡ Some (Basic t) → sys.kind (path_at sys line.instance) ≡ k → line.taken ≡ false
    → n ≡ record { number = old.number; finding = why.Unmade } → IsNoTaking (IsTakingAt left look k) (IsUnbegun sys line) sys line old old n
untaken_chart sys k t look left line old n kind of_line untaken is = record {
  same = refl;
  number_is = ap (λ (r : Refusal). r.number) is;
  found = subst (IsUnbegun sys line) (sym (ap (λ (r : Refusal). r.finding) is)) (untaken, (t, of_line ∙ kind));
  none = λ x first is_taking.
      let chart : IsTakingByChart left look t x = subst (λ (o : Option Kind). IsTakingAt left look o x) kind is_taking in
      let taken : line.taken ≡ true = sym (ap (λ (m : model.Line). m.taken) first) ∙ chart.taken in
      let both : true ≡ false = sym taken ∙ untaken in
      cc;
}

-- the line of a timer of an event block that does not go off
pub not_due : (sys : System) (k : Option Kind) (kind : EventKind) (look : Look) (left : ℕ) (line : Line) (old new : Reading) (n : Refusal) → k ≡ Some (Event kind) → sys.kind (path_at sys line.instance) ≡ k → line.taken ≡ false
    → IsNotDue sys kind (look.blocks (path_at sys line.instance)) line old new n → IsNoTaking (IsTakingAt left look k) (IsUnbegun sys line) sys line old new n
not_due sys k kind look left line old new n is of_line untaken due = record {
  same = due.same;
  number_is = due.number_is;
  found = subst (IsUnbegun sys line) (sym due.found) (untaken, (kind, of_line ∙ is));
  none = λ x first is_taking. by x first (subst (λ (o : Option Kind). IsTakingAt left look o x) is is_taking);
}
  where
    by : (x : Taking) → x.first ≡ line_of sys line → IsTakingByBlock left look kind x ⊎ IsTakingByTimer left look kind x → ⊥
    by x first (inl block) =
        let taken : line.taken ≡ true = sym (ap (λ (m : model.Line). m.taken) first) ∙ block.taken in
        let both : true ≡ false = sym taken ∙ untaken in
        cc
    by x first (inr timer) =
        due.other x.emits
        (record {
          emitted = untaken;
          due = subst (λ (m : model.Line). (look.blocks m.at).due ≡ Some m.key.tick) first timer.due;
          is = subst (λ (m : model.Line). record { event = m.event; values = m.values } ∷ x.emits ≡ emissions_by kind (blocks.expiry kind (memory_of (look.blocks m.at).memory) m.key.tick)) first timer.is.0;
        })

-- a taking that comes too late, or has no step
pub too_late : (sys : System) (limit : ℕ) (look : Look) (line : Line) (old : Reading) (n : Refusal) → (line.key.tick ≤ 10 ^ 12 → ⊥)
    → n ≡ record { number = old.number; finding = why.Late } → IsNoTaking (IsTaking sys limit look) (IsUnstarted sys limit look line) sys line old old n
too_late sys limit look line old n late is = record {
  same = refl;
  number_is = ap (λ (r : Refusal). r.number) is;
  found = subst (IsUnstarted sys limit look line) (sym (ap (λ (r : Refusal). r.finding) is)) late;
  none = λ x first is_taking. by x first (left_at limit x.first.key.tick (look.steps x.first.key.resource)) is_taking;
}
  where
    by : (x : Taking) → x.first ≡ line_of sys line → (left : ℕ) → IsTakingWith sys look left x → ⊥
    by x first zero is_taking = is_taking
    by x first (suc left) is_taking = late (subst (λ (m : model.Line). m.key.tick ≤ 10 ^ 12) first is_taking.0)

pub no_step : (sys : System) (limit : ℕ) (look : Look) (line : Line) (old : Reading) (n : Refusal) → line.key.tick ≤ 10 ^ 12 → left_at limit line.key.tick (look.steps line.key.resource) ≡ 0
    → n ≡ record { number = old.number; finding = why.NoStep } → IsNoTaking (IsTaking sys limit look) (IsUnstarted sys limit look line) sys line old old n
no_step sys limit look line old n early none is = record {
  same = refl;
  number_is = ap (λ (r : Refusal). r.number) is;
  found = subst (IsUnstarted sys limit look line) (sym (ap (λ (r : Refusal). r.finding) is)) (early, none);
  none = λ x first is_taking.
      subst (λ (left : ℕ). IsTakingWith sys look left x) (ap (λ (m : model.Line). left_at limit m.key.tick (look.steps m.key.resource)) first ∙ none) is_taking;
}

-- ---- From one instance to the system

module _ (sys : System) (limit : ℕ) (look : Look) (line : Line) (left : ℕ) (used : left_at limit line.key.tick (look.steps line.key.resource) ≡ suc left) (early : line.key.tick ≤ 10 ^ 12) where
  takings_whole : (x : Taking) → x.first ≡ line_of sys line → IsTakingAt left look (sys.kind (path_at sys line.instance)) x → IsTaking sys limit look x
  takings_whole x first is_taking =
      subst (λ (n : ℕ). IsTakingWith sys look n x) (sym (ap (λ (m : model.Line). left_at limit m.key.tick (look.steps m.key.resource)) first ∙ used))
      (subst (λ (m : model.Line). m.key.tick ≤ 10 ^ 12) (sym first) early, subst (λ (m : model.Line). IsTakingAt left look (sys.kind m.at) x) (sym first) is_taking)

  takings_part : (x : Taking) → x.first ≡ line_of sys line → IsTaking sys limit look x → IsTakingAt left look (sys.kind (path_at sys line.instance)) x
  takings_part x first is_taking =
      let all = subst (λ (n : ℕ). IsTakingWith sys look n x) (ap (λ (m : model.Line). left_at limit m.key.tick (look.steps m.key.resource)) first ∙ used) is_taking in
      subst (λ (m : model.Line). IsTakingAt left look (sys.kind m.at) x) first all.1

  first_of : (taking : Taking) (passed : List Line) (rest : List model.Line) → taking.first ∷ map (emission_line taking.first) taking.emits ≡ (line_of sys line ∷ map (line_of sys) passed) ++ rest → taking.first ≡ line_of sys line
  first_of taking passed rest e = cc

  some_left : left_at limit line.key.tick (look.steps line.key.resource) ≡ 0 → ⊥
  some_left none = let both : suc left ≡ 0 = sym used ∙ none in absurd (omega (arith, both))

  -- what is found of the line by its block
  found_whole : (f : Finding) → IsUnbegun sys line f → IsUnstarted sys limit look line f
  found_whole why.Line h = absurd h
  found_whole (why.Emits i e) h = absurd h
  found_whole why.Unmade h = (early, some_left, h)
  found_whole why.NotDue h = (early, some_left, h)
  found_whole why.Late h = absurd h
  found_whole why.NoStep h = absurd h
  found_whole (why.Stops r) h = absurd h
  found_whole (why.Excess n) h = absurd h
  found_whole why.Runs h = absurd h

  pub fails_whole : (form : Form) (old new : Reading) (l j : Option (List ℕ)) (n : Refusal)
      → FailsBy (IsTakingAt left look (sys.kind (path_at sys line.instance))) (IsUnbegun sys line) sys form line old new l j n
      → FailsBy (IsTaking sys limit look) (IsUnstarted sys limit look line) sys form line old new l j n
  fails_whole form old new l j n (inl none) =
      inl (record { same = none.same; number_is = none.number_is; found = found_whole n.finding none.found; none = λ x first is_taking. none.none x first (takings_part x first is_taking) })
  fails_whole form old new l j n (inr fails) = inr
      (record {
        taking = fails.taking;
        is_taking = takings_whole fails.taking (first_of fails.taking fails.passed (fails.next ∷ fails.more) fails.parts) fails.is_taking;
        passed = fails.passed;
        next = fails.next;
        more = fails.more;
        parts = fails.parts;
        reads = fails.reads;
        number_is = fails.number_is;
        found = fails.found;
        other = fails.other;
      })

-- ---- Where a taking goes on otherwise

-- a taking whose first lines, and no more, were read
pub taking_fails :
    (T : Taking → Type 0) (sys : System) (form : Form) (line : Line) (taking : Taking) (es : List Emission) (a y z : Reading) (l k j : Option (List ℕ)) (n : Refusal) → T taking → taking.first ≡ line_of sys line → taking.emits ≡ es
    → HasRead sys form line.key.tick (line ∷ []) a y l k → EmitsFail sys form line es y z k j n → TakingFails T sys form line a z l j n
taking_fails T sys form line taking es a y z l k j n is_taking first emits passed fails =
    let last = fails.otherwise in
    let first_line = line_of sys line in
    record {
      taking = taking;
      is_taking = is_taking;
      passed = last.lines;
      next = emission_line first_line fails.next;
      more = map (emission_line first_line) fails.more;
      parts = ap (λ (m : model.Line). m ∷ map (emission_line m) taking.emits) first
          ∙ ap (λ (fs : List Emission). first_line ∷ map (emission_line first_line) fs) (emits ∙ fails.parts)
          ∙ ap (λ (ls : List model.Line). first_line ∷ ls) (map-append (emission_line first_line) fails.passed (fails.next ∷ fails.more))
          ∙ ap (λ (ls : List model.Line). first_line ∷ (ls ++ (emission_line first_line fails.next ∷ map (emission_line first_line) fails.more))) (sym last.are);
      reads = reads_then sys form line.key.tick a y z (line ∷ []) last.lines l k j passed last.reads;
      number_is = last.number_is;
      found = subst (IsEmitted sys (emission_line first_line fails.next)) (sym last.found) (refl, ap (λ (e : Emission). e.event) last.emission_is, ap (λ (e : Emission). e.values) last.emission_is);
      other = last.other;
    }

-- the reaction of a basic block
pub chart_fails :
    (x : ChartTaking) (look : Look) (c d : Chart) (left steps : ℕ) (a y z : Reading) (l k j : Option (List ℕ)) (n : Refusal) → IsChartTaking x
    → IsChartKept x.block.now c (look.blocks (path_at (sys_of x) x.line.now.instance)) → HasRead (sys_of x) x.fixed.form x.line.now.key.tick (x.line.now ∷ []) a y l k
    → ChartFails x (ShowsReaction x.block.now (event_at x.block.now.ports.event_inputs x.line.now.event)) (begun x look c d left steps None) y z k j n
    → TakingFails (IsTakingAt left look ((sys_of x).kind (path_at (sys_of x) x.line.now.instance))) (sys_of x) x.fixed.form x.line.now a z l j n
chart_fails x look c d left steps a y z l k j n taking is passed fails =
    let sys = sys_of x in
    let line = x.line.now in
    let basic = x.block.now in
    let path = path_at sys line.instance in
    let before : Seen = look.blocks path in
    let end : Position = fails.end in
    let here = taken_is sys basic.ports line taking.taken (ports-of_kind sys path (Basic basic) taking.kind) in
    let it : Taking = record {
      first = line_of sys line;
      emits = end.emitted;
      pieces = fails.pieces;
      stop = fails.stop;
      after = with_seen path (record before { memory = model.InState end.state; variables = end.vars }) (with_left line.key end.left look);
    } in
    let is_taking : IsTakingByChart left look basic it = record {
      taken = taking.taken;
      end = end;
      shown = subst (λ (e : Name). ShowsReaction basic e (started x look c d left steps None) fails.stop end fails.pieces) (ap (λ (m : model.Line). m.event) (sym here))
          (subst (λ (p : Position). ShowsReaction basic (event_at basic.ports.event_inputs line.event) p fails.stop end fails.pieces) (starts x look c d left steps None taking is) fails.shows);
      emitted = refl;
      is = refl;
    } in
    taking_fails (IsTakingAt left look (sys.kind path)) sys x.fixed.form line it end.emitted a y z l k j n (subst (λ (o : Option Kind). IsTakingAt left look o it) (sym taking.kind) is_taking) refl refl passed fails.fails

-- the reaction of an event block
pub block_fails :
    (sys : System) (form : Form) (look : Look) (left : ℕ) (line : Line) (kind : EventKind) (a y z : Reading) (l k j : Option (List ℕ)) (n : Refusal) → sys.kind (path_at sys line.instance) ≡ Some (Event kind) → line.taken ≡ true
    → HasRead sys form line.key.tick (line ∷ []) a y l k
    → EmitsFail sys form line (emissions_by kind (taken_reaction sys kind (look.blocks (path_at sys line.instance)) line)) y z k j n
    → TakingFails (IsTakingAt left look (sys.kind (path_at sys line.instance))) sys form line a z l j n
block_fails sys form look left line kind a y z l k j n kind_is taken passed fails =
    let path = path_at sys line.instance in
    let was : Seen = look.blocks path in
    let r = taken_reaction sys kind was line in
    let after_seen : Seen = reacted was r (taken_variables sys was line) was.due in
    let outs : List Emission = emissions_by kind r in
    let it : Taking = record {
      first = line_of sys line;
      emits = outs;
      pieces = memory_pieces was after_seen ++ emits_pieces outs;
      stop = None;
      after = with_seen path after_seen (with_left line.key left look);
    } in
    let is_taking : IsTakingByBlock left look kind it = record { taken = taken; goes_on = refl; is = (refl, refl, refl) } in
    taking_fails (IsTakingAt left look (sys.kind path)) sys form line it outs a y z l k j n (subst (λ (o : Option Kind). IsTakingAt left look o it) (sym kind_is) (inl is_taking)) refl refl passed fails
