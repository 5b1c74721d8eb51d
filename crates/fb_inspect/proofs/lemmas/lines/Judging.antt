-- The next line of a walk: an event, an end that may not come there, or none.
use Rattle.fb_inspect.proofs.lemmas.Common.{◌≡◌, ℕ, List, Option, Some, None, [], ◌∷◌, ◌++◌, map, refl, sym, ap, subst, ◌∙◌, inl, inr, append-nil, take_through, line_of, AtStop, System, last_line, lines_text, Form, Line, StopMark, Reason, Divide, Range, Steps, ending_of, Outcome, Stop, last_tick, IsEndOf, IsTextOf, HasNames, all_lines, last_look, IsNext, Taking, opening_look, IsWrongLine, Finding, Refusal, Refuses, StandsWell, Watches, MayEnd, Ahead, WalkError, Refused, Next, Walk}
use Rattle.fb_trace.specs.declared.last.Outcome.TheVariants.{End}
use Rattle.fb_inspect.specs.Refusals.{IsTooMany, IsWrongAfter}
use Rattle.fb_inspect.specs.walk.Standing.{AreApart, AreNumbered, IsStepsStop, Stands, StandsAt, StandsOn}
use Rattle.fb_inspect.specs.declared.refused.finding.Finding.TheVariants as why
use Rattle.fb_inspect.specs.declared.walk.reading.Next.TheVariants as next
use Rattle.fb_inspect.proofs.lemmas.results.Errors.{of_refusal}

-- the next line is that of an event
pub event_at :
    (sys : System) (form : Form) (takings : List Taking) (w : Walk) (bad : Next) (ahead last rest text : List ℕ) → HasNames sys → AreNumbered sys → AreApart sys → StandsOn sys form takings w ahead last rest text
    → (line : Line) → next.Event line ≡ w.trail.reading.next → StandsAt sys form takings (record w { trail = record (w.trail) { reading = record (w.trail.reading) { next = bad } } }) ahead last line rest text
event_at sys form takings w bad ahead last rest text names numbers apart on line is =
    let here = subst (λ (n : Next). IsNext sys form (last_tick 0 on.stands.lines) w.trail.reading.line.items n) (sym is) on.next in
    record {
      stands = on.stands;
      names = names;
      numbers = numbers;
      apart = apart;
      is = here.0;
      later = here.1;
      plain = here.2;
    }

-- ---- The line itself is wrong

module _ (sys : System) (form : Form) (steps : ℕ) (w : Walk) (a : Ahead) (rest text : List ℕ) (names : HasNames sys) (well : StandsWell sys form steps w a rest text) where
  abbrev stands : Stands sys form well.takings w a.text.items a.last.items rest text
  stands = well.on.stands

  formed_at :
      (before : List Line) → text ≡ lines_text form sys (map (line_of sys) before) ++ (w.trail.reading.line.items ++ (a.text.items ++ rest)) → before ≡ []
      → (f : Form) (m : Line) → IsTextOf sys f m w.trail.reading.line.items → f ≡ form
  formed_at [] is empty f m at = stands.formed f m (record { line = at.line; is = ap (take_through 10) is ∙ sym stands.alone ∙ at.is })
  formed_at (l ∷ ls) is empty f m at = absurd (cc)

  -- the refusal of the next line, for this
  abbrev pub refused_for : Finding → Refusal
  refused_for f = record { number = w.trail.reading.number; finding = f }

  wrong_line : (f : Finding) → IsWrongAfter sys form steps (last_tick 0 stands.lines) well.takings [] w.trail.reading.line.items text f
      → IsWrongLine sys steps (refused_for f) w.trail.reading.line.items text
  wrong_line f wrong = record {
    form = form;
    before = stands.lines;
    at = record {
      are = stands.are;
      numbered = stands.numbered;
      rest = a.text.items ++ rest;
      is = stands.is;
      alone = stands.alone;
      formed = formed_at stands.lines stands.is;
    };
    takings = well.takings;
    begun = [];
    taken = record { chain = stands.chain; goes_on = stands.goes_on; lines_are = stands.lines_are ∙ sym (append-nil (all_lines well.takings)) };
    wrong = wrong;
  }

  -- the next line is none of the system
  pub bad_line : next.Bad ≡ w.trail.reading.next → IsWrongLine sys steps (refused_for why.Line) w.trail.reading.line.items text
  bad_line is =
      let none = (subst (λ (n : Next). IsNext sys form (last_tick 0 stands.lines) w.trail.reading.line.items n) (sym is) well.on.next) names in
      wrong_line why.Line (inl (inl (refl, record { no_taking = λ m at plain later x first taking. none.0 m at later; no_end = none.1; found = inl (refl, none.0) })))

  -- the next line is an end that may not come there
  module _ (end : Outcome) (is : next.End end ≡ w.trail.reading.next) (other : IsEndOf sys (ending_of end) → MayEnd sys steps (last_look (opening_look sys) well.takings) (ending_of end) → ⊥) where
    here : IsNext sys form (last_tick 0 stands.lines) w.trail.reading.line.items (next.End end)
    here = subst (λ (n : Next). IsNext sys form (last_tick 0 stands.lines) w.trail.reading.line.items n) (sym is) well.on.next

    nothing : IsWrongLine sys steps (refused_for why.Runs) w.trail.reading.line.items text
    nothing =
        wrong_line why.Runs (inl (inr (inl (refl, record { end = ending_of end; can = here.0.can; is = here.0.is; other = other here.0.can; near = well.near; found = refl }))))

    -- the run ends for its steps, but a resource had used too many before
    many : (m : StopMark) → end ≡ Stop m → m.reason ≡ Steps → (k : ℕ) → IsTooMany sys steps well.takings k → IsWrongLine sys steps (refused_for (why.Excess k)) w.trail.reading.line.items text
    many m end_is reason k watched =
        let stop_is : ending_of end ≡ AtStop m.tick m.resource Steps = ap ending_of end_is ∙ ap (AtStop m.tick m.resource) reason in
        wrong_line (why.Excess k)
        (inr
        (inr
        (record {
          number = k;
          many = watched;
          tick = m.tick;
          resource = m.resource;
          can = subst (IsEndOf sys) stop_is here.0.can;
          is = here.0.is ∙ ap (last_line sys) stop_is;
          near = λ none no_line. well.near watched.before watched.taking (watched.parts ∙ ap (λ (ts : List Taking). watched.before ++ watched.taking ∷ ts) none) watched.kept;
          found = refl;
        })))

-- the next line is an end that may not come there: for its steps, where too many were used before
pub wrong_end :
    (sys : System) (form : Form) (steps : ℕ) (w : Walk) (a : Ahead) (rest text : List ℕ) → HasNames sys → (well : StandsWell sys form steps w a rest text) → (end : Outcome) → next.End end ≡ w.trail.reading.next
    → (IsEndOf sys (ending_of end) → MayEnd sys steps (last_look (opening_look sys) well.takings) (ending_of end) → ⊥) → (error : WalkError)
    → ((k : ℕ) → a.excess ≡ Some k → IsStepsStop end → error ≡ Refused (record { number = w.trail.reading.number; finding = why.Excess k }))
    → (a.excess ≡ None → error ≡ Refused (record { number = w.trail.reading.number; finding = why.Runs }))
    → ((IsStepsStop end → ⊥) → error ≡ Refused (record { number = w.trail.reading.number; finding = why.Runs }))
    → Refuses (λ n. IsWrongLine sys steps n w.trail.reading.line.items text) error
wrong_end sys form steps w a rest text names well end is other error back none apart = by a.excess refl well.watched end refl
  where
    not : IsEndOf sys (ending_of end) → MayEnd sys steps (last_look (opening_look sys) well.takings) (ending_of end) → ⊥
    not can = other can

    plain : error ≡ Refused (record { number = w.trail.reading.number; finding = why.Runs }) → Refuses (λ n. IsWrongLine sys steps n w.trail.reading.line.items text) error
    plain e =
        of_refusal (λ n. IsWrongLine sys steps n w.trail.reading.line.items text) error (record { number = w.trail.reading.number; finding = why.Runs }) e (nothing sys form steps w a rest text names well end is not)

    for_steps : (m : StopMark) → end ≡ Stop m → (k : ℕ) → a.excess ≡ Some k → IsTooMany sys steps well.takings k → (r : Reason) → m.reason ≡ r → Refuses (λ n. IsWrongLine sys steps n w.trail.reading.line.items text) error
    for_steps m e k set watched Steps reason =
        of_refusal (λ n. IsWrongLine sys steps n w.trail.reading.line.items text) error (record { number = w.trail.reading.number; finding = why.Excess k }) (back k set (subst IsStepsStop (sym e) reason))
        (many sys form steps w a rest text names well end is not m e reason k watched)
    for_steps m e k set watched Divide reason = plain (apart (λ s. let h : m.reason ≡ Steps = subst IsStepsStop e s in let both : Steps ≡ Divide = sym h ∙ reason in cc))
    for_steps m e k set watched Range reason = plain (apart (λ s. let h : m.reason ≡ Steps = subst IsStepsStop e s in let both : Steps ≡ Range = sym h ∙ reason in cc))

    by : (x : Option ℕ) → a.excess ≡ x → Watches sys steps well.takings x → (o : Outcome) → end ≡ o → Refuses (λ n. IsWrongLine sys steps n w.trail.reading.line.items text) error
    by None set watched o e = plain (none set)
    by (Some k) set watched (End h) e = plain (apart (λ s. subst IsStepsStop e s))
    by (Some k) set watched (Stop m) e = for_steps m e k set watched m.reason refl
