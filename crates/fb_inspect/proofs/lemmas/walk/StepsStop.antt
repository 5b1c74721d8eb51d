-- The event after which a trace may stop for its steps: which line is wrong where it does not.
use Rattle.fb_inspect.proofs.lemmas.Common.{◌≡◌, ◌⊎◌, ℕ, List, [], ◌∷◌, ◌++◌, map, Option, Some, None, refl, sym, ap, subst, ◌∙◌, inl, inr, append_assoc, system_of, line_of, System, line_text, lines_text, BlockType, Form, Line, Reason, Steps, PortTable, KeepsLimit, all_lines, last_look, limited, IsAlone, IsTaking, Look, Taking, left_at, opening_look, FailsBy, IsUnstarted, IsWrongLine, Finding, Refusal, steps_stop, AreAhead, WalkTakes, unread, Ahead, Reading, Walk}
use Rattle.fb_types.specs.States as model
use Rattle.fb_inspect.specs.Refusals.{IsEndFound, StopsSoon}
use Rattle.fb_inspect.specs.declared.refused.finding.Finding.TheVariants as why
use Rattle.fb_inspect.specs.walk.Standing.{IsNear, StandsAt}
use Rattle.fb_inspect.proofs.lemmas.lines.Moving.{lines-append}
use Rattle.fb_inspect.proofs.lemmas.walk.StandsAfter.{begins_nothing, goes_reads, otherwise, own, own_of, reads_first, taking_is, wrong_after, wrong_here}

pub stop_same : (a b : Option Reason) (P : Type 0) → a ≡ b → (a ≡ Some Steps) ⊎ ((a ≡ None) × P) → (b ≡ Some Steps) ⊎ ((b ≡ None) × P)
stop_same a b P same (inl stops) = inl (sym same ∙ stops)
stop_same a b P same (inr (none, p)) = inr (sym same ∙ none, p)

-- what is found where a taking ended so: the reason that stopped it, or else this
pub end_found :
    (stop : Option Reason) (says_so : Type 0) (f other : Finding) → ((r : Reason) → stop ≡ Some r → f ≡ why.Stops r) → (stop ≡ None → f ≡ other) → (f ≡ other → IsEndFound None says_so f)
    → IsEndFound stop says_so f
end_found (Some r) says_so f other stopped rested is = stopped r refl
end_found None says_so f other stopped rested is = is (rested refl)

module _ (t : PortTable) (form : Form) (takings : List Taking) (w : Walk) (a : Ahead) (line : Line) (rest text : List ℕ) (at : StandsAt (system_of t.system.now) form takings w a.text.items a.last.items line rest text)
    (rows : List Line) (ahead : AreAhead (system_of t.system.now) form line rows a.text.items a.last.items rest) (steps : ℕ) (near : IsNear (system_of t.system.now) line a.last.items) where
  abbrev sys : System
  sys = system_of t.system.now

  abbrev look : Look
  look = last_look (opening_look sys) takings

  abbrev less : Look
  less = limited steps line.key.tick line.key.resource look

  abbrev texts_in : List Line → List ℕ
  texts_in ls = lines_text form sys (map (line_of sys) ls)

  whole : text ≡ lines_text form sys (all_lines takings ++ map (line_of sys) (line ∷ rows)) ++ (steps_stop sys (line_of sys line) ++ rest)
  whole =
      at.stands.is
      ∙ ap (λ (ls : List model.Line). lines_text form sys ls ++ (w.trail.reading.line.items ++ (a.text.items ++ rest))) at.stands.lines_are
      ∙ ap (λ (u : List ℕ). lines_text form sys (all_lines takings) ++ (u ++ (a.text.items ++ rest))) at.is.is
      ∙ ap (λ (u : List ℕ). lines_text form sys (all_lines takings) ++ (line_text form sys (line_of sys line) ++ (u ++ rest))) (ahead.is ∙ ap (λ (u : List ℕ). texts_in rows ++ u) near.is)
      ∙ regroup (lines_text form sys (all_lines takings)) (line_text form sys (line_of sys line)) (texts_in rows) (steps_stop sys (line_of sys line)) rest
      ∙ ap (λ (u : List ℕ). u ++ (steps_stop sys (line_of sys line) ++ rest)) (sym (lines-append form sys (all_lines takings) (map (line_of sys) (line ∷ rows))))
    where
      regroup : (x y u v z : List ℕ) → x ++ (y ++ ((u ++ v) ++ z)) ≡ (x ++ (y ++ u)) ++ (v ++ z)
      regroup x y u v z = simp append_assoc

  soon : StopsSoon sys form takings line text
  soon = record {
    line = at.is.line;
    block = near.block;
    kind = near.kind;
    rows = rows;
    own = ahead.each;
    rest = rest;
    is = whole;
  }

  -- its resource had used more than the steps in the tick
  pub last_limit :
      (n : Refusal) → n ≡ record { number = w.trail.reading.number; finding = why.NoStep } → (KeepsLimit steps line.key.tick line.key.resource look → ⊥)
      → IsWrongLine sys steps n w.trail.reading.line.items text
  last_limit n is over =
      wrong_here t form takings w a line rest text at steps n (ap (λ (r : Refusal). r.number) is) (inr (inl (line, soon, inl (refl, over, ap (λ (r : Refusal). r.finding) is))))

  -- the next line, or one after it, is not that of the taking
  pub last_fails :
      (n : Refusal) (new : Reading) (left : List ℕ) → FailsBy (IsTaking sys steps less) (IsUnstarted sys steps less line) sys form line w.trail.reading new (Some a.text.items) (Some left) n → IsWrongLine sys steps n new.line.items text
  last_fails n new left (inl none) =
      subst (λ (r : Reading). IsWrongLine sys steps n r.line.items text) (sym none.same)
      (wrong_here t form takings w a line rest text at steps n none.number_is
      (inr (inl (line, soon, inr (inl (refl, begins_nothing t form takings w a line rest text at (IsTaking sys steps less) (IsUnstarted sys steps less) n.finding none.none none.found))))))
  last_fails n new left (inr fails) =
      wrong_after t form takings w a line rest text at rows ahead fails.passed new left fails.reads
      (own_of t form takings w a line rest text at (IsTaking sys steps less) new (Some a.text.items) (Some left) n fails) steps n fails.number_is
      (inr (inl (line, soon, inr (inr (inl (otherwise t form takings w a line rest text at (IsTaking sys steps less) new (Some a.text.items) (Some left) n fails))))))

  -- the taking does not use up the steps, or the next line does not say so
  pub last_goes :
      (types : List BlockType) (stop : Option Reason) (between done : Walk) (b : Ahead) → between.trail ≡ w.trail → (goes : WalkTakes types sys form steps less line stop between done (unread a (Some [])) (unread b (Some [])))
      → (IsAlone between.trail.reading.line.items (Some a.text.items) → IsAlone done.trail.reading.line.items (Some b.text.items)) → (n : Refusal) → n.number ≡ done.trail.reading.number
      → IsEndFound stop (done.trail.reading.line.items ≡ steps_stop sys (line_of sys line)) n.finding
      → (done.trail.reading.line.items ≡ steps_stop sys (line_of sys line)
      → (goes.taking.stop ≡ Some Steps) ⊎ ((goes.taking.stop ≡ None) × (left_at steps line.key.tick (goes.taking.after.steps line.key.resource) ≡ 0)) → ⊥)
      → IsWrongLine sys steps n done.trail.reading.line.items text
  last_goes types stop between done b same goes alone n number found other =
      let x = goes.taking in
      let all = reads_first t form takings w a line rest text at x goes.first_is done.trail.reading b.text.items goes.lines goes.lines_are
      (goes_reads t form takings w a line rest text at types steps less stop between done b same goes alone) in
      let key_is : x.first ≡ line_of sys line = goes.first_is in
      wrong_after t form takings w a line rest text at rows ahead all.0 done.trail.reading b.text.items all.1
      (own t form takings w a line rest text at rows ahead x goes.first_is done b.text.items all.0 all.1 all.2) steps n number
      (inr
      (inl (
        line,
        soon,
        inr
            (inr
            (inr
            (record {
              taking = x;
              is_taking = goes.is_taking;
              lines_are = sym (taking_is t form takings w a line rest text at rows ahead x goes.first_is done b.text.items all.0 all.1 all.2);
              found = subst (λ (m : model.Line). IsEndFound x.stop (done.trail.reading.line.items ≡ steps_stop sys m) n.finding) (sym key_is)
                  (subst (λ (s : Option Reason). IsEndFound s (done.trail.reading.line.items ≡ steps_stop sys (line_of sys line)) n.finding) (sym goes.stop_is) found);
              other = λ is out.
                  other (is ∙ ap (steps_stop sys) key_is)
                  (subst (λ (m : model.Line). (x.stop ≡ Some Steps) ⊎ ((x.stop ≡ None) × (left_at steps m.key.tick (x.after.steps m.key.resource) ≡ 0))) key_is out);
            }))),
      )))
