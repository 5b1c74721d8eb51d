-- What one step of a walk does, by what its calls do.
use Rattle.fb_inspect.proofs.lemmas.Common.{◌≡◌, ◌≤◌, ◌⊎◌, ℕ, ◌+◌, List, Option, Some, None, Result, Ok, Err, refl, sym, ◌∙◌, ap, subst, inl, inr, IfOk, Vec, Consumes, System, BlockType, Form, Line, Reason, Steps, Outcome, Marks, Selection, KeepSteps, limited, IsNext, Left, Look, left_at, most, AreCutOff, IsLookOf, IsSevered, WalkTakes, unread, Ahead, Remembered, Next, Step, Ended, Walk}
use Rattle.std.specs.Io.KnownBytes.{prepend_known}
use Rattle.fb_inspect.specs.walk.Stepping.{EndsAfter, GoesOn, IsStopped, IsUsedUp, LineGoes, StepGoes, stop_at}
use Rattle.fb_inspect.specs.walk.Walking.{HasLimited}
use Rattle.fb_inspect.specs.declared.walk.reading.Next.TheVariants as next
use Rattle.fb_inspect.specs.declared.walk.Step.TheVariants.{Taken, CutOff}
use Rattle.fb_inspect.proofs.lemmas.walk.Stepped.{look_limited, taking_from, taking_next, taking_reread}

-- two facts of what a call answers
pub ok_both : {A E : Type 0} (r : Result A E) (P Q R : A → Type 0) → IfOk r P → IfOk r Q → ((x : A) → P x → Q x → R x) → IfOk r R
ok_both (Ok x) P Q R h k f = f x h k
ok_both (Err e) P Q R h k f = tt

-- a step after which the trace is not cut off
pub taken_whole : Taken ≡ CutOff → ⊥
taken_whole same = absurd (cc)

pub ended_whole : (end : Outcome) → Ended end ≡ CutOff → ⊥
ended_whole end same = absurd (cc)

module _ (types : List BlockType) (sys : System) (form : Form) (steps : ℕ) (look : Look) (line : Line) where
  -- the event is taken with the greatest limit
  pub free_goes :
      (old new : Walk) (remaining rest : Option (List ℕ)) (limit : ℕ) (stop : Option Reason) → limit ≡ most → stop ≡ None → WalkTakes types sys form limit look line stop old new remaining rest
      → IsNext sys form line.key.tick new.trail.reading.line.items new.trail.reading.next → GoesOn types sys form look line old new remaining rest
  free_goes old new remaining rest limit stop same none goes here = record {
    goes = subst (λ (n : ℕ). WalkTakes types sys form n look line None old new remaining rest) same
        (subst (λ (o : Option Reason). WalkTakes types sys form limit look line o old new remaining rest) none goes);
    next = here;
  }

  -- the event is taken with the greatest limit, and its resource stops
  pub free_ends :
      (old new : Walk) (remaining rest : Option (List ℕ)) (limit : ℕ) (stop : Option Reason) (r : Reason) (end : Outcome) → limit ≡ most → stop ≡ Some r → (r ≡ Steps → ⊥)
      → WalkTakes types sys form limit look line stop old new remaining rest → IsNext sys form line.key.tick new.trail.reading.line.items new.trail.reading.next
      → new.trail.reading.next ≡ next.End (stop_at line r) → end ≡ stop_at line r → EndsAfter types sys form steps look line end old new remaining rest
  free_ends old new remaining rest limit stop r end same stops other goes here last is =
      let at = subst (λ (n : Next). IsNext sys form line.key.tick new.trail.reading.line.items n) (last ∙ ap next.End (sym is)) here in
      record {
        how = inl
            (record {
              reason = r;
              other = other;
              goes = subst (λ (n : ℕ). WalkTakes types sys form n look line (Some r) old new remaining rest) same
                  (subst (λ (o : Option Reason). WalkTakes types sys form limit look line o old new remaining rest) stops goes);
              is = is;
            });
        last = at.0;
        after = at.1;
      }

  -- the event is taken with the limit of the run, and its resource runs out of steps
  pub limited_ends :
      (old between new : Walk) (remaining rest : Option (List ℕ)) (stop : Option Reason) (end : Outcome) → KeepSteps sys steps look → between.shown ≡ old.shown → between.trail ≡ old.trail → between.blocks ≡ old.blocks
      → IsLookOf sys old.blocks.items old.steps.items look → HasLimited steps line.key old.steps.items between.steps.items
      → ((l : Look) → IsLookOf sys between.blocks.items between.steps.items l → WalkTakes types sys form steps l line stop between new remaining rest)
      → ((l : Look) → IsLookOf sys new.blocks.items new.steps.items l → (stop ≡ Some Steps) ⊎ ((stop ≡ None) × (left_at steps line.key.tick (l.steps line.key.resource) ≡ 0)))
      → IsNext sys form line.key.tick new.trail.reading.line.items new.trail.reading.next → new.trail.reading.next ≡ next.End (stop_at line Steps) → end ≡ stop_at line Steps
      → EndsAfter types sys form steps look line end old new remaining rest
  limited_ends old between new remaining rest stop end kept shown_same trail_same blocks_same is_look has goes out here last is =
      let near : Look = limited steps line.key.tick line.key.resource look in
      let is_near : IsLookOf sys between.blocks.items between.steps.items near =
      subst (λ (b : Vec Remembered). IsLookOf sys b.items between.steps.items near) (sym blocks_same)
      (look_limited sys steps line.key look old.blocks.items old.steps.items between.steps.items is_look has) in
      let own = taking_from types sys form steps near line stop old between new remaining rest shown_same trail_same (goes near is_near) in
      let at = subst (λ (n : Next). IsNext sys form line.key.tick new.trail.reading.line.items n) (last ∙ ap next.End (sym is)) here in
      record {
        how = inr
            (record {
              kept = kept;
              within = subst (λ (l : Left). most ≤ left_at most line.key.tick l + steps) (sym (is_look.lefts line.key.resource has.before has.stood)) has.within;
              stop = stop;
              goes = own;
              out = by own (out own.taking.after own.look_after);
              is = is;
            });
        last = at.0;
        after = at.1;
      }
    where
      by :
          (own : WalkTakes types sys form steps (limited steps line.key.tick line.key.resource look) line stop old new remaining rest)
          → (stop ≡ Some Steps) ⊎ ((stop ≡ None) × (left_at steps line.key.tick (own.taking.after.steps line.key.resource) ≡ 0))
          → (own.taking.stop ≡ Some Steps) ⊎ ((own.taking.stop ≡ None) × (left_at steps line.key.tick (own.taking.after.steps line.key.resource) ≡ 0))
      by own (inl stopped) = inl (own.stop_is ∙ stopped)
      by own (inr (on, used)) = inr (own.stop_is ∙ on, used)

  -- a step for which the line is kept before it, and a note is made after it
  pub line_watched :
      (old new : Walk) (a b c d : Ahead) (remaining : Option (List ℕ)) (step : Step) → b.text ≡ a.text → d.text ≡ c.text → d.rows ≡ c.rows
      → LineGoes types sys form steps look line old new c (unread b remaining) (unread c remaining) step
      → LineGoes types sys form steps look line old new d (unread a remaining) (unread d remaining) step
  line_watched old new a b c d remaining step before after rows goes =
      by step
      (subst (λ (q : Option (List ℕ)). LineGoes types sys form steps look line old new c (unread a remaining) q step) (ap (λ (v : Vec ℕ). prepend_known v.items remaining) (sym after))
      (subst (λ (p : Option (List ℕ)). LineGoes types sys form steps look line old new c p (unread c remaining) step) (ap (λ (v : Vec ℕ). prepend_known v.items remaining) before) goes))
    where
      by : (s : Step) → LineGoes types sys form steps look line old new c (unread a remaining) (unread d remaining) s → LineGoes types sys form steps look line old new d (unread a remaining) (unread d remaining) s
      by Taken h = h
      by (Ended end) h = h
      by CutOff h =
          subst (λ (v : Vec Line). AreCutOff sys form line v.items d.text.items (unread a remaining)) (sym rows)
          (subst (λ (v : Vec ℕ). AreCutOff sys form line c.rows.items v.items (unread a remaining)) (sym after) h)

  -- from what was not read ahead yet
  module _ (old new : Walk) (r s rest : Option (List ℕ)) (back : (bytes : List ℕ) → Consumes s rest bytes → Consumes r rest bytes) where
    used_reread : (end : Outcome) → IsUsedUp types sys form steps look line end old new s rest → IsUsedUp types sys form steps look line end old new r rest
    unfolding taking_reread
    used_reread end x = record {
      kept = x.kept;
      within = x.within;
      stop = x.stop;
      goes = taking_reread types sys form steps (limited steps line.key.tick line.key.resource look) line x.stop old new r s rest back x.goes;
      out = x.out;
      is = x.is;
    }

    ends_reread : (end : Outcome) → EndsAfter types sys form steps look line end old new s rest → EndsAfter types sys form steps look line end old new r rest
    ends_reread end ends = record { how = by ends.how; last = ends.last; after = ends.after }
      where
        by :
            IsStopped types sys form look line end old new s rest ⊎ IsUsedUp types sys form steps look line end old new s rest
            → IsStopped types sys form look line end old new r rest ⊎ IsUsedUp types sys form steps look line end old new r rest
        by (inl x) = inl (record { reason = x.reason; other = x.other; goes = taking_reread types sys form most look line (Some x.reason) old new r s rest back x.goes; is = x.is })
        by (inr x) = inr (used_reread end x)

    pub line_reread :
        (ahead : Ahead) (step : Step) → (step ≡ CutOff → ⊥) → LineGoes types sys form steps look line old new ahead s rest step → LineGoes types sys form steps look line old new ahead r rest step
    line_reread ahead Taken whole goes = record { goes = taking_reread types sys form most look line None old new r s rest back goes.goes; next = goes.next }
    line_reread ahead (Ended end) whole goes = ends_reread end goes
    line_reread ahead CutOff whole goes = absurd (whole refl)

  -- whatever the next line was
  module _ (old : Walk) (bad : Next) (new : Walk) (remaining rest : Option (List ℕ)) where
    abbrev past : Walk
    past = record old { trail = record (old.trail) { reading = record (old.trail.reading) { next = bad } } }

    used_next : (end : Outcome) → IsUsedUp types sys form steps look line end past new remaining rest → IsUsedUp types sys form steps look line end old new remaining rest
    unfolding taking_next
    used_next end x = record {
      kept = x.kept;
      within = x.within;
      stop = x.stop;
      goes = taking_next types sys form steps (limited steps line.key.tick line.key.resource look) line x.stop old bad new remaining rest x.goes;
      out = x.out;
      is = x.is;
    }

    ends_next : (end : Outcome) → EndsAfter types sys form steps look line end past new remaining rest → EndsAfter types sys form steps look line end old new remaining rest
    ends_next end ends = record { how = by ends.how; last = ends.last; after = ends.after }
      where
        by :
            IsStopped types sys form look line end past new remaining rest ⊎ IsUsedUp types sys form steps look line end past new remaining rest
            → IsStopped types sys form look line end old new remaining rest ⊎ IsUsedUp types sys form steps look line end old new remaining rest
        by (inl x) = inl (record { reason = x.reason; other = x.other; goes = taking_next types sys form most look line (Some x.reason) old bad new remaining rest x.goes; is = x.is })
        by (inr x) = inr (used_next end x)

    pub line_next :
        (ahead : Ahead) (step : Step) → LineGoes types sys form steps look line past new ahead remaining rest step → LineGoes types sys form steps look line old new ahead remaining rest step
    line_next ahead Taken goes = record { goes = taking_next types sys form most look line None old bad new remaining rest goes.goes; next = goes.next }
    line_next ahead (Ended end) goes = ends_next end goes
    line_next ahead CutOff goes = goes

-- a step from the next line, whatever comes but a cut
pub step_over :
    (types : List BlockType) (sys : System) (form : Form) (steps : ℕ) (look : Look) (old new : Walk) (line : Line) (ahead : Ahead) (remaining rest : Option (List ℕ)) (step : Step)
    → next.Event line ≡ old.trail.reading.next → (step ≡ CutOff → ⊥) → LineGoes types sys form steps look line old new ahead remaining rest step
    → StepGoes types sys form steps look old new ahead remaining rest step
step_over types sys form steps look old new line ahead remaining rest Taken is whole goes = record { line = line; is = is; goes = goes }
step_over types sys form steps look old new line ahead remaining rest (Ended end) is whole goes = inr (record { line = line; is = is; goes = goes })
step_over types sys form steps look old new line ahead remaining rest CutOff is whole goes = absurd (whole refl)

-- a trace is cut off, whatever the next line is then
pub severed_next :
    (types : List BlockType) (first : Marks) (sys : System) (form : Form) (what : Selection) (w : Walk) (after : Next) (input old mid : Option (List ℕ))
    → IsSevered types first sys form what w input old mid
    → IsSevered types first sys form what (record w { trail = record (w.trail) { reading = record (w.trail.reading) { next = after } } }) input old mid
severed_next types first sys form what w after input old mid off = record {
  takings = off.takings;
  goes_on = off.goes_on;
  chain = off.chain;
  lines = off.lines;
  lines_are = off.lines_are;
  untaken = off.untaken;
  of_one = off.of_one;
  last = off.last;
  are = off.are;
  rest = off.rest;
  sent = off.sent;
  got = off.got;
  text = off.text;
  marked = off.marked;
}
