-- Takings that are gone through and shown, one after another.
use Rattle.fb_inspect.proofs.lemmas.Common.{◌≡◌, ◌≤◌, ℕ, ◌+◌, Bool, true, List, [], ◌∷◌, ◌++◌, length, map, Option, None, sym, ◌∙◌, ap, subst, inl, append_assoc, arith, length-append, All, Consumes, Appends-nil, Appends-trans, Consumes-trans, map-append, All-append, All-nil, line_of, System, lines_text, Form, Line, Reason, BelongsTo, last_tick, IsLineOf, RiseFrom, AreTaken, NoneStops, Look, taking_lines, IsLineAt, Page, Shows, Taken, lines_of, takings_of, HasWaved}
use Rattle.fb_inspect.specs.walk.Walking.{HasFlushed}
use Rattle.fb_types.specs.States as model
use Rattle.fb_inspect.specs.walk.Moves.{HavePassed, lines_kept}
use Rattle.fb_inspect.specs.declared.walk.trail.PassedLines.{PassedLines}
use Rattle.fb_inspect.proofs.lemmas.walk.WalkedTakings.{each_of, none_more, rise_more}
use Rattle.fb_inspect.proofs.lemmas.lines.Moving.{lines-append}
use Rattle.fb_inspect.specs.dump.StateDumps.{HaveLines}
use Rattle.fb_inspect.specs.dump.Waving.{IsWaved, TakingGoes, WaveStarts}
use Rattle.fb_inspect.specs.declared.dump.state_wave.StateWave.{StateWave}
use Rattle.fb_inspect.proofs.lemmas.dump.Growing.{lines-one, takings-one}
use Rattle.fb_inspect.proofs.lemmas.dump.WithoutInside.{last_lines}

-- ---- One more taking

have_more : (sys : System) (xs : List Taken) (y : Taken) → HaveLines sys xs → map (line_of sys) y.lines ≡ taking_lines y.taking → HaveLines sys (xs ++ y ∷ [])
have_more sys [] y have is = (is, tt)
have_more sys (x ∷ xs) y have is = (have.0, have_more sys xs y have.1 is)

pub stops_more : (xs : List Taken) (y : Taken) → NoneStops (takings_of xs) → y.taking.stop ≡ None → NoneStops (takings_of (xs ++ y ∷ []))
stops_more xs y none stop = subst NoneStops (sym (takings-one xs y)) (none_more (takings_of xs) y.taking none stop)

-- ---- A taking

-- the lines that were passed are those of the taking
pub passed_are : (ls : List Line) (old new : PassedLines) → old.are_kept ≡ true → old.lines.items ≡ [] → HavePassed ls old new → new.lines.items ≡ ls
passed_are ls old new kept none passed =
    passed.lines ∙ ap (λ (b : Bool). lines_kept b old.lines.items ls) kept ∙ ap (λ (l : List Line). l ++ ls) none

-- the lines are those of the system
pub lines_belong : (sys : System) (tick : ℕ) (ls : List Line) → All (IsLineAt sys tick) ls → All (BelongsTo sys) ls
lines_belong sys tick ls all n d h = (all n d h).line.belongs

-- ---- The walk

module _ (sys : System) (form : Form) (steps : ℕ) where
  -- no taking was gone through yet
  pub waved_none :
      (x : StateWave) (input remaining old : Option (List ℕ)) → WaveStarts sys form x → Consumes input remaining x.walk.trail.reading.line.items
      → HasWaved sys form steps x input remaining old old
  waved_none x input remaining old starts read = record {
    takings = [];
    goes_on = tt;
    chain = tt;
    look = starts.look;
    kept = starts.kept;
    waved = record {
      taken = inl tt;
      lines = tt;
      are = record { each = All-nil (IsLineOf sys); rise = tt };
      numbered = starts.first;
      read = read;
      numbers = starts.numbers;
      sent = [];
      got = Appends-nil old;
      shown = starts.shown;
    };
    next = starts.next;
  }

  -- one more taking
  module _ (x y : StateWave) (xs : List Taken) (line : Line) (stop : Option Reason) (limit : ℕ) (look : Look) (input remaining rest old mid : Option (List ℕ))
      (waved : IsWaved sys form steps x x.walk.trail.reading.line.items xs input remaining old mid) (later : last_tick 0 (lines_of xs) ≤ line.key.tick)
      (goes : TakingGoes sys form limit look xs line stop x y remaining rest) where
    pub last_is : last_tick 0 (lines_of (xs ++ goes.taken ∷ [])) ≡ line.key.tick
    last_is =
        ap (last_tick 0) (lines-one xs goes.taken)
        ∙ last_lines sys 0 (lines_of xs) goes.taken.lines goes.taken.taking.first goes.taken.taking.emits goes.lines_are
        ∙ ap (λ (m : model.Line). m.key.tick) goes.first_is

    pub waved_more : AreTaken sys steps (takings_of (xs ++ goes.taken ∷ [])) → IsWaved sys form steps y y.walk.trail.reading.line.items (xs ++ goes.taken ∷ []) input rest old mid
    waved_more taken =
        let one : lines_of (xs ++ goes.taken ∷ []) ≡ lines_of xs ++ goes.taken.lines = lines-one xs goes.taken in
        let L : List ℕ = lines_text form sys (map (line_of sys) (lines_of xs)) in
        let K : List ℕ = lines_text form sys (map (line_of sys) goes.taken.lines) in
        let both : lines_text form sys (map (line_of sys) (lines_of (xs ++ goes.taken ∷ []))) ≡ L ++ K =
        ap (λ (ls : List Line). lines_text form sys (map (line_of sys) ls)) one
        ∙ ap (lines_text form sys) (map-append (line_of sys) (lines_of xs) goes.taken.lines)
        ∙ lines-append form sys (map (line_of sys) (lines_of xs)) (map (line_of sys) goes.taken.lines) in
        record {
          taken = taken;
          lines = have_more sys xs goes.taken waved.lines goes.lines_are;
          are = record {
            each = subst (All (IsLineOf sys)) (sym one) (All-append (IsLineOf sys) (lines_of xs) goes.taken.lines waved.are.each (each_of sys line.key.tick goes.taken.lines goes.each));
            rise = subst (RiseFrom 0) (sym one) (rise_more sys line.key.tick 0 (lines_of xs) goes.taken.lines waved.are.rise later goes.each);
          };
          numbered = let before = waved.numbered in let passed = goes.numbered in omega (arith, before, passed, ap length one, length-append (lines_of xs) goes.taken.lines);
          read = subst (Consumes input rest)
              (append_assoc L x.walk.trail.reading.line.items goes.bytes
              ∙ ap (λ (t : List ℕ). L ++ t) goes.read
              ∙ sym (append_assoc L K y.walk.trail.reading.line.items)
              ∙ ap (λ (t : List ℕ). t ++ y.walk.trail.reading.line.items) (sym both))
              (Consumes-trans input remaining rest (L ++ x.walk.trail.reading.line.items) goes.bytes waved.read goes.took);
          numbers = goes.numbers;
          sent = waved.sent;
          got = waved.got;
          shown = goes.shown waved.sent waved.shown;
        }

  -- a part of what waited was sent
  pub flushed_on :
      (x : StateWave) (page : Page) (input remaining old mid new : Option (List ℕ)) → HasWaved sys form steps x input remaining old mid → (count : ℕ) → HasFlushed count mid new x.page.text.items page.text.items
      → HasWaved sys form steps (record x { page = page }) input remaining old new
  flushed_on x page input remaining old mid new have count flushed =
      let waved = have.waved in
      record {
        takings = have.takings;
        goes_on = have.goes_on;
        chain = have.chain;
        look = have.look;
        kept = have.kept;
        waved = record {
          taken = waved.taken;
          lines = waved.lines;
          are = waved.are;
          numbered = waved.numbered;
          read = waved.read;
          numbers = waved.numbers;
          sent = waved.sent ++ flushed.sent;
          got = Appends-trans old mid new waved.sent flushed.sent waved.got flushed.got;
          shown = subst (λ (t : List ℕ). Shows sys have.takings t x.dump)
              (ap (λ (t : List ℕ). waved.sent ++ t) flushed.parts ∙ sym (append_assoc waved.sent flushed.sent page.text.items)) waved.shown;
        };
        next = have.next;
      }
