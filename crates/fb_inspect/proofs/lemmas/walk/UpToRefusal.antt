-- A walk from its first line to the line that is refused.
use Rattle.fb_inspect.proofs.lemmas.Common.{◌≡◌, ◌<◌, ℕ, ◌+◌, List, [], ◌∷◌, ◌++◌, length, map, Option, Some, None, refl, sym, ap, subst, ◌∙◌, inl, arith, IfSome, take_through, Consumes, All-nil, line_of, System, lines_text, BlockType, Form, ending_of, Outcome, Marks, last_tick, IsLineOf, Selection, IsNext, Taking, opening_look, BeginsText, IsLeft, StandsWell, Watches, IsLookOf, Starts, Ahead, Page, Trail, Walk, IsFirstLine, HasNames}
use Rattle.fb_inspect.specs.Refusals.{IsAfterLast}
use Rattle.fb_inspect.specs.walk.Walking.{IsComplete}
use Rattle.fb_inspect.specs.declared.walk.trail.PassedLines.{PassedLines}
use Rattle.fb_wave.proofs.lemmas.Copied.{ends_after}
use Rattle.fb_wave.proofs.lemmas.Forming.{ShowsForm, form_shown}

-- the walk stands at the first line
pub well_opens :
    (sys : System) (form : Form) (steps : ℕ) (w : Walk) (a : Ahead) (rest text : List ℕ) → IsLookOf sys w.blocks.items w.steps.items (opening_look sys) → w.trail.reading.number ≡ 1
    → IsNext sys form 0 w.trail.reading.line.items w.trail.reading.next → a.text.items ≡ [] → BeginsText sys form w.trail.reading.line.items a.excess rest text → StandsWell sys form steps w a rest text
well_opens sys form steps w a rest text look number next empty begins =
    let line = w.trail.reading.line.items in
    let whole : text ≡ line ++ (a.text.items ++ rest) = begins.is ∙ ap (λ (u : List ℕ). line ++ (u ++ rest)) (sym empty) in
    record {
      takings = [];
      on = record {
        stands = record {
          chain = tt;
          goes_on = tt;
          look = look;
          lines = [];
          lines_are = refl;
          are = record { each = All-nil (IsLineOf sys); rise = tt };
          numbered = number;
          is = whole;
          alone = begins.alone ∙ ap (take_through 10) whole;
          formed = begins.formed;
          after = λ m is. inl empty;
        };
        next = next;
      };
      near = λ front x e. absurd (some front x e);
      watched = subst (Watches sys steps []) (sym begins.unwatched) (λ r within. omega arith);
    }
  where
    some : (front : List Taking) (x : Taking) → [] ≡ front ++ x ∷ [] → ⊥
    some [] x e = cc
    some (y ∷ ys) x e = cc

pub well_first :
    (sys : System) (form : Form) (what : Selection) (steps : ℕ) (w : Walk) (a : Ahead) (rest text : List ℕ) → Starts sys form what w → a.text.items ≡ []
    → BeginsText sys form w.trail.reading.line.items a.excess rest text → StandsWell sys form steps w a rest text
well_first sys form what steps w a rest text starts empty begins =
    well_opens sys form steps w a rest text (record { are = starts.blocks; counts = starts.steps.all; lefts = λ r s at. sym (starts.steps.each r s at) }) starts.first starts.next empty begins

-- a part of what waited was sent
pub well_flushed :
    (sys : System) (form : Form) (steps : ℕ) (w : Walk) (page : Page) (a : Ahead) (rest text : List ℕ) → StandsWell sys form steps w a rest text
    → StandsWell sys form steps (record w { trail = record (w.trail) { page = page } }) a rest text
well_flushed sys form steps w page a rest text well = record { takings = well.takings; on = record { stands = well.on.stands; next = well.on.next }; near = well.near; watched = well.watched }

-- more than the last line is left
pub after_last :
    (types : List BlockType) (first : Marks) (sys : System) (form : Form) (what : Selection) (steps : ℕ) (w : Walk) (end : Outcome) (text : List ℕ) (remaining old mid : Option (List ℕ)) (n : ℕ)
    → IsComplete types first sys form what steps w end (Some text) remaining old mid → n ≡ w.trail.reading.number + 1 → IfSome remaining (λ rest. 0 < length rest) → IsAfterLast sys steps n text
after_last types first sys form what steps w end text None old mid n complete number more = absurd complete.gone.read
after_last types first sys form what steps w end text (Some rest) old mid n complete number more =
    let counted = complete.gone.numbered in
    record {
      front = lines_text form sys (map (line_of sys) complete.gone.lines) ++ w.trail.reading.line.items;
      accepted = record {
        form = form;
        lines = complete.gone.lines;
        end = ending_of end;
        trace = record {
          lines = complete.gone.are;
          last = complete.last.can;
          ends = ends_after (last_tick 0 complete.gone.lines) (last_tick 0 complete.gone.lines) end refl complete.after;
          is = ap (λ (u : List ℕ). lines_text form sys (map (line_of sys) complete.gone.lines) ++ u) complete.last.is;
        };
        takings = complete.takings;
        lines_are = complete.gone.lines_are;
        ends = complete.ends;
      };
      numbered = omega (arith, number, counted);
      rest = rest;
      more = more;
      is = complete.gone.read;
    }

-- the first line of a text that is known
pub text_begins :
    (sys : System) (form : Form) (line : List ℕ) (e : Option ℕ) (text : List ℕ) (input after : Option (List ℕ)) → HasNames sys → input ≡ Some text → Consumes input after line → IsFirstLine line input → ShowsForm form line → e ≡ None
    → IsLeft after (λ rest. BeginsText sys form line e rest text)
text_begins sys form line e text None after names known read first shows unwatched = absurd (cc)
text_begins sys form line e text (Some t) None names known read first shows unwatched = absurd read
text_begins sys form line e text (Some t) (Some rest) names known read first shows unwatched =
    let same : t ≡ text = cc in
    let alone : line ≡ take_through 10 text = first ∙ ap (take_through 10) same in (
      rest,
      refl,
      record {
        is = sym same ∙ read;
        alone = alone;
        formed = λ f m is. form_shown sys form f m (take_through 10 text) names (subst (ShowsForm form) alone shows) is;
        unwatched = unwatched;
      },
    )

-- other marks are set, or other lines kept
pub well_aside :
    (sys : System) (form : Form) (steps : ℕ) (w : Walk) (t : Trail) (passed : PassedLines) (marks : Marks) (a : Ahead) (rest text : List ℕ) → t ≡ record (w.trail) { passed = passed; marks = marks }
    → StandsWell sys form steps w a rest text → StandsWell sys form steps (record w { trail = t }) a rest text
well_aside sys form steps w t passed marks a rest text is well =
    subst (λ (v : Trail). StandsWell sys form steps (record w { trail = v }) a rest text) (sym is)
    (record { takings = well.takings; on = record { stands = well.on.stands; next = well.on.next }; near = well.near; watched = well.watched })
