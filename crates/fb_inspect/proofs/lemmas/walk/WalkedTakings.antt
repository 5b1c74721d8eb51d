-- Takings of a walk through a trace, one after another.
use Rattle.fb_inspect.proofs.lemmas.Common.{◌≡◌, ◌<◌, ◌≤◌, ℕ, suc, Bool, List, [], ◌∷◌, ◌++◌, length, map, Option, Some, None, refl, sym, ◌∙◌, ap, subst, inl, append_assoc, append-nil, arith, length-append, All, ◌&&◌, if◌then◌else◌, list_any, Consumes, Appends-nil, Appends-trans, Consumes-trans, map-append, All-append, All-nil, line_of, path_at, Ending, AtStop, System, lines_text, BlockType, Form, Line, Reason, last_tick, IsLineOf, RiseFrom, ChartMarks, Marks, AreTaken, AreTakings, NoneStops, NothingAfter, all_lines, last_look, stop_of, Selection, Piece, is_loss, IsTaking, Look, Taking, emission_line, taking_lines, IsLineAt, shown_text, HasCovered, Starts, WalkTakes, Page, Walk}
use Rattle.fb_types.specs.States as model
use Rattle.fb_inspect.specs.Inspections.{all_text}
use Rattle.fb_inspect.specs.Selections.{is_during, is_kept, is_shown, is_shown_at, is_wanted}
use Rattle.fb_inspect.specs.walk.Looks.{taking_text}
use Rattle.fb_inspect.specs.Markings.{TakingMarks, TakingsMark, lines_marked}
use Rattle.fb_inspect.specs.walk.Walking.{AreMarked, HasGone, IsGone, ShowsOf, shows, HasFlushed}
use Rattle.fb_inspect.specs.declared.filter.EventFilter.{EventFilter}
use Rattle.fb_inspect.specs.declared.filter.Shown.{Shown}
use Rattle.fb_inspect.proofs.lemmas.lines.Moving.{lines-append, marked-append, next_line}

-- ---- One more taking

pub nothing : (o : Option Reason) → NothingAfter o []
nothing None = tt
nothing (Some r) = refl

pub chain_more :
    (sys : System) (limit : ℕ) (look : Look) (xs : List Taking) (x : Taking) → AreTakings sys limit look xs → NoneStops xs → IsTaking sys limit (last_look look xs) x
    → AreTakings sys limit look (xs ++ x ∷ [])
chain_more sys limit look [] x are none is_taking = (is_taking, nothing x.stop, tt)
chain_more sys limit look (y ∷ ys) x are none is_taking =
    (are.0, subst (λ (o : Option Reason). NothingAfter o (ys ++ x ∷ [])) (sym none.0) tt, chain_more sys limit y.after ys x are.2 none.1 is_taking)

pub look_more : (look : Look) (xs : List Taking) (x : Taking) → last_look look (xs ++ x ∷ []) ≡ x.after
look_more look [] x = refl
look_more look (y ∷ ys) x = look_more y.after ys x

pub lines_more : (xs : List Taking) (x : Taking) → all_lines (xs ++ x ∷ []) ≡ all_lines xs ++ taking_lines x
lines_more [] x = append-nil (taking_lines x)
lines_more (y ∷ ys) x = ap (λ (ls : List model.Line). taking_lines y ++ ls) (lines_more ys x) ∙ sym (append_assoc (taking_lines y) (all_lines ys) (taking_lines x))

abbrev pub text_one : Form → System → Selection → Taking → List ℕ
text_one form sys what x = if is_shown what x then taking_text form sys x else []

pub text_more :
    (form : Form) (sys : System) (what : Selection) (xs : List Taking) (x : Taking) → all_text form sys what (xs ++ x ∷ []) ≡ all_text form sys what xs ++ text_one form sys what x
text_more form sys what [] x = append-nil (text_one form sys what x)
text_more form sys what (y ∷ ys) x =
    ap (λ (t : List ℕ). text_one form sys what y ++ t) (text_more form sys what ys x)
    ∙ sym (append_assoc (text_one form sys what y) (all_text form sys what ys) (text_one form sys what x))

pub none_more : (xs : List Taking) (x : Taking) → NoneStops xs → x.stop ≡ None → NoneStops (xs ++ x ∷ [])
none_more [] x none stop = (stop, tt)
none_more (y ∷ ys) x none stop = (none.0, none_more ys x none.1 stop)

abbrev pub stop_by : Taking → Option Reason → Option Ending
stop_by x o = elim o [ None ↦ None | Some r ↦ Some (AtStop x.first.key.tick x.first.key.resource r) ]

pub stop_more : (xs : List Taking) (x : Taking) → stop_of (xs ++ x ∷ []) ≡ stop_by x x.stop
stop_more [] x = refl
stop_more (y ∷ []) x = refl
stop_more (y ∷ (z ∷ zs)) x = stop_more (z ∷ zs) x

-- ---- Lines of one tick

one_at : (sys : System) (tick : ℕ) (l : Line) (ls : List Line) → All (IsLineAt sys tick) (l ∷ ls) → IsLineAt sys tick l
one_at sys tick l ls all = all 0 l (omega arith)

rest_at : (sys : System) (tick : ℕ) (l : Line) (ls : List Line) → All (IsLineAt sys tick) (l ∷ ls) → All (IsLineAt sys tick) ls
rest_at sys tick l ls all n d h = all (suc n) d (omega arith)

pub each_of : (sys : System) (tick : ℕ) (ls : List Line) → All (IsLineAt sys tick) ls → All (IsLineOf sys) ls
each_of sys tick ls all n d h = (all n d h).line

rise_here : (sys : System) (tick t : ℕ) (ls : List Line) → t ≤ tick → All (IsLineAt sys tick) ls → RiseFrom t ls
rise_here sys tick t [] le all = tt
rise_here sys tick t (l ∷ ls) le all =
    let same : l.key.tick ≡ tick = (one_at sys tick l ls all).tick_is in
    (omega arith, rise_here sys tick l.key.tick ls (omega arith) (rest_at sys tick l ls all))

pub rise_more : (sys : System) (tick t : ℕ) (ks ls : List Line) → RiseFrom t ks → last_tick t ks ≤ tick → All (IsLineAt sys tick) ls → RiseFrom t (ks ++ ls)
rise_more sys tick t [] ls rise le all = rise_here sys tick t ls le all
rise_more sys tick t (k ∷ ks) ls rise le all = (rise.0, rise_more sys tick k.key.tick ks ls rise.1 le all)

last_here : (sys : System) (tick t : ℕ) (l : Line) (ls : List Line) → All (IsLineAt sys tick) (l ∷ ls) → last_tick t (l ∷ ls) ≡ tick
last_here sys tick t l [] all = (one_at sys tick l [] all).tick_is
last_here sys tick t l (m ∷ ls) all = last_here sys tick l.key.tick m ls (rest_at sys tick l (m ∷ ls) all)

pub last_more : (sys : System) (tick t : ℕ) (ks ls : List Line) (x : model.Line) (rest : List model.Line) → map (line_of sys) ls ≡ x ∷ rest → All (IsLineAt sys tick) ls → last_tick t (ks ++ ls) ≡ tick
last_more sys tick t ks [] x rest some all = absurd (cc)
last_more sys tick t [] (l ∷ ls) x rest some all = last_here sys tick t l ls all
last_more sys tick t (k ∷ ks) (l ∷ ls) x rest some all = last_more sys tick k.key.tick ks (l ∷ ls) x rest some all

marks_more :
    (types : List BlockType) (sys : System) (xs : List Taking) (x : Taking) (m n o : ChartMarks) → TakingsMark types sys xs m n → TakingMarks types sys x n o → TakingsMark types sys (xs ++ x ∷ []) m o
marks_more types sys [] x m n o are more = (o, subst (λ (k : ChartMarks). TakingMarks types sys x k o) are more, refl)
marks_more types sys (y ∷ ys) x m n o are more = (are.0, are.1, marks_more types sys ys x are.0 n o are.2 more)

-- ---- The walk

-- what is shown of a line, by the flag of its instance
pub shows_is :
    (sys : System) (what : Selection) (shown : Shown) (line : Line) (ps : List Piece) → ShowsOf sys what shown → line.instance < length sys.paths
    → shows shown line (list_any is_loss ps) ≡ is_shown_at what (path_at sys line.instance) line.key.tick ps
shows_is sys what shown line ps is within =
    ap (λ (b : Bool). b && is_during shown.events line.key.tick && is_wanted shown.events (list_any is_loss ps)) (is.instances line.instance within)
    ∙ ap (λ (f : EventFilter). is_kept what.only (path_at sys line.instance) && is_during f line.key.tick && is_wanted f (list_any is_loss ps)) is.events

pub shown_if : (b c : Bool) (t : List ℕ) → c ≡ b → shown_text c t ≡ (if b then t else [])
shown_if b c t same = ap (λ (d : Bool). shown_text d t) same

module _ (sys : System) (form : Form) (what : Selection) (steps : ℕ) where
  -- no line was gone through yet
  gone_none :
      (walk : Walk) (input remaining old : Option (List ℕ)) → Starts sys form what walk → Consumes input remaining walk.trail.reading.line.items
      → HasGone sys form what steps walk input remaining old old
  gone_none walk input remaining old starts read = record {
    takings = [];
    goes_on = tt;
    chain = tt;
    look = record { are = starts.blocks; counts = starts.steps.all; lefts = λ r s at. sym (starts.steps.each r s at) };
    gone = record {
      taken = inl tt;
      shown = starts.shown;
      lines = [];
      lines_are = refl;
      are = record { each = All-nil (IsLineOf sys); rise = tt };
      numbered = starts.first;
      read = read;
      sent = [];
      got = Appends-nil old;
      text = starts.empty;
    };
    next = next_line sys form 0 walk.trail.reading.line.items walk.trail.reading.next starts.next;
  }

  -- before the first line nothing is marked
  pub covered_none :
      (types : List BlockType) (walk : Walk) (input remaining old : Option (List ℕ)) → Starts sys form what walk → Consumes input remaining walk.trail.reading.line.items
      → HasCovered types walk.trail.marks sys form what steps walk input remaining old old
  unfolding gone_none
  covered_none types walk input remaining old starts read = record {
    gone = gone_none walk input remaining old starts read;
    marked = record { charts = refl; ports = refl };
  }

  module _ (types : List BlockType) (walk done : Walk) (takings : List Taking) (line : Line) (stop : Option Reason) (input remaining rest old mid : Option (List ℕ)) (gone : IsGone sys form what steps walk takings input remaining old mid)
      (later : last_tick 0 gone.lines ≤ line.key.tick) (within : line.instance < length sys.paths) (limit : ℕ) (look : Look) (goes : WalkTakes types sys form limit look line stop walk done remaining rest)
      (taken : AreTaken sys steps (takings ++ goes.taking ∷ [])) where
    abbrev pub flag : Bool
    flag = shows walk.shown line (list_any is_loss goes.taking.pieces)

    pub flag_is : flag ≡ is_shown what goes.taking
    flag_is =
        shows_is sys what walk.shown line goes.taking.pieces gone.shown within
        ∙ ap (λ (m : model.Line). is_shown_at what m.at m.key.tick goes.taking.pieces) (sym goes.first_is)

    pub all_are : map (line_of sys) (gone.lines ++ goes.lines) ≡ all_lines (takings ++ goes.taking ∷ [])
    all_are =
        map-append (line_of sys) gone.lines goes.lines
        ∙ ap (λ (ls : List model.Line). ls ++ map (line_of sys) goes.lines) gone.lines_are
        ∙ ap (λ (ls : List model.Line). all_lines takings ++ ls) goes.lines_are
        ∙ sym (lines_more takings goes.taking)

    -- one more taking
    unfoldable pub gone_more : IsGone sys form what steps done (takings ++ goes.taking ∷ []) input rest old mid
    gone_more =
        let L : List ℕ = lines_text form sys (map (line_of sys) gone.lines) in
        let K : List ℕ = lines_text form sys (map (line_of sys) goes.lines) in
        record {
          taken = taken;
          shown = subst (ShowsOf sys what) (sym goes.shown_are) gone.shown;
          lines = gone.lines ++ goes.lines;
          lines_are = all_are;
          are = record {
            each = All-append (IsLineOf sys) gone.lines goes.lines gone.are.each (each_of sys line.key.tick goes.lines goes.goes.each);
            rise = rise_more sys line.key.tick 0 gone.lines goes.lines gone.are.rise later goes.goes.each;
          };
          numbered = let before = gone.numbered in let passed = goes.goes.numbered in omega (arith, before, passed, length-append gone.lines goes.lines);
          read = subst (Consumes input rest)
              (append_assoc L walk.trail.reading.line.items goes.goes.taken
              ∙ ap (λ (t : List ℕ). L ++ t) goes.goes.read
              ∙ sym (append_assoc L K done.trail.reading.line.items)
              ∙ ap (λ (t : List ℕ). t ++ done.trail.reading.line.items)
              (sym (ap (lines_text form sys) (map-append (line_of sys) gone.lines goes.lines) ∙ lines-append form sys (map (line_of sys) gone.lines) (map (line_of sys) goes.lines))))
              (Consumes-trans input remaining rest (L ++ walk.trail.reading.line.items) goes.goes.taken gone.read goes.goes.took);
          sent = gone.sent;
          got = gone.got;
          text = ap (λ (t : List ℕ). gone.sent ++ t) goes.goes.text
              ∙ sym (append_assoc gone.sent walk.trail.page.text.items (shown_text flag (taking_text form sys goes.taking)))
              ∙ ap (λ (t : List ℕ). t ++ shown_text flag (taking_text form sys goes.taking)) gone.text
              ∙ ap (λ (t : List ℕ). all_text form sys what takings ++ t) (shown_if (is_shown what goes.taking) flag (taking_text form sys goes.taking) flag_is)
              ∙ sym (text_more form sys what takings goes.taking);
        }

    pub last_is : last_tick 0 (gone.lines ++ goes.lines) ≡ line.key.tick
    last_is = last_more sys line.key.tick 0 gone.lines goes.lines goes.taking.first (map (emission_line goes.taking.first) goes.taking.emits) goes.lines_are goes.goes.each

    -- what they cover is marked
    pub more_marked :
        (first : Marks) → AreMarked types sys takings gone.lines first walk.trail.marks → AreMarked types sys (takings ++ goes.taking ∷ []) (gone.lines ++ goes.lines) first done.trail.marks
    more_marked first are = record {
      charts = marks_more types sys takings goes.taking first.charts walk.trail.marks.charts done.trail.marks.charts are.charts goes.marked;
      ports = goes.goes.ported ∙ ap (lines_marked goes.lines) are.ports ∙ sym (marked-append gone.lines goes.lines first.ports);
    }

  -- a part of what waited was sent
  pub flushed_on :
      (types : List BlockType) (first : Marks) (walk : Walk) (page : Page) (input remaining old mid out : Option (List ℕ)) → HasCovered types first sys form what steps walk input remaining old mid
      → (count : ℕ) → HasFlushed count mid out walk.trail.page.text.items page.text.items → HasCovered types first sys form what steps (record walk { trail = record (walk.trail) { page = page } }) input remaining old out
  flushed_on types first walk page input remaining old mid out covered count flushed =
      let gone = covered.gone.gone in
      record {
        gone = record {
          takings = covered.gone.takings;
          goes_on = covered.gone.goes_on;
          chain = covered.gone.chain;
          look = covered.gone.look;
          gone = record {
            taken = gone.taken;
            shown = gone.shown;
            lines = gone.lines;
            lines_are = gone.lines_are;
            are = gone.are;
            numbered = gone.numbered;
            read = gone.read;
            sent = gone.sent ++ flushed.sent;
            got = Appends-trans old mid out gone.sent flushed.sent gone.got flushed.got;
            text = append_assoc gone.sent flushed.sent page.text.items ∙ ap (λ (t : List ℕ). gone.sent ++ t) (sym flushed.parts) ∙ gone.text;
          };
          next = covered.gone.next;
        };
        marked = covered.marked;
      }
