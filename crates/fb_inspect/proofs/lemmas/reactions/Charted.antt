-- The reaction of a basic block, gone through part by part.
use Rattle.fb_inspect.proofs.lemmas.Common.{◌≡◌, ◌≤◌, ◌+◌, ℕ, zero, suc, Bool, List, [], ◌∷◌, ◌++◌, drop, length, map, Option, Some, None, refl, sym, ◌∙◌, ap, subst, append_assoc, append-nil, map-append, slice_get_within, slice_get, Basic, Emission, Kind, ports_of, Position, Acts, Clears, NoneClears, Fails, trial_at, leaving, actions_of, Name, emission_of, line_of, path_at, ports_at, System, lines_text, Values, Action, BasicType, Ports, Transition, Form, Line, Reason, values_of, ChartMarks, first_true, Piece, Showing, Clears_by, Acting, ShowsActs, ShowsChain, ShowsReaction, rest_pieces, stop_pieces, ChartGoes, StepGoes, sys_of, emission_line, pieces_text, PiecesMark, EmitsGo, Goes, shown_text, ChartTaking, Trail}
use Rattle.fb_types.proofs.Common.{get_or_from_slice_get, ports}
use Rattle.fb_types.specs.States as model
use Rattle.fb_types.specs.declared.run.Emission as run
use Rattle.fb_st.specs.declared.frame.Slot.{Slot}
use Rattle.fb_ecc.specs.Indexes.{index}
use Rattle.fb_ecc.proofs.lemmas.Links.{nothing_left}
use Rattle.fb_ecc.proofs.lemmas.Trials.{cut_at}
use Rattle.fb_inspect.specs.walk.Looks.{ran_by}
use Rattle.fb_inspect.specs.Markings.{PieceMarks, with_lost_if, with_ran_by}
use Rattle.fb_inspect.specs.walk.Moves.{IsAside}
use Rattle.fb_inspect.specs.walk.Notes.{cleared_note, lost_if, lost_note, own_variables, ran_by_action, stop_note, stopped_note}
use Rattle.fb_inspect.proofs.lemmas.lines.Emitted.{emissions_are, emits_text, shown_pieces}
use Rattle.fb_inspect.proofs.lemmas.marks.Marked.{emits_mark, pieces_append, ran_marks, rest_marks, stop_marks}
use Rattle.fb_inspect.proofs.lemmas.lines.Moving.{alone_from, alone_on, aside_none, goes_as, goes_note, goes_then, shown-nil}
use Rattle.fb_inspect.proofs.lemmas.reactions.Showing.{act_shown, acts_before, acts_next, acts_stop, before, chain_before, chain_fails, chain_goes_on, chain_rests, chain_stops, emits_pieces, ran_pieces}

ran_text_is :
    (form : Form) (sys : System) (l : model.Line) (t : BasicType) (alg : Option Name) (left : ℕ) (b a : Values) → sys.kind l.at ≡ Some (Basic t)
    → pieces_text form sys l (ran_pieces alg left b a) ≡ ran_by_action alg left b a (own_variables t)
ran_text_is form sys l t None left b a kind = refl
ran_text_is form sys l t (Some n) zero b a kind = refl
ran_text_is form sys l t (Some n) (suc left) b a kind =
    append-nil (ran_by (sys.kind l.at) n b a) ∙ ap (λ (k : Option Kind). ran_by k n b a) kind

abbrev pub ports_by : Option Kind → Ports
ports_by o = elim o [ None ↦ ports [] [] [] [] | Some k ↦ ports_of k ]

-- ---- Parts

module _ (x : ChartTaking) where
  abbrev text_of : List Piece → List ℕ
  text_of ps = pieces_text x.fixed.form (sys_of x) (line_of (sys_of x) x.line.now) ps

  abbrev all_mark : List Piece → ChartMarks → ChartMarks → Type 0
  all_mark ps m n = PiecesMark x.block.now x.number x.line.now.event ps m n

  mark_two : (ps qs : List Piece) (m n o : ChartMarks) → all_mark ps m n → all_mark qs n o → all_mark (ps ++ qs) m o
  mark_two ps qs m n o first second = pieces_append x.block.now x.number x.line.now.event ps qs m n o first second

  shown_two :
      (b c : Bool) (ps qs : List Piece) → c ≡ b → shown_text b (text_of ps) ++ shown_text c (text_of qs) ≡ shown_text b (text_of (ps ++ qs))
  shown_two b c ps qs same = shown_pieces x.fixed.form (sys_of x) (line_of (sys_of x) x.line.now) b c ps qs same

  -- nothing was gone through yet
  pub step_none : (S : Showing) (p : Position) (old : Trail) (left : Option (List ℕ)) → StepGoes x S p S p old old left left
  step_none S p old left = record {
    emits = [];
    pieces = [];
    shows = λ stop q fs qs h. h;
    lines = [];
    are = refl;
    goes = goes_note (sys_of x) x.fixed.form x.line.now.key.tick old old (shown_text old.is_shown []) left (aside_none old) refl
        (sym (ap (λ (t : List ℕ). old.page.text.items ++ t) (shown-nil old.is_shown) ∙ append-nil old.page.text.items));
    marked = refl;
    alone = λ alone. alone;
  }

  pub step_then :
      (S R Q : Showing) (p m n : Position) (a b c : Trail) (l k j : Option (List ℕ)) → StepGoes x S p R m a b l k → StepGoes x R m Q n b c k j
      → StepGoes x S p Q n a c l j
  step_then S R Q p m n a b c l k j first second = record {
    emits = first.emits ++ second.emits;
    pieces = first.pieces ++ second.pieces;
    shows = λ stop q fs qs h.
        subst (λ (es : List Emission). S p stop (record q { emitted = es }) ((first.pieces ++ second.pieces) ++ qs)) (sym (append_assoc first.emits second.emits fs))
        (subst (λ (ps : List Piece). S p stop (record q { emitted = first.emits ++ (second.emits ++ fs) }) ps) (sym (append_assoc first.pieces second.pieces qs))
        (first.shows stop q (second.emits ++ fs) (second.pieces ++ qs) (second.shows stop q fs qs h)));
    lines = first.lines ++ second.lines;
    are = map-append (line_of (sys_of x)) first.lines second.lines
        ∙ ap (λ (ls : List model.Line). ls ++ map (line_of (sys_of x)) second.lines) first.are
        ∙ ap (λ (ls : List model.Line). map (emission_line (line_of (sys_of x) x.line.now)) first.emits ++ ls) second.are
        ∙ sym (map-append (emission_line (line_of (sys_of x) x.line.now)) first.emits second.emits);
    goes = goes_as (sys_of x) x.fixed.form x.line.now.key.tick a c (first.lines ++ second.lines) _ _ l j
        (shown_two a.is_shown b.is_shown first.pieces second.pieces first.goes.kept)
        (goes_then (sys_of x) x.fixed.form x.line.now.key.tick a b c first.lines second.lines _ _ l k j first.goes second.goes);
    marked = mark_two first.pieces second.pieces a.marks.charts b.marks.charts c.marks.charts first.marked second.marked;
    alone = λ alone. second.alone (first.alone alone);
  }

  pub step_ends :
      (S R : Showing) (p m q : Position) (stop : Option Reason) (a b c : Trail) (l k j : Option (List ℕ)) → StepGoes x S p R m a b l k
      → ChartGoes x R m stop q b c k j → ChartGoes x S p stop q a c l j
  step_ends S R p m q stop a b c l k j first second = record {
    emits = first.emits ++ second.emits;
    pieces = first.pieces ++ second.pieces;
    shows = first.shows stop q second.emits second.pieces second.shows;
    lines = first.lines ++ second.lines;
    are = map-append (line_of (sys_of x)) first.lines second.lines
        ∙ ap (λ (ls : List model.Line). ls ++ map (line_of (sys_of x)) second.lines) first.are
        ∙ ap (λ (ls : List model.Line). map (emission_line (line_of (sys_of x) x.line.now)) first.emits ++ ls) second.are
        ∙ sym (map-append (emission_line (line_of (sys_of x) x.line.now)) first.emits second.emits);
    goes = goes_as (sys_of x) x.fixed.form x.line.now.key.tick a c (first.lines ++ second.lines) _ _ l j
        (shown_two a.is_shown b.is_shown first.pieces second.pieces first.goes.kept)
        (goes_then (sys_of x) x.fixed.form x.line.now.key.tick a b c first.lines second.lines _ _ l k j first.goes second.goes);
    marked = mark_two first.pieces second.pieces a.marks.charts b.marks.charts c.marks.charts first.marked second.marked;
    alone = λ alone. second.alone (first.alone alone);
  }

  -- an action by itself, as the first of those that are left
  pub step_acts :
      (t : BasicType) (a : Action) (others : List Action) (p m : Position) (b c : Trail) (l k : Option (List ℕ)) → m.emitted ≡ []
      → ChartGoes x (Acting t (a ∷ [])) p None m b c l k → StepGoes x (Acting t (a ∷ others)) p (Acting t others) m b c l k
  step_acts t a others p m b c l k none goes = record {
    emits = goes.emits;
    pieces = goes.pieces;
    shows = λ stop q fs qs h.
        let same : before goes.emits m ≡ record m { emitted = goes.emits } =
        ap (λ (es : List Emission). record m { emitted = goes.emits ++ es }) none ∙ ap (λ (es : List Emission). record m { emitted = es }) (append-nil goes.emits) in
        let later = acts_before t others m.left goes.emits m stop (record q { emitted = fs }) qs h in
        acts_next t a others p.left p (record m { emitted = goes.emits }) (record q { emitted = goes.emits ++ fs }) stop goes.pieces qs goes.shows
        (subst (λ (n : Position). ShowsActs t others m.left n stop (record q { emitted = goes.emits ++ fs }) qs) same later);
    lines = goes.lines;
    are = goes.are;
    goes = goes.goes;
    marked = goes.marked;
    alone = goes.alone;
  }

  -- an action that a reason ends, as the first of those that are left
  pub acts_end :
      (t : BasicType) (a : Action) (others : List Action) (p m : Position) (r : Reason) (b c : Trail) (l k : Option (List ℕ))
      → ChartGoes x (Acting t (a ∷ [])) p (Some r) m b c l k → ChartGoes x (Acting t (a ∷ others)) p (Some r) m b c l k
  acts_end t a others p m r b c l k goes = record {
    emits = goes.emits;
    pieces = goes.pieces;
    shows = acts_stop t a others p.left p (record m { emitted = goes.emits }) r goes.pieces goes.shows;
    lines = goes.lines;
    are = goes.are;
    goes = goes.goes;
    marked = goes.marked;
    alone = goes.alone;
  }

  -- no action is left
  pub acts_over : (t : BasicType) (p : Position) (b : Trail) (l : Option (List ℕ)) → p.emitted ≡ [] → ChartGoes x (Acting t []) p None p b b l l
  acts_over t p b l none = record {
    emits = [];
    pieces = [];
    shows = (refl, ap (λ (es : List Emission). record p { emitted = es }) (sym none), refl);
    lines = [];
    are = refl;
    goes = goes_note (sys_of x) x.fixed.form x.line.now.key.tick b b (shown_text b.is_shown []) l (aside_none b) refl
        (sym (ap (λ (t : List ℕ). b.page.text.items ++ t) (shown-nil b.is_shown) ∙ append-nil b.page.text.items));
    marked = refl;
    alone = λ alone. alone;
  }

  -- an action, from its algorithm, its note and its emissions
  pub act_goes :
      (t : BasicType) (a : Action) (p q : Position) (es : List run.Emission) (stop : Option Reason) (b c d : Trail) (l k : Option (List ℕ))
      → (sys_of x).kind (path_at (sys_of x) x.line.now.instance) ≡ Some (Basic t) → p.emitted ≡ [] → q.emitted ≡ map (emission_of t.ports) es
      → Acts t (a ∷ []) p.left p stop q
      → IsAside b c → c.marks.charts ≡ with_ran_by x.block.now x.number a.algorithm p.left b.marks.charts → d.marks.charts ≡ c.marks.charts
      → c.reading.line.items ≡ b.reading.line.items
      → c.page.text.items ≡ b.page.text.items ++ shown_text b.is_shown (ran_by_action a.algorithm p.left p.vars q.vars (own_variables t))
      → EmitsGo (sys_of x) x.fixed.form x.line.now es c d l k → ChartGoes x (Acting t (a ∷ [])) p stop (record q { emitted = [] }) b d l k
  act_goes t a p q es stop b c d l k kind none emitted acts aside_is ran_marked charts_are line noted goes =
      let ran : List Piece = ran_pieces a.algorithm p.left p.vars q.vars in
      let outs : List Emission = map (emission_of t.ports) es in
      let here : model.Line = line_of (sys_of x) x.line.now in
      let its : ports_at (sys_of x) (path_at (sys_of x) x.line.now.instance) ≡ t.ports = ap ports_by kind in
      let are : map (line_of (sys_of x)) goes.lines ≡ map (emission_line here) outs = emissions_are (sys_of x) t.ports goes.lines x.line.now es its goes.are in
      let first : Goes (sys_of x) x.fixed.form x.line.now.key.tick [] (shown_text b.is_shown (text_of ran)) b c l l =
      goes_note (sys_of x) x.fixed.form x.line.now.key.tick b c (shown_text b.is_shown (text_of ran)) l aside_is line
      (noted ∙ ap (λ (y : List ℕ). b.page.text.items ++ shown_text b.is_shown y) (sym (ran_text_is x.fixed.form (sys_of x) here t a.algorithm p.left p.vars q.vars kind))) in
      let second : Goes (sys_of x) x.fixed.form x.line.now.key.tick goes.lines (shown_text c.is_shown (text_of (emits_pieces outs))) c d l k =
      goes_as (sys_of x) x.fixed.form x.line.now.key.tick c d goes.lines _ _ l k
      (ap (λ (ls : List model.Line). shown_text c.is_shown (lines_text x.fixed.form (sys_of x) ls)) are ∙ ap (shown_text c.is_shown) (sym (emits_text x.fixed.form (sys_of x) here outs))) goes.goes in
      record {
        emits = outs;
        pieces = ran ++ emits_pieces outs;
        shows = subst (λ (ps : List Emission). ShowsActs t (a ∷ []) p.left p stop (record q { emitted = ps }) (ran ++ emits_pieces ps)) emitted (act_shown t a p.left p q stop none acts);
        lines = goes.lines;
        are = are;
        goes = goes_as (sys_of x) x.fixed.form x.line.now.key.tick b d goes.lines _ _ l k
            (shown_two b.is_shown c.is_shown ran (emits_pieces outs) aside_is.kept)
            (goes_then (sys_of x) x.fixed.form x.line.now.key.tick b c d [] goes.lines _ _ l l k first second);
        marked = mark_two ran (emits_pieces outs) b.marks.charts c.marks.charts d.marks.charts
            (subst (all_mark ran b.marks.charts) (sym ran_marked) (ran_marks x.block.now x.number x.line.now.event a.algorithm p.left p.vars q.vars b.marks.charts))
            (subst (all_mark (emits_pieces outs) c.marks.charts) (sym charts_are) (emits_mark x.block.now x.number x.line.now.event outs c.marks.charts));
        alone = alone_from b c d l k line goes.alone;
      }

-- ---- All actions of a state

pub rest_at : {A : Type 0} (xs : List A) (i : ℕ) (x : A) → slice_get xs i ≡ Some x → drop i xs ≡ x ∷ drop (i + 1) xs
rest_at xs i x at = cut_at xs i x (slice_get_within xs i x at) (sym (get_or_from_slice_get xs i x x at))

module _ (x : ChartTaking) (t : BasicType) (all : List Action) where
  -- one more action was performed
  pub acts_more :
      (i : ℕ) (a : Action) (p m n : Position) (b c d : Trail) (l k j : Option (List ℕ)) → slice_get all i ≡ Some a → n.emitted ≡ []
      → StepGoes x (Acting t all) p (Acting t (drop i all)) m b c l k → ChartGoes x (Acting t (a ∷ [])) m None n c d k j
      → StepGoes x (Acting t all) p (Acting t (drop (i + 1) all)) n b d l j
  acts_more i a p m n b c d l k j at none before goes =
      step_then x (Acting t all) (Acting t (a ∷ drop (i + 1) all)) (Acting t (drop (i + 1) all)) p m n b c d l k j
      (subst (λ (as' : List Action). StepGoes x (Acting t all) p (Acting t as') m b c l k) (rest_at all i a at) before)
      (step_acts x t a (drop (i + 1) all) m n c d k j none goes)

  -- a reason ended one
  pub acts_stopped :
      (i : ℕ) (a : Action) (r : Reason) (p m n : Position) (b c d : Trail) (l k j : Option (List ℕ)) → slice_get all i ≡ Some a
      → StepGoes x (Acting t all) p (Acting t (drop i all)) m b c l k → ChartGoes x (Acting t (a ∷ [])) m (Some r) n c d k j
      → ChartGoes x (Acting t all) p (Some r) n b d l j
  acts_stopped i a r p m n b c d l k j at before goes =
      step_ends x (Acting t all) (Acting t (a ∷ drop (i + 1) all)) p m n (Some r) b c d l k j
      (subst (λ (as' : List Action). StepGoes x (Acting t all) p (Acting t as') m b c l k) (rest_at all i a at) before)
      (acts_end x t a (drop (i + 1) all) m n r c d k j goes)

  -- none is left
  pub acts_done :
      (i : ℕ) (p m : Position) (b c : Trail) (l k : Option (List ℕ)) → length all ≤ i → m.emitted ≡ [] → StepGoes x (Acting t all) p (Acting t (drop i all)) m b c l k
      → ChartGoes x (Acting t all) p None m b c l k
  acts_done i p m b c l k past none before =
      step_ends x (Acting t all) (Acting t []) p m m None b c c l k k
      (subst (λ (as' : List Action). StepGoes x (Acting t all) p (Acting t as') m b c l k) (nothing_left all i past) before)
      (acts_over x t m c k none)

-- ---- Links

module _ (x : ChartTaking) (present : Option Name) where
  abbrev own_type : BasicType
  own_type = x.block.now

  -- the note of a transition that cleared
  cleared_goes :
      (y : Transition) (b c : Trail) (l : Option (List ℕ)) → IsAside b c → c.reading.line.items ≡ b.reading.line.items
      → c.page.text.items ≡ b.page.text.items ++ shown_text b.is_shown (cleared_note y)
      → Goes (sys_of x) x.fixed.form x.line.now.key.tick [] (shown_text b.is_shown (text_of x (Clears_by y ∷ []))) b c l l
  cleared_goes y b c l aside_is line noted =
      goes_note (sys_of x) x.fixed.form x.line.now.key.tick b c (shown_text b.is_shown (text_of x (Clears_by y ∷ []))) l aside_is line
      (noted ∙ ap (λ (z : List ℕ). b.page.text.items ++ shown_text b.is_shown z) (sym (append-nil (cleared_note y))))

  -- a transition cleared, and a reason ended the actions of its target
  pub link_stopped :
      (y : Transition) (target : Name) (left : ℕ) (r : Reason) (p m q : Position) (b c d : Trail) (l k : Option (List ℕ)) → trial_at own_type present p ≡ Clears target left
      → first_true (leaving own_type p.state) present p.vars ≡ Some y → IsAside b c
      → PieceMarks own_type x.number x.line.now.event (Clears_by y) b.marks.charts c.marks.charts → c.reading.line.items ≡ b.reading.line.items
      → c.page.text.items ≡ b.page.text.items ++ shown_text b.is_shown (cleared_note y) → m ≡ record p { state = target; left = left }
      → ChartGoes x (Acting own_type (actions_of own_type target)) m (Some r) q c d l k → ChartGoes x (ShowsChain own_type present) p (Some r) q b d l k
  link_stopped y target left r p m q b c d l k tried first aside_is mark line noted at goes =
      let acts = subst (λ (n : Position). ShowsActs own_type (actions_of own_type target) n.left n (Some r) (record q { emitted = goes.emits }) goes.pieces) at goes.shows in
      record {
        emits = goes.emits;
        pieces = Clears_by y ∷ goes.pieces;
        shows = chain_stops own_type present p (record q { emitted = goes.emits }) y target left r goes.pieces tried first acts;
        lines = goes.lines;
        are = goes.are;
        goes = goes_as (sys_of x) x.fixed.form x.line.now.key.tick b d goes.lines _ _ l k (shown_two x b.is_shown c.is_shown (Clears_by y ∷ []) goes.pieces aside_is.kept)
            (goes_then (sys_of x) x.fixed.form x.line.now.key.tick b c d [] goes.lines _ _ l l k (cleared_goes y b c l aside_is line noted) goes.goes);
        marked = (c.marks.charts, mark, goes.marked);
        alone = alone_from b c d l k line goes.alone;
      }

  -- a transition cleared, and all actions of its target were performed
  pub link_went :
      (y : Transition) (target : Name) (left : ℕ) (p m q : Position) (b c d : Trail) (l k : Option (List ℕ)) → trial_at own_type present p ≡ Clears target left
      → first_true (leaving own_type p.state) present p.vars ≡ Some y → IsAside b c
      → PieceMarks own_type x.number x.line.now.event (Clears_by y) b.marks.charts c.marks.charts → c.reading.line.items ≡ b.reading.line.items
      → c.page.text.items ≡ b.page.text.items ++ shown_text b.is_shown (cleared_note y) → m ≡ record p { state = target; left = left } → q.emitted ≡ []
      → ChartGoes x (Acting own_type (actions_of own_type target)) m None q c d l k → StepGoes x (ShowsChain own_type present) p (ShowsChain own_type None) q b d l k
  link_went y target left p m q b c d l k tried first aside_is mark line noted at none goes =
      let acts = subst (λ (n : Position). ShowsActs own_type (actions_of own_type target) n.left n None (record q { emitted = goes.emits }) goes.pieces) at goes.shows in
      let same : before goes.emits q ≡ record q { emitted = goes.emits } =
      ap (λ (es : List Emission). record q { emitted = goes.emits ++ es }) none ∙ ap (λ (es : List Emission). record q { emitted = es }) (append-nil goes.emits) in
      record {
        emits = goes.emits;
        pieces = Clears_by y ∷ goes.pieces;
        shows = λ stop n fs qs h.
            let later = subst (λ (o : Position). ShowsChain own_type None o stop (record n { emitted = goes.emits ++ fs }) qs) same
            (chain_before own_type None goes.emits q stop (record n { emitted = fs }) qs h) in
            chain_goes_on own_type present p (record q { emitted = goes.emits }) (record n { emitted = goes.emits ++ fs }) y target left stop goes.pieces qs tried first acts later;
        lines = goes.lines;
        are = goes.are;
        goes = goes_as (sys_of x) x.fixed.form x.line.now.key.tick b d goes.lines _ _ l k (shown_two x b.is_shown c.is_shown (Clears_by y ∷ []) goes.pieces aside_is.kept)
            (goes_then (sys_of x) x.fixed.form x.line.now.key.tick b c d [] goes.lines _ _ l l k (cleared_goes y b c l aside_is line noted) goes.goes);
        marked = (c.marks.charts, mark, goes.marked);
        alone = alone_from b c d l k line goes.alone;
      }

  -- no transition cleared
  pub link_rested :
      (left : ℕ) (p m : Position) (b c : Trail) (l : Option (List ℕ)) → trial_at own_type present p ≡ NoneClears left → m ≡ record p { left = left } → p.emitted ≡ []
      → IsAside b c → c.marks.charts ≡ with_lost_if present b.marks.charts → c.reading.line.items ≡ b.reading.line.items
      → c.page.text.items ≡ b.page.text.items ++ shown_text b.is_shown (lost_if present p.state)
      → ChartGoes x (ShowsChain own_type present) p None m b c l l
  link_rested left p m b c l tried at none aside_is charts_are line noted = record {
    emits = [];
    pieces = rest_pieces (NoneClears left) present p.state;
    shows = subst (λ (n : Position). ShowsChain own_type present p None n (rest_pieces (NoneClears left) present p.state))
        (sym (ap (λ (n : Position). record n { emitted = [] }) at ∙ ap (λ (es : List Emission). record p { left = left; emitted = es }) (sym none)))
        (chain_rests own_type present p left tried);
    lines = [];
    are = refl;
    goes = goes_note (sys_of x) x.fixed.form x.line.now.key.tick b c _ l aside_is line
        (noted ∙ ap (λ (z : List ℕ). b.page.text.items ++ shown_text b.is_shown z) (lost_text present p.state left));
    marked = rest_marks own_type x.number x.line.now.event left present p.state b.marks.charts c.marks.charts charts_are;
    alone = alone_on b b c l l line (λ alone. alone);
  }
    where
      lost_text : (o : Option Name) (s : Name) (left : ℕ) → lost_if o s ≡ text_of x (rest_pieces (NoneClears left) o s)
      lost_text None s left = refl
      lost_text (Some e) s left = sym (append-nil (lost_note s))

  -- a reason ended the trial
  pub link_failed :
      (left : ℕ) (r : Reason) (p m : Position) (b : Trail) (l : Option (List ℕ)) → trial_at own_type present p ≡ Fails r left → m ≡ record p { left = left } → p.emitted ≡ []
      → ChartGoes x (ShowsChain own_type present) p (Some r) m b b l l
  link_failed left r p m b l tried at none = record {
    emits = [];
    pieces = [];
    shows = subst (λ (n : Position). ShowsChain own_type present p (Some r) n [])
        (sym (ap (λ (n : Position). record n { emitted = [] }) at ∙ ap (λ (es : List Emission). record p { left = left; emitted = es }) (sym none)))
        (chain_fails own_type present p left r tried);
    lines = [];
    are = refl;
    goes = goes_note (sys_of x) x.fixed.form x.line.now.key.tick b b (shown_text b.is_shown []) l (aside_none b) refl
        (sym (ap (λ (t : List ℕ). b.page.text.items ++ t) (shown-nil b.is_shown) ∙ append-nil b.page.text.items));
    marked = refl;
    alone = λ alone. alone;
  }

-- ---- The reaction

module _ (x : ChartTaking) (e : Name) where
  stop_text : (stop : Option Reason) → stop_note stop ≡ text_of x (stop_pieces stop)
  stop_text None = refl
  stop_text (Some r) = sym (append-nil (stopped_note r))

  -- the chain and the note of its stop
  pub reaction_goes :
      (p q : Position) (stop : Option Reason) (b c d : Trail) (l k : Option (List ℕ)) → IsAside c d → d.marks.charts ≡ c.marks.charts → d.reading.line.items ≡ c.reading.line.items
      → d.page.text.items ≡ c.page.text.items ++ shown_text c.is_shown (stop_note stop) → ChartGoes x (ShowsChain x.block.now (Some e)) p stop q b c l k
      → ChartGoes x (ShowsReaction x.block.now e) p stop q b d l k
  reaction_goes p q stop b c d l k aside_is charts_are line noted chain = record {
    emits = chain.emits;
    pieces = chain.pieces ++ stop_pieces stop;
    shows = (chain.pieces, chain.shows, refl);
    lines = chain.lines;
    are = chain.are;
    goes = subst (λ (ls : List Line). Goes (sys_of x) x.fixed.form x.line.now.key.tick ls (shown_text b.is_shown (text_of x (chain.pieces ++ stop_pieces stop))) b d l k) (append-nil chain.lines)
        (goes_as (sys_of x) x.fixed.form x.line.now.key.tick b d (chain.lines ++ []) _ _ l k (shown_two x b.is_shown c.is_shown chain.pieces (stop_pieces stop) chain.goes.kept)
        (goes_then (sys_of x) x.fixed.form x.line.now.key.tick b c d chain.lines [] _ _ l k k chain.goes
        (goes_note (sys_of x) x.fixed.form x.line.now.key.tick c d (shown_text c.is_shown (text_of x (stop_pieces stop))) k aside_is line
        (noted ∙ ap (λ (z : List ℕ). c.page.text.items ++ shown_text c.is_shown z) (stop_text stop)))));
    marked = mark_two x chain.pieces (stop_pieces stop) b.marks.charts c.marks.charts d.marks.charts chain.marked
        (stop_marks x.block.now x.number x.line.now.event stop c.marks.charts d.marks.charts charts_are);
    alone = alone_on b c d l k line chain.alone;
  }

-- the position of a chart that has sampled its inputs
pub begun_at :
    (t : BasicType) (i j : ℕ) (f g : List Slot) (vars : Values) (left : ℕ) → j ≡ i → values_of g ≡ vars → index t j g left [] ≡ record (index t i f left []) { vars = vars }
begun_at t i j f g vars left same values =
    ap (λ (k : ℕ). index t k g left []) same ∙ ap (λ (v : Values). record (index t i f left []) { vars = v }) values
