-- Where a walk stands after a taking, and which line is wrong where it does not go on.
use Rattle.fb_inspect.proofs.lemmas.Common.{◌≡◌, ◌⊎◌, ℕ, zero, suc, ◌+◌, Bool, List, [], ◌∷◌, ◌++◌, length, map, Option, Some, None, Result, Ok, refl, sym, ap, subst, ◌∙◌, inl, inr, append_assoc, append-nil, arith, length-append, All, IfSome, Vec, take_through, append_cancel_left, map-append, All-append, All-cons, All-head, All-nil, All-tail, Basic, Composite, Emission, Event, Kind, system_of, line_of, path_at, AtStop, System, last_line, line_text, lines_text, Key, BasicType, BlockType, Form, One, Two, Line, Reason, Steps, last_tick, IsLineOf, IsTextOf, PortTable, IsOwnLine, KeepSteps, all_lines, last_look, IsAlone, IsNext, IsTaking, IsTakingAt, IsTakingWith, Look, Taking, emission_line, left_at, most, opening_look, taking_lines, IsLineAt, FailsBy, IsUnstarted, IsWrongLine, Finding, Refusal, Refuses, steps_stop, AreAhead, GoesAfter, IsLeft, Watches, IsLookOf, WalkTakes, unread, Ahead, WalkError, Reading, Step, Ended, Trail, Walk, Stop}
use Rattle.fb_types.specs.States as model
use Rattle.fb_wave.specs.Waves.{AreLinesOf}
use Rattle.fb_wave.proofs.lemmas.Lining.{line_not_last, line_one}
use Rattle.fb_inspect.specs.walk.Lines.{IsPlain}
use Rattle.fb_inspect.specs.Refusals.{BeginsNothing, GoesOtherwise, HasRead, HaveTaken, IsLineAfter, IsNoLastStop, IsNoStepsStop, IsTooMany, IsWrongAfter, TakingFails}
use Rattle.fb_inspect.specs.walk.SameLines.{AreLikeParts, IsSameLine}
use Rattle.fb_inspect.specs.walk.Standing.{AreNumbered, BlamesSteps, IsNotNear, IsOwnStop, MayBeAhead, StandsAfter, StandsAt, StandsOn, TakesOne}
use Rattle.fb_inspect.specs.declared.refused.finding.Finding.TheVariants as why
use Rattle.fb_inspect.specs.declared.walk.Step.TheVariants.{CutOff, Taken}
use Rattle.fb_inspect.specs.declared.walk.reading.Next.TheVariants as next
use Rattle.fb_inspect.proofs.lemmas.lines.OneEnd.{no_stop_text}
use Rattle.fb_inspect.proofs.lemmas.results.Errors.{of_refusal}
use Rattle.fb_inspect.proofs.lemmas.lines.Fronting.{IsFront, front, front_after, front_alone, front_end, through_one}
use Rattle.fb_inspect.proofs.lemmas.walk.WalkedTakings.{chain_more, each_of, last_more, lines_more, look_more, none_more, rise_more}
use Rattle.fb_inspect.proofs.lemmas.lines.Moving.{lines-append}
use Rattle.fb_inspect.proofs.lemmas.lines.OneLine.{line_once}

-- ---- Lines of one text

abbrev key_of : (tick resource class a b : ℕ) → Key
key_of tick resource class a b = record { tick = tick; resource = resource; class = class; a = a; b = b }

same_parts : (k j : Key) → k.tick ≡ j.tick → k.resource ≡ j.resource → k.class ≡ j.class → k.a ≡ j.a → k.b ≡ j.b → k ≡ j
same_parts k j tick resource class a b =
    ap (λ (x : ℕ). key_of x k.resource k.class k.a k.b) tick
    ∙ ap (λ (x : ℕ). key_of j.tick x k.class k.a k.b) resource
    ∙ ap (λ (x : ℕ). key_of j.tick j.resource x k.a k.b) class
    ∙ ap (λ (x : ℕ). key_of j.tick j.resource j.class x k.b) a
    ∙ ap (key_of j.tick j.resource j.class j.a) b

same_key : (form : Form) (k j : Key) → k.tick ≡ j.tick → k.resource ≡ j.resource → AreLikeParts form k j → IsPlain form k → IsPlain form j → k ≡ j
same_key One k j tick resource alike (a, b, c) (d, e, f) = same_parts k j tick resource (a ∙ sym d) (b ∙ sym e) (c ∙ sym f)
same_key Two k j tick resource (c, a, b) p q = same_parts k j tick resource c a b

same_line : (form : Form) (l m : Line) → IsSameLine form l m → IsPlain form l.key → IsPlain form m.key → l ≡ m
same_line form l m same plain other =
    ap (λ (x : Key). record l { key = x }) (same_key form l.key m.key same.tick same.resource same.parts plain other)
    ∙ ap (λ (x : Bool). record l { key = m.key; taken = x }) same.taken
    ∙ ap (λ (x : ℕ). record l { key = m.key; taken = m.taken; instance = x }) same.instance
    ∙ ap (λ (x : ℕ). record l { key = m.key; taken = m.taken; instance = m.instance; event = x }) same.event
    ∙ ap (λ (x : _). record m { values = x }) same.values

-- ---- Own lines

-- the lines of emissions of the block of a line are its own lines
own_lines :
    (sys : System) → AreNumbered sys → (line : Line) → IsLineOf sys line → (ls : List Line) (es : List Emission) (more : List model.Line)
    → map (line_of sys) ls ++ more ≡ map (emission_line (line_of sys line)) es → All (IsLineAt sys line.key.tick) ls → All (IsOwnLine sys line) ls
own_lines sys numbers line is [] es more e all = All-nil (IsOwnLine sys line)
own_lines sys numbers line is (l ∷ ls) [] more e all = absurd (cc)
own_lines sys numbers line is (l ∷ ls) (x ∷ es) more e all =
    let head : line_of sys l ≡ emission_line (line_of sys line) x = cc in
    let tail : map (line_of sys) ls ++ more ≡ map (emission_line (line_of sys line)) es = cc in
    let one = All-head (IsLineAt sys line.key.tick) l ls all in
    let at : path_at sys l.instance ≡ path_at sys line.instance = ap (λ (m : model.Line). m.at) head in
    All-cons (IsOwnLine sys line) l ls
    (record {
      line = one.line;
      taken = ap (λ (m : model.Line). m.taken) head;
      instance = sym (numbers l.instance one.line.belongs.instance) ∙ ap sys.number at ∙ numbers line.instance is.belongs.instance;
      tick = one.tick_is;
    })
    (own_lines sys numbers line is ls es more tail (All-tail (IsLineAt sys line.key.tick) l ls all))

-- ---- Takings

last_same_taking : (xs ys : List Taking) (x y : Taking) → xs ++ x ∷ [] ≡ ys ++ y ∷ [] → x ≡ y
last_same_taking [] [] x y e = cc
last_same_taking [] (z ∷ zs) x y e = absurd (more zs (cc))
  where
    more : (us : List Taking) → [] ≡ us ++ y ∷ [] → ⊥
    more [] e = cc
    more (u ∷ us) e = cc
last_same_taking (z ∷ zs) [] x y e = absurd (more zs (cc))
  where
    more : (us : List Taking) → us ++ x ∷ [] ≡ [] → ⊥
    more [] e = cc
    more (u ∷ us) e = cc
last_same_taking (z ∷ zs) (u ∷ us) x y e = last_same_taking zs us x y (cc)

front_same : (xs ys : List Taking) (x y : Taking) → xs ++ x ∷ [] ≡ ys ++ y ∷ [] → xs ≡ ys
front_same [] [] x y e = refl
front_same [] (z ∷ zs) x y e = absurd (more zs (cc))
  where
    more : (us : List Taking) → [] ≡ us ++ y ∷ [] → ⊥
    more [] e = cc
    more (u ∷ us) e = cc
front_same (z ∷ zs) [] x y e = absurd (more zs (cc))
  where
    more : (us : List Taking) → us ++ x ∷ [] ≡ [] → ⊥
    more [] e = cc
    more (u ∷ us) e = cc
front_same (z ∷ zs) (u ∷ us) x y e =
    let head : z ≡ u = cc in
    let tail : zs ++ x ∷ [] ≡ us ++ y ∷ [] = cc in
    ap (λ (v : Taking). v ∷ zs) head ∙ ap (λ (vs : List Taking). u ∷ vs) (front_same zs us x y tail)

-- a taking that stops its resource is one of a basic block
pub stops_basic : (sys : System) (limit : ℕ) (look : Look) (x : Taking) (r : Reason) → x.stop ≡ Some r → IsTaking sys limit look x → (t : BasicType) × (sys.kind x.first.at ≡ Some (Basic t))
stops_basic sys limit look x r stop taking = by_left (left_at limit x.first.key.tick (look.steps x.first.key.resource)) taking
  where
    never : x.stop ≡ None → ⊥
    never none = let both : Some r ≡ None = sym stop ∙ none in cc

    by_kind : (left : ℕ) (k : Option Kind) → sys.kind x.first.at ≡ k → IsTakingAt left look k x → (t : BasicType) × (sys.kind x.first.at ≡ Some (Basic t))
    by_kind left None is h = absurd h
    by_kind left (Some (Basic t)) is h = (t, is)
    by_kind left (Some (Event kind)) is (inl h) = absurd (never h.goes_on)
    by_kind left (Some (Event kind)) is (inr h) = absurd (never h.goes_on)
    by_kind left (Some (Composite c)) is h = absurd (never h.goes_on)

    by_left : (left : ℕ) → IsTakingWith sys look left x → (t : BasicType) × (sys.kind x.first.at ≡ Some (Basic t))
    by_left zero h = absurd h
    by_left (suc left) h = by_kind left (sys.kind x.first.at) refl h.1

module _ (t : PortTable) (form : Form) (takings : List Taking) (w : Walk) (a : Ahead) (line : Line) (rest text : List ℕ) (at : StandsAt (system_of t.system.now) form takings w a.text.items a.last.items line rest text) where
  abbrev sys : System
  sys = system_of t.system.now

  abbrev texts_in : List Line → List ℕ
  texts_in ls = lines_text form sys (map (line_of sys) ls)

  abbrev seen_last : Look
  seen_last = last_look (opening_look sys) takings

  abbrev lines : List Line
  lines = at.stands.lines

  -- the next line ends before what was read ahead
  here_alone : IsAlone w.trail.reading.line.items (Some a.text.items)
  here_alone =
      sym
      (ap (λ (u : List ℕ). take_through 10 (u ++ a.text.items)) at.is.is
      ∙ through_one (line_text form sys (line_of sys line)) a.text.items (line_one sys form line at.names at.is.line)
      ∙ sym at.is.is)

  -- ---- The line itself

  -- with the first line of the text its form is known
  formed_at : (before : List Line) (first left : List ℕ) → text ≡ texts_in before ++ (first ++ left) → first ≡ take_through 10 (first ++ left) → before ≡ [] → (f : Form) (m : Line) → IsTextOf sys f m first → f ≡ form
  formed_at [] first left is alone empty f m text_is = at.stands.formed f m (record { line = text_is.line; is = ap (take_through 10) is ∙ sym alone ∙ text_is.is })
  formed_at (l ∷ ls) first left is alone empty f m text_is = absurd (cc)

  here_place : IsLineAfter sys form w.trail.reading.number text lines w.trail.reading.line.items
  here_place = record {
    are = at.stands.are;
    numbered = at.stands.numbered;
    rest = a.text.items ++ rest;
    is = at.stands.is;
    alone = at.stands.alone;
    formed = formed_at lines w.trail.reading.line.items (a.text.items ++ rest) at.stands.is at.stands.alone;
  }

  here_taken : HaveTaken sys lines takings []
  here_taken = record { chain = at.stands.chain; goes_on = at.stands.goes_on; lines_are = at.stands.lines_are ∙ sym (append-nil (all_lines takings)) }

  -- no such taking begins with the next line
  pub begins_nothing :
      (T : Taking → Type 0) (F : Line → Finding → Type 0) (f : Finding) → ((x : Taking) → x.first ≡ line_of sys line → T x → ⊥) → F line f
      → BeginsNothing T F sys form (last_tick 0 lines) w.trail.reading.line.items f
  begins_nothing T F f none holds = record {
    no_taking = λ m is plain later x first taking.
        let once = same_line form m line (line_once t at.names form m line w.trail.reading.line.items is at.is) plain at.plain in
        none x (first ∙ ap (line_of sys) once) taking;
    no_end = λ end can after is. line_not_last sys form line end at.is.line (sym at.is.is ∙ is);
    found = inr (line, at.is, holds);
  }

  pub wrong_here :
      (steps : ℕ) (n : Refusal) → n.number ≡ w.trail.reading.number → IsWrongAfter sys form steps (last_tick 0 lines) takings [] w.trail.reading.line.items text n.finding
      → IsWrongLine sys steps n w.trail.reading.line.items text
  wrong_here steps n number wrong = record {
    form = form;
    before = lines;
    at = subst (λ (k : ℕ). IsLineAfter sys form k text lines w.trail.reading.line.items) (sym number) here_place;
    takings = takings;
    begun = [];
    taken = here_taken;
    wrong = wrong;
  }

  -- ---- A line after it

  module _ (rows : List Line) (ahead : AreAhead sys form line rows a.text.items a.last.items rest) (passed : List Line) (new : Reading) (left : List ℕ)
      (reads : HasRead sys form line.key.tick (line ∷ passed) w.trail.reading new (Some a.text.items) (Some left)) (own : All (IsOwnLine sys line) passed) where
    abbrev after : List ℕ
    after = new.line.items

    passed_is : texts_in passed ++ after ≡ reads.taken
    passed_is =
        append_cancel_left (line_text form sys (line_of sys line)) (texts_in passed ++ after) reads.taken
        (sym (append_assoc (line_text form sys (line_of sys line)) (texts_in passed) after) ∙ sym reads.read ∙ ap (λ (u : List ℕ). u ++ reads.taken) at.is.is)

    pub front_is : IsFront sys form line after left a.last.items rest
    front_is =
        front sys form at.names line passed rows after left a.last.items rest own ahead.each ahead.alone ahead.other
        (sym (append_assoc (texts_in passed) after left) ∙ ap (λ (u : List ℕ). u ++ left) passed_is ∙ sym reads.took ∙ ahead.is)
        (reads.alone here_alone)

    abbrev before : List Line
    before = lines ++ (line ∷ passed)

    all_own : All (IsLineOf sys) (line ∷ passed)
    all_own = each_of sys line.key.tick (line ∷ passed) reads.each

    pub text_is : text ≡ texts_in before ++ (after ++ (left ++ rest))
    text_is =
        at.stands.is
        ∙ ap (λ (u : List ℕ). texts_in lines ++ (w.trail.reading.line.items ++ (u ++ rest))) reads.took
        ∙ ap (λ (u : List ℕ). texts_in lines ++ u) (regroup w.trail.reading.line.items reads.taken left rest)
        ∙ ap (λ (u : List ℕ). texts_in lines ++ (u ++ (left ++ rest))) reads.read
        ∙ ap (λ (u : List ℕ). texts_in lines ++ u) (append_assoc (texts_in (line ∷ passed)) after (left ++ rest))
        ∙ sym (append_assoc (texts_in lines) (texts_in (line ∷ passed)) (after ++ (left ++ rest)))
        ∙ ap (λ (u : List ℕ). u ++ (after ++ (left ++ rest)))
        (sym (ap (lines_text form sys) (map-append (line_of sys) lines (line ∷ passed)) ∙ lines-append form sys (map (line_of sys) lines) (map (line_of sys) (line ∷ passed))))
      where
        regroup : (x y u v : List ℕ) → x ++ ((y ++ u) ++ v) ≡ (x ++ y) ++ (u ++ v)
        regroup x y u v = simp append_assoc

    pub counted : new.number ≡ length before + 1
    counted =
        let first = at.stands.numbered in
        let second = reads.numbered in
        omega (arith, first, second, length-append lines (line ∷ passed))

    pub are_before : AreLinesOf sys before
    are_before = record {
      each = All-append (IsLineOf sys) lines (line ∷ passed) at.stands.are.each all_own;
      rise = rise_more sys line.key.tick 0 lines (line ∷ passed) at.stands.are.rise at.later reads.each;
    }

    pub some_before : before ≡ [] → ⊥
    some_before e = by lines e
      where
        by : (ls : List Line) → ls ++ (line ∷ passed) ≡ [] → ⊥
        by [] e = cc
        by (l ∷ ls) e = cc

    place : IsLineAfter sys form new.number text before after
    place = record {
      are = are_before;
      numbered = counted;
      rest = left ++ rest;
      is = text_is;
      alone = front_alone sys form at.names line after left a.last.items rest ahead.alone front_is;
      formed = λ none. absurd (some_before none);
    }

    taken : HaveTaken sys before takings (map (line_of sys) (line ∷ passed))
    taken = record {
      chain = at.stands.chain;
      goes_on = at.stands.goes_on;
      lines_are = map-append (line_of sys) lines (line ∷ passed) ∙ ap (λ (ls : List model.Line). ls ++ map (line_of sys) (line ∷ passed)) at.stands.lines_are;
    }

    pub wrong_after :
        (steps : ℕ) (n : Refusal) → n.number ≡ new.number → IsWrongAfter sys form steps (last_tick 0 before) takings (map (line_of sys) (line ∷ passed)) after text n.finding
        → IsWrongLine sys steps n after text
    wrong_after steps n number wrong = record {
      form = form;
      before = before;
      at = subst (λ (k : ℕ). IsLineAfter sys form k text before after) (sym number) place;
      takings = takings;
      begun = map (line_of sys) (line ∷ passed);
      taken = taken;
      wrong = wrong;
    }

    -- it is no stop for the steps where none is near
    pub no_steps_stop : IsNotNear sys line a.last.items → (x : Taking) → x.first ≡ line_of sys line → IsNoStepsStop sys x.first after
    no_steps_stop far x first basic kind stop =
        far basic (ap (λ (m : model.Line). sys.kind m.at) (sym first) ∙ kind)
        (front_end sys form at.names line after left a.last.items rest (AtStop line.key.tick line.key.resource Steps) front_is
        (stop ∙ ap (steps_stop sys) first))

    -- the line after a taking
    pub tick_is : last_tick 0 before ≡ line.key.tick
    tick_is = last_more sys line.key.tick 0 lines (line ∷ passed) (line_of sys line) (map (line_of sys) passed) refl reads.each

  -- ---- The event of the line

  pub own_of : (T : Taking → Type 0) (new : Reading) (l j : Option (List ℕ)) (n : Refusal) (fails : TakingFails T sys form line w.trail.reading new l j n) → All (IsOwnLine sys line) fails.passed
  own_of T new l j n fails =
      own_lines sys at.numbers line at.is.line fails.passed fails.taking.emits (fails.next ∷ fails.more) (after_first fails.taking fails.passed (fails.next ∷ fails.more) fails.parts)
      (All-tail (IsLineAt sys line.key.tick) line fails.passed fails.reads.each)
    where
      after_first : (taking : Taking) (passed : List Line) (rest : List model.Line) → taking.first ∷ map (emission_line taking.first) taking.emits ≡ (line_of sys line ∷ map (line_of sys) passed) ++ rest
          → map (line_of sys) passed ++ rest ≡ map (emission_line (line_of sys line)) taking.emits
      after_first taking passed rest e =
          let head : taking.first ≡ line_of sys line = cc in
          let tail : map (emission_line taking.first) taking.emits ≡ map (line_of sys) passed ++ rest = cc in
          sym tail ∙ ap (λ (m : model.Line). map (emission_line m) taking.emits) head

  first_is : (taking : Taking) (passed : List Line) (rest : List model.Line) → taking.first ∷ map (emission_line taking.first) taking.emits ≡ (line_of sys line ∷ map (line_of sys) passed) ++ rest → taking.first ≡ line_of sys line
  first_is taking passed rest e = cc

  pub otherwise : (T : Taking → Type 0) (new : Reading) (l j : Option (List ℕ)) (n : Refusal) (fails : TakingFails T sys form line w.trail.reading new l j n)
      → GoesOtherwise T sys form (map (line_of sys) (line ∷ fails.passed)) new.line.items n.finding
  otherwise T new l j n fails = record {
    taking = fails.taking;
    is_taking = fails.is_taking;
    passed = map (line_of sys) fails.passed;
    begins = ap (λ (m : model.Line). m ∷ map (line_of sys) fails.passed) (sym (first_is fails.taking fails.passed (fails.next ∷ fails.more) fails.parts));
    next = fails.next;
    more = fails.more;
    parts = fails.parts;
    other = fails.other;
    found = fails.found;
  }

  -- ---- Steps that were used before

  -- the line that was read ahead is no stop for its steps, or too many were used before
  abbrev pub IsFree : (steps : ℕ) → Type 0
  IsFree steps = IsNotNear sys line a.last.items ⊎ (KeepSteps sys steps seen_last → ⊥)

  module _ (steps : ℕ) (old excess : Option ℕ) (watches : Watches sys steps takings old) (keeps : (k : ℕ) → old ≡ Some k → excess ≡ Some k) where
    over_watched : (KeepSteps sys steps seen_last → ⊥) → (k : ℕ) × (excess ≡ Some k) × IsTooMany sys steps takings k
    over_watched over = by old refl watches
      where
        by : (o : Option ℕ) → old ≡ o → Watches sys steps takings o → (k : ℕ) × (excess ≡ Some k) × IsTooMany sys steps takings k
        by None e is = absurd (over is)
        by (Some k) e is = (k, keeps k e, is)

    -- the line is not that stop, or it is not near
    quiet_by : (new : Reading) → IsFree steps → (excess ≡ None) ⊎ (IsOwnStop sys line new.line.items → ⊥) → IsNotNear sys line a.last.items ⊎ (IsOwnStop sys line new.line.items → ⊥)
    quiet_by new (inl far) is = inl far
    quiet_by new (inr over) (inr other) = inr other
    quiet_by new (inr over) (inl none) = let all = over_watched over in absurd (clash all.0 (sym none ∙ all.1))
      where
        clash : (k : ℕ) → None ≡ Some k → ⊥
        clash k e = cc

    same_number : (k n : ℕ) → excess ≡ Some k → excess ≡ Some n → IsTooMany sys steps takings k → IsTooMany sys steps takings n
    same_number k n one other many = let same : k ≡ n = once (sym one ∙ other) in subst (IsTooMany sys steps takings) same many
      where
        once : Some k ≡ Some n → k ≡ n
        once e = cc

  module _ (rows : List Line) (ahead : AreAhead sys form line rows a.text.items a.last.items rest) (passed : List Line) (new : Reading) (left : List ℕ)
      (reads : HasRead sys form line.key.tick (line ∷ passed) w.trail.reading new (Some a.text.items) (Some left)) (own : All (IsOwnLine sys line) passed) where
    quiet : IsNotNear sys line a.last.items ⊎ (IsOwnStop sys line new.line.items → ⊥) → (x : Taking) → x.first ≡ line_of sys line → IsNoStepsStop sys x.first new.line.items
    quiet (inl far) x first = no_steps_stop rows ahead passed new left reads own far x first
    quiet (inr other) x first = λ basic kind stop. other (stop ∙ ap (steps_stop sys) first)

    -- the trace stops there for its steps, but too many were used before
    wrong_many : (steps k : ℕ) → IsTooMany sys steps takings k → IsOwnStop sys line new.line.items → IsWrongLine sys steps (record { number = new.number; finding = why.Excess k }) new.line.items text
    wrong_many steps k many is =
        wrong_after rows ahead passed new left reads own steps (record { number = new.number; finding = why.Excess k }) refl
        (inr
        (inr
        (record {
          number = k;
          many = many;
          tick = line.key.tick;
          resource = line.key.resource;
          can = (at.is.line.range.tick, at.is.line.belongs.resource);
          is = is;
          near = λ none no_line. absurd (some_begun no_line);
          found = refl;
        })))
      where
        some_begun : map (line_of sys) (line ∷ passed) ≡ [] → ⊥
        some_begun e = cc

  -- a line is wrong where each resource has the greatest limit
  pub wrong_freely :
      (steps : ℕ) (n : Refusal) (rows : List Line) (new : Reading) (left : List ℕ) (excess : Option ℕ) (error : WalkError) → AreAhead sys form line rows a.text.items a.last.items rest → Watches sys steps takings excess → IsFree steps
      → BlamesSteps sys line excess new n.finding error
      → FailsBy (IsTaking sys most seen_last) (IsUnstarted sys most seen_last line) sys form line w.trail.reading new (Some a.text.items) (Some left) n → Refuses (λ r. IsWrongLine sys steps r new.line.items text) error
  unfolding otherwise
  wrong_freely steps n rows new left excess error ahead watches free (inl blames) (inl none) =
      absurd (line_not_last sys form line (AtStop line.key.tick line.key.resource Steps) at.is.line (sym at.is.is ∙ ap (λ (r : Reading). r.line.items) (sym none.same) ∙ blames.2))
  wrong_freely steps n rows new left excess error ahead watches free (inr blames) (inl none) =
      of_refusal (λ r. IsWrongLine sys steps r new.line.items text) error (record { number = new.number; finding = n.finding }) blames.1
      (subst (λ (r : Reading). IsWrongLine sys steps (record { number = r.number; finding = n.finding }) r.line.items text) (sym none.same)
      (wrong_here steps (record { number = w.trail.reading.number; finding = n.finding }) refl
      (inl (inl (refl, begins_nothing (IsTaking sys most seen_last) (IsUnstarted sys most seen_last) n.finding none.none none.found)))))
  wrong_freely steps n rows new left excess error ahead watches free (inl blames) (inr fails) =
      let own = own_of (IsTaking sys most seen_last) new (Some a.text.items) (Some left) n fails in
      of_refusal (λ r. IsWrongLine sys steps r new.line.items text) error (record { number = new.number; finding = why.Excess blames.0 }) blames.3
      (wrong_many rows ahead fails.passed new left fails.reads own steps blames.0 (subst (Watches sys steps takings) blames.1 watches) blames.2)
  wrong_freely steps n rows new left excess error ahead watches free (inr blames) (inr fails) =
      let own = own_of (IsTaking sys most seen_last) new (Some a.text.items) (Some left) n fails in
      of_refusal (λ r. IsWrongLine sys steps r new.line.items text) error (record { number = new.number; finding = n.finding }) blames.1
      (wrong_after rows ahead fails.passed new left fails.reads own steps (record { number = new.number; finding = n.finding }) refl
      (inl (inr (inr (inl (
        otherwise (IsTaking sys most seen_last) new (Some a.text.items) (Some left) n fails,
        quiet rows ahead fails.passed new left fails.reads own (quiet_by steps excess excess watches (λ k e. e) new free blames.0) fails.taking
            (first_is fails.taking fails.passed (fails.next ∷ fails.more) fails.parts),
      ))))))

  -- ---- After the taking

  -- the lines of a taking, of which the first is that of the event
  pub reads_first :
      (x : Taking) → x.first ≡ line_of sys line → (new : Reading) (left : List ℕ) (ls : List Line) → map (line_of sys) ls ≡ taking_lines x
      → HasRead sys form line.key.tick ls w.trail.reading new (Some a.text.items) (Some left)
      → (passed : List Line) × HasRead sys form line.key.tick (line ∷ passed) w.trail.reading new (Some a.text.items) (Some left) × (map (line_of sys) passed ++ [] ≡ map (emission_line (line_of sys line)) x.emits)
  reads_first x first new left [] e reads = absurd (cc)
  reads_first x first new left (l ∷ ls) e reads =
      let head : line_of sys l ≡ x.first = cc in
      let tail : map (line_of sys) ls ≡ map (emission_line x.first) x.emits = cc in (
        ls,
        record {
          each = All-cons (IsLineAt sys line.key.tick) line ls (record { line = at.is.line; tick_is = refl }) (All-tail (IsLineAt sys line.key.tick) l ls reads.each);
          taken = reads.taken;
          took = reads.took;
          read = reads.read ∙ ap (λ (m : model.Line). (line_text form sys m ++ texts_in ls) ++ new.line.items) (head ∙ first);
          numbered = reads.numbered;
          alone = reads.alone;
        },
        append-nil (map (line_of sys) ls) ∙ tail ∙ ap (λ (m : model.Line). map (emission_line m) x.emits) first,
      )

  module _ (rows : List Line) (ahead : AreAhead sys form line rows a.text.items a.last.items rest) (x : Taking) (first : x.first ≡ line_of sys line) (done : Walk) (left : List ℕ) (passed : List Line)
      (reads : HasRead sys form line.key.tick (line ∷ passed) w.trail.reading done.trail.reading (Some a.text.items) (Some left)) (emits : map (line_of sys) passed ++ [] ≡ map (emission_line (line_of sys line)) x.emits) where
    pub own : All (IsOwnLine sys line) passed
    own = own_lines sys at.numbers line at.is.line passed x.emits [] emits (All-tail (IsLineAt sys line.key.tick) line passed reads.each)

    pub taking_is : map (line_of sys) (line ∷ passed) ≡ taking_lines x
    taking_is =
        ap (λ (ls : List model.Line). line_of sys line ∷ ls) (sym (append-nil (map (line_of sys) passed)) ∙ emits)
        ∙ ap (λ (m : model.Line). m ∷ map (emission_line m) x.emits) (sym first)

    -- the walk stands at the next line
    pub stands_on :
        (b : Ahead) → b.text.items ≡ left → b.last ≡ a.last → x.stop ≡ None → IsTaking sys most seen_last x → IsLookOf sys done.blocks.items done.steps.items x.after
        → IsNext sys form line.key.tick done.trail.reading.line.items done.trail.reading.next → StandsOn sys form (takings ++ x ∷ []) done b.text.items b.last.items rest text
    stands_on b text_same last_same stop taking look next =
        let before = lines ++ (line ∷ passed) in
        record {
          stands = record {
            chain = chain_more sys most (opening_look sys) takings x at.stands.chain at.stands.goes_on taking;
            goes_on = none_more takings x at.stands.goes_on stop;
            look = subst (λ (k : Look). IsLookOf sys done.blocks.items done.steps.items k) (sym (look_more (opening_look sys) takings x)) look;
            lines = before;
            lines_are = map-append (line_of sys) lines (line ∷ passed) ∙ ap (λ (ls : List model.Line). ls ++ map (line_of sys) (line ∷ passed)) at.stands.lines_are
                ∙ ap (λ (ls : List model.Line). all_lines takings ++ ls) taking_is ∙ sym (lines_more takings x);
            are = are_before rows ahead passed done.trail.reading left reads own;
            numbered = counted rows ahead passed done.trail.reading left reads own;
            is = text_is rows ahead passed done.trail.reading left reads own
                ∙ ap (λ (u : List ℕ). texts_in before ++ (done.trail.reading.line.items ++ (u ++ rest))) (sym text_same);
            alone = front_alone sys form at.names line done.trail.reading.line.items left a.last.items rest ahead.alone (front_is rows ahead passed done.trail.reading left reads own)
                ∙ ap (λ (u : List ℕ). take_through 10 (done.trail.reading.line.items ++ (u ++ rest))) (sym text_same);
            formed = at.stands.formed;
            after = λ m is.
                subst (λ (u : List ℕ). MayBeAhead sys form m u b.last.items rest) (sym text_same)
                (subst (λ (v : List ℕ). MayBeAhead sys form m left v rest) (ap (λ (v : Vec ℕ). v.items) (sym last_same))
                (front_after t form at.names line done.trail.reading.line.items left a.last.items rest (front_is rows ahead passed done.trail.reading left reads own) m is));
          };
          next = subst (λ (k : ℕ). IsNext sys form k done.trail.reading.line.items done.trail.reading.next) (sym (tick_is rows ahead passed done.trail.reading left reads own)) next;
        }

    -- the next line is not the stop of its resource for its steps, or too many were used before
    pub near_on : (steps : ℕ) → IsFree steps → IsNoLastStop sys steps (takings ++ x ∷ []) done.trail.reading.line.items
    near_on steps (inl far) front z e kept =
        subst (λ (y : Taking). IsNoStepsStop sys y.first done.trail.reading.line.items) (last_same_taking takings front x z e)
        (no_steps_stop rows ahead passed done.trail.reading left reads own far x first)
    near_on steps (inr over) front z e kept = absurd (over (subst (λ (ts : List Taking). KeepSteps sys steps (last_look (opening_look sys) ts)) (sym (front_same takings front x z e)) kept))

    -- a taking stops its resource, and the next line says something else
    pub wrong_stop :
        (steps : ℕ) (reason : Reason) (old excess : Option ℕ) (error : WalkError) → Watches sys steps takings old → ((k : ℕ) → old ≡ Some k → excess ≡ Some k) → IsFree steps
        → BlamesSteps sys line excess done.trail.reading (why.Stops reason) error → x.stop ≡ Some reason → IsTaking sys most seen_last x
        → ((reason ≡ Steps → ⊥) → done.trail.reading.line.items ≡ last_line sys (AtStop line.key.tick line.key.resource reason) → ⊥) → (reason ≡ Steps) ⊎ (reason ≡ Steps → ⊥)
        → Refuses (λ n. IsWrongLine sys steps n done.trail.reading.line.items text) error
    wrong_stop steps reason old excess error watches keeps free (inl blames) stop taking other which =
        of_refusal (λ n. IsWrongLine sys steps n done.trail.reading.line.items text) error (record { number = done.trail.reading.number; finding = why.Excess blames.0 }) blames.3
        (wrong_many rows ahead passed done.trail.reading left reads own steps blames.0 (many free) blames.2)
      where
        many : IsFree steps → IsTooMany sys steps takings blames.0
        many (inl far) =
            let basic = stops_basic sys most seen_last x reason stop taking in
            absurd (no_steps_stop rows ahead passed done.trail.reading left reads own far x first basic.0 basic.1 (blames.2 ∙ ap (steps_stop sys) (sym first)))
        many (inr over) =
            let all = over_watched steps old excess watches keeps over in
            same_number steps old excess watches keeps all.0 blames.0 all.1 blames.1 all.2
    wrong_stop steps reason old excess error watches keeps free (inr blames) stop taking other which =
        let none_near = quiet rows ahead passed done.trail.reading left reads own (quiet_by steps old excess watches keeps done.trail.reading free blames.0) x first in
        let basic = stops_basic sys most seen_last x reason stop taking in
        let n : Refusal = record { number = done.trail.reading.number; finding = why.Stops reason } in
        of_refusal (λ n. IsWrongLine sys steps n done.trail.reading.line.items text) error n blames.1
        (wrong_after rows ahead passed done.trail.reading left reads own steps n refl
        (inl (inr (inr (inr (
          record {
            taking = x;
            is_taking = taking;
            lines_are = sym taking_is;
            reason = reason;
            stop = stop;
            found = refl;
            other = λ says. by which basic (says ∙ ap (λ (m : model.Line). last_line sys (AtStop m.key.tick m.key.resource reason)) first) says none_near;
          },
          none_near,
        ))))))
      where
        by : (reason ≡ Steps) ⊎ (reason ≡ Steps → ⊥) → (y : BasicType) × (sys.kind x.first.at ≡ Some (Basic y)) → done.trail.reading.line.items ≡ last_line sys (AtStop line.key.tick line.key.resource reason)
            → done.trail.reading.line.items ≡ last_line sys (AtStop x.first.key.tick x.first.key.resource reason) → IsNoStepsStop sys x.first done.trail.reading.line.items → ⊥
        by (inl steps_is) basic here there none = none basic.0 basic.1 (there ∙ ap (λ (r : Reason). last_line sys (AtStop x.first.key.tick x.first.key.resource r)) steps_is)
        by (inr not) basic here there none = other not here

  -- what a taking has read
  pub goes_reads :
      (types : List BlockType) (limit : ℕ) (look : Look) (stop : Option Reason) (old done : Walk) (b : Ahead) → old.trail ≡ w.trail
      → (goes : WalkTakes types sys form limit look line stop old done (unread a (Some [])) (unread b (Some [])))
      → (IsAlone old.trail.reading.line.items (Some a.text.items) → IsAlone done.trail.reading.line.items (Some b.text.items))
      → HasRead sys form line.key.tick goes.lines w.trail.reading done.trail.reading (Some a.text.items) (Some b.text.items)
  goes_reads types limit look stop old done b same goes alone =
      let one : old.trail.reading ≡ w.trail.reading = ap (λ (r : Trail). r.reading) same in
      record {
        each = goes.goes.each;
        taken = goes.goes.taken;
        took = sym (append-nil a.text.items) ∙ goes.goes.took ∙ ap (λ (u : List ℕ). goes.goes.taken ++ u) (append-nil b.text.items);
        read = ap (λ (r : Reading). r.line.items ++ goes.goes.taken) (sym one) ∙ goes.goes.read;
        numbered = goes.goes.numbered ∙ ap (λ (r : Reading). r.number + length goes.lines) one;
        alone = subst (λ (r : Reading). IsAlone r.line.items (Some a.text.items) → IsAlone done.trail.reading.line.items (Some b.text.items)) one alone;
      }

  -- a taking whose resource has the greatest limit, after which the next line is known
  module _ (rows : List Line) (ahead : AreAhead sys form line rows a.text.items a.last.items rest) (steps : ℕ) (free : IsFree steps) (types : List BlockType) (limit : ℕ) (most_is : limit ≡ most)
      (done : Walk) (b : Ahead) (stop : Option Reason) (goes_so : WalkTakes types sys form limit seen_last line stop w done (unread a (Some [])) (unread b (Some [])))
      (alone : IsAlone w.trail.reading.line.items (Some a.text.items) → IsAlone done.trail.reading.line.items (Some b.text.items)) (last_same : b.last ≡ a.last)
      (next_is : IsNext sys form line.key.tick done.trail.reading.line.items done.trail.reading.next) where
    goes : WalkTakes types sys form most seen_last line stop w done (unread a (Some [])) (unread b (Some []))
    goes = subst (λ (n : ℕ). WalkTakes types sys form n seen_last line stop w done (unread a (Some [])) (unread b (Some []))) most_is goes_so

    all : (passed : List Line) × HasRead sys form line.key.tick (line ∷ passed) w.trail.reading done.trail.reading (Some a.text.items) (Some b.text.items)
        × (map (line_of sys) passed ++ [] ≡ map (emission_line (line_of sys line)) goes.taking.emits)
    all =
        reads_first goes.taking goes.first_is done.trail.reading b.text.items goes.lines goes.lines_are (goes_reads types most seen_last stop w done b refl goes alone)

    pub freely_on : stop ≡ None → TakesOne sys form steps takings done b.text.items b.last.items line rest text
    freely_on none = record {
      taking = goes.taking;
      first_is = goes.first_is;
      taking_is = goes.is_taking;
      on = stands_on rows ahead goes.taking goes.first_is done b.text.items all.0 all.1 all.2 b refl last_same (goes.stop_is ∙ none) goes.is_taking goes.look_after next_is;
      near = near_on rows ahead goes.taking goes.first_is done b.text.items all.0 all.1 all.2 steps free;
    }

    pub freely_stop :
        (reason : Reason) (old excess : Option ℕ) (error : WalkError) → Watches sys steps takings old → ((k : ℕ) → old ≡ Some k → excess ≡ Some k)
        → BlamesSteps sys line excess done.trail.reading (why.Stops reason) error → stop ≡ Some reason → (reason ≡ Steps) ⊎ (reason ≡ Steps → ⊥)
        → ((reason ≡ Steps → ⊥) → done.trail.reading.next ≡ next.End (Stop (record { tick = line.key.tick; resource = line.key.resource; reason = reason })) → ⊥)
        → Refuses (λ n. IsWrongLine sys steps n done.trail.reading.line.items text) error
    freely_stop reason old excess error watches keeps blames stops which other =
        wrong_stop rows ahead goes.taking goes.first_is done b.text.items all.0 all.1 all.2 steps reason old excess error watches keeps free blames (goes.stop_is ∙ stops) goes.is_taking
        (λ not is.
        no_stop_text sys form at.names at.apart line.key.tick done.trail.reading.line.items done.trail.reading.next line.key.tick line.key.resource reason next_is (omega arith)
        (at.is.line.range.tick, at.is.line.belongs.resource) (other not) is) which

-- ---- Where lines are read ahead

-- more lines were read ahead of the next one
pub at_look :
    (t : PortTable) (form : Form) (takings : List Taking) (w : Walk) (line : Line) (ahead last rest text : List ℕ) → StandsAt (system_of t.system.now) form takings w ahead last line rest text
    → (rows : List Line) (whole new left : List ℕ) → ahead ++ rest ≡ whole ++ left → AreAhead (system_of t.system.now) form line rows whole new left
    → StandsAt (system_of t.system.now) form takings w whole new line left text
at_look t form takings w line ahead last rest text at rows whole new left same is =
    let sys = system_of t.system.now in
    record {
      stands = record {
        chain = at.stands.chain;
        goes_on = at.stands.goes_on;
        look = at.stands.look;
        lines = at.stands.lines;
        lines_are = at.stands.lines_are;
        are = at.stands.are;
        numbered = at.stands.numbered;
        is = at.stands.is ∙ ap (λ (u : List ℕ). lines_text form sys (map (line_of sys) at.stands.lines) ++ (w.trail.reading.line.items ++ u)) same;
        alone = at.stands.alone ∙ ap (λ (u : List ℕ). take_through 10 (w.trail.reading.line.items ++ u)) same;
        formed = at.stands.formed;
        after = λ m text_is.
            let once = line_once t at.names form line m w.trail.reading.line.items at.is text_is in
            inr (
              rows,
              record {
                each = λ n d h. let own = is.each n d h in record { line = own.line; taken = own.taken; instance = own.instance ∙ once.instance; tick = own.tick ∙ once.tick };
                is = is.is;
                alone = is.alone;
                other = λ x x_is own. is.other x x_is (record { taken = own.taken; instance = own.instance ∙ sym once.instance; tick = own.tick ∙ sym once.tick });
              },
            );
      };
      names = at.names;
      numbers = at.numbers;
      apart = at.apart;
      is = at.is;
      later = at.later;
      plain = at.plain;
    }

-- ---- Steps

pub some_at : {A : Type 0} (o : Option A) (x : A) (P : A → Type 0) → o ≡ Some x → IfSome o P → P x
some_at None x P is h = absurd (cc)
some_at (Some y) x P is h = let same : y ≡ x = cc in subst P same h

-- a step after a taking that was watched
pub watched_step :
    (sys : System) (form : Form) (steps : ℕ) (takings : List Taking) (w : Walk) (b c : Ahead) (line : Line) (rest text : List ℕ) (step : Step) → c.text ≡ b.text → c.last ≡ b.last
    → StandsAfter sys form steps takings w b.text.items b.last.items line rest text (Ok step)
    → ((x : Taking) → x.first ≡ line_of sys line → IsTaking sys most (last_look (opening_look sys) takings) x → IsLookOf sys w.blocks.items w.steps.items x.after
    → Watches sys steps (takings ++ x ∷ []) c.excess)
    → GoesAfter sys form steps w c (Some rest) text (Ok step)
watched_step sys form steps takings w b c line rest text Taken one two after watched = (
  rest,
  refl,
  record {
    takings = takings ++ after.taking ∷ [];
    on = subst (λ (v : Vec ℕ). StandsOn sys form (takings ++ after.taking ∷ []) w c.text.items v.items rest text) (sym two)
        (subst (λ (v : Vec ℕ). StandsOn sys form (takings ++ after.taking ∷ []) w v.items b.last.items rest text) (sym one) after.on);
    near = after.near;
    watched = watched after.taking after.first_is after.taking_is
        (subst (λ (k : Look). IsLookOf sys w.blocks.items w.steps.items k) (look_more (opening_look sys) takings after.taking) after.on.stands.look);
  },
)
watched_step _ form steps takings w b c line rest text (Ended end) one two _ watched = tt
watched_step _ form steps takings w b c line rest text CutOff one two _ watched = tt

-- where what is left has another name
pub goes_left :
    (sys : System) (form : Form) (steps : ℕ) (w : Walk) (a : Ahead) (rest text : List ℕ) (remaining : Option (List ℕ)) (r : Result Step WalkError) → remaining ≡ Some rest
    → GoesAfter sys form steps w a (Some rest) text r → GoesAfter sys form steps w a remaining text r
goes_left sys form steps w a rest text remaining r is goes = subst (λ (o : Option (List ℕ)). GoesAfter sys form steps w a o text r) (sym is) goes

-- what a look ahead gives, where it is known what was left
pub look_ahead :
    (sys : System) (form : Form) (line : Line) (ahead last whole new rest : List ℕ) (input remaining : Option (List ℕ)) → input ≡ Some rest
    → IfSome input (λ before. MayBeAhead sys form line ahead last before → IsLeft remaining (λ left. (ahead ++ before ≡ whole ++ left) × ((rows : List Line) × AreAhead sys form line rows whole new left)))
    → MayBeAhead sys form line ahead last rest → IsLeft remaining (λ left. (ahead ++ rest ≡ whole ++ left) × ((rows : List Line) × AreAhead sys form line rows whole new left))
look_ahead sys form line ahead last whole new rest input remaining known look may =
    some_at input rest (λ before. MayBeAhead sys form line ahead last before → IsLeft remaining (λ left. (ahead ++ before ≡ whole ++ left) × ((rows : List Line) × AreAhead sys form line rows whole new left))) known look may
