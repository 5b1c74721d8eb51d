-- No text that is accepted is wrong at a line.
use Rattle.fb_inspect.proofs.lemmas.Common.{◌≡◌, ◌⊎◌, ◌≤◌, ℕ, List, [], ◌∷◌, ◌++◌, length, map, Some, None, All, refl, sym, ap, subst, ◌∙◌, inl, inr, append-nil, append_assoc, arith, take_through, append_cancel_left, map-append, All-append, All-cons, All-head, All-nil, All-tail, Emission, AreAccepted, Inputs, system_of, Each, line_of, path_at, AtHorizon, AtStop, Ending, System, last_line, lines_text, Key, Form, One, Two, Reason, Steps, Divide, Range, last_tick, IsEndOf, IsInRange, IsLineOf, IsTextOf, HasNames, RiseFrom, AreTakings, EndsBySteps, EndsSo, IsOwnLine, KeepSteps, KeepsLimit, NoneStops, RunsOut, all_lines, last_look, limited, IsTaking, Look, Taking, emission_line, left_at, most, opening_look, taking_lines, IsUnstarted, IsWrongAt, IsWrongLine, Finding, Refusal, steps_stop, MayEnd}
use Rattle.fb_types.proofs.Common.{All-weaker}
use Rattle.fb_types.specs.States.{Line}
use Rattle.fb_types.specs.declared.run.Line as run
use Rattle.fb_wave.specs.Waves.{EndsAfter}
use Rattle.fb_wave.proofs.lemmas.Lining.{last_one, line_not_last}
use Rattle.fb_inspect.specs.walk.Lines.{IsPlain}
use Rattle.fb_inspect.specs.Refusals.{BeginsNothing, EndsNothing, GoesOnAfter, GoesOtherwise, IsAccepted, IsAfterLast, IsNoStepsStop, IsOther, IsWrongAfter, IsWrongFreely, IsWrongLast, StopsOtherwise, StopsSoon, UsesTooMany}
use Rattle.fb_inspect.proofs.lemmas.lines.Aligned.{IsAligned, Next, aligned, seen, through}
use Rattle.fb_inspect.proofs.lemmas.lines.PlainKeys.{bare, shown}
use Rattle.fb_inspect.proofs.lemmas.lines.LastLines.{not_divide, not_horizon, not_range, stop_once}
use Rattle.fb_inspect.proofs.lemmas.reactions.OneTaking.{nothing, taking_one}
use Rattle.fb_inspect.proofs.lemmas.runs.Rightly.{GoesRight, IsNearest, IsRowOf, StopsLast, StopsRight, each_at, steps_nearest}
use Rattle.fb_inspect.proofs.lemmas.runs.ShownRows.{IsLike, JudgesLast, after_shown, all_shown, at_shown, both_shown, chain_shown, ends_shown, exact_shown, first_shown, joined_shown, like, lines_shown, look_shown, no_takings, none_shown, one_shown, resource_shown, shown_lines, shown_taking, shown_takings, stop_shown, taken_shown, takings_shown, tick_shown, two_heads, unshown}
use Rattle.fb_inspect.proofs.lemmas.runs.Splits.{IsBasic}
use Rattle.fb_inspect.proofs.lemmas.runs.Wrongs.{begins_right, ends_right, goes_right, stops_right, too_many}

-- ---- Lists

-- lines by numbers that stand for two lists
record AreParted (sys : System) (bs : List run.Line) (A B : List Line) : Type 0 where
  first : List run.Line
  second : List run.Line
  parts : bs ≡ first ++ second
  first_are : map (line_of sys) first ≡ A
  second_are : map (line_of sys) second ≡ B

parted_at : (sys : System) (bs : List run.Line) (A B : List Line) → map (line_of sys) bs ≡ A ++ B → AreParted sys bs A B
parted_at sys bs [] B e = record { first = []; second = bs; parts = refl; first_are = refl; second_are = e }
parted_at sys [] (a ∷ A) B e = absurd (nothing a (A ++ B) e)
parted_at sys (b ∷ bs) (a ∷ A) B e =
    let h = two_heads (line_of sys b) a (map (line_of sys) bs) (A ++ B) e in
    let rest = parted_at sys bs A B h.1 in
    record {
      first = b ∷ rest.first;
      second = rest.second;
      parts = ap (λ (cs : List run.Line). b ∷ cs) rest.parts;
      first_are = ap (λ (l : Line). l ∷ map (line_of sys) rest.first) h.0 ∙ ap (λ (ls : List Line). a ∷ ls) rest.first_are;
      second_are = rest.second_are;
    }

-- what holds of all of two lists holds of those of each
all_first : (P : run.Line → Type 0) (xs ys zs : List run.Line) → zs ≡ xs ++ ys → All P zs → All P xs
all_first P [] ys zs e h = All-nil P
all_first P (x ∷ xs) ys zs e h =
    let own = subst (All P) e h in All-cons P x xs (All-head P x (xs ++ ys) own) (all_first P xs ys (xs ++ ys) refl (All-tail P x (xs ++ ys) own))

all_second : (P : run.Line → Type 0) (xs ys zs : List run.Line) → zs ≡ xs ++ ys → All P zs → All P ys
all_second P [] ys zs e h = subst (All P) e h
all_second P (x ∷ xs) ys zs e h = all_second P xs ys (xs ++ ys) refl (All-tail P x (xs ++ ys) (subst (All P) e h))

-- the range of the key of a line among those that were read
range_at : (sys : System) (bs : List run.Line) (A : List Line) (l : Line) (B : List Line) → All (IsLineOf sys) bs → map (line_of sys) bs ≡ A ++ l ∷ B → IsInRange l.key
range_at sys bs A l B of e = by p.second p.second_are (all_second (IsLineOf sys) p.first p.second bs p.parts of)
  where
    p : AreParted sys bs A (l ∷ B)
    p = parted_at sys bs A (l ∷ B) e

    by : (cs : List run.Line) → map (line_of sys) cs ≡ l ∷ B → All (IsLineOf sys) cs → IsInRange l.key
    by [] e of = absurd (nothing l B e)
    by (c ∷ cs) e of = subst (λ (m : Line). IsInRange m.key) (two_heads (line_of sys c) l (map (line_of sys) cs) B e).0 (All-head (IsLineOf sys) c cs of).range

emissions_key : (first : Line) (es : List Emission) → Each (λ (l : Line). l.key ≡ first.key) (map (emission_line first) es)
emissions_key first [] = tt
emissions_key first (e ∷ es) = (refl, emissions_key first es)

no_first : (m : Line) (ms : List Line) → m ∷ ms ≡ [] → ⊥
no_first m ms e = nothing m ms (sym e)

-- ---- A text that is accepted

no_lines_left : (f : run.Line → Line) (ls : List run.Line) → map f ls ≡ [] → ls ≡ []
no_lines_left f [] e = refl
no_lines_left f (l ∷ ls) e = absurd (no_first (f l) (map f ls) e)

module _ (i : Inputs) (accepted : AreAccepted i) (names : HasNames (system_of i)) (limit : ℕ) (within : limit ≤ most) (text : List ℕ) (a : IsAccepted (system_of i) limit text)
    (exact : JudgesLast (system_of i) limit a.takings a.end a.ends) where
  abbrev sys : System
  sys = system_of i

  abbrev F : Form
  F = a.form

  abbrev view : run.Line → Line
  view l = seen i accepted names F l

  abbrev rows : List Taking
  rows = shown_takings F a.takings

  abbrev row_ends : EndsSo sys limit rows a.end
  row_ends = ends_shown sys F limit a.takings a.end a.ends

  seen_all : (form : Form) (ls : List run.Line) → shown_lines form (map (line_of sys) ls) ≡ map (seen i accepted names form) ls
  seen_all One [] = refl
  seen_all One (l ∷ ls) = ap (λ (ms : List Line). bare (line_of sys l) ∷ ms) (seen_all One ls)
  seen_all Two [] = refl
  seen_all Two (l ∷ ls) = ap (λ (ms : List Line). line_of sys l ∷ ms) (seen_all Two ls)

  -- ---- The lines that a text begins with

  abbrev Aligned : (f : Form) (bs : List run.Line) (line rest : List ℕ) → Type 0
  Aligned f bs line rest = IsAligned i accepted names F f a.lines bs 0 a.end line rest

  align : (f : Form) (bs : List run.Line) (line rest : List ℕ) → All (IsLineOf sys) bs → text ≡ lines_text f sys (map (line_of sys) bs) ++ (line ++ rest) → line ≡ take_through 10 (line ++ rest) → Aligned f bs line rest
  align f bs line rest of e alone = aligned i accepted names F f a.end a.trace.last line rest alone a.lines bs 0 a.trace.lines.each of a.trace.lines.rise (sym a.trace.is ∙ e)

  lines_so : (f : Form) (bs : List run.Line) (line rest : List ℕ) (al : Aligned f bs line rest) → all_lines rows ≡ shown_lines F (map (line_of sys) bs) ++ map view al.back
  lines_so f bs line rest al =
      all_shown F a.takings ∙ ap (shown_lines F) (sym a.lines_are) ∙ seen_all F a.lines ∙ al.lines ∙ ap (λ (ls : List Line). ls ++ map view al.back) (sym (seen_all F bs))

  -- where the text says of an end, its lines are over
  record IsOver (f : Form) (bs : List run.Line) (line rest : List ℕ) (al : Aligned f bs line rest) : Type 0 where
    none : al.back ≡ []
    is : line ≡ last_line sys a.end
    nothing_more : rest ≡ []

  over : (f : Form) (bs : List run.Line) (line rest : List ℕ) (al : Aligned f bs line rest) (e : Ending) → line ≡ last_line sys e → IsOver f bs line rest al
  over f bs line rest al e says = by al.back refl al.next
    where
      by : (back : List run.Line) → al.back ≡ back → Next i accepted names F a.end line rest back → IsOver f bs line rest al
      by [] none next = record { none = none; is = next.0; nothing_more = next.1 }
      by (m ∷ more) some next = absurd (line_not_last sys F m e next.line (sym next.is ∙ says))

  -- where no line is left, the text has all lines of the takings
  none_left : (f : Form) (bs : List run.Line) (line rest : List ℕ) (al : Aligned f bs line rest) → al.back ≡ [] → all_lines rows ≡ shown_lines F (map (line_of sys) bs)
  none_left f bs line rest al none = lines_so f bs line rest al ∙ ap (λ (ls : List run.Line). shown_lines F (map (line_of sys) bs) ++ map view ls) none ∙ append-nil (shown_lines F (map (line_of sys) bs))

  -- ---- Ends

  -- the trace stops there for its steps, where the text says so
  record IsStop : Type 0 where
    tick : ℕ
    resource : ℕ
    is : a.end ≡ AtStop tick resource Steps
    ends : EndsBySteps sys limit tick resource rows
    apart : ends.limited_so.last ≡ [] → (front : List Taking) (z : Taking) → ends.limited_so.before ≡ front ++ z ∷ [] → IsBasic sys z.first → z.first.key.tick ≡ tick → z.first.key.resource ≡ resource → ⊥

  stop_is : (k r : ℕ) → last_line sys (AtStop k r Steps) ≡ last_line sys a.end → IsStop
  stop_is k r e = by a.end refl row_ends (exact_shown sys limit F a.takings a.end a.ends exact) e
    where
      by : (end : Ending) → a.end ≡ end → (ends : EndsSo sys limit rows end) → JudgesLast sys limit rows end ends → last_line sys (AtStop k r Steps) ≡ last_line sys end → IsStop
      by (AtHorizon h) is ends exact e = absurd (not_horizon sys k r Steps h e)
      by (AtStop j s Steps) is ends exact e = record { tick = j; resource = s; is = is; ends = ends; apart = exact }
      by (AtStop j s Divide) is ends exact e = absurd (not_divide sys k r j s e)
      by (AtStop j s Range) is ends exact e = absurd (not_range sys k r j s e)

  same_stop : (k r j s : ℕ) → IsEndOf sys (AtStop k r Steps) → a.end ≡ AtStop j s Steps → last_line sys (AtStop k r Steps) ≡ last_line sys a.end → (k ≡ j) × (r ≡ s)
  same_stop k r j s can is e =
      let other : IsEndOf sys (AtStop j s Steps) = subst (IsEndOf sys) is a.trace.last in
      stop_once i accepted k r j s can.0 other.0 can.1 other.1 (e ∙ ap (last_line sys) is)

  -- ---- A wrong line

  module _ (f : Form) (before : List run.Line) (line rest : List ℕ) (of : All (IsLineOf sys) before) (al : Aligned f before line rest)
      (formed : before ≡ [] → (g : Form) (m : run.Line) → IsTextOf sys g m line → g ≡ f) (ys : List Taking) (chain : AreTakings sys most (opening_look sys) ys) (goes : NoneStops ys) (begun : List Line)
      (taken : map (line_of sys) before ≡ all_lines ys ++ begun) (finding : Finding) where
    abbrev back : List Line
    back = map view al.back

    abbrev ahead : List Taking
    ahead = shown_takings F ys

    abbrev seen_begun : List Line
    seen_begun = shown_lines F begun

    ahead_chain : AreTakings sys most (opening_look sys) ahead
    ahead_chain = chain_shown sys F most (opening_look sys) ys chain

    abbrev here : Look
    here = last_look (opening_look sys) ys

    look_is : last_look (opening_look sys) ahead ≡ here
    look_is = look_shown F (opening_look sys) ys

    -- the lines of the trace are those of the takings, those that were begun, and the rest
    whole : all_lines rows ≡ all_lines ahead ++ (seen_begun ++ back)
    whole =
        lines_so f before line rest al ∙ ap (λ (ls : List Line). shown_lines F ls ++ back) taken ∙ ap (λ (ls : List Line). ls ++ back) (both_shown F (all_lines ys) begun)
        ∙ append_assoc (shown_lines F (all_lines ys)) seen_begun back ∙ ap (λ (ls : List Line). ls ++ (seen_begun ++ back)) (sym (all_shown F ys))

    whole_none : begun ≡ [] → all_lines rows ≡ all_lines ahead ++ back
    whole_none none = whole ∙ ap (λ (ls : List Line). all_lines ahead ++ (ls ++ back)) (ap (shown_lines F) none ∙ none_shown_line F)
      where
        none_shown_line : (form : Form) → shown_lines form [] ≡ []
        none_shown_line One = refl
        none_shown_line Two = refl

    -- the form of the text is that in which the line is one
    form_is : (m : run.Line) → IsTextOf sys F m line → F ≡ f
    form_is m is = by before refl
      where
        by : (bs : List run.Line) → before ≡ bs → F ≡ f
        by [] e = formed e F m is
        by (b ∷ bs) e = al.forms b bs e

    -- the next line of the trace, if the line is one
    record IsNextLine (l : Line) (more : List Line) : Type 0 where
      number : run.Line
      text_is : IsTextOf sys F number line
      late : last_tick 0 before ≤ number.key.tick
      is : view number ≡ l

    next_line : (l : Line) (more : List Line) → back ≡ l ∷ more → IsNextLine l more
    next_line l more e = by al.back e al.next al.rise
      where
        by : (ls : List run.Line) → map view ls ≡ l ∷ more → Next i accepted names F a.end line rest ls → RiseFrom (last_tick 0 before) ls → IsNextLine l more
        by [] e next rise = absurd (nothing l more e)
        by (m ∷ ms) e next rise = record { number = m; text_is = next; late = rise.0; is = (two_heads (view m) l (map view ms) more e).0 }

    -- a line that is shown as the next one
    like_next : (l : Line) (m : Line) (more : List Line) → back ≡ shown F l ∷ more → IsInRange l.key → IsLike sys f line l
    like_next l m more e range =
        let n = next_line (shown F l) more e in
        let found = like sys F line l n.number (sym n.is) n.text_is range in
        subst (λ (g : Form). IsLike sys g line l) (form_is n.number n.text_is) found

    -- no line that the trace goes on with is another one
    not_other : (l : Line) (more : List Line) → back ≡ shown F l ∷ more → IsInRange l.key → IsOther sys f line l → ⊥
    not_other l more e range other = let n = like_next l l more e range in other n.number n.text n.is

    last_tick_is : al.back ≡ [] → EndsAfter (last_tick 0 before) a.end
    last_tick_is none =
        subst (λ (n : ℕ). EndsAfter n a.end) (sym al.last ∙ ap (last_tick (last_tick 0 before)) none) a.trace.ends

    at_end : al.back ≡ [] → line ≡ last_line sys a.end
    at_end none = (subst (λ (ls : List run.Line). Next i accepted names F a.end line rest ls) none al.next).0

    no_back : back ≡ [] → al.back ≡ []
    no_back e = by al.back e
      where
        by : (ls : List run.Line) → map view ls ≡ [] → ls ≡ []
        by [] e = refl
        by (m ∷ ms) e = absurd (no_first (view m) (map view ms) e)

    -- ---- No taking begins with it

    shown_range : (form : Form) (l : Line) → IsInRange l.key → IsInRange (shown form l).key
    shown_range One l h = record { tick = h.tick; class = omega arith; a = omega arith; b = omega arith }
    shown_range Two l h = h

    shown_twice : (form : Form) (l : Line) → shown form (shown form l) ≡ shown form l
    shown_twice One l = refl
    shown_twice Two l = refl

    shown_plain : (form : Form) (l : Line) → IsPlain form (shown form l).key
    shown_plain One l = (refl, refl, refl)
    shown_plain Two l = tt

    not_begun :
        (T : Taking → Type 0) (G : run.Line → Finding → Type 0) → BeginsNothing T G sys f (last_tick 0 before) line finding → ((l : Line) (more : List Line) → back ≡ l ∷ more → (x : Taking) × (x.first ≡ l) × T x) → ⊥
    not_begun T G wrong begins = by al.back refl
      where
        by : (ls : List run.Line) → al.back ≡ ls → ⊥
        by [] none = wrong.no_end a.end a.trace.last (last_tick_is none) (at_end none)
        by (m ∷ ms) some =
            let parts : back ≡ view m ∷ map view ms = ap (map view) some in
            let x = begins (view m) (map view ms) parts in
            let n = next_line (view m) (map view ms) parts in
            let range : IsInRange (view m).key = subst (λ (l : Line). IsInRange l.key) n.is (shown_range F (line_of sys n.number) n.text_is.line.range) in
            let found = like sys F line (view m) n.number (shown_twice F (line_of sys m) ∙ sym n.is) n.text_is range in
            let key : found.number.key ≡ (view m).key = found.key in
            let late : last_tick 0 before ≤ found.number.key.tick =
            subst (λ (j : Key). last_tick 0 before ≤ j.tick) (sym key)
            (subst (λ (l : Line). last_tick 0 before ≤ l.key.tick) n.is (subst (λ (j : ℕ). last_tick 0 before ≤ j) (sym (tick_shown F (line_of sys n.number))) n.late))
            in
            let form = form_is n.number n.text_is in
            wrong.no_taking found.number (subst (λ (g : Form). IsTextOf sys g found.number line) form found.text)
            (subst (λ (g : Form). IsPlain g found.number.key) form (subst (IsPlain F) (sym key) (shown_plain F (line_of sys m)))) late x.0 (x.1 ∙ sym found.is) x.2

    -- ---- An end that can't be

    may_be : (end e : Ending) → IsEndOf sys e → IsEndOf sys end → last_line sys e ≡ last_line sys end → MayEnd sys limit here end → MayEnd sys limit here e
    may_be end (AtHorizon h) can its says may = tt
    may_be (AtHorizon h) (AtStop k r reason) can its says may = absurd (not_horizon sys k r reason h says)
    may_be (AtStop j s Steps) (AtStop k r Steps) can its says may =
        let both = stop_once i accepted k r j s can.0 its.0 can.1 its.1 says in
        subst (λ (n : ℕ). MayEnd sys limit here (AtStop k n Steps)) (sym both.1) (subst (λ (n : ℕ). MayEnd sys limit here (AtStop n s Steps)) (sym both.0) may)
    may_be (AtStop j s Steps) (AtStop k r Divide) can its says may = absurd (not_divide sys j s k r (sym says))
    may_be (AtStop j s Steps) (AtStop k r Range) can its says may = absurd (not_range sys j s k r (sym says))
    may_be (AtStop j s Divide) (AtStop k r reason) can its says may = absurd may
    may_be (AtStop j s Range) (AtStop k r reason) can its says may = absurd may

    basic_shown : (w : Taking) → IsBasic sys (shown_taking F w).first → IsBasic sys w.first
    basic_shown w basic = (basic.0, ap sys.kind (sym (ap (λ (l : Line). l.at) (first_shown F w) ∙ at_shown F w.first)) ∙ basic.1)

    stop_of_shown : (w : Taking) → AtStop (shown_taking F w).first.key.tick (shown_taking F w).first.key.resource Steps ≡ AtStop w.first.key.tick w.first.key.resource Steps
    stop_of_shown w =
        ap (λ (l : Line). AtStop l.key.tick l.key.resource Steps) (first_shown F w) ∙ ap (λ (n : ℕ). AtStop n (shown F w.first).key.resource Steps) (tick_shown F w.first)
        ∙ ap (λ (n : ℕ). AtStop w.first.key.tick n Steps) (resource_shown F w.first)

    reason_of_shown :
        (w : Taking) (reason : Reason) → AtStop (shown_taking F w).first.key.tick (shown_taking F w).first.key.resource reason ≡ AtStop w.first.key.tick w.first.key.resource reason
    reason_of_shown w reason =
        ap (λ (l : Line). AtStop l.key.tick l.key.resource reason) (first_shown F w) ∙ ap (λ (n : ℕ). AtStop n (shown F w.first).key.resource reason) (tick_shown F w.first)
        ∙ ap (λ (n : ℕ). AtStop w.first.key.tick n reason) (resource_shown F w.first)

    -- the text does not say so, where the line is not that stop
    no_stop_there : (w : Taking) → IsNoStepsStop sys w.first line → IsBasic sys (shown_taking F w).first → al.back ≡ [] → a.end ≡ AtStop (shown_taking F w).first.key.tick (shown_taking F w).first.key.resource Steps → ⊥
    no_stop_there w near basic none is = let own = basic_shown w basic in near own.0 own.1 (at_end none ∙ ap (last_line sys) (is ∙ stop_of_shown w))

    not_ended : begun ≡ [] → EndsNothing sys limit ys line finding → ⊥
    not_ended none wrong =
        let o = over f before line rest al wrong.end wrong.is in
        let lines : all_lines rows ≡ all_lines ahead = whole_none none ∙ ap (λ (ls : List run.Line). all_lines ahead ++ map view ls) o.none ∙ append-nil (all_lines ahead) in
        by o (ends_right sys limit within ahead ahead_chain rows a.end row_ends (none_shown F ys goes) lines)
      where
        by : IsOver f before line rest al → MayEnd sys limit (last_look (opening_look sys) ahead) a.end ⊎ StopsLast sys limit within ahead ahead_chain a.end → ⊥
        by o (inl may) = wrong.other (may_be a.end wrong.end wrong.can a.trace.last (sym wrong.is ∙ o.is) (subst (λ (g : Look). MayEnd sys limit g a.end) look_is may))
        by o (inr stops) =
            let w = unshown F ys stops.0 stops.1 stops.2 in
            let basic : IsBasic sys (shown_taking F w.1).first = subst (λ (z : Taking). IsBasic sys z.first) (sym w.3) stops.3 in
            let kept : KeepSteps sys limit (last_look (opening_look sys) w.0) =
            subst (KeepSteps sys limit) (look_shown F (opening_look sys) w.0) (subst (λ (ts : List Taking). KeepSteps sys limit (last_look (opening_look sys) ts)) (sym w.4) stops.5)
            in
            no_stop_there w.1 (wrong.near w.0 w.1 w.2 kept) basic o.none (stops.4 ∙ ap (λ (z : Taking). AtStop z.first.key.tick z.first.key.resource Steps) (sym w.3))

    -- ---- Lines of a taking

    -- What holds of a taking that begins with the lines that were begun, and goes on.
    module _ (T : Taking → Type 0) (wrong : GoesOtherwise T sys f begun line finding) where
      abbrev z : Taking
      z = shown_taking F wrong.taking

      abbrev passed : List Line
      passed = shown_lines F wrong.passed

      begun_is : seen_begun ≡ z.first ∷ passed
      begun_is =
          ap (shown_lines F) wrong.begins ∙ one_shown F wrong.taking.first wrong.passed ∙ ap (λ (l : Line). l ∷ passed) (sym (first_shown F wrong.taking))

      parts_are : taking_lines z ≡ (z.first ∷ passed) ++ shown F wrong.next ∷ shown_lines F wrong.more
      parts_are =
          lines_shown F wrong.taking ∙ ap (shown_lines F) wrong.parts ∙ both_shown F begun (wrong.next ∷ wrong.more)
          ∙ ap (λ (ls : List Line). ls ++ shown_lines F (wrong.next ∷ wrong.more)) begun_is ∙ ap (λ (ls : List Line). (z.first ∷ passed) ++ ls) (one_shown F wrong.next wrong.more)

      next_range : IsInRange wrong.next.key
      next_range =
          let first : Line = wrong.taking.first in
          let tail : map (emission_line first) wrong.taking.emits ≡ wrong.passed ++ wrong.next ∷ wrong.more =
          (two_heads first first _ _ (wrong.parts ∙ ap (λ (ls : List Line). ls ++ wrong.next ∷ wrong.more) wrong.begins)).1
          in
          let key : wrong.next.key ≡ first.key =
          each_at (λ (l : Line). l.key ≡ first.key) wrong.passed wrong.next wrong.more (subst (Each (λ (l : Line). l.key ≡ first.key)) tail (emissions_key first wrong.taking.emits))
          in
          subst IsInRange (sym key) (range_at sys before (all_lines ys) first wrong.passed of (taken ∙ ap (λ (ls : List Line). all_lines ys ++ ls) wrong.begins))

      not_next : (more : List Line) → back ≡ shown F wrong.next ∷ more → ⊥
      not_next more e = not_other wrong.next more e next_range wrong.other

    not_gone : (wrong : GoesOtherwise (IsTaking sys most here) sys f begun line finding) → IsNoStepsStop sys wrong.taking.first line → ⊥
    not_gone wrong near =
        by
        (goes_right sys limit within ahead ahead_chain rows a.end row_ends (shown_taking F wrong.taking) (shown_lines F wrong.passed) (shown F wrong.next) (shown_lines F wrong.more) back
        (subst (λ (g : Look). IsTaking sys most g (shown_taking F wrong.taking)) (sym look_is) (takings_shown sys F most here wrong.taking wrong.is_taking)) (parts_are (IsTaking sys most here) wrong)
        (whole ∙ ap (λ (ls : List Line). all_lines ahead ++ (ls ++ back)) (begun_is (IsTaking sys most here) wrong)))
      where
        by : GoesRight sys limit within ahead ahead_chain (shown_taking F wrong.taking) (shown F wrong.next) back a.end → ⊥
        by (inl goes) = not_next (IsTaking sys most here) wrong goes.0 goes.1
        by (inr stops) = no_stop_there wrong.taking near stops.1 (no_back stops.0) stops.2

    not_stopped : (wrong : StopsOtherwise (IsTaking sys most here) sys begun line finding) → IsNoStepsStop sys wrong.taking.first line → ⊥
    not_stopped wrong near =
        let z = shown_taking F wrong.taking in
        let begun_is : seen_begun ≡ taking_lines z = sym (lines_shown F wrong.taking ∙ ap (shown_lines F) wrong.lines_are) in
        by
        (stops_right sys limit within ahead ahead_chain rows a.end row_ends z wrong.reason back
        (subst (λ (g : Look). IsTaking sys most g z) (sym look_is) (takings_shown sys F most here wrong.taking wrong.is_taking)) (stop_shown F wrong.taking ∙ wrong.stop)
        (whole ∙ ap (λ (ls : List Line). all_lines ahead ++ (ls ++ back)) begun_is))
      where
        by : StopsRight sys limit within ahead ahead_chain (shown_taking F wrong.taking) wrong.reason back a.end → ⊥
        by (none, inl is) = wrong.other (at_end (no_back none) ∙ ap (last_line sys) (is ∙ reason_of_shown wrong.taking wrong.reason))
        by (none, inr stops) = no_stop_there wrong.taking near stops.0 (no_back none) stops.1

    -- ---- A stop for steps that comes soon

    module _ (first : run.Line) (soon : StopsSoon sys f ys first text) where
      abbrev stop_line : List ℕ
      stop_line = steps_stop sys (line_of sys first)

      stop_can : IsEndOf sys (AtStop first.key.tick first.key.resource Steps)
      stop_can = (soon.line.range.tick, soon.line.belongs.resource)

      old : AreParted sys before (all_lines ys) begun
      old = parted_at sys before (all_lines ys) begun taken

      abbrev read : List run.Line
      read = old.first ++ first ∷ soon.rows

      read_of : All (IsLineOf sys) read
      read_of =
          All-append (IsLineOf sys) old.first (first ∷ soon.rows) (all_first (IsLineOf sys) old.first old.second before old.parts of)
          (All-cons (IsLineOf sys) first soon.rows soon.line (All-weaker (IsOwnLine sys first) (IsLineOf sys) (λ l h. h.line) soon.rows soon.own))

      read_are : map (line_of sys) read ≡ all_lines ys ++ map (line_of sys) (first ∷ soon.rows)
      read_are = map-append (line_of sys) old.first (first ∷ soon.rows) ∙ ap (λ (ls : List Line). ls ++ map (line_of sys) (first ∷ soon.rows)) old.first_are

      near_al : Aligned f read stop_line soon.rest
      near_al =
          align f read stop_line soon.rest read_of (soon.is ∙ ap (λ (ls : List Line). lines_text f sys ls ++ (stop_line ++ soon.rest)) (sym read_are))
          (sym (through stop_line soon.rest (last_one sys (AtStop first.key.tick first.key.resource Steps) names stop_can)))

      near_over : IsOver f read stop_line soon.rest near_al
      near_over = over f read stop_line soon.rest near_al (AtStop first.key.tick first.key.resource Steps) refl

      abbrev near_stop : IsStop
      near_stop = stop_is first.key.tick first.key.resource near_over.is

      near_same : (first.key.tick ≡ near_stop.tick) × (first.key.resource ≡ near_stop.resource)
      near_same = same_stop first.key.tick first.key.resource near_stop.tick near_stop.resource stop_can near_stop.is near_over.is

      near_lines : all_lines rows ≡ all_lines ahead ++ (view first ∷ map view soon.rows)
      near_lines =
          none_left f read stop_line soon.rest near_al near_over.none ∙ ap (shown_lines F) read_are ∙ both_shown F (all_lines ys) (map (line_of sys) (first ∷ soon.rows))
          ∙ ap (λ (ls : List Line). ls ++ shown_lines F (map (line_of sys) (first ∷ soon.rows))) (sym (all_shown F ys)) ∙ ap (λ (ls : List Line). all_lines ahead ++ ls) (seen_all F (first ∷ soon.rows))

      rows_of : (ls : List run.Line) → All (IsOwnLine sys first) ls → Each (IsRowOf (view first)) (map view ls)
      rows_of [] h = tt
      rows_of (l ∷ ls) h =
          let own = All-head (IsOwnLine sys first) l ls h in (
            (taken_shown F (line_of sys l) ∙ own.taken, at_shown F (line_of sys l) ∙ ap (path_at sys) own.instance ∙ sym (at_shown F (line_of sys first))),
            rows_of ls (All-tail (IsOwnLine sys first) l ls h),
          )

      nearest : IsNearest sys limit within ahead ahead_chain near_stop.tick near_stop.resource rows near_stop.ends (view first) (map view soon.rows)
      nearest =
          steps_nearest sys limit within ahead ahead_chain near_stop.tick near_stop.resource rows near_stop.ends (view first) (map view soon.rows)
          (soon.block, ap sys.kind (at_shown F (line_of sys first)) ∙ soon.kind) (rows_of soon.rows soon.own) near_stop.apart (tick_shown F (line_of sys first) ∙ near_same.0)
          (resource_shown F (line_of sys first) ∙ near_same.1) near_lines

      abbrev less : Look
      less = limited limit first.key.tick first.key.resource here

      tick_is : nearest.x.first.key.tick ≡ first.key.tick
      tick_is = ap (λ (l : Line). l.key.tick) nearest.first_is ∙ tick_shown F (line_of sys first)

      resource_is : nearest.x.first.key.resource ≡ first.key.resource
      resource_is = ap (λ (l : Line). l.key.resource) nearest.first_is ∙ resource_shown F (line_of sys first)

      nearest_takings : IsTaking sys limit less nearest.x
      nearest_takings =
          subst (λ (g : Look). IsTaking sys limit (limited limit first.key.tick first.key.resource g) nearest.x) look_is
          (subst (λ (n : ℕ). IsTaking sys limit (limited limit first.key.tick n (last_look (opening_look sys) ahead)) nearest.x) resource_is
          (subst (λ (n : ℕ). IsTaking sys limit (limited limit n nearest.x.first.key.resource (last_look (opening_look sys) ahead)) nearest.x) tick_is nearest.near))

      nearest_keeps : KeepsLimit limit first.key.tick first.key.resource here
      nearest_keeps =
          subst (KeepsLimit limit first.key.tick first.key.resource) look_is
          (subst (λ (n : ℕ). KeepsLimit limit first.key.tick n (last_look (opening_look sys) ahead)) resource_is
          (subst (λ (n : ℕ). KeepsLimit limit n nearest.x.first.key.resource (last_look (opening_look sys) ahead)) tick_is nearest.keeps))

      begun_back : seen_begun ++ back ≡ view first ∷ map view soon.rows
      begun_back = append_cancel_left (all_lines ahead) (seen_begun ++ back) (view first ∷ map view soon.rows) (sym whole ∙ near_lines)

      -- a taking that begins with the line is the nearest one
      same_taking : (z0 : Taking) (more : List Line) → IsTaking sys limit less z0 → seen_begun ≡ (shown_taking F z0).first ∷ more → nearest.x ≡ shown_taking F z0
      same_taking z0 more is_taking e =
          let z = shown_taking F z0 in
          let first_is : z.first ≡ view first = (two_heads z.first (view first) (more ++ back) (map view soon.rows) (ap (λ (ls : List Line). ls ++ back) (sym e) ∙ begun_back)).0 in
          taking_one sys limit less nearest.x z nearest_takings (takings_shown sys F limit less z0 is_taking) (nearest.first_is ∙ sym first_is)

      not_last_gone : GoesOtherwise (IsTaking sys limit less) sys f begun line finding → ⊥
      not_last_gone wrong =
          let z = shown_taking F wrong.taking in
          let T : Taking → Type 0 = IsTaking sys limit less in
          let e : seen_begun ≡ z.first ∷ shown_lines F wrong.passed = begun_is T wrong in
          let same = same_taking wrong.taking (shown_lines F wrong.passed) wrong.is_taking e in
          let all : seen_begun ++ (shown F wrong.next ∷ shown_lines F wrong.more) ≡ seen_begun ++ back =
          ap (λ (ls : List Line). ls ++ (shown F wrong.next ∷ shown_lines F wrong.more)) e ∙ sym (parts_are T wrong) ∙ ap taking_lines (sym same) ∙ nearest.lines ∙ sym begun_back
          in
          not_next T wrong (shown_lines F wrong.more) (sym (append_cancel_left seen_begun (shown F wrong.next ∷ shown_lines F wrong.more) back all))

      not_on_after : GoesOnAfter (IsTaking sys limit less) sys limit less begun line finding → ⊥
      not_on_after wrong =
          let z0 = wrong.taking in
          let z = shown_taking F z0 in
          let e : seen_begun ≡ taking_lines z = sym (lines_shown F z0 ∙ ap (shown_lines F) wrong.lines_are) in
          let same : nearest.x ≡ z = same_taking z0 _ wrong.is_taking e in
          let none : back ≡ [] =
          append_cancel_left seen_begun back [] (begun_back ∙ sym nearest.lines ∙ ap taking_lines same ∙ sym e ∙ sym (append-nil seen_begun))
          in
          let tick : z0.first.key.tick ≡ first.key.tick = sym (ap (λ (l : Line). l.key.tick) (first_shown F z0) ∙ tick_shown F z0.first) ∙ ap (λ (v : Taking). v.first.key.tick) (sym same) ∙ tick_is in
          let resource : z0.first.key.resource ≡ first.key.resource =
          sym (ap (λ (l : Line). l.key.resource) (first_shown F z0) ∙ resource_shown F z0.first) ∙ ap (λ (v : Taking). v.first.key.resource) (sym same) ∙ resource_is
          in
          let says : line ≡ steps_stop sys z0.first =
          at_end (no_back none) ∙ sym near_over.is ∙ ap (λ (n : ℕ). last_line sys (AtStop n first.key.resource Steps)) (sym tick) ∙ ap (λ (n : ℕ). last_line sys (AtStop z0.first.key.tick n Steps)) (sym resource)
          in
          wrong.other says (out z0 same (tick_is ∙ sym tick) (resource_is ∙ sym resource) nearest.out)
        where
          out : (z0 : Taking) → nearest.x ≡ shown_taking F z0 → nearest.x.first.key.tick ≡ z0.first.key.tick → nearest.x.first.key.resource ≡ z0.first.key.resource
              → (nearest.x.stop ≡ Some Steps) ⊎ ((nearest.x.stop ≡ None) × (left_at limit nearest.x.first.key.tick (nearest.x.after.steps nearest.x.first.key.resource) ≡ 0))
              → RunsOut limit z0.first.key.tick z0.first.key.resource less (z0 ∷ [])
          out z0 same tick resource (inl stop) = inl (sym (stop_shown F z0) ∙ ap (λ (v : Taking). v.stop) (sym same) ∙ stop)
          out z0 same tick resource (inr h) =
              let after : nearest.x.after ≡ z0.after = ap (λ (v : Taking). v.after) same ∙ after_shown F z0 in
              inr (
                sym (stop_shown F z0) ∙ ap (λ (v : Taking). v.stop) (sym same) ∙ h.0,
                subst (λ (n : ℕ). left_at limit z0.first.key.tick (z0.after.steps n) ≡ 0) resource
                    (subst (λ (n : ℕ). left_at limit n (z0.after.steps nearest.x.first.key.resource) ≡ 0) tick
                    (subst (λ (g : Look). left_at limit nearest.x.first.key.tick (g.steps nearest.x.first.key.resource) ≡ 0) after h.1)),
              )

      not_last : IsWrongLast sys f limit (last_tick 0 before) ys first begun line finding → ⊥
      not_last (inl wrong) = wrong.1 nearest_keeps
      not_last (inr (inl wrong)) =
          not_begun (IsTaking sys limit less) (IsUnstarted sys limit less) wrong.1 (λ l more e. (nearest.x, nearest.first_is ∙ sym (first_back l more wrong.0 e), nearest_takings))
        where
          none_first : (form : Form) → shown_lines form [] ≡ []
          none_first One = refl
          none_first Two = refl

          first_back : (l : Line) (more : List Line) → begun ≡ [] → back ≡ l ∷ more → l ≡ view first
          first_back l more none e =
              (two_heads l (view first) more (map view soon.rows) (sym e ∙ sym (ap (λ (ls : List Line). ls ++ back) (ap (shown_lines F) none ∙ none_first F)) ∙ begun_back)).0
      not_last (inr (inr (inl wrong))) = not_last_gone wrong
      not_last (inr (inr (inr wrong))) = not_on_after wrong

    -- ---- Steps that were not kept

    not_over : UsesTooMany sys limit ys begun line finding → ⊥
    not_over wrong =
        let many = wrong.many in
        let o = over f before line rest al (AtStop wrong.tick wrong.resource Steps) wrong.is in
        let s = stop_is wrong.tick wrong.resource (sym wrong.is ∙ o.is) in
        let z = shown_taking F many.taking in
        let parts : ahead ≡ shown_takings F many.before ++ z ∷ shown_takings F many.later = ap (shown_takings F) many.parts ∙ joined_shown F many.before many.taking many.later in
        let chain2 = subst (λ (ts : List Taking). AreTakings sys most (opening_look sys) ts) parts ahead_chain in
        let lines : all_lines rows ≡ all_lines (shown_takings F many.before ++ z ∷ shown_takings F many.later) ++ seen_begun =
        whole ∙ ap (λ (ls : List run.Line). all_lines ahead ++ (seen_begun ++ map view ls)) o.none ∙ ap (λ (ls : List Line). all_lines ahead ++ ls) (append-nil seen_begun)
        ∙ ap (λ (ts : List Taking). all_lines ts ++ seen_begun) parts
        in
        let last =
        too_many sys limit within (shown_takings F many.before) z (shown_takings F many.later) chain2 (λ kept. many.over (subst (KeepSteps sys limit) (after_shown F many.taking) kept)) s.tick s.resource rows s.ends seen_begun lines
        in
        let basic = basic_shown many.taking last.basic in
        let end : AtStop s.tick s.resource Steps ≡ AtStop many.taking.first.key.tick many.taking.first.key.resource Steps =
        ap (λ (n : ℕ). AtStop n s.resource Steps) (sym last.tick) ∙ ap (λ (n : ℕ). AtStop z.first.key.tick n Steps) (sym last.resource) ∙ stop_of_shown many.taking
        in
        wrong.near (no_takings F many.later last.no_later) (no_shown F begun last.no_line) basic.0 basic.1 (o.is ∙ ap (last_line sys) (s.is ∙ end))
      where
        no_shown : (form : Form) (ls : List Line) → shown_lines form ls ≡ [] → ls ≡ []
        no_shown Two ls e = e
        no_shown One [] e = refl
        no_shown One (l ∷ ls) e = absurd (no_first (bare l) (map bare ls) e)

    -- ---- All kinds

    not_freely : IsWrongFreely sys f limit (last_tick 0 before) ys begun line finding → ⊥
    not_freely (inl wrong) = not_begun (IsTaking sys most here) (IsUnstarted sys most here) wrong.1 begins
      where
        begins : (l : Line) (more : List Line) → back ≡ l ∷ more → (x : Taking) × (x.first ≡ l) × IsTaking sys most here x
        begins l more e =
            let x = begins_right sys limit within ahead ahead_chain rows a.end row_ends l more (whole_none wrong.0 ∙ ap (λ (ls : List Line). all_lines ahead ++ ls) e) in
            (x.0, x.1, subst (λ (g : Look). IsTaking sys most g x.0) look_is x.2)
    not_freely (inr (inl wrong)) = not_ended wrong.0 wrong.1
    not_freely (inr (inr (inl wrong))) = not_gone wrong.0 wrong.1
    not_freely (inr (inr (inr wrong))) = not_stopped wrong.0 wrong.1

    not_after : IsWrongAfter sys f limit (last_tick 0 before) ys begun line text finding → ⊥
    not_after (inl wrong) = not_freely wrong
    not_after (inr (inl wrong)) = not_last wrong.0 wrong.1 wrong.2
    not_after (inr (inr wrong)) = not_over wrong

  not_line : (n : Refusal) (line : List ℕ) → IsWrongLine sys limit n line text → ⊥
  not_line n line w =
      let al = align w.form w.before line w.at.rest w.at.are.each w.at.is w.at.alone in
      not_after w.form w.before line w.at.rest w.at.are.each al w.at.formed w.takings w.taken.chain w.taken.goes_on w.begun w.taken.lines_are n.finding w.wrong

  not_past : (n : ℕ) → IsAfterLast sys limit n text → ⊥
  not_past n w =
      let b = w.accepted in
      let stop_line = last_line sys b.end in
      let al =
      align b.form b.lines stop_line w.rest b.trace.lines.each
      (w.is ∙ ap (λ (z : List ℕ). z ++ w.rest) b.trace.is ∙ append_assoc (lines_text b.form sys (map (line_of sys) b.lines)) stop_line w.rest)
      (sym (through stop_line w.rest (last_one sys b.end names b.trace.last)))
      in
      let o = over b.form b.lines stop_line w.rest al b.end refl in
      let some = w.more in
      let none = ap length o.nothing_more in
      omega (arith, some, none)

  pub not_wrong : (n : ℕ) → IsWrongAt sys limit n text → ⊥
  not_wrong n (finding, line, inl wrong) = not_line (record { number = n; finding = finding }) line wrong
  not_wrong n (finding, line, inr wrong) = not_past n wrong.0
