-- What is reported of a run that stopped.
use Rattle.fbsim_command.proofs.lemmas.Common.{◌≡◌, ◌++◌, ◌∙◌, ◌∷◌, ℕ, Bool, true, List, [], Option, refl, sym, ap, subst, append_assoc, append-nil, Ok, Err, inl, inr, IfOk, IfSome, None, Result, Some, Inputs, Library, Given, Declares, Hears, Place, End, Held, Task, false}
use Rattle.std.specs.Result.{result_ok}
use Rattle.fb_types.proofs.Common.{◌+◌, ◌≤◌, Appends-trans, IsTrue, arith, drop, false≢true, is_some, length}
use Rattle.fb_read.specs.Blank.{Text}
use Rattle.fb_read.specs.Located.{AreLocated}
use Rattle.fb_read.specs.Refusals.{IsNext}
use Rattle.fb_read.specs.Tokens.{after_mark}
use Rattle.fb_read.specs.declared.token.Located.{Located}
use Rattle.fb_read.proofs.lemmas.tokens.PrefixLaws.{next-after}
use Rattle.fb_read_positions.specs.declared.position.Position.{Position}
use Rattle.fb_stop.specs.Places.{IsStopPosition}
use Rattle.fb_stop.specs.Shown.{IsStopShown}
use Rattle.fb_stop.specs.declared.found.FoundStop.{FoundStop}
use Rattle.fb_stop.specs.declared.shown.Shown.{Shown}
use Rattle.fb_read_positions.specs.Places.{IsPlaceAt, IsPlaceFor, IsPlace, IsStretch, IsWithin}
use Rattle.fb_read_positions.specs.Spans.{IsNowhere}
use Rattle.fbsim_command.specs.LateRows.{HasNoLate, HasNoRows, ReportsRows, asked_horizon}
use Rattle.fbsim_command.specs.Stops.{HasNoStop, IsPositionPlace, IsStopPlace, IsUnshownStop, NotesRun, NotesStop, asked_run}
use Rattle.fbsim_command.specs.declared.join.FileLines.{FileLines}

-- one report after another, of which all was taken
pub hears_after : (old mid new : Held) (first report : List ℕ) (heard : Bool) → Hears true old mid first → Hears heard mid new report → Hears heard old new (first ++ report)
hears_after old mid new first report heard one two =
    let whole : first ≡ one.front = one.parts ∙ ap (λ (r : List ℕ). one.front ++ r) (one.all refl) ∙ append-nil one.front in
    record {
      front = one.front ++ two.front;
      rest = two.rest;
      parts = ap (λ (f : List ℕ). f ++ report) whole ∙ ap (λ (r : List ℕ). one.front ++ r) two.parts ∙ sym (append_assoc one.front two.front two.rest);
      got = Appends-trans old mid new one.front two.front one.got two.got;
      all = two.all;
      none = λ e. two.none (after_nil first report e) ∙ one.none (before_nil first report e);
    }
  where
    before_nil : (xs ys : List ℕ) → xs ++ ys ≡ [] → xs ≡ []
    before_nil [] ys e = refl
    before_nil (x ∷ xs) ys e = absurd (let f : x ∷ (xs ++ ys) ≡ [] = e in cc)

    after_nil : (xs ys : List ℕ) → xs ++ ys ≡ [] → ys ≡ []
    after_nil [] ys e = e
    after_nil (x ∷ xs) ys e = absurd (let f : x ∷ (xs ++ ys) ≡ [] = e in cc)

-- one report, after which nothing is reported
pub hears_no_more : (old new : Held) (first : List ℕ) (heard : Bool) → Hears heard old new first → Hears heard old new (first ++ [])
hears_no_more old new first heard h = subst (λ (t : List ℕ). Hears heard old new t) (sym (append-nil first)) h

-- the place of a position
pub placed : (text : Text) (i : Inputs) (stop : FoundStop) (p : Position) (library : Library) {E : Type 0} (r : Result (Option Place) E) → IsStopPosition i stop p → library ≡ i.library
    → IfOk r (IsPlaceFor text library (Some p)) → IfOk r (IsPositionPlace text i stop)
placed text i stop p library (Ok None) is same h = inr (p, is, subst (λ (l : Library). IsNowhere text l p) same h)
placed text i stop p library (Ok (Some at)) is same h = (p, is, subst (λ (l : Library). IsPlaceAt text l p at) same h)
placed text i stop p library (Err e) is same h = tt

-- the place of the position, where no operation is shown
pub positioned : (text : Text) (i : Inputs) (stop : FoundStop) {E : Type 0} (r : Result (Option Place) E) → IsUnshownStop text i stop → IfOk r (IsPositionPlace text i stop) → IfOk r (IsStopPlace text i stop)
positioned text i stop (Ok None) unshown h = (unshown, h)
positioned text i stop (Ok (Some at)) unshown h = inr (unshown, h)
positioned text i stop (Err e) unshown h = tt

-- a token of a text is in it, after its byte order mark
next-within : (text : Text) (ps : List Located) (k start end : ℕ) → AreLocated text ps (after_mark text) → IsNext (drop k ps) text start end → IsWithin text start end
next-within text ps k start end located next = go (drop k ps) next (next-after text k start end ps (after_mark text) located next)
  where
    go : (left : List Located) → IsNext left text start end → length text ≤ start + length (after_mark text) → IsWithin text start end
    go [] x after = record { after = after; ordered = omega (arith, x.0, x.1); within = omega (arith, x.1) }
    go (q ∷ left) x after = record { after = after; ordered = omega (arith, x.2); within = x.3 }

-- the operator of an operation is in the text
operator-within : (text : Text) (i : Inputs) (stop : FoundStop) (x : Shown) → IsStopShown text i stop x → IsWithin text x.operator.start x.operator.end
operator-within text i stop x is =
    let s = is.shown in
    next-within text s.tokens (s.begin + is.operation.operator) x.operator.start x.operator.end s.located s.shown.operator.1

-- the place of an operator
pub operated : (text : Text) (i : Inputs) (stop : FoundStop) (x : Shown) (o : Option Place) → IsStopShown text i stop x → (IsWithin text x.operator.start x.operator.end → IsTrue (is_some o)) → IfSome o (IsPlace text)
    → IfSome o (λ at. IsStretch x.operator.start x.operator.end at) → IsStopPlace text i stop o
operated text i stop x None is some located there = absurd (false≢true (some (operator-within text i stop x is)))
operated text i stop x (Some at) is some located there = inl (record { shown = x; is = is; there = there; located = located })

-- what there is of a result
pub if_ok : {S E : Type 0} (r : Result S E) (o : Option S) (P : S → Type 0) → o ≡ result_ok r → IfOk r P → IfSome o P
if_ok (Ok x) o P same p = subst (λ q. IfSome q P) (sym same) p
if_ok (Err e) o P same p = subst (λ q. IfSome q P) (sym same) tt

-- what is said of a run of a system, as what is said of what declares it
pub run-stop :
    (types : List (List ℕ)) (own : List ℕ) (lines : List FileLines) (given : Given) (i : Inputs) (horizon steps : ℕ) (note : Option (List ℕ)) → Declares given i
    → NotesRun types own lines given i horizon steps note → NotesStop types own lines given horizon steps note
run-stop types own lines given i horizon steps None declares never = λ early few. inl (i, declares, never)
run-stop types own lines given i horizon steps (Some note) declares run = (i, declares, run)

-- the rows that a run did not come to, where more is to be reported
pub rows-whole :
    (c : Task) (stimuli : Option Text) (end : End) (first last : Bool) (report : Text) → (IsTrue last → IsTrue first) → ReportsRows c stimuli end first report → ReportsRows c stimuli end last report
rows-whole c stimuli end first last report all (inl (none, rows)) = inl (none, λ whole. rows (all whole))
rows-whole c stimuli end first last report all (inr late) = inr late

-- no rows are asked for
pub no-horizon : (c : Task) (stimuli : Option Text) (end : End) (o : Option ℕ) → o ≡ asked_horizon c end → o ≡ None → HasNoRows c stimuli end
no-horizon c stimuli end o is none = λ horizon asks. absurd (let bad : ◌≡◌ {A = Option ℕ} None (Some horizon) = sym none ∙ is ∙ asks in cc)

-- no rows are given
pub no-stimuli : (c : Task) (stimuli : Option Text) (end : End) → stimuli ≡ None → HasNoRows c stimuli end
no-stimuli c stimuli end none = λ horizon asks. subst (λ (s : Option Text). IfSome s (λ bytes. HasNoLate bytes horizon)) (sym none) tt

-- no row is late
pub no-late :
    (c : Task) (stimuli : Option Text) (end : End) (o : Option ℕ) (horizon : ℕ) (bytes : Text) → o ≡ asked_horizon c end → o ≡ Some horizon → stimuli ≡ Some bytes → HasNoLate bytes horizon → HasNoRows c stimuli end
no-late c stimuli end o horizon bytes is asked given none = λ other asks.
    let both : ◌≡◌ {A = Option ℕ} (Some horizon) (Some other) = sym asked ∙ is ∙ asks in
    let same : horizon ≡ other = cc in
    subst (λ (s : Option Text). IfSome s (λ bytes. HasNoLate bytes other)) (sym given) (subst (HasNoLate bytes) same none)

-- no stop is asked for
pub no-run :
    (types : List (List ℕ)) (c : Task) (lines : List FileLines) (given : Given) (end : End) (o : Option (ℕ × ℕ)) → o ≡ asked_run c end → o ≡ None → HasNoStop types c lines given end
no-run types c lines given end o is none = λ horizon steps asks. absurd (let bad : ◌≡◌ {A = Option (ℕ × ℕ)} None (Some (horizon, steps)) = sym none ∙ is ∙ asks in cc)

-- there is no stop
pub no-stop :
    (types : List (List ℕ)) (c : Task) (lines : List FileLines) (given : Given) (end : End) (o : Option (ℕ × ℕ)) (horizon steps : ℕ) → o ≡ asked_run c end → o ≡ Some (horizon, steps)
    → NotesStop types c.declaration.now lines given horizon steps None → HasNoStop types c lines given end
no-stop types c lines given end o horizon steps is asked none = λ h s asks.
    let both : ◌≡◌ {A = Option (ℕ × ℕ)} (Some (horizon, steps)) (Some (h, s)) = sym asked ∙ is ∙ asks in
    let pair : ◌≡◌ {A = ℕ × ℕ} (horizon, steps) (h, s) = cc in
    subst (λ (p : ℕ × ℕ). NotesStop types c.declaration.now lines given p.0 p.1 None) pair none

-- nothing that is not reported is whole
pub not-whole : {P : Type 0} → IsTrue false → P
not-whole bad = absurd (let f : false ≡ true = bad in cc)

-- nothing more is reported
pub nothing_more : (is_heard now : Bool) (err : Held) → is_heard ≡ now → (old : Held) (first : List ℕ) → Hears is_heard old err first → Hears now old err (first ++ [])
nothing_more is_heard now err is old first h = hears_no_more old err first now (subst (λ (b : Bool). Hears b old err first) is h)

-- less is reported than is to be
pub nothing_whole : (is_heard : Bool) (err : Held) → (old : Held) (first : List ℕ) → Hears is_heard old err first → Hears false old err (first ++ [])
nothing_whole is_heard err old first h =
    subst (λ (t : List ℕ). Hears false old err t) (sym (append-nil first)) (record { front = h.front; rest = h.rest; parts = h.parts; got = h.got; all = not-whole; none = h.none })
