-- Rules that are held against traces, one after the other.
use Rattle.fbsim_command.proofs.lemmas.Common.{◌≡◌, ℕ, suc, ◌+◌, ◌<◌, Bool, true, false, Bor, List, [], ◌∷◌, ◌++◌, length, get_or, map, take, drop, Option, Some, None, codes, Result, Ok, Err, refl, sym, ap, ◌∙◌, subst, append_assoc, append-nil, inl, inr, arith, ◌&&◌, IfErr, IfOk, IfSome, OnOk, if◌then◌else◌, nat_lt, Appends, drop_more, length-map, map-append, take-append-drop, take_more, IsErrAnd, Given, AreUnheld, Holds, IsUnheld, WritesPart, failure_of_source, End, Held, Opening, Expect, Failure, Refused, RefusedTrace, File, Write, Memory, Line, BadOption, SourceFault}
use Rattle.fb_types.proofs.Common.{Vec, ◌*◌, ◌^◌, ap₂, is_ok, length-take-le, list_all-append}
use Rattle.clap.specs.Words.{Text}
use Rattle.fb_expect.specs.Applied.{applied_points, applied_suite, counts_of}
use Rattle.fb_expect.specs.Judging as judging
use Rattle.fb_expect.specs.Judging.{IsRefusal, Judges}
use Rattle.fb_expect.specs.declared.fault.TraceError.{TraceError}
use Rattle.fb_expect.specs.declared.fault.TraceError.TheVariants as trace_error
use Rattle.fb_expect.specs.Reports.{are_well, points}
use Rattle.fb_expect.specs.Suites.{suite, suites_tail}
use Rattle.fb_expect.specs.declared.judging.Cut.{Cut}
use Rattle.fb_expect.specs.declared.judging.Judged.{Judged}
use Rattle.fb_expect.specs.declared.rule.Rule.{Rule}
use Rattle.fbsim_command.specs.Notes.{IsUnnoted, Noted, Notes, NotesEnd, SaysUnread}
use Rattle.fbsim_command.specs.Expecting.{AreHeld, AreRules, ComesTo, IsHeld, IsRefusedAt, IsTraceFailure, IsWrongLine, NotesError, Puts, PutsOne, Reports, all_applied, all_well, applied_of, counted_of, cut_of, head_of, part_of, points_of, tail_of}
use Rattle.fbsim_command.specs.Failures.{IsPartWritten}
use Rattle.fbsim_command.specs.declared.sources.SourceFault.TheVariants as source
use Rattle.fbsim_command.specs.declared.statuses.Done.TheVariants.{Met, Unmet}

abbrev now : Bor Text → Text
now t = t.now

-- ---- A trace

-- a failure that is passed on
pub passed-on : {B : Type 0} (r : Result B Failure) (f : Failure) (P : Failure → Type 0) → IsErrAnd r (λ g. g ≡ f) → P f → IfErr r P
passed-on (Ok b) f P bad p = absurd bad
passed-on (Err g) f P same p = subst P (sym same) p

-- nothing was noted of it
nothing-said : (x : Expect) (name : Text) (note : Noted) → IfOk note (Notes x.why (SaysUnread (codes "trace") name source.Memory)) → IsUnnoted note
nothing-said x name (Err e) said = tt
nothing-said x name (Ok None) said = refl
nothing-said x name (Ok (Some n)) said = absurd said.1.is_matter

-- it is not opened
pub unopened :
    {S : Type 0} (opens : Opening S) (x : Expect) (old new : S) (name : Text) (note : Noted) (fault : SourceFault) → opens old name (Err fault) new
    → IfOk note (Notes x.why (SaysUnread (codes "trace") name fault)) → IsUnheld opens x old new name note (failure_of_source fault)
unopened opens x old new name note source.File is said = inl (record { fault = source.File; of_file = refl; unopened = is; noted = said })
unopened opens x old new name note source.Folder is said = inl (record { fault = source.Folder; of_file = refl; unopened = is; noted = said })
unopened opens x old new name note source.Memory is said = nothing-said x name note said

-- the note to a trace that is opened and not held, by its error
pub end-noted : (why : Bool) (name : Text) (e : TraceError) (note : Noted) → e ≡ trace_error.Read → IfOk note (NotesEnd why name) → NotesError why name e note
end-noted why name e note is said = subst (λ (d : TraceError). NotesError why name d note) (sym is) said

pub error-unnoted : (why : Bool) (name : Text) (e : TraceError) (note : Noted) → (e ≡ trace_error.Read → ⊥) → IsUnnoted note → NotesError why name e note
error-unnoted why name trace_error.Read note other none = absurd (other refl)
error-unnoted why name trace_error.Memory note other none = none
error-unnoted why name (trace_error.Refused line) note other none = none

-- it is refused
pub refused-at :
    {A : Type 0} {S : Type 0} (opens : Opening S) (x : Expect) (cut : Cut) (old new : S) (name : Text) (line : ℕ) (trace : Held) (note : Noted) (r : Result A TraceError) (f : Failure) → opens old name (Ok trace) new
    → cut ≡ cut_of x → r ≡ Err (trace_error.Refused line) → IfErr r (IsRefusal cut trace) → IsUnnoted note → IsRefusedAt name line f → IsUnheld opens x old new name note f
refused-at {A = A} opens x cut old new name line trace note r f is same refused wrong none reported = by f reported
  where
    is_wrong : IsWrongLine x trace line
    is_wrong =
        subst (λ (k : Cut). IfSome trace (λ text. judging.IsRefused k text line)) same
        (subst (λ (s : Result A TraceError). IfErr s (IsRefusal cut trace)) refused wrong)

    by : (g : Failure) → IsRefusedAt name line g → IsUnheld opens x old new name note g
    by (RefusedTrace text) reported = (trace, is, (line, is_wrong, reported), none)
    by Memory reported = none
    by (Refused refusal) reported = absurd reported
    by File reported = absurd reported
    by (Write n) reported = absurd reported
    by (Line message) reported = absurd reported
    by BadOption reported = absurd reported

-- the same for each error
pub failed-at :
    {A : Type 0} {S : Type 0} (opens : Opening S) (x : Expect) (cut : Cut) (old new : S) (name : Text) (trace : Held) (note : Noted) (r : Result A TraceError) (e : TraceError) (f : Failure) → opens old name (Ok trace) new
    → cut ≡ cut_of x → r ≡ Err e → IfErr r (IsRefusal cut trace) → NotesError x.why name e note → IsTraceFailure name e f → IsUnheld opens x old new name note f
failed-at opens x cut old new name trace note r (trace_error.Refused line) f is same refused wrong said reported = refused-at opens x cut old new name line trace note r f is same refused wrong said reported
failed-at opens x cut old new name trace note r trace_error.Memory f is same refused wrong said reported = subst (IsUnheld opens x old new name note) (sym reported) said
failed-at opens x cut old new name trace note r trace_error.Read f is same refused wrong said reported =
    subst (IsUnheld opens x old new name note) (sym reported) (inr (record { trace = trace; opened = is; noted = said }))

-- it is held
pub held-one :
    {S : Type 0} (opens : Opening S) (x : Expect) (rules : List Rule) (old new : S) (name : Text) (trace : Held) (cut : Cut) (js : List Judged) → cut ≡ cut_of x
    → opens old name (Ok trace) new → IfSome trace (λ text. Judges cut text rules js) → IsHeld opens x rules old new name js
held-one opens x rules old new name trace cut js same is judged =
    record { trace = trace; opened = is; judged = subst (λ (k : Cut). IfSome trace (λ text. Judges k text rules js)) same judged }

-- a suite, or points
pub put-suite :
    {U E : Type 0} (x : Expect) (rules : List Rule) (before : ℕ) (t : Bor Text) (js : List Judged) (r : Result U E) (old new : Text) → x.is_junit ≡ true
    → OnOk r (new ≡ old ++ suite x.is_strict t.now rules js) → OnOk r (new ≡ old ++ part_of x rules before t js)
put-suite x rules before t js (Err e) old new on is = tt
put-suite x rules before t js (Ok u) old new on is =
    is ∙ ap (λ (b : Bool). old ++ (if b then suite x.is_strict t.now rules js else points x.is_strict (record { trace = t; is_named = nat_lt 1 (length x.traces.items) }) before rules js)) (sym on)

pub put-points :
    {U E : Type 0} (x : Expect) (rules : List Rule) (before : ℕ) (t : Bor Text) (js : List Judged) (r : Result U E) (old new : Text) (named : Bool) → x.is_junit ≡ false
    → named ≡ nat_lt 1 (length x.traces.items) → OnOk r (new ≡ old ++ points x.is_strict (record { trace = t; is_named = named }) before rules js) → OnOk r (new ≡ old ++ part_of x rules before t js)
put-points x rules before t js (Err e) old new named off many is = tt
put-points x rules before t js (Ok u) old new named off many is =
    is ∙ ap (λ (b : Bool). old ++ points x.is_strict (record { trace = t; is_named = b }) before rules js) many
    ∙ ap (λ (b : Bool). old ++ (if b then suite x.is_strict t.now rules js else points x.is_strict (record { trace = t; is_named = nat_lt 1 (length x.traces.items) }) before rules js)) (sym off)

-- what the report has of it is put after a text
pub put-one :
    {S : Type 0} (opens : Opening S) (x : Expect) (rules : List Rule) (i : ℕ) (t : Bor Text) (old new : S) (before text : Text) (js ks : List Judged)
    → IsHeld opens x rules old new t.now js → length js ≡ length rules → text ≡ before ++ part_of x rules (length rules * i) t ks → ks ≡ js
    → PutsOne opens x rules i t old new before text js
put-one opens x rules i t old new before text js ks held each is first =
    record {
      held = held;
      each = each;
      is = is ∙ ap (λ (js : List Judged). before ++ part_of x rules (length rules * i) t js) first;
    }

-- ---- All traces

held-more :
    {S : Type 0} (opens : Opening S) (x : Expect) (rules : List Rule) (old mid new : S) (names : List Text) (name : Text) (all : List (List Judged)) (js : List Judged)
    → AreHeld opens x rules old mid names all → IsHeld opens x rules mid new name js → AreHeld opens x rules old new (names ++ name ∷ []) (all ++ js ∷ [])
held-more {S} opens x rules old mid new [] name [] js same one = (new, subst (λ (s : S). IsHeld opens x rules s new name js) same one, refl)
held-more opens x rules old mid new [] name (ks ∷ all) js bad one = absurd bad
held-more opens x rules old mid new (n ∷ names) name [] js bad one = absurd bad
held-more opens x rules old mid new (n ∷ names) name (ks ∷ all) js are one = (are.0, are.1, held-more opens x rules are.0 mid new names name all js are.2 one)

held-count : {S : Type 0} (opens : Opening S) (x : Expect) (rules : List Rule) (old new : S) (names : List Text) (all : List (List Judged)) → AreHeld opens x rules old new names all → length all ≡ length names
held-count opens x rules old new [] [] are = refl
held-count opens x rules old new [] (ks ∷ all) bad = absurd bad
held-count opens x rules old new (n ∷ names) [] bad = absurd bad
held-count opens x rules old new (n ∷ names) (ks ∷ all) are = ap suc (held-count opens x rules are.0 new names all are.2)

points-more :
    (x : Expect) (rules : List Rule) (before : ℕ) (ts : List (Bor Text)) (t : Bor Text) (all : List (List Judged)) (js : List Judged) → length all ≡ length ts
    → points_of x rules before (ts ++ t ∷ []) (all ++ js ∷ [])
    ≡ points_of x rules before ts all ++ part_of x rules (before + length rules * length ts) t js
points-more x rules before [] t [] js same =
    append-nil (part_of x rules before t js)
    ∙ ap (λ (n : ℕ). part_of x rules n t js) (omega arith)
points-more x rules before [] t (ks ∷ all) js same = absurd (omega arith)
points-more x rules before (u ∷ ts) t [] js same = absurd (omega arith)
points-more x rules before (u ∷ ts) t (ks ∷ all) js same =
    let one = part_of x rules before u ks in
    let more = points_of x rules (before + length rules) ts all in
    ap (λ (z : Text). one ++ z)
    (points-more x rules (before + length rules) ts t all js (omega arith)
    ∙ ap (λ (n : ℕ). more ++ part_of x rules n t js) (one-more (length rules) before (length ts)))
    ∙ sym (append_assoc one more (part_of x rules (before + length rules * length (u ∷ ts)) t js))
  where
    one-more : (n b k : ℕ) → b + n + n * k ≡ b + n * suc k
    one-more n b k = omega arith

and-last : (a b : Bool) → (a && (b && true)) ≡ (b && a)
and-last true true = refl
and-last true false = refl
and-last false true = refl
and-last false false = refl

-- before the first trace
pub puts-none :
    {S : Type 0} (opens : Opening S) (x : Expect) (rules : List Rule) (ts : List (Bor Text)) (old : S) (before : Text) (counts : List ℕ) → counts ≡ counts_of rules []
    → Puts opens x rules (take 0 ts) old old before before counts true
puts-none opens x rules ts old before counts is = record { all = []; held = refl; are_well = refl; counted = is; is = sym (append-nil before) }

-- what counts rules in one more trace
abbrev pub CountsOne : List Rule → (js : List Judged) → (old new : List ℕ) → Type 0
CountsOne rules js old new =
    (all : List (List Judged)) → length all + 1 < 2 ^ 64 → length js ≡ length rules → old ≡ counts_of rules all → new ≡ counts_of rules (all ++ js ∷ [])

-- there are fewer traces than numbers
pub index-room : (v : Vec (Bor Text)) (us : List (Bor Text)) (i : ℕ) → us ≡ v.items → i < length us → i + 1 < 2 ^ 64
index-room v us i same lt =
    let long = ap length same in
    let count = v.ok.0 in
    let within = v.ok.1 in
    let small = v.small in
    omega (arith, lt, long, count, within, small)

-- one more trace
pub puts-more :
    {S : Type 0} (opens : Opening S) (x : Expect) (rules : List Rule) (ts : List (Bor Text)) (i : ℕ) (d : Bor Text) (old mid new : S) (before text more : Text) (js : List Judged)
    (counts fresh : List ℕ) (well both : Bool) → i < length ts → i + 1 < 2 ^ 64 → Puts opens x rules (take i ts) old mid before text counts well
    → PutsOne opens x rules i (get_or ts i d) mid new text more js → CountsOne rules js counts fresh → both ≡ (are_well x.is_strict js && well)
    → Puts opens x rules (take (i + 1) ts) old new before more fresh both
puts-more opens x rules ts i d old mid new before text more js counts fresh well both lt room puts one more-counted all =
    let t = get_or ts i d in
    let split : take (i + 1) ts ≡ take i ts ++ t ∷ [] = take_more ts i d lt in
    let count : length puts.all ≡ length (take i ts) = held-count opens x rules old mid (map now (take i ts)) puts.all puts.held ∙ length-map (take i ts) now in
    let long : length (take i ts) ≡ i = length-take-le i ts (omega arith) in
    let of = λ (n : ℕ). part_of x rules n t js in
    let said = points_of x rules 0 (take i ts) puts.all in
    record {
      all = puts.all ++ js ∷ [];
      held =
          subst (λ (names : List Text). AreHeld opens x rules old new names (puts.all ++ js ∷ [])) (sym (ap (map now) split ∙ map-append now (take i ts) (t ∷ [])))
          (held-more opens x rules old mid new (map now (take i ts)) t.now puts.all js puts.held one.held);
      are_well =
          list_all-append (are_well x.is_strict) puts.all (js ∷ []) ∙ and-last (all_well x puts.all) (are_well x.is_strict js)
          ∙ ap (λ (b : Bool). are_well x.is_strict js && b) puts.are_well ∙ sym all;
      counted = more-counted puts.all (omega (arith, room, count, long)) one.each puts.counted;
      is =
          one.is ∙ ap (λ (z : Text). z ++ of (length rules * i)) puts.is ∙ append_assoc before said (of (length rules * i))
          ∙ ap (λ (z : Text). before ++ z)
          (ap (λ (n : ℕ). said ++ of (length rules * n)) (sym long) ∙ ap (λ (n : ℕ). said ++ of n) (sym (zero-on (length rules * length (take i ts))))
          ∙ sym (points-more x rules 0 (take i ts) t puts.all js count) ∙ ap (λ (us : List (Bor Text)). points_of x rules 0 us (puts.all ++ js ∷ [])) (sym split));
    }
  where
    zero-on : (n : ℕ) → 0 + n ≡ n
    zero-on n = omega arith

-- the same of a list that is these traces
pub puts-more-of :
    {S : Type 0} (opens : Opening S) (x : Expect) (rules : List Rule) (ts us : List (Bor Text)) (i : ℕ) (d : Bor Text) (old mid new : S) (before text more : Text) (js : List Judged)
    (counts fresh : List ℕ) (well both : Bool) → us ≡ ts → i < length us → i + 1 < 2 ^ 64 → Puts opens x rules (take i ts) old mid before text counts well
    → PutsOne opens x rules i (get_or us i d) mid new text more js → CountsOne rules js counts fresh → both ≡ (are_well x.is_strict js && well)
    → Puts opens x rules (take (i + 1) ts) old new before more fresh both
puts-more-of opens x rules ts us i d old mid new before text more js counts fresh well both same lt room puts one more-counted all =
    puts-more opens x rules ts i d old mid new before text more js counts fresh well both (subst (λ (vs : List (Bor Text)). i < length vs) same lt) room puts
    (subst (λ (vs : List (Bor Text)). PutsOne opens x rules i (get_or vs i d) mid new text more js) same one) more-counted all

-- after the last
pub puts-all :
    {S : Type 0} (opens : Opening S) (x : Expect) (rules : List Rule) (ts us : List (Bor Text)) (old new : S) (before text : Text) (counts : List ℕ) (well : Bool) → us ≡ ts
    → Puts opens x rules us old new before text counts well → Puts opens x rules ts old new before text counts well
puts-all opens x rules ts us old new before text counts well same puts =
    subst (λ (vs : List (Bor Text)). Puts opens x rules vs old new before text counts well) same puts

-- a trace that is not held
pub comes-to :
    {S : Type 0} (opens : Opening S) (x : Expect) (rules : List Rule) (i : ℕ) (d : Bor Text) (old mid : S) (before text : Text) (counts : List ℕ) (well : Bool) → i < length x.traces.items
    → Puts opens x rules (take i x.traces.items) old mid before text counts well → ComesTo opens x rules old mid (get_or x.traces.items i d).now
comes-to opens x rules i d old mid before text counts well lt puts =
    let ts = x.traces.items in
    record {
      before = map now (take i ts);
      following = map now (drop (i + 1) ts);
      all = puts.all;
      parts =
          sym (ap (map now) (take-append-drop i ts)) ∙ map-append now (take i ts) (drop i ts)
          ∙ ap (λ (zs : List Text). map now (take i ts) ++ zs) (ap (map now) (drop_more ts i d lt));
      held = puts.held;
    }

pub unheld-at :
    {S : Type 0} (opens : Opening S) (x : Expect) (rules : List Rule) (name : Text) (old mid new : S) (note : Noted) (f : Failure) → ComesTo opens x rules old mid name
    → IsUnheld opens x mid new name note f → AreUnheld opens x rules old new note f
unheld-at opens x rules name old mid new note (RefusedTrace text) comes is =
    (record { name = name; between = mid; comes = comes; trace = is.0; opened = is.1; line = is.2.0; is_wrong = is.2.1; reported = is.2.2 }, is.3)
unheld-at opens x rules name old mid new note File comes is = record { name = name; between = mid; comes = comes; lacks = is }
unheld-at opens x rules name old mid new note Memory comes is = is
unheld-at opens x rules name old mid new note (Refused refusal) comes is = absurd is
unheld-at opens x rules name old mid new note (Write n) comes is = absurd is
unheld-at opens x rules name old mid new note (Line message) comes is = absurd is
unheld-at opens x rules name old mid new note BadOption comes is = absurd is

-- what it ends with
pub tail-put :
    {U E : Type 0} (x : Expect) (r : Result U E) (old new : Text) → x.is_junit ≡ true → new ≡ (if is_ok r then old ++ suites_tail else old) → OnOk r (new ≡ old ++ tail_of x)
tail-put x (Err e) old new on is = tt
tail-put x (Ok u) old new on is = is ∙ ap (λ (b : Bool). old ++ (if b then suites_tail else [])) (sym on)

-- the whole report
pub rules_reported :
    {S : Type 0} (opens : Opening S) (x : Expect) (rules : List Rule) (old new : S) (first text more all : Text) (counts : List ℕ) (well applied both : Bool) → first ≡ head_of x rules
    → Puts opens x rules x.traces.items old new first text counts well → more ≡ text ++ applied_of x rules counts → all ≡ more ++ tail_of x
    → ((js : List (List Judged)) → counts ≡ counts_of rules js → applied ≡ all_applied x rules js) → both ≡ (well && applied)
    → Reports opens x rules old new both all
rules_reported opens x rules old new first text more all counts well applied both is puts further end of so =
    let said = points_of x rules 0 x.traces.items puts.all in
    let later = applied_of x rules (counts_of rules puts.all) in
    record {
      all = puts.all;
      held = puts.held;
      are_well = sym (so ∙ ap₂ (λ (a b : Bool). a && b) (sym puts.are_well) (of puts.all puts.counted));
      report =
          end
          ∙ ap (λ (z : Text). z ++ tail_of x)
          (further ∙ ap (λ (ns : List ℕ). text ++ applied_of x rules ns) puts.counted ∙ ap (λ (z : Text). z ++ later) (puts.is ∙ ap (λ (z : Text). z ++ said) is)
          ∙ append_assoc (head_of x rules) said later)
          ∙ append_assoc (head_of x rules) (said ++ later) (tail_of x) ∙ ap (λ (z : Text). head_of x rules ++ z) (append_assoc said later (tail_of x));
    }

-- ---- The traces in which rules applied

pub counted-suite :
    {U E : Type 0} (x : Expect) (rules : List Rule) (counts : List ℕ) (n : ℕ) (r : Result U E) (old new : Text) → x.is_junit ≡ true → n ≡ length x.traces.items
    → OnOk r (new ≡ old ++ applied_suite rules counts n) → OnOk r (new ≡ old ++ counted_of x rules counts)
counted-suite x rules counts n (Err e) old new on count is = tt
counted-suite x rules counts n (Ok u) old new on count is =
    let m = length x.traces.items in
    is ∙ ap (λ (k : ℕ). old ++ applied_suite rules counts k) count
    ∙ ap (λ (b : Bool). old ++ (if b then applied_suite rules counts m else applied_points (length rules * m) rules counts m)) (sym on)

pub counted-points :
    {U E : Type 0} (x : Expect) (rules : List Rule) (counts : List ℕ) (n : ℕ) (r : Result U E) (old new : Text) → x.is_junit ≡ false → n ≡ length x.traces.items
    → OnOk r (new ≡ old ++ applied_points (length rules * n) rules counts n) → OnOk r (new ≡ old ++ counted_of x rules counts)
counted-points x rules counts n (Err e) old new off count is = tt
counted-points x rules counts n (Ok u) old new off count is =
    let m = length x.traces.items in
    is ∙ ap (λ (k : ℕ). old ++ applied_points (length rules * k) rules counts k) count
    ∙ ap (λ (b : Bool). old ++ (if b then applied_suite rules counts m else applied_points (length rules * m) rules counts m)) (sym off)

pub applied-none :
    (x : Expect) (rules : List Rule) (counts : List ℕ) (text : Text) → x.is_applied ≡ false → text ≡ text ++ applied_of x rules counts
applied-none x rules counts text off = sym (append-nil text) ∙ ap (λ (b : Bool). text ++ (if b then counted_of x rules counts else [])) (sym off)

pub applied-put :
    {U E : Type 0} (x : Expect) (rules : List Rule) (counts : List ℕ) (r : Result U E) (old new : Text) → x.is_applied ≡ true
    → OnOk r (new ≡ old ++ counted_of x rules counts) → OnOk r (new ≡ old ++ applied_of x rules counts)
applied-put x rules counts (Err e) old new on is = tt
applied-put x rules counts (Ok u) old new on is = is ∙ ap (λ (b : Bool). old ++ (if b then counted_of x rules counts else [])) (sym on)

-- ---- Ends

module _ {S : Type 0} (opens : Opening S) (x : Expect) (bytes-of : Text) (declared : Option Given) (rules : List Rule) (are : AreRules bytes-of declared rules) (old new : S) (a : Held) (note : Noted) where
  pub unheld : (f : Failure) → AreUnheld opens x rules old new note f → Holds opens x old new bytes-of declared a a note (Err f)
  unheld (RefusedTrace text) is = (rules, are, is.0, refl, is.1)
  unheld File is = (rules, are, is, refl)
  unheld Memory is = (refl, is)
  unheld (Refused refusal) is = absurd is
  unheld (Write n) is = absurd is
  unheld (Line message) is = absurd is
  unheld BadOption is = absurd is

  pub unwritten :
      (b : Held) (well : Bool) (text bytes : Text) → IsUnnoted note → bytes ≡ text → Reports opens x rules old new well text → (f : Failure) → WritesPart a b bytes f
      → Holds opens x old new bytes-of declared a b note (Err f)
  unwritten b well text bytes none same reports (Write n) part = (rules, are, (well, text, reports, subst (λ (z : Text). IsPartWritten a b z n) same part), none)
  unwritten b well text bytes none same reports (RefusedTrace message) part = absurd part
  unwritten b well text bytes none same reports File part = absurd part
  unwritten b well text bytes none same reports Memory part = absurd part
  unwritten b well text bytes none same reports (Refused refusal) part = absurd part
  unwritten b well text bytes none same reports (Line message) part = absurd part
  unwritten b well text bytes none same reports BadOption part = absurd part

  -- all are well, or not
  pub met : (b : Held) (well : Bool) (text bytes : Text) → IsUnnoted note → well ≡ true → Reports opens x rules old new well text → bytes ≡ text → Appends a b bytes → Holds opens x old new bytes-of declared a b note (Ok Met)
  met b well text bytes none is reports same got =
      (rules, are, (text, subst (λ (w : Bool). Reports opens x rules old new w text) is reports, subst (λ (z : Text). Appends a b z) same got), none)

  pub unmet : (b : Held) (well : Bool) (text bytes : Text) → IsUnnoted note → well ≡ false → Reports opens x rules old new well text → bytes ≡ text → Appends a b bytes → Holds opens x old new bytes-of declared a b note (Ok Unmet)
  unmet b well text bytes none is reports same got =
      (rules, are, (text, subst (λ (w : Bool). Reports opens x rules old new w text) is reports, subst (λ (z : Text). Appends a b z) same got), none)

-- a failure that is passed on
pub held-passed :
    {S : Type 0} (opens : Opening S) (x : Expect) (old new : S) (bytes : Text) (declared : Option Given) (a b : Held) (note : Noted) (r : End) (f : Failure) → IsErrAnd r (λ g. g ≡ f)
    → Holds opens x old new bytes declared a b note (Err f) → Holds opens x old new bytes declared a b note r
held-passed opens x old new bytes declared a b note (Ok d) f bad is = absurd bad
held-passed opens x old new bytes declared a b note (Err g) f same is = subst (λ (h : Failure). Holds opens x old new bytes declared a b note (Err h)) (sym same) is
