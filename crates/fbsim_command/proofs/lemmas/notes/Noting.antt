-- A note that is given only where it is asked for.
use Rattle.fbsim_command.proofs.lemmas.Common.{◌≡◌, ◌+◌, ◌<◌, ◌&&◌, ℕ, zero, suc, List, [], ◌∷◌, ◌++◌, append_assoc, length, take, get_or, Bool, true, false, Option, Some, None, option_map, String, string_bytes, refl, sym, ◌∙◌, ap, subst, inl, inr, Ok, Err, arith, IfOk, IfSome, Result, if◌then◌else◌, append-nil, take_more, AllZip, Given, types_of, given_of, lines_of, Expect, Notes, Part, Place, End, Failure, SourceFault, Task}
use Rattle.std.specs.Prelude.{unwrap_or}
use Rattle.fb_types.proofs.Common.{All, Bor, IsTrue, MatchOption, is_ok, nat_eq, nat_tests, ◌≤◌, ◌⊎◌}
use Rattle.fb_why.specs.Findings.{IsSilent}
use Rattle.fbsim_command.specs.Expecting.{HasNoNoteAt, IsNoteAt, NotesRules, SaysLocation, SaysNumber, SaysUnknown, input_names_of, own_of}
use Rattle.fbsim_command.specs.Texts.{may_lines_of}
use Rattle.fbsim_command.specs.declared.texts.Texts.{Texts}
use Rattle.fbsim_command.specs.Notes.{AreNotesFrom, AreNotesOf, Follows, IsFirstOf, IsNoteBy, IsNoteIn, IsNoteOfName, Noted, NotesFindings, NotesInput, NotesNumber, SaysRefusal, SaysUnread, file_word, name_of, number_of, on_line}
use Rattle.fbsim_command.specs.InputNotes.{FileNames, IsNoteThere, IsNoteWith}
use Rattle.fb_why.specs.InputPlaces.{IsPlaceOf}
use Rattle.fb_why.specs.declared.input_place.InputPlace.{InputPlace}
use Rattle.fb_why.specs.declared.location.FindingLocation.{FindingLocation}
use Rattle.fb_why.specs.Listings.{AreFound}
use Rattle.fb_why.specs.declared.listing.Findings.{Findings}
use Rattle.fb_why.specs.declared.place.PlacedFinding.{PlacedFinding}
use Rattle.fb_why.specs.Places.{IsPlacedFinding}
use Rattle.fbsim_command.specs.declared.join.FileLines.{FileLines}

-- nothing is said where nothing is asked for
pub unasked : {P : Type 0} (why : Bool) → why ≡ false → IsTrue why → P
unasked why is = λ asked. absurd (let bad : false ≡ true = sym is ∙ asked in cc)

-- a failure without a number has no findings
pub no-number : (given : Given) (failure : Failure) → number_of failure ≡ None → IfSome (number_of failure) (IsSilent given.declaration given.deploy given.stimuli)
no-number given failure is = subst (λ (o : Option ℕ). IfSome o (IsSilent given.declaration given.deploy given.stimuli)) (sym is) tt

pub noted :
    (types : List (List ℕ)) (own : List ℕ) (names : FileNames) (lines : List FileLines) (given : Given) (why : Bool) (failure : Failure) (n : ℕ) (note : Noted) → why ≡ true
    → number_of failure ≡ Some n → IfOk note (NotesNumber types own names lines given n) → IfOk note (Notes why (SaysRefusal types own names lines given failure))
noted types own names lines given why failure n (Err e) asked is holds = tt
noted types own names lines given why failure n (Ok None) asked is silent =
    λ t. subst (λ (o : Option ℕ). IfSome o (IsSilent given.declaration given.deploy given.stimuli)) (sym is) silent
noted types own names lines given why failure n (Ok (Some t)) asked is holds = (asked, (n, is, holds))

-- a note that is asked for
pub asked-for : (why : Bool) (says : Option (List ℕ) → Type 0) (note : Noted) → why ≡ true → IfOk note says → IfOk note (Notes why says)
asked-for why says (Err e) asked said = tt
asked-for why says (Ok None) asked said = λ t. said
asked-for why says (Ok (Some t)) asked said = (asked, said)

-- the name of a file, as its bytes
pub named-file : (o : Option (Bor (List ℕ))) (named : Option (List ℕ)) (name : Bor (List ℕ)) → option_map (λ n. n.now) o ≡ named → o ≡ Some name → named ≡ Some name.now
named-file o named name same is = sym same ∙ ap (option_map (λ (n : Bor (List ℕ)). n.now)) is

-- the note to a file of a call
pub file-noted :
    (types : List (List ℕ)) (c : Task) (part : Part) (fault : SourceFault) (word name : List ℕ) (note : Noted) → c.why ≡ true → name_of types c part ≡ Some name → word ≡ file_word part
    → IfOk note (SaysUnread word name fault) → IfOk note (NotesInput types c part fault)
file-noted types c part fault word name (Err e) asked named is said = tt
file-noted types c part fault word name (Ok None) asked named is memory = λ t. inr memory
file-noted types c part fault word name (Ok (Some t)) asked named is said =
    (asked, record { name = name; named = named; is = subst (λ (w : List ℕ). IsNoteOfName w name fault t) is said })

-- what holds of a note, as another thing
pub ok-map : (P Q : Option (List ℕ) → Type 0) (note : Noted) → IfOk note P → ((n : Option (List ℕ)) → P n → Q n) → IfOk note Q
ok-map P Q (Err e) is to = tt
ok-map P Q (Ok n) is to = to n is

-- what is known where something was found, and where nothing was
pub some-of : {A : Type 0} (N : Type 0) (P : A → Type 0) (o : Option A) (x : A) → o ≡ Some x → MatchOption o N P → P x
some-of {A} N P o x is found = subst (λ (p : Option A). MatchOption p N P) is found

pub none-of : {A : Type 0} (N : Type 0) (P : A → Type 0) (o : Option A) → o ≡ None → MatchOption o N P → N
none-of {A} N P o is found = subst (λ (p : Option A). MatchOption p N P) is found

pub found-map :
    {A E : Type 0} (N M : Type 0) (P Q : A → Type 0) (r : Result (Option A) E) → IfOk r (λ o. MatchOption o N P) → (N → M) → ((x : A) → P x → Q x) → IfOk r (λ o. MatchOption o M Q)
found-map N M P Q (Err e) is none some = tt
found-map N M P Q (Ok None) is none some = none is
found-map N M P Q (Ok (Some x)) is none some = some x is

-- the name of an input, as its bytes
pub name-or : (o : Option (Bor (List ℕ))) (d r : Bor (List ℕ)) → d.now ≡ [] → r ≡ unwrap_or o d → r.now ≡ unwrap_or (option_map (λ b. b.now) o) []
name-or None d r empty is = ap (λ (b : Bor (List ℕ)). b.now) is ∙ empty
name-or (Some b) d r empty is = ap (λ (b : Bor (List ℕ)). b.now) is

-- ---- One note and then another

-- the first note that there is, where the second is known
pub first-or : (P Q : Option (List ℕ) → Type 0) (first second both : Noted) → IfOk first P → IfOk second Q → Follows first (λ note. second ≡ Ok note) both → IfOk both (IsFirstOf P Q)
first-or P Q (Err e) second both is after follows = subst (λ (n : Noted). IfOk n (IsFirstOf P Q)) (sym follows) tt
first-or P Q (Ok (Some t)) second both is after follows = subst (λ (n : Noted). IfOk n (IsFirstOf P Q)) (sym follows) (inl is)
first-or P Q (Ok None) second (Err e) is after follows = tt
first-or P Q (Ok None) second (Ok None) is after follows = (is, subst (λ (n : Noted). IfOk n Q) follows after)
first-or P Q (Ok None) second (Ok (Some t)) is after follows = inr (is, subst (λ (n : Noted). IfOk n Q) follows after)

-- the first note that there is, where the second is looked for last
pub first-then : (P Q : Option (List ℕ) → Type 0) (first both : Noted) → IfOk first P → Follows first Q both → IfOk both (IsFirstOf P Q)
first-then P Q (Err e) both is follows = subst (λ (n : Noted). IfOk n (IsFirstOf P Q)) (sym follows) tt
first-then P Q (Ok (Some t)) both is follows = subst (λ (n : Noted). IfOk n (IsFirstOf P Q)) (sym follows) (inl is)
first-then P Q (Ok None) (Err e) is follows = tt
first-then P Q (Ok None) (Ok None) is follows = (is, follows)
first-then P Q (Ok None) (Ok (Some t)) is follows = inr (is, follows)

-- ---- Notes of several findings

abbrev pub is_nil : List PlacedFinding → Bool
is_nil [] = true
is_nil (f ∷ fs) = false

and_true : (b : Bool) → (b && true) ≡ b
and_true true = refl
and_true false = refl

and_false : (b : Bool) → (b && false) ≡ false
and_false true = refl
and_false false = refl

-- one note more
notes_push :
    (types : List (List ℕ)) (own : List ℕ) (names : FileNames) (lines : List FileLines) (given : Given) (first : Bool) (fs : List PlacedFinding) (f : PlacedFinding) (text note : List ℕ) → AreNotesFrom types own names lines given first fs text
    → IsNoteIn types own names lines given f note → AreNotesFrom types own names lines given first (fs ++ f ∷ []) (text ++ on_line (first && is_nil fs) note)
notes_push types own names lines given first [] f text note none is = (
  note,
  [],
  is,
  refl,
  ap (λ (t : List ℕ). t ++ on_line (first && true) note) none ∙ ap (λ (b : Bool). on_line b note) (and_true first) ∙ sym (append-nil (on_line first note)),
)
notes_push types own names lines given first (g ∷ gs) f text note (n, after, shown, rest, whole) is = (
  n,
  after ++ on_line (false && is_nil gs) note,
  shown,
  notes_push types own names lines given false gs f after note rest is,
  ap (λ (t : List ℕ). t ++ on_line (first && false) note) whole ∙ ap (λ (b : Bool). (on_line first n ++ after) ++ on_line b note) (and_false first)
      ∙ append_assoc (on_line first n) after (on_line false note),
)

not_first : (i : ℕ) → nat_eq (suc i) 0 ≡ false
not_first i = grind (arith, nat_tests)

-- the first note is that at index 0
first_is : (fs : List PlacedFinding) (i : ℕ) → i < length fs → nat_eq i 0 ≡ is_nil (take i fs)
first_is [] i within = absurd (omega (arith, within))
first_is (f ∷ fs) zero within = refl
first_is (f ∷ fs) (suc i) within = not_first i

pub notes_more :
    (types : List (List ℕ)) (own : List ℕ) (names : FileNames) (lines : List FileLines) (given : Given) (fs : List PlacedFinding) (i : ℕ) (f : PlacedFinding) (first : Bool) (text note all : List ℕ) → i < length fs → f ≡ get_or fs i f
    → first ≡ nat_eq i 0 → AreNotesOf types own names lines given (take i fs) text → IsNoteIn types own names lines given f note → all ≡ text ++ on_line first note
    → AreNotesOf types own names lines given (take (i + 1) fs) all
notes_more types own names lines given fs i f first text note all within is at before shown made =
    let pushed = notes_push types own names lines given true (take i fs) f text note before shown in
    let whole : all ≡ text ++ on_line (true && is_nil (take i fs)) note = made ∙ ap (λ (b : Bool). text ++ on_line b note) (at ∙ first_is fs i within) in
    subst (λ (gs : List PlacedFinding). AreNotesOf types own names lines given gs all) (ap (λ (g : PlacedFinding). take i fs ++ g ∷ []) is ∙ sym (take_more fs i f within))
    (subst (λ (t : List ℕ). AreNotesOf types own names lines given (take i fs ++ f ∷ []) t) (sym whole) pushed)

pub nil : {A : Type 0} (xs : List A) → length xs ≡ 0 → xs ≡ []
nil [] none = refl
nil (x ∷ xs) none = absurd (omega (arith, none))

-- the note of findings of a number
pub noted-in :
    (types : List (List ℕ)) (own : List ℕ) (names : FileNames) (lines : List FileLines) (given : Given) (n : ℕ) (f : Findings) (note : Noted)
    → All (IsPlacedFinding given.declaration) f.shown.items → AreFound given.declaration given.deploy given.stimuli n f
    → IfOk note (NotesFindings types own names lines given f) → IfOk note (NotesNumber types own names lines given n)
noted-in types own names lines given n f (Err e) placed found is = tt
noted-in types own names lines given n f (Ok None) placed found none = found.none none
noted-in types own names lines given n f (Ok (Some t)) placed found is = (f, is, placed, found)

-- of a place
pub noted-by :
    {A E : Type 0} (types : List (List ℕ)) (own : List ℕ) (names : FileNames) (lines : List FileLines) (given : Given) (location : FindingLocation) (text : List ℕ) (place other : Option Place) (note : Result (String A) E) → place ≡ other
    → IfOk note (λ t. IsNoteBy types own names lines given location other text (string_bytes t)) → IfOk note (λ t. IsNoteBy types own names lines given location place text (string_bytes t))
noted-by {A} types own names lines given location text place other note same is =
    subst (λ (o : Option Place). IfOk note (λ t. IsNoteBy types own names lines given location o text (string_bytes t))) (sym same) is

some_is : {g h : Given} → ◌≡◌ {A = Option Given} (Some g) (Some h) → g ≡ h
some_is is = cc

-- that of what is declared, for rules
pub plan-noted :
    (x : Expect) (bytes : List ℕ) (declared : Option Texts) (texts : Texts) (n : ℕ) (note : Noted) → declared ≡ Some texts → n < 40
    → IfOk note (NotesNumber (types_of x) (own_of x.declaration) (input_names_of x) (lines_of texts) (given_of texts) n)
    → IfOk note (SaysNumber x bytes (may_lines_of declared) (option_map given_of declared) n)
plan-noted x bytes declared texts n (Err e) is low noted = tt
plan-noted x bytes declared texts n (Ok None) is low silent =
    record {
      plan = λ given same below. subst (λ (g : Given). IsSilent g.declaration g.deploy g.stimuli n) (some_is (sym (ap (option_map given_of) is) ∙ same)) silent;
      unknown = λ given same equal. absurd (omega (arith, low, equal));
      rules = λ high other. absurd (omega (arith, low, high));
    }
plan-noted x bytes declared texts n (Ok (Some t)) is low noted =
    subst (λ (o : Option Texts). IsNoteAt x bytes (may_lines_of o) (option_map given_of o) n t) (sym is) (inr (inl (record { given = given_of texts; is = refl; noted = noted })))

-- that of a pattern which what is declared does not have
pub unknown-noted :
    (x : Expect) (bytes : List ℕ) (declared : Option Texts) (texts : Texts) (n : ℕ) (note : Noted) → declared ≡ Some texts → n ≡ 45
    → IfOk note (SaysUnknown bytes (given_of texts)) → IfOk note (SaysNumber x bytes (may_lines_of declared) (option_map given_of declared) n)
unknown-noted x bytes declared texts n (Err e) is equal noted = tt
unknown-noted x bytes declared texts n (Ok None) is equal none =
    record {
      plan = λ given same below. absurd (omega (arith, below, equal));
      unknown = λ given same again. subst (λ (g : Given). SaysUnknown bytes g None) (some_is (sym (ap (option_map given_of) is) ∙ same)) none;
      rules = λ high other. absurd (other equal);
    }
unknown-noted x bytes declared texts n (Ok (Some t)) is equal noted =
    subst (λ (o : Option Texts). IsNoteAt x bytes (may_lines_of o) (option_map given_of o) n t) (sym is) (inr (inr (equal, noted)))

-- that of the rules
pub location-noted :
    (x : Expect) (bytes : List ℕ) (lines : List FileLines) (declared : Option Given) (n : ℕ) (note : Noted) → declared ≡ None ⊎ ((40 ≤ n) × (n ≡ 45 → ⊥))
    → IfOk note (SaysLocation bytes n) → IfOk note (SaysNumber x bytes lines declared n)
location-noted x bytes lines declared n (Err e) of_rules noted = tt
location-noted x bytes lines declared n (Ok None) (inl alone) none =
    record {
      plan = λ given same below. absurd (let bad : ◌≡◌ {A = Option Given} None (Some given) = sym alone ∙ same in cc);
      unknown = λ given same equal. absurd (let bad : ◌≡◌ {A = Option Given} None (Some given) = sym alone ∙ same in cc);
      rules = λ high other. none;
    }
location-noted x bytes lines declared n (Ok None) (inr (high, other)) none =
    record { plan = λ given same below. absurd (omega (arith, high, below)); unknown = λ given same equal. absurd (other equal); rules = λ h o. none }
location-noted x bytes lines declared n (Ok (Some t)) of_rules noted = inl noted

-- the note with the place of a finding in an input beside the declaration
pub noted-there :
    {A E : Type 0} (names : FileNames) (given : Given) (found : PlacedFinding) (place : Option InputPlace) (words : List ℕ) (note : Result (String A) E) → IsPlaceOf given.deploy given.stimuli found place
    → IfOk note (λ t. IsNoteWith names place words (string_bytes t)) → IfOk note (λ t. IsNoteThere names given found.finding.location words (string_bytes t))
noted-there names given found place words (Err e) at is = tt
noted-there names given found None words (Ok t) none is = inr (none, is)
noted-there names given found (Some place) words (Ok t) at is = inl (place, at, is)

-- the place of a finding is at the same index
pub place-at :
    (given : Given) (fs : List PlacedFinding) (os : List (Option InputPlace)) (i : ℕ) (f : PlacedFinding) (d : Option InputPlace) → AllZip (IsPlaceOf given.deploy given.stimuli) fs os → i < length fs → f ≡ get_or fs i f
    → IsPlaceOf given.deploy given.stimuli f (get_or os i d)
place-at given [] os i f d all within is = absurd (omega (arith, within))
place-at given (g ∷ fs) [] i f d all within is = absurd all
place-at given (g ∷ fs) (p ∷ os) zero f d all within is = subst (λ (h : PlacedFinding). IsPlaceOf given.deploy given.stimuli h p) (sym is) all.0
place-at given (g ∷ fs) (p ∷ os) (suc i) f d all within is = place-at given fs os i f d all.1 (omega (arith, within)) is

-- the note to rules that are refused with this number
pub rules-noted :
    (x : Expect) (text : List ℕ) (lines : List FileLines) (declared : Option Given) (end : End) (failure : Failure) (number : ℕ) (note : Noted)
    → end ≡ Err failure → number_of failure ≡ Some number → x.why ≡ true → IfOk note (SaysNumber x text lines declared number)
    → IfOk note (NotesRules x text lines declared end)
rules-noted x text lines declared end failure number (Err e) is same asked noted = tt
rules-noted x text lines declared end failure number (Ok None) is same asked none =
    subst (λ (e : End). NotesRules x text lines declared e None) (sym is) (λ t. subst (λ (o : Option ℕ). IfSome o (HasNoNoteAt text declared)) (sym same) none)
rules-noted x text lines declared end failure number (Ok (Some n)) is same asked noted =
    subst (λ (e : End). NotesRules x text lines declared e (Some n)) (sym is) (asked, (number, same, noted))

-- no note to a failure without a number, or where none is asked for
pub rules-unnumbered :
    (x : Expect) (text : List ℕ) (lines : List FileLines) (declared : Option Given) (end : End) (failure : Failure) → end ≡ Err failure → number_of failure ≡ None
    → NotesRules x text lines declared end None
rules-unnumbered x text lines declared end failure is none =
    subst (λ (e : End). NotesRules x text lines declared e None) (sym is) (λ t. subst (λ (o : Option ℕ). IfSome o (HasNoNoteAt text declared)) (sym none) tt)

pub rules-unasked :
    (x : Expect) (text : List ℕ) (lines : List FileLines) (declared : Option Given) (end : End) (failure : Failure) → end ≡ Err failure → x.why ≡ false → NotesRules x text lines declared end None
rules-unasked x text lines declared end failure is off =
    subst (λ (e : End). NotesRules x text lines declared e None) (sym is) (λ t. absurd (let bad : false ≡ true = sym off ∙ t in cc))

-- a note after what was there
pub pushed :
    {A E : Type 0} (r : Result A E) (mid note new rest all : List ℕ) → mid ++ note ≡ all → new ≡ (if is_ok r then mid ++ note else rest) → IfOk r (λ x. new ≡ all)
pushed (Ok x) mid note new rest all same put = put ∙ same
pushed (Err e) mid note new rest all same put = tt
