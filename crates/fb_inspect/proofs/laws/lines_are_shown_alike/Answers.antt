use Rattle.fb_inspect.proofs.lemmas.Common.{◌≡◌, ◌≤◌, ◌⊎◌, ℕ, List, [], ◌∷◌, ◌++◌, length, map, refl, sym, ap, subst, ◌∙◌, append_assoc, arith, length-append, length-map, inl, inr, Option, All, All-cons, All-head, All-nil, All-tail, Appends, AreAccepted, Inputs, system_of, HasNames, IsLineOf, One, Two, if◌then◌else◌, line_text, lines_text, last_line, map-append, line_of, AtHorizon, AtStop, Ending, System, Form, Steps, Divide, Range, AreTakings, EndsBySteps, EndsSo, Selection, Taking, all_lines, most, opening_look, taking_lines, lines_of, takings_of, true}
use Rattle.fb_types.specs.States.{Line}
use Rattle.fb_types.specs.declared.run.Line as run
use Rattle.fb_inspect.specs.Inspections.{BeginsWith, IsInspected, ShowsBefore, ShowsFirst, all_text}
use Rattle.fb_inspect.specs.Laws.{AreSameBefore, DumpedBefore, ShownAlike, ShownBefore, TextsShownBefore}
use Rattle.fb_inspect.specs.Selections.{is_shown}
use Rattle.fb_inspect.specs.walk.Chains.{Clears_by, Emits, Has, Is_lost, Piece, Ran, Stops_by}
use Rattle.fb_inspect.specs.walk.Looks.{piece_text, pieces_text}
use Rattle.fb_inspect.specs.dump.StateDumps.{HaveLines, Taken, state_dump}
use Rattle.fb_inspect.proofs.lemmas.dump.Ending.{lines_are_of}
use Rattle.fb_inspect.proofs.lemmas.reactions.OneTaking.{nothing, row_one}
use Rattle.fb_inspect.proofs.lemmas.runs.Rightly.{parted}
use Rattle.fb_inspect.proofs.lemmas.lines.Aligned.{IsAligned, Next, aligned, seen, through}
use Rattle.fb_inspect.proofs.lemmas.lines.PlainKeys.{bare, bare_taking}
use Rattle.fb_inspect.proofs.lemmas.runs.ShownRows.{all_shown, chain_shown, ends_shown, shown_lines, shown_takings}
use Rattle.fb_inspect.proofs.lemmas.runs.Splits.{EndsIn, GoesPast, no_lines}
use Rattle.fb_inspect.proofs.lemmas.walk.Held.{more_text}
use Rattle.fb_wave.proofs.lemmas.Lining.{line_not_last, line_one}
use Rattle.fb_inspect.proofs.lemmas.walk.WalkedTakings.{text_one}
use Rattle.fb_inspect.proofs.laws.lines_are_shown_alike.Goals as goal

text_both : (form : Form) (sys : System) (what : Selection) (xs ys : List Taking) → all_text form sys what (xs ++ ys) ≡ all_text form sys what xs ++ all_text form sys what ys
text_both form sys what [] ys = refl
text_both form sys what (x ∷ xs) ys =
    ap (λ (t : List ℕ). text_one form sys what x ++ t) (text_both form sys what xs ys)
    ∙ sym (append_assoc (text_one form sys what x) (all_text form sys what xs) (all_text form sys what ys))

shown_alike : ShownAlike
shown_alike sys form what xs ys more are other lines =
    let row = row_one sys most (opening_look sys) xs ys more are other lines in
    (all_text form sys what row.0, ap (all_text form sys what) row.1 ∙ text_both form sys what xs row.0)

-- ---- One line more

-- a trace with the lines of takings, and one more, has these takings
module _ (sys : System) (steps : ℕ) (within : steps ≤ most) (xs : List Taking) (are : AreTakings sys most (opening_look sys) xs) (next : Line) (more : List Line) where
  row_goes : (ys : List Taking) → AreTakings sys most (opening_look sys) ys → all_lines ys ≡ all_lines xs ++ next ∷ more → (zs : List Taking) × (ys ≡ xs ++ zs)
  row_goes ys other lines = let row = row_one sys most (opening_look sys) xs ys (next ∷ more) are other lines in (row.0, row.1)

  steps_goes : (t r : ℕ) (ys : List Taking) → EndsBySteps sys steps t r ys → all_lines ys ≡ all_lines xs ++ next ∷ more → (zs : List Taking) × (ys ≡ xs ++ zs)
  steps_goes t r ys ends lines = by (parted sys steps within xs are t r ys ends (next ∷ more) lines)
    where
      by : GoesPast sys steps within (opening_look sys) xs are ends.limited_so.before ends.limited_so.last ends.limited_so.chain t r ends.limited_so.one ends.limited_so.within ends.limited_so.judged (next ∷ more)
          ⊎ EndsIn sys steps within (opening_look sys) xs are ends.limited_so.before ends.limited_so.last ends.limited_so.chain t r ends.limited_so.one ends.limited_so.within ends.limited_so.judged (next ∷ more)
          → (zs : List Taking) × (ys ≡ xs ++ zs)
      by (inl past) = (past.more ++ ends.limited_so.last, ends.limited_so.parts ∙ ap (λ (ts : List Taking). ts ++ ends.limited_so.last) past.parts ∙ append_assoc xs past.more ends.limited_so.last)
      by (inr inside) = absurd (nothing next more (sym inside.none))

  goes_on : (ys : List Taking) (end : Ending) → EndsSo sys steps ys end → all_lines ys ≡ all_lines xs ++ next ∷ more → (zs : List Taking) × (ys ≡ xs ++ zs)
  goes_on ys (AtHorizon h) ends lines = row_goes ys ends.0 lines
  goes_on ys (AtStop t r Steps) ends lines = steps_goes t r ys ends lines
  goes_on ys (AtStop t r Divide) ends lines = row_goes ys ends.0 lines
  goes_on ys (AtStop t r Range) ends lines = row_goes ys ends.0 lines

shown_before : ShownBefore
shown_before sys form what steps xs ys next more end within are ends lines =
    let row = goes_on sys steps within xs are next more ys end ends lines in
    (all_text form sys what row.0, ap (all_text form sys what) row.1 ∙ text_both form sys what xs row.0)

-- ---- Texts

-- what is shown of takings is a matter of what the form shows of their lines
pieces_alike : (sys : System) (l : Line) (ps : List Piece) → pieces_text One sys (bare l) ps ≡ pieces_text One sys l ps
pieces_alike sys l [] = refl
pieces_alike sys l (Clears_by t ∷ ps) = ap (λ (u : List ℕ). piece_text One sys l (Clears_by t) ++ u) (pieces_alike sys l ps)
pieces_alike sys l (Is_lost s ∷ ps) = ap (λ (u : List ℕ). piece_text One sys l (Is_lost s) ++ u) (pieces_alike sys l ps)
pieces_alike sys l (Ran a before after ∷ ps) = ap (λ (u : List ℕ). piece_text One sys l (Ran a before after) ++ u) (pieces_alike sys l ps)
pieces_alike sys l (Stops_by r ∷ ps) = ap (λ (u : List ℕ). piece_text One sys l (Stops_by r) ++ u) (pieces_alike sys l ps)
pieces_alike sys l (Has m due ∷ ps) = ap (λ (u : List ℕ). piece_text One sys l (Has m due) ++ u) (pieces_alike sys l ps)
pieces_alike sys l (Emits e ∷ ps) = ap (λ (u : List ℕ). piece_text One sys l (Emits e) ++ u) (pieces_alike sys l ps)

text_alike : (form : Form) (sys : System) (what : Selection) (xs : List Taking) → all_text form sys what (shown_takings form xs) ≡ all_text form sys what xs
text_alike Two sys what xs = refl
text_alike One sys what [] = refl
text_alike One sys what (x ∷ xs) =
    ap (λ (u : List ℕ). (if is_shown what x then line_text One sys x.first ++ u else []) ++ all_text One sys what (map bare_taking xs)) (pieces_alike sys x.first x.pieces)
    ∙ ap (λ (u : List ℕ). text_one One sys what x ++ u) (text_alike One sys what xs)

front_all : (P : run.Line → Type 0) (ls : List run.Line) (l : run.Line) → All P (ls ++ l ∷ []) → All P ls
front_all P [] l all = All-nil P
front_all P (m ∷ ms) l all = All-cons P m ms (All-head P m (ms ++ l ∷ []) all) (front_all P ms l (All-tail P m (ms ++ l ∷ []) all))

last_all : (P : run.Line → Type 0) (ls : List run.Line) (l : run.Line) → All P (ls ++ l ∷ []) → P l
last_all P [] l all = All-head P l [] all
last_all P (m ∷ ms) l all = last_all P ms l (All-tail P m (ms ++ l ∷ []) all)

module _ (i : Inputs) (accepted : AreAccepted i) (names : HasNames (system_of i)) (what : Selection) (number steps : ℕ) (within : steps ≤ most) (text other bytes : List ℕ) (old new : Option (List ℕ))
    (same : AreSameBefore (system_of i) number text other) (a : IsInspected (system_of i) what steps other bytes) where
  abbrev sys : System
  sys = system_of i

  abbrev F : Form
  F = a.form

  abbrev view : run.Line → Line
  view l = seen i accepted names F l

  seen_all : (form : Form) (ls : List run.Line) → shown_lines form (map (line_of sys) ls) ≡ map (seen i accepted names form) ls
  seen_all One [] = refl
  seen_all One (l ∷ ls) = ap (λ (ms : List Line). bare (line_of sys l) ∷ ms) (seen_all One ls)
  seen_all Two [] = refl
  seen_all Two (l ∷ ls) = ap (λ (ms : List Line). line_of sys l ∷ ms) (seen_all Two ls)

  module _ (f : Form) (first : ShowsFirst sys f what number text old new) where
    abbrev before : List run.Line
    before = first.lines

    abbrev line : List ℕ
    line = line_text f sys (line_of sys first.next)

    own : IsLineOf sys first.next
    own = last_all (IsLineOf sys) before first.next first.are.each

    begins : BeginsWith (lines_text f sys (map (line_of sys) (before ++ first.next ∷ []))) other
    begins =
        let long = length-append before (first.next ∷ []) in
        let less = first.before in
        same f (before ++ first.next ∷ []) first.are (omega (arith, long, less)) first.read

    whole : other ≡ lines_text f sys (map (line_of sys) before) ++ (line ++ begins.0)
    whole = begins.1 ∙ ap (λ (u : List ℕ). u ++ begins.0) (more_text sys f before first.next) ∙ append_assoc (lines_text f sys (map (line_of sys) before)) line begins.0

    al : IsAligned i accepted names F f a.lines before 0 a.end line begins.0
    al =
        aligned i accepted names F f a.end a.trace.last line begins.0 (sym (through line begins.0 (line_one sys f first.next names own))) a.lines before 0 a.trace.lines.each
        (front_all (IsLineOf sys) before first.next first.are.each) a.trace.lines.rise (sym a.trace.is ∙ whole)

    abbrev xs : List Taking
    xs = shown_takings F first.takings

    abbrev rows : List Taking
    rows = shown_takings F a.takings

    more_rows : (m : run.Line) (ms : List run.Line) → al.back ≡ m ∷ ms → (zs : List Taking) × (rows ≡ xs ++ zs)
    more_rows m ms back =
        goes_on sys steps within xs (chain_shown sys F most (opening_look sys) first.takings first.chain) (view m) (map view ms) rows a.end (ends_shown sys F steps a.takings a.end a.ends)
        (all_shown F a.takings ∙ ap (shown_lines F) (sym a.lines_are) ∙ seen_all F a.lines ∙ al.lines ∙ ap (λ (ls : List run.Line). map view before ++ map view ls) back
        ∙ ap (λ (ls : List Line). ls ++ view m ∷ map view ms) (sym (seen_all F before) ∙ ap (shown_lines F) first.lines_are ∙ sym (all_shown F first.takings)))

    row : (zs : List Taking) × (rows ≡ xs ++ zs)
    row = by al.back refl al.next
      where
        by : (back : List run.Line) → al.back ≡ back → Next i accepted names F a.end line begins.0 back → (zs : List Taking) × (rows ≡ xs ++ zs)
        by [] none next = absurd (line_not_last sys f first.next a.end own next.0)
        by (m ∷ ms) some next = more_rows m ms some

    shown_so : BeginsWith (all_text F sys what first.takings) bytes
    shown_so = (
      all_text F sys what row.0 ++ last_line sys a.end,
      a.written ∙ ap (λ (u : List ℕ). u ++ last_line sys a.end)
          (sym (text_alike F sys what a.takings) ∙ ap (all_text F sys what) row.1 ∙ text_both F sys what xs row.0 ∙ ap (λ (u : List ℕ). u ++ all_text F sys what row.0) (text_alike F sys what first.takings))
          ∙ append_assoc (all_text F sys what first.takings) (all_text F sys what row.0) (last_line sys a.end),
    )

    begins_so : BeginsWith (all_text f sys what first.takings) bytes
    begins_so = by before refl first.lines_are
      where
        by : (ls : List run.Line) → before ≡ ls → map (line_of sys) ls ≡ all_lines first.takings → BeginsWith (all_text f sys what first.takings) bytes
        by [] none is = subst (λ (ts : List Taking). BeginsWith (all_text f sys what ts) bytes) (sym (no_lines first.takings (sym is))) (bytes, refl)
        by (b ∷ bs) some is = subst (λ (g : Form). BeginsWith (all_text g sys what first.takings) bytes) (al.forms b bs some) shown_so

  texts_before : ShowsBefore sys what number text old new → (got : List ℕ) × Appends old new got × BeginsWith got bytes
  texts_before (inl nothing) = ([], nothing, (bytes, refl))
  texts_before (inr (f, first)) = (all_text f sys what first.takings, first.got, begins_so f first)

texts_shown_before : TextsShownBefore
texts_shown_before i accepted names what number steps text other bytes old new within shown same a = texts_before i accepted names what number steps within text other bytes old new same a shown

-- ---- Dumps

same_parts : (us cs bs ds : List run.Line) → length us ≡ length cs → us ++ bs ≡ cs ++ ds → (us ≡ cs) × (bs ≡ ds)
same_parts [] [] bs ds long e = (refl, e)
same_parts [] (c ∷ cs) bs ds long e = absurd (cc)
same_parts (a ∷ us) [] bs ds long e = absurd (cc)
same_parts (a ∷ us) (c ∷ cs) bs ds long e =
    let head : a ≡ c = cc in
    let tail : us ++ bs ≡ cs ++ ds = cc in
    let less : length us ≡ length cs = omega (arith, long) in
    let rest = same_parts us cs bs ds less tail in
    (ap (λ (l : run.Line). l ∷ us) head ∙ ap (λ (ls : List run.Line). c ∷ ls) rest.0, rest.1)

same_taken : (sys : System) (xs ys : List Taken) (zs : List Taking) (more : List run.Line) → HaveLines sys xs → HaveLines sys ys → takings_of ys ≡ takings_of xs ++ zs → lines_of ys ≡ lines_of xs ++ more
    → (ws : List Taken) × (ys ≡ xs ++ ws)
same_taken sys [] ys zs more have own takings lines = (ys, refl)
same_taken sys (x ∷ xs) [] zs more have own takings lines = absurd (cc)
same_taken sys (x ∷ xs) (y ∷ ys) zs more have own takings lines =
    let head : y.taking ≡ x.taking = cc in
    let tail : takings_of ys ≡ takings_of xs ++ zs = cc in
    let long : length y.lines ≡ length x.lines =
    sym (length-map y.lines (line_of sys)) ∙ ap length (own.0 ∙ ap taking_lines head ∙ sym have.0) ∙ length-map x.lines (line_of sys)
    in
    let parts = same_parts y.lines x.lines (lines_of ys) (lines_of xs ++ more) long (lines ∙ append_assoc x.lines (lines_of xs) more) in
    let rest = same_taken sys xs ys zs more have.1 own.1 tail parts.1 in
    let first : y ≡ x = ap (λ (t : Taking). record y { taking = t }) head ∙ ap (λ (ls : List run.Line). record x { lines = ls }) parts.0 in
    (rest.0, ap (λ (t : Taken). t ∷ ys) first ∙ ap (λ (ts : List Taken). x ∷ ts) rest.1)

dumped_before : DumpedBefore
dumped_before sys steps xs ys next more end bytes within have own are ends lines first =
    let all : all_lines (takings_of ys) ≡ all_lines (takings_of xs) ++ line_of sys next ∷ map (line_of sys) more =
    sym (lines_are_of sys ys own) ∙ ap (map (line_of sys)) lines ∙ map-append (line_of sys) (lines_of xs) (next ∷ more)
    ∙ ap (λ (ls : List Line). ls ++ line_of sys next ∷ map (line_of sys) more) (lines_are_of sys xs have)
    in
    let row = goes_on sys steps within (takings_of xs) are (line_of sys next) (map (line_of sys) more) (takings_of ys) end ends all in
    let same = same_taken sys xs ys row.0 (next ∷ more) have own row.1 lines in
    subst (λ (ts : List Taken). BeginsWith bytes (state_dump true sys ts end)) (sym same.1) (first.ended same.0 end)

pub returns-clause-alike : goal.returns-clause-alike
returns-clause-alike c = shown_alike

pub returns-clause-before : goal.returns-clause-before
returns-clause-before c = shown_before

pub returns-clause-texts : goal.returns-clause-texts
returns-clause-texts c = texts_shown_before

pub returns-clause-dumped : goal.returns-clause-dumped
returns-clause-dumped c = dumped_before
