-- Where a line stands in what was read ahead: it is one of the rows, or the line after them.
use Rattle.fb_inspect.proofs.lemmas.Common.{◌≡◌, ◌⊎◌, ◌==◌, ℕ, Bool, true, false, cond, List, [], ◌∷◌, ◌++◌, map, refl, sym, ap, ◌∙◌, inl, inr, append_assoc, append-nil, All, not, take_through, and_parts, append_cancel_left, All-head, All-tail, system_of, line_of, Ending, System, last_line, line_text, lines_text, Form, Line, IsTextOf, HasNames, PortTable, IsOwnLine, AreAhead}
use Rattle.fb_types.proofs.Common.{not-true}
use Rattle.fb_wave.proofs.lemmas.Lining.{IsOneLine, line_not_last, line_one}
use Rattle.fb_wave.proofs.lemmas.Plain.{is_flat}
use Rattle.fb_inspect.specs.walk.Standing.{MayBeAhead}
use Rattle.fb_inspect.specs.walk.Walking.{IsOwnRow}
use Rattle.fb_inspect.proofs.lemmas.lines.OneLine.{line_once}

-- ---- Line feeds

through_body : (body rest : List ℕ) → is_flat body ≡ true → take_through 10 (body ++ (10 ∷ rest)) ≡ body ++ 10 ∷ []
through_body [] rest flat = refl
through_body (b ∷ bs) rest flat =
    let parts = and_parts (not (b == 10)) (is_flat bs) flat in
    let other : (b == 10) ≡ false = not-true (b == 10) parts.0 in
    ap (λ (t : Bool). cond t (b ∷ []) (b ∷ take_through 10 (bs ++ (10 ∷ rest)))) other ∙ ap (λ (l : List ℕ). b ∷ l) (through_body bs rest parts.1)

-- the first line of a text that begins with one
pub through_one : (text rest : List ℕ) → IsOneLine text → take_through 10 (text ++ rest) ≡ text
through_one text rest one =
    ap (λ (t : List ℕ). take_through 10 (t ++ rest)) one.is ∙ ap (take_through 10) (append_assoc one.body (10 ∷ []) rest) ∙ through_body one.body rest one.flat ∙ sym one.is

through_twice : (xs : List ℕ) → take_through 10 (take_through 10 xs) ≡ take_through 10 xs
through_twice [] = refl
through_twice (b ∷ bs) = by (b == 10) refl (through_twice bs)
  where
    by : (t : Bool) → (b == 10) ≡ t → take_through 10 (take_through 10 bs) ≡ take_through 10 bs
        → take_through 10 (cond t (b ∷ []) (b ∷ take_through 10 bs)) ≡ cond t (b ∷ []) (b ∷ take_through 10 bs)
    by true is more = ap (λ (u : Bool). cond u (b ∷ []) (b ∷ [])) is
    by false is more = ap (λ (u : Bool). cond u (b ∷ []) (b ∷ take_through 10 (take_through 10 bs))) is ∙ ap (λ (l : List ℕ). b ∷ l) more

-- a line that ends before what is left is the first line of itself
pub through_self : (line rest : List ℕ) → line ≡ take_through 10 (line ++ rest) → take_through 10 line ≡ line
through_self line rest alone = ap (take_through 10) alone ∙ through_twice (line ++ rest) ∙ sym alone

-- the same, where nothing is left
nothing_left : (line left last : List ℕ) → line ++ left ≡ last → line ≡ take_through 10 (line ++ left) → take_through 10 last ≡ last → (line ≡ last) × (left ≡ [])
nothing_left line left last e alone self =
    let same : line ≡ last = alone ∙ ap (take_through 10) e ∙ self in
    (same, append_cancel_left line left [] (e ∙ sym same ∙ sym (append-nil line)))

-- ---- The front of what was read ahead

-- The line is that of a row, after which others are ahead, or it is the line after all rows.
pub record IsRow (sys : System) (form : Form) (first : Line) (line left last rest : List ℕ) : Type 0 where
  pub row : Line
  pub own : IsOwnLine sys first row
  pub is : line ≡ line_text form sys (line_of sys row)
  pub rows : List Line
  pub ahead : AreAhead sys form first rows left last rest

abbrev pub IsFront : (sys : System) (form : Form) (first : Line) (line left last rest : List ℕ) → Type 0
IsFront sys form first line left last rest = IsRow sys form first line left last rest ⊎ ((line ≡ last) × (left ≡ []))

module _ (sys : System) (form : Form) (names : HasNames sys) (first : Line) where
  abbrev text_in : Line → List ℕ
  text_in l = line_text form sys (line_of sys l)

  abbrev texts_in : List Line → List ℕ
  texts_in ls = lines_text form sys (map (line_of sys) ls)

  one : (l : Line) → IsOwnLine sys first l → IsOneLine (text_in l)
  one l own = line_one sys form l names own.line

  own_row : (l : Line) → IsOwnLine sys first l → IsOwnRow l first
  own_row l own = record { taken = own.taken; instance = own.instance; tick = own.tick }

  -- the first line of some lines and what comes after them
  first_through : (l : Line) (ls : List Line) (more : List ℕ) → IsOwnLine sys first l → take_through 10 (texts_in (l ∷ ls) ++ more) ≡ text_in l
  first_through l ls more own = ap (take_through 10) (append_assoc (text_in l) (texts_in ls) more) ∙ through_one (text_in l) (texts_in ls ++ more) (one l own)

  pub front :
      (passed rows : List Line) (line left last rest : List ℕ) → All (IsOwnLine sys first) passed → All (IsOwnLine sys first) rows → last ≡ take_through 10 (last ++ rest)
      → ((m : Line) → IsTextOf sys form m last → IsOwnRow m first → ⊥) → texts_in passed ++ (line ++ left) ≡ texts_in rows ++ last → line ≡ take_through 10 (line ++ left)
      → IsFront sys form first line left last rest
  front [] [] line left last rest own all alone other e here = inr (nothing_left line left last e here (through_self last rest alone))
  front [] (r ∷ rs) line left last rest own all alone other e here =
      let mine = All-head (IsOwnLine sys first) r rs all in
      let same : line ≡ text_in r = here ∙ ap (take_through 10) e ∙ first_through r rs last mine in
      inl
      (record {
        row = r;
        own = mine;
        is = same;
        rows = rs;
        ahead = record {
          each = All-tail (IsOwnLine sys first) r rs all;
          is = append_cancel_left (text_in r) left (texts_in rs ++ last) (ap (λ (t : List ℕ). t ++ left) (sym same) ∙ e ∙ append_assoc (text_in r) (texts_in rs) last);
          alone = alone;
          other = other;
        };
      })
  front (p ∷ ps) [] line left last rest own all alone other e here =
      let mine = All-head (IsOwnLine sys first) p ps own in
      let same : last ≡ text_in p = sym (through_self last rest alone) ∙ ap (take_through 10) (sym e) ∙ first_through p ps (line ++ left) mine in
      absurd (other p (record { line = mine.line; is = same }) (own_row p mine))
  front (p ∷ ps) (r ∷ rs) line left last rest own all alone other e here =
      let mine = All-head (IsOwnLine sys first) p ps own in
      let its = All-head (IsOwnLine sys first) r rs all in
      let same : text_in p ≡ text_in r = sym (first_through p ps (line ++ left) mine) ∙ ap (take_through 10) e ∙ first_through r rs last its in
      let more : texts_in ps ++ (line ++ left) ≡ texts_in rs ++ last =
      append_cancel_left (text_in r) (texts_in ps ++ (line ++ left)) (texts_in rs ++ last)
      (ap (λ (t : List ℕ). t ++ (texts_in ps ++ (line ++ left))) (sym same) ∙ sym (append_assoc (text_in p) (texts_in ps) (line ++ left)) ∙ e ∙ append_assoc (text_in r) (texts_in rs) last) in
      front ps rs line left last rest (All-tail (IsOwnLine sys first) p ps own) (All-tail (IsOwnLine sys first) r rs all) alone other more here

  -- such a line ends before what is left of the text
  pub front_alone : (line left last rest : List ℕ) → last ≡ take_through 10 (last ++ rest) → IsFront sys form first line left last rest → line ≡ take_through 10 (line ++ (left ++ rest))
  front_alone line left last rest alone (inl r) =
      sym (ap (λ (t : List ℕ). take_through 10 (t ++ (left ++ rest))) r.is ∙ through_one (text_in r.row) (left ++ rest) (one r.row r.own) ∙ sym r.is)
  front_alone line left last rest alone (inr (same, none)) =
      same ∙ alone ∙ ap (λ (t : List ℕ). take_through 10 (t ++ rest)) (sym same) ∙ ap (λ (t : List ℕ). take_through 10 (line ++ (t ++ rest))) (sym none)

  -- such a line is an end only if it is the one after all rows
  pub front_end : (line left last rest : List ℕ) (end : Ending) → IsFront sys form first line left last rest → line ≡ last_line sys end → last ≡ last_line sys end
  front_end line left last rest end (inl r) is = absurd (line_not_last sys form r.row end r.own.line (sym r.is ∙ is))
  front_end line left last rest end (inr (same, none)) is = sym same ∙ is

-- what is ahead of a line is ahead of another one of the same text
pub front_after :
    (t : PortTable) (form : Form) → HasNames (system_of t.system.now) → (first : Line) (line left last rest : List ℕ) → IsFront (system_of t.system.now) form first line left last rest
    → (m : Line) → IsTextOf (system_of t.system.now) form m line → MayBeAhead (system_of t.system.now) form m left last rest
front_after t form names first line left last rest (inr (same, none)) m is = inl none
front_after t form names first line left last rest (inl r) m is =
    let sys = system_of t.system.now in
    let once = line_once t names form m r.row line is (record { line = r.own.line; is = r.is }) in
    let instance : first.instance ≡ m.instance = sym r.own.instance ∙ sym once.instance in
    let tick : first.key.tick ≡ m.key.tick = sym r.own.tick ∙ sym once.tick in
    inr (
      r.rows,
      record {
        each = λ n d h. let own = r.ahead.each n d h in record { line = own.line; taken = own.taken; instance = own.instance ∙ instance; tick = own.tick ∙ tick };
        is = r.ahead.is;
        alone = r.ahead.alone;
        other = λ x at own. r.ahead.other x at (record { taken = own.taken; instance = own.instance ∙ sym instance; tick = own.tick ∙ sym tick });
      },
    )
