-- Lines that are read ahead.
use Rattle.fb_inspect.proofs.lemmas.Common.{◌≡◌, ℕ, List, [], ◌∷◌, ◌++◌, map, true, Option, sym, ◌∙◌, ap, subst, append-nil, All, Consumes, Consumes-trans, map-append, All-nil, line_of, System, line_text, lines_text, Form, Line, IsFirstLine, is_unended, IsOwnLine, IsNext, AreCutOff, Next}
use Rattle.fb_types.proofs.Common.{All-push}
use Rattle.std.proofs.KnownBytes.{Consumes-nil}
use Rattle.fb_inspect.specs.walk.Walking.{AreGathered, AreRows, IsOwnRow}
use Rattle.fb_inspect.specs.declared.walk.reading.Next.TheVariants as event
use Rattle.fb_inspect.proofs.lemmas.lines.Moving.{lines-append}
use Rattle.fb_inspect.proofs.lemmas.lines.Severing.{alone_of, cut_rest}

module _ (sys : System) (form : Form) (first : Line) where
  -- no line was read
  pub rows_none : (rows : List Line) (text : List ℕ) (input : Option (List ℕ)) → rows ≡ [] → text ≡ [] → AreRows sys form first rows text input input
  rows_none rows text input empty none = record {
    each = subst (All (IsOwnLine sys first)) (sym empty) (All-nil (IsOwnLine sys first));
    is = none ∙ ap (λ (ls : List Line). lines_text form sys (map (line_of sys) ls)) (sym empty);
    read = subst (Consumes input input) (sym none) (Consumes-nil input);
  }

  -- one more line of an emission of the block
  pub rows_more :
      (rows more : List Line) (row : Line) (text line new : List ℕ) (input mid remaining : Option (List ℕ)) (next : Next) → AreRows sys form first rows text input mid → next ≡ event.Event row
      → IsOwnRow row first → IsNext sys form first.key.tick line next → Consumes mid remaining line → new ≡ text ++ line → more ≡ rows ++ row ∷ [] → AreRows sys form first more new input remaining
  rows_more rows more row text line new input mid remaining next are is_row own is read grown longer =
      let text_is = (subst (λ (n : Next). IsNext sys form first.key.tick line n) is_row is).0 in
      record {
        each = subst (All (IsOwnLine sys first)) (sym longer)
            (All-push (IsOwnLine sys first) rows row are.each (record { line = text_is.line; taken = own.taken; instance = own.instance; tick = own.tick }));
        is = grown
            ∙ ap (λ (t : List ℕ). t ++ line) are.is
            ∙ ap (λ (t : List ℕ). lines_text form sys (map (line_of sys) rows) ++ t) (text_is.is ∙ sym (append-nil (line_text form sys (line_of sys row))))
            ∙ sym (ap (lines_text form sys) (map-append (line_of sys) rows (row ∷ [])) ∙ lines-append form sys (map (line_of sys) rows) (map (line_of sys) (row ∷ [])))
            ∙ ap (λ (ls : List Line). lines_text form sys (map (line_of sys) ls)) (sym longer);
        read = subst (Consumes input remaining) (sym grown) (Consumes-trans input mid remaining text line are.read read);
      }

  -- the line after them
  pub rows_last :
      (rows : List Line) (text last : List ℕ) (input mid remaining : Option (List ℕ)) → AreRows sys form first rows text input mid → Consumes mid remaining last → IsFirstLine last mid
      → AreGathered sys form first rows text last input remaining
  rows_last rows text last input mid remaining are read one = record {
    each = are.each;
    is = are.is;
    read = Consumes-trans input mid remaining text last are.read read;
    alone = alone_of input mid remaining text last are.read read one;
  }

  -- the last line has no end, so the trace is cut off after the rows
  pub rows_read :
      (rows : List Line) (text last whole : List ℕ) (input remaining : Option (List ℕ)) → AreGathered sys form first rows text last input remaining → whole ≡ text ++ last → Consumes input remaining whole
  rows_read rows text last whole input remaining are is = subst (λ (t : List ℕ). Consumes input remaining t) (sym is) are.read

  pub rows_cut :
      (rows : List Line) (text last : List ℕ) (input remaining : Option (List ℕ)) → AreGathered sys form first rows text last input remaining → is_unended last ≡ true
      → AreCutOff sys form first rows text input
  rows_cut rows text last input remaining are short = record {
    each = are.each;
    is = are.is;
    rest = cut_rest input remaining text last are.read are.alone short;
  }
