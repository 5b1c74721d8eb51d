-- Where the line that was read last is, after a refusal.
use Rattle.fb_wave.proofs.lemmas.Common.{◌≡◌, ◌⊎◌, ℕ, Bool, true, false, cond, List, [], ◌∷◌, ◌++◌, map, refl, sym, ap, subst, ◌∙◌, inl, inr, append_assoc, ◌==◌, IfSome, Option, take_through, line_of, System, lines_text, Form, ending_of, Outcome, IsAfter, IsCopied, RefusesLine, IsRefusedLine, last_tick, IsLast, Progress, WaveError, Refused, Names, Memory, Read, Write}
use Rattle.fb_wave.specs.Copying.{IsCutUnfinished, IsFirstLine, IsNoLineFrom, IsRefusedAt}
use Rattle.fb_wave.specs.CurrentLines.{IsAfterLines, IsAfterTrace, IsNoEndFrom}
use Rattle.fb_wave.specs.Lines.{IsNoLast}
use Rattle.fb_wave.specs.declared.current_line.CurrentLine.{CurrentLine}
use Rattle.fb_wave.proofs.lemmas.Blaming.{known}
use Rattle.fb_wave.proofs.lemmas.Copied.{ends_after}
use Rattle.fb_wave.proofs.lemmas.Ends.{after_once}
use Rattle.fb_wave.proofs.lemmas.Lining.{line_not_last}
use Rattle.fb_wave.proofs.lemmas.Refusing.{all_text}

-- a text is its first line and the rest
split_first : (bytes : List ℕ) → (more : List ℕ) × (bytes ≡ take_through 10 bytes ++ more)
split_first [] = ([], refl)
split_first (b ∷ bs) = by (b == 10) refl (split_first bs)
  where
    by : (t : Bool) → (b == 10) ≡ t → ((more : List ℕ) × (bs ≡ take_through 10 bs ++ more)) → (more : List ℕ) × (b ∷ bs ≡ take_through 10 (b ∷ bs) ++ more)
    by true ten rest = (bs, ap (λ (t : Bool). cond t (b ∷ []) (b ∷ take_through 10 bs) ++ bs) (sym ten))
    by false other rest =
        (rest.0, ap (λ (l : List ℕ). b ∷ l) rest.1 ∙ ap (λ (t : Bool). cond t (b ∷ []) (b ∷ take_through 10 bs) ++ rest.0) (sym other))

pub cut_current : (sys : System) (text old new : Option (List ℕ)) (x : Progress) (y : CurrentLine) (e : WaveError) → IsCutUnfinished sys x old new e → IsRefusedLine sys text y e
cut_current sys text old new x y (Write n) fails = tt
cut_current sys text old new x y Memory fails = tt
cut_current sys text old new x y e fails = absurd fails

module _ (sys : System) (form : Form) (number : ℕ) (x : Progress) (next : List ℕ) (input left old new : Option (List ℕ))
    (is : IsCopied sys form number x next input left old new) where
  abbrev Stands : CurrentLine → ℕ → List ℕ → Type 0
  Stands y n t = ((y.after_end ≡ false) × IsAfterLines sys n y t) ⊎ ((y.after_end ≡ true) × IsAfterTrace sys y t)

  -- the line comes after the lines before it
  stands_after :
      (y : CurrentLine) → y.text.items ≡ next → y.form ≡ form → y.tick ≡ x.tick → y.after_end ≡ false → IsNoLineFrom sys form x.tick next
      → IsNoEndFrom sys x.tick next → IfSome input (Stands y number)
  stands_after y text formed tick inside no_line no_end =
      known input left (all_text sys form is.lines) next (Stands y number) is.read
      (λ t rest at from parts.
      inl (
        inside,
        record {
          lines = is.lines;
          rest = rest;
          are = is.are;
          numbered = is.numbered;
          ticked = tick ∙ is.last;
          parts = subst (λ (l : List ℕ). t ≡ lines_text y.form sys (map (line_of sys) is.lines) ++ (l ++ rest)) (sym text)
              (subst (λ (f : Form). t ≡ lines_text f sys (map (line_of sys) is.lines) ++ (next ++ rest)) (sym formed) parts);
          first = subst (λ (l : List ℕ). l ≡ take_through 10 (l ++ rest)) (sym text) (is.first t rest at from);
          no_line = subst (λ (f : Form). IsNoLineFrom sys f y.tick y.text.items) (sym formed)
              (subst (λ (k : ℕ). IsNoLineFrom sys form k y.text.items) (sym tick) (subst (λ (l : List ℕ). IsNoLineFrom sys form x.tick l) (sym text) no_line));
          no_end = subst (λ (k : ℕ). IsNoEndFrom sys k y.text.items) (sym tick) (subst (λ (l : List ℕ). IsNoEndFrom sys x.tick l) (sym text) no_end);
        },
      ))

  pub line_current :
      (y : CurrentLine) → y.text.items ≡ next → y.form ≡ form → y.tick ≡ x.tick → y.after_end ≡ false → IsNoLast sys next → (e : WaveError)
      → RefusesLine sys form x.tick number next e → IsRefusedLine sys input y e
  line_current y text formed tick inside none (Refused n) refuses =
      subst (λ (k : ℕ). IfSome input (Stands y k)) (sym refuses.0) (stands_after y text formed tick inside refuses.1 (λ end can after e. none end can e))
  line_current y text formed tick inside none Names refuses = tt
  line_current y text formed tick inside none Memory refuses = tt
  line_current y text formed tick inside none Read refuses = tt
  line_current y text formed tick inside none (Write n) refuses = tt

  -- the line comes after the end
  stands_late :
      (y : CurrentLine) (n : ℕ) → y.after_end ≡ true → (end : Outcome) → IsLast sys next end → IsAfter x.tick end → IsFirstLine y.text.items left
      → IfSome input (Stands y n)
  stands_late y n late end last after one =
      known input left (all_text sys form is.lines) next (Stands y n) is.read
      (λ t rest at from parts.
      let first : y.text.items ≡ take_through 10 rest = subst (λ (o : Option (List ℕ)). IfSome o (λ bytes. y.text.items ≡ take_through 10 bytes)) from one in
      let split = split_first rest in
      let whole : rest ≡ y.text.items ++ split.0 = split.1 ∙ ap (λ (l : List ℕ). l ++ split.0) (sym first) in
      inr (
        late,
        record {
          trace = all_text sys form is.lines ++ next;
          rest = split.0;
          is = record {
            form = form;
            lines = is.lines;
            end = ending_of end;
            is = record {
              lines = is.are;
              last = last.can;
              ends = ends_after x.tick (last_tick 0 is.lines) end is.last after;
              is = ap (λ (l : List ℕ). all_text sys form is.lines ++ l) last.is;
            };
          };
          parts = parts ∙ sym (append_assoc (all_text sys form is.lines) next rest) ∙ ap (λ (l : List ℕ). (all_text sys form is.lines ++ next) ++ l) whole;
          first = first ∙ ap (take_through 10) whole;
        },
      ))

  pub end_current :
      (old new : CurrentLine) (t : ℕ) → old.text.items ≡ next → old.form ≡ form → old.after_end ≡ false → t ≡ x.tick → (end : Outcome) → IsLast sys next end
      → (e : WaveError) → IsRefusedAt end x.tick number left old new e → IsRefusedLine sys input (record new { tick = t }) e
  end_current old new t text formed inside tick end last (Refused n) (inl early) =
      subst (λ (y : CurrentLine). IsRefusedLine sys input (record y { tick = t }) (Refused n)) (sym early.1)
      (subst (λ (k : ℕ). IfSome input (Stands (record old { tick = t }) k)) (sym early.0)
      (stands_after (record old { tick = t }) text formed tick inside (λ l line rises. line_not_last sys form l (ending_of end) line.line (sym line.is ∙ last.is))
      (λ other can after e. early.2 (after_once sys x.tick x.tick end other refl last.can can (sym last.is ∙ e) after))))
  end_current old new t text formed inside tick end last (Refused n) (inr late) = stands_late (record new { tick = t }) n late.0 end last late.1 late.2
  end_current old new t text formed inside tick end last Names at = tt
  end_current old new t text formed inside tick end last Memory at = tt
  end_current old new t text formed inside tick end last Read at = tt
  end_current old new t text formed inside tick end last (Write n) at = tt
