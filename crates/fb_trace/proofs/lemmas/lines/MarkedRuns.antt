-- The text of lines with marks, run by run.
use Rattle.fb_types.proofs.Common.{◌≡◌, ℕ, ◌+◌, List, [], ◌∷◌, ◌++◌, length, refl, sym, ap, ◌∙◌, subst, arith, append_assoc, append-nil, length-append, Inputs, system_of}
use Rattle.fb_types.specs.declared.run.Form.{Form}
use Rattle.fb_types.specs.declared.run.Line.{Line}
use Rattle.fb_trace.specs.Marks.{IsRun, AreMarked, text_of_lines}
use Rattle.fb_trace.specs.declared.marks.Mark.{Mark}
use Rattle.fb_trace.proofs.lemmas.lines.Texts.{text-append}

module _ (i : Inputs) (form : Form) where
  abbrev text : List Line → List ℕ
  text = text_of_lines i form

  text_more : (xs ys : List Line) → text (xs ++ ys) ≡ text xs ++ text ys
  text_more xs ys = text-append form (system_of i) xs ys

  -- one run more, at the end
  marked_more :
      (n : ℕ) (ms : List Mark) (m : Mark) (xs run : List Line) → AreMarked i form n ms xs → IsRun m.tick run → m.end ≡ n + length (text (xs ++ run))
      → AreMarked i form n (ms ++ m ∷ []) (xs ++ run)
  marked_more n [] m xs run none it e =
      let all : xs ++ run ≡ run = ap (λ (z : List Line). z ++ run) none in
      (run, [], all ∙ sym (append-nil run), it, e ∙ ap (λ (z : List Line). n + length (text z)) all, refl)
  marked_more n (k ∷ ms) m xs run (first, rest, parts, is_run, end, others) it e =
      let all : xs ++ run ≡ first ++ (rest ++ run) = ap (λ (z : List Line). z ++ run) parts ∙ append_assoc first rest run in
      let long : length (text (xs ++ run)) ≡ length (text first) + length (text (rest ++ run)) =
      ap (λ (z : List Line). length (text z)) all ∙ ap length (text_more first (rest ++ run)) ∙ length-append (text first) (text (rest ++ run)) in
      (first, rest ++ run, all, is_run, end, marked_more k.end ms m rest run others it (omega (arith, e, end, long)))

  -- The lines before the rest are marked. Their text is in memory, but for the bytes that wait.
  pub record IsMarkedTo (lines : List Line) (marks : List Mark) (got waiting : List ℕ) (rest : List Line) : Type 0 where
    pub done : List Line
    pub parts : done ++ rest ≡ lines
    pub text : got ++ waiting ≡ text_of_lines i form done
    pub marked : AreMarked i form 0 marks done

  -- one run more, with its mark
  pub is_marked_more :
      (lines : List Line) (marks marks' : List Mark) (m : Mark) (got waiting got' waiting' : List ℕ) (rest run later : List Line)
      → IsMarkedTo lines marks got waiting rest → rest ≡ run ++ later → IsRun m.tick run → got' ++ waiting' ≡ (got ++ waiting) ++ text run
      → m.end ≡ length got' + length waiting' → marks' ≡ marks ++ m ∷ [] → IsMarkedTo lines marks' got' waiting' later
  is_marked_more lines marks marks' m got waiting got' waiting' rest run later before cut it longer end more =
      let now : got' ++ waiting' ≡ text (before.done ++ run) =
      longer ∙ ap (λ (z : List ℕ). z ++ text run) before.text ∙ sym (text_more before.done run) in
      let long : length got' + length waiting' ≡ length (text (before.done ++ run)) = sym (length-append got' waiting') ∙ ap length now in
      record {
        done = before.done ++ run;
        parts = append_assoc before.done run later ∙ ap (λ (z : List Line). before.done ++ z) (sym cut) ∙ before.parts;
        text = now;
        marked = subst (λ (z : List Mark). AreMarked i form 0 z (before.done ++ run)) (sym more) (marked_more 0 marks m before.done run before.marked it (omega (arith, end, long)));
      }
