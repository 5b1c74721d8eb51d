-- Where the copy of a trace refuses a line, it is the first with which the text is no trace.
use Rattle.fb_wave.proofs.lemmas.Common.{◌≡◌, ℕ, suc, ◌+◌, ◌<◌, ◌^◌, List, [], ◌∷◌, ◌++◌, length, map, refl, sym, ap, subst, ◌∙◌, inl, inr, arith, append_assoc, All, IfSome, Option, None, Some, Consumes, length-map, All-head, All-tail, Inputs, system_of, line_of, System, last_line, lines_text, Form, Line, ending_of, Outcome, IsAfter, IsCopied, RefusesLine, last_tick, IsLast, IsLineOf, HasNames, Progress, WaveError, Refused, Names, Memory, Read, Write}
use Rattle.fb_types.proofs.Common.{IsWithinLimits}
use Rattle.fb_types.specs.declared.deploy.ResourceEntry.{ResourceEntry}
use Rattle.fb_wave.specs.Copying.{IsNoLineFrom, RefusesEnd}
use Rattle.fb_wave.specs.Lines.{IsNoLast}
use Rattle.fb_wave.specs.Refusals.{Blames, IsFirstBad}
use Rattle.fb_wave.proofs.lemmas.Copied.{ends_after}
use Rattle.fb_wave.proofs.lemmas.Ends.{after_once}
use Rattle.fb_wave.proofs.lemmas.Lining.{line_not_last}
use Rattle.fb_wave.proofs.lemmas.Refusing.{refused, refused_after}

pub some_resource : (i : Inputs) → IsWithinLimits i.plan → 0 < length (system_of i).resource_names
some_resource i limits =
    let one = limits.some_resource in
    omega (arith, one, length-map i.plan.resources (λ (r : ResourceEntry). r.name))

last_small : (sys : System) (t : ℕ) (ls : List Line) → t < 2 ^ 64 → All (IsLineOf sys) ls → last_tick t ls < 2 ^ 64
last_small sys t [] small all = small
last_small sys t (l ∷ ls) small all =
    last_small sys l.key.tick ls (All-head (IsLineOf sys) l ls all).range.tick (All-tail (IsLineOf sys) l ls all)

-- what is known of a text whose lines were read, and of the text after them
pub known :
    (input left : Option (List ℕ)) (before next : List ℕ) (P : List ℕ → Type 0) → Consumes input left (before ++ next)
    → ((text rest : List ℕ) → input ≡ Some text → left ≡ Some rest → text ≡ before ++ (next ++ rest) → P text) → IfSome input P
known None left before next P read then = tt
known (Some t) None before next P read then = absurd read
known (Some t) (Some u) before next P read then = then t u refl refl (read ∙ append_assoc before next u)

-- ---- The lines before it

module _ (sys : System) (form : Form) (number : ℕ) (x : Progress) (next : List ℕ) (input left old new : Option (List ℕ))
    (is : IsCopied sys form number x next input left old new) (names : HasNames sys) (some : 0 < length sys.resource_names) where
  -- the next line is none, and no end
  pub blamed_line : IsNoLast sys next → IsNoLineFrom sys form x.tick next → IfSome input (λ text. IsFirstBad sys number text)
  blamed_line no_end no_line =
      known input left (lines_text form sys (map (line_of sys) is.lines)) next (λ text. IsFirstBad sys number text) is.read
      (λ text rest at after_front parts.
      let count : suc (length is.lines) ≡ number = let numbered = is.numbered in omega (arith, numbered) in
      let bad = refused sys form is.lines next rest names some (last_small sys 0 is.lines (omega arith) is.are.each) is.are (is.first text rest at after_front) (is.formed names)
      (subst (λ (t : ℕ). IsNoLineFrom sys form t next) is.last no_line) (λ end can after e. no_end end can e)
      in
      subst (λ (n : ℕ). IsFirstBad sys n text) count (subst (λ (t : List ℕ). IsFirstBad sys (suc (length is.lines)) t) (sym parts) bad))

  -- the next line is an end that comes too early
  pub blamed_end : (end : Outcome) → IsLast sys next end → ¬ (IsAfter x.tick end) → IfSome input (λ text. IsFirstBad sys number text)
  blamed_end end last early =
      known input left (lines_text form sys (map (line_of sys) is.lines)) next (λ text. IsFirstBad sys number text) is.read
      (λ text rest at after_front parts.
      let count : suc (length is.lines) ≡ number = let numbered = is.numbered in omega (arith, numbered) in
      let bad = refused sys form is.lines next rest names some (last_small sys 0 is.lines (omega arith) is.are.each) is.are (is.first text rest at after_front) (is.formed names)
      (λ l line rises. line_not_last sys form l (ending_of end) line.line (sym line.is ∙ last.is))
      (λ other can after e. early (after_once sys x.tick (last_tick 0 is.lines) end other is.last last.can can (sym last.is ∙ e) after))
      in
      subst (λ (n : ℕ). IsFirstBad sys n text) count (subst (λ (t : List ℕ). IsFirstBad sys (suc (length is.lines)) t) (sym parts) bad))

  -- something comes after the end
  pub blamed_after : (end : Outcome) → IsLast sys next end → IsAfter x.tick end → IfSome left (λ rest. 0 < length rest) → IfSome input (λ text. IsFirstBad sys (number + 1) text)
  blamed_after end last after more =
      known input left (lines_text form sys (map (line_of sys) is.lines)) next (λ text. IsFirstBad sys (number + 1) text) is.read
      (λ text rest at after_front parts.
      let count : suc (suc (length is.lines)) ≡ number + 1 = let numbered = is.numbered in omega (arith, numbered) in
      let longer : 0 < length rest = subst (λ (o : Option (List ℕ)). IfSome o (λ rest. 0 < length rest)) after_front more in
      let bad = refused_after sys form is.lines (ending_of end) rest names is.are last.can (ends_after x.tick (last_tick 0 is.lines) end is.last after) longer in
      let whole : text ≡ lines_text form sys (map (line_of sys) is.lines) ++ (last_line sys (ending_of end) ++ rest) =
      parts ∙ ap (λ (t : List ℕ). lines_text form sys (map (line_of sys) is.lines) ++ (t ++ rest)) last.is
      in
      subst (λ (n : ℕ). IsFirstBad sys n text) count (subst (λ (t : List ℕ). IsFirstBad sys (suc (suc (length is.lines))) t) (sym whole) bad))

  pub line_blamed : IsNoLast sys next → (e : WaveError) → RefusesLine sys form x.tick number next e → Blames sys input e
  line_blamed no_end (Refused n) refuses = subst (λ (k : ℕ). IfSome input (λ text. IsFirstBad sys k text)) (sym refuses.0) (blamed_line no_end refuses.1)
  line_blamed no_end Names refuses = absurd refuses
  line_blamed no_end Memory refuses = tt
  line_blamed no_end Read refuses = tt
  line_blamed no_end (Write n) refuses = tt

  pub end_blamed : (end : Outcome) → IsLast sys next end → (e : WaveError) → RefusesEnd end x.tick number left e → Blames sys input e
  end_blamed end last (Refused n) (inl early) = subst (λ (k : ℕ). IfSome input (λ text. IsFirstBad sys k text)) (sym early.0) (blamed_end end last early.1)
  end_blamed end last (Refused n) (inr late) = subst (λ (k : ℕ). IfSome input (λ text. IsFirstBad sys k text)) (sym late.0) (blamed_after end last late.1 late.2)
  end_blamed end last Names refuses = absurd refuses
  end_blamed end last Memory refuses = tt
  end_blamed end last Read refuses = tt
  end_blamed end last (Write n) refuses = tt
