-- Refusals and notes that name a file of a declaration and the line in it.
use Rattle.fbsim_command.proofs.lemmas.Common.{◌≡◌, ◌+◌, ◌<◌, ℕ, zero, suc, Bor, List, [], ◌∷◌, length, get_or, map, arith, Option, Some, None, Result, Ok, Err, refl, sym, ap, ◌∙◌, subst, inl, inr, string_bytes, IfOk, End, Failure, Refused, RefusedTrace, File, Write, Memory, Line, BadOption}
use Rattle.clap.specs.Words.{Text}
use Rattle.fbsim_command.specs.Joining.{IsLineOf, counts, mark_at, name_at}
use Rattle.fbsim_command.specs.OwnLines.{EndsBy, IsInNone, IsPlaced, IsSyntaxIn, IsSyntaxText, placed_text, syntax_in}
use Rattle.fbsim_command.specs.declared.join.FileLines.{FileLines}

module _ (types : List Text) (own : Text) (lines : List FileLines) where
  pub syntax-of : (whole file line : ℕ) (name : Text) (f : Failure) → IsLineOf (counts lines) whole file line → name ≡ name_at types own file → IsSyntaxText name line f → IsSyntaxIn types own lines whole f
  syntax-of whole file line name (RefusedTrace text) at same reported = (file, line, at, reported ∙ ap (λ (n : Text). syntax_in n line) same)
  syntax-of whole file line name Memory at same reported = (file, line, at)
  syntax-of whole file line name (Refused refusal) at same reported = absurd reported
  syntax-of whole file line name File at same reported = absurd reported
  syntax-of whole file line name (Write n) at same reported = absurd reported
  syntax-of whole file line name (Line message) at same reported = absurd reported
  syntax-of whole file line name BadOption at same reported = absurd reported

  pub ends-named : (o : Option ℕ) (whole : ℕ) (inner : End) (f : Failure) → o ≡ Some whole → IsSyntaxIn types own lines whole f → EndsBy types own lines o inner (Err f)
  ends-named o whole inner f is named = subst (λ (k : Option ℕ). EndsBy types own lines k inner (Err f)) (sym is) (f, refl, named)

  pub ends-as : (o : Option ℕ) (inner : End) → o ≡ None → EndsBy types own lines o inner inner
  ends-as o inner is = subst (λ (k : Option ℕ). EndsBy types own lines k inner inner) (sym is) refl

  pub placed-in :
      {S E : Type 0} (bytes : S → Text) (whole column there file line : ℕ) (name matter : Text) (note : Result S E) → IsLineOf (counts lines) whole file line → name ≡ name_at types own file
      → there ≡ column + mark_at lines file line → IfOk note (λ n. bytes n ≡ placed_text name line there matter) → IfOk note (λ n. IsPlaced types own lines whole column (bytes n))
  placed-in bytes whole column there file line name matter (Err e) at same moved is = tt
  placed-in bytes whole column there file line name matter (Ok note) at same moved is =
      inl (file, line, at, (matter, is ∙ ap (λ (n : Text). placed_text n line there matter) same ∙ ap (λ (k : ℕ). placed_text (name_at types own file) line k matter) moved))

  pub placed-alone :
      {S E : Type 0} (bytes : S → Text) (whole column : ℕ) (matter : Text) (note : Result S E) → IsInNone lines whole → IfOk note (λ n. bytes n ≡ placed_text own whole column matter)
      → IfOk note (λ n. IsPlaced types own lines whole column (bytes n))
  placed-alone bytes whole column matter (Err e) none is = tt
  placed-alone bytes whole column matter (Ok note) none is = inr (none, (matter, is))

-- the name of one of the files of block types
pub named_here : (ts : List (Bor Text)) (own : Text) (file : ℕ) (d : Bor Text) → file < length ts → (get_or ts file d).now ≡ name_at (map (λ t. t.now) ts) own file
named_here [] own file d there = absurd (omega (arith, there))
named_here (t ∷ ts) own zero d there = refl
named_here (t ∷ ts) own (suc file) d there = named_here ts own file d (omega (arith, there))
