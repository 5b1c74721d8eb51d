-- What the getters of the matches read, by the rows.
use Rattle.fb_types.proofs.Common.{◌≡◌, ◌<◌, ◌^◌, ℕ, Option, Some, None, Result, Ok, refl, sym, ◌∙◌, subst, IfSome, IfNone}
use Rattle.std.specs.Str.Parse.{ParsesUnsigned}
use Rattle.clap.specs.Words.{Text, rows_of, one_text, ReadsOne}
use Rattle.clap.specs.declared.parser.matches.Found.{Found}
use Rattle.clap.proofs.WalkLemmas.{one_text-rows}
use Rattle.fbsim_line.specs.Line.{IsNumber}

-- what is read is the number
pub number_read : {E : Type 0} (gives : Text → Result ℕ E → Type 0) → ((t : Text) (r : Result ℕ E) → gives t r → ParsesUnsigned 64 10 t r)
    → (f : Found) (id : Text) (r : Option ℕ) → (one_text f id ≡ None → r ≡ None) → ((t : Text) → one_text f id ≡ Some t → ReadsOne gives t r) → IfSome r (IsNumber (rows_of f) id)
number_read gives parses f id None none value = tt
number_read gives parses f id (Some n) none value = go (one_text f id) refl
  where
    go : (o : Option Text) → one_text f id ≡ o → IsNumber (rows_of f) id n
    go None e = let bad = none e in absurd cc
    go (Some t) e =
        let read = parses t (Ok n) (value t e) in
        record {
          text = t;
          given = sym (one_text-rows f id) ∙ e;
          numeral = read.0.0;
          value = sym read.1;
          small = let P : ℕ → Type 0 = λ k. k < 2 ^ 64 in subst P (sym read.1) read.0.1;
        }

-- where nothing is read, there is no number
pub nothing_read : {E : Type 0} (gives : Text → Result ℕ E → Type 0) → ((t : Text) (r : Result ℕ E) → gives t r → ParsesUnsigned 64 10 t r)
    → (f : Found) (id : Text) (r : Option ℕ) → ((t : Text) → one_text f id ≡ Some t → ReadsOne gives t r) → IfNone r ((n : ℕ) → IsNumber (rows_of f) id n → ⊥)
nothing_read gives parses f id (Some n) value = tt
nothing_read gives parses f id None value = λ n is.
    let failed = value is.text (one_text-rows f id ∙ is.given) in
    let small = let P : ℕ → Type 0 = λ k. k < 2 ^ 64 in subst P (sym is.value) is.small in
    parses is.text _ failed.1 (is.numeral, small)
