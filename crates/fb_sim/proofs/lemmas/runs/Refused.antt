-- Why nothing is run.
use Rattle.fb_types.proofs.Common.{◌≡◌, ◌<◌, ◌↔◌, ◌⊎◌, inl, inr, ℕ, List, length, Result, Ok, Err, refl, ap, Inputs}
use Rattle.fb_types.specs.declared.library.Library.{Library}
use Rattle.fb_read.specs.Refusals.{IsRightError}
use Rattle.fb_read.specs.Front.{bad_byte, bad_token}
use Rattle.fb_read.specs.Whole.{IsDerived, IsLibraryText, IsMemory, IsNesting, IsGrammarFault, HasTokenFault, HasTokens, RefusesWhere, most_bytes}
use Rattle.fb_read.specs.declared.error.ReadError.{ReadError}
use Rattle.fb_read.specs.declared.error.ReadError.TheVariants as error
use Rattle.fb_check.specs.Refusals as judge
use Rattle.fb_check.specs.declared.error.CheckError.{CheckError}
use Rattle.fb_check.specs.declared.error.CheckError.TheVariants as check
use Rattle.fb_sim.specs.Given.{Given}
use Rattle.fb_sim.specs.Serial.{AreNotAccepted, HasNumber, IsReadFault, Reads}

pub not_memory : (e : ReadError) → (e ≡ error.Memory → ⊥) → ¬ (IsMemory e)
not_memory error.Memory other is = other refl
not_memory error.Byte other is = is
not_memory error.Token other is = is
not_memory (error.Syntax line) other is = is
not_memory error.TooLong other is = is
not_memory error.Nesting other is = is

-- a reading that failed
abbrev refused : ReadError → Result Library ReadError
refused e = Err e

abbrev refusal_of : ReadError → Result Library ReadError → ReadError
refusal_of e (Err f) = f
refusal_of e (Ok library) = e

err_is : {e f : ReadError} → refused e ≡ refused f → e ≡ f
err_is {e} same = ap (refusal_of e) same

-- what a function that reads a text says of its refusal
pub read_fault : (text : List ℕ) (e : ReadError) → (e ≡ error.Memory → ⊥)
    → (¬ (IsMemory e) → (library : Library) → IsLibraryText text library → ⊥)
    → (¬ (IsMemory e) → (library : Library) → IsDerived text library → IsNesting e)
    → (refused e ≡ refused error.TooLong) ↔ (most_bytes < length text)
    → RefusesWhere (refused e) error.Byte (HasTokenFault bad_byte text)
    → RefusesWhere (refused e) error.Token (HasTokenFault bad_token text)
    → (IsGrammarFault e → HasTokens text)
    → IsRightError text e
    → IsReadFault text e
read_fault text e other none nesting too_long byte token grammar exact =
    let refusal = not_memory e other in
    record {
      refusal = refusal;
      none = none refusal;
      too_long = (λ is. too_long.0 (ap refused is), λ long. err_is (too_long.1 long));
      byte = (λ is. byte.only (ap refused is), λ has. here (byte.always has));
      token = (λ is. token.only (ap refused is), λ has. here (token.always has));
      grammar = grammar;
      nesting = nesting refusal;
      exact = exact;
    }
  where
    here : {f : ReadError} → (refused e ≡ refused f) ⊎ (refused e ≡ refused error.Memory) → e ≡ f
    here (inl is) = err_is is
    here (inr memory) = absurd (other (err_is memory))

-- what the check says of its refusal, where it is not for memory
pub check_fault : (given : Given) (i : Inputs) (e : CheckError) → (e ≡ check.Memory → ⊥) → Reads given i → judge.IsRightly i e → HasNumber (judge.number_of e) (AreNotAccepted given)
check_fault given i check.Memory other read rightly = absurd (other refl)
check_fault given i (check.Refused f) other read rightly = record { inputs = i; read = read; applies = rightly }
