-- Refusals that are passed on, and documents.
use Rattle.std.proofs.Common.{◌≡◌, ◌≤◌, ℕ, Bool, true, false, length, Option, Some, None, Ok, Err, IsUtf8, refl, ◌∙◌}
use Rattle.std.specs.Option.{IfSome}
use Rattle.std.specs.Str.{is_utf8}
use Rattle.std.proofs.lemmas.Bool.{le-leb}
use Rattle.std.proofs.lemmas.Str.{IsUtf8-from_is_utf8, is_utf8-from_IsUtf8}
use Rattle.toml.specs.Data.{Members}
use Rattle.toml.specs.Parse.{parse_document}
use Rattle.fb_expect.specs.declared.error.RulesError.{RulesError}
use Rattle.fb_expect.specs.Reading.{document, most_bytes, of_document, rules_of}
use Rattle.fb_expect.specs.Refusals.{Outcome, number_of, ◌>>=◌, or_refuse, no_document}
use Rattle.fb_expect.specs.Words.{Text}

pub passed_on : {A B : Type 0} (e : RulesError) (o : Outcome A) (f : A → Outcome B) → IfSome (number_of e) (λ n. o ≡ Err n) → IfSome (number_of e) (λ n. (o >>= f) ≡ Err n)
passed_on {A} {B} e o f h = by (number_of e) h
  where
    by : (m : Option ℕ) → IfSome m (λ n. o ≡ Err n) → IfSome m (λ n. (o >>= f) ≡ Err n)
    by None h = tt
    by (Some n) h = rw h refl

pub is_document : (bytes : Text) (keys : Members) → IsUtf8 bytes → parse_document bytes ≡ Some keys → document bytes ≡ Some keys
unfolding document
is_document bytes keys text parsed = rw (is_utf8-from_IsUtf8 bytes text) parsed

pub is_no_document : (bytes : Text) → (IsUtf8 bytes → parse_document bytes ≡ None) → document bytes ≡ None
unfolding document
is_no_document bytes unparsed = by (is_utf8 bytes) refl
  where
    by : (t : Bool) → is_utf8 bytes ≡ t → document bytes ≡ None
    by true e = rw e (unparsed (IsUtf8-from_is_utf8 bytes e))
    by false e = rw e refl

-- ---- From the bytes to the rules

pub short_rules : (bytes : Text) → length bytes ≤ most_bytes → rules_of bytes ≡ (or_refuse no_document (document bytes) >>= of_document)
unfolding rules_of
short_rules bytes le = rw (le-leb (length bytes) most_bytes le) refl

pub read_rules_of : (bytes : Text) (keys : Members) → length bytes ≤ most_bytes → or_refuse no_document (document bytes) ≡ Ok keys → rules_of bytes ≡ of_document keys
read_rules_of bytes keys le read = short_rules bytes le ∙ rw read refl
