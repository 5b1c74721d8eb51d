-- Rules that are read, and whose names a declaration is to have.
use Rattle.std.proofs.lemmas.Option.{slice_get_within}
use Rattle.fb_expect.specs.declared.error.RulesError.TheVariants as error
use Rattle.fb_expect.specs.declared.location.RuleKey.{RuleKey}
use Rattle.fbsim_command.specs.OfSystem.{IsUnknownAt}
use Rattle.fbsim_command.proofs.lemmas.Common.{◌≡◌, ◌<◌, ◌∙◌, Inputs, length, ℕ, List, true, Option, Some, None, Ok, Err, refl, sym, subst, inl, inr, IfSome, Given, Holds, numbered_input, Held, Opening, Expect, Failure, Refused, RefusedTrace, File, Write, Memory, Line, BadOption}
use Rattle.fbsim_command.specs.Outcomes.{IsUndeclared}
use Rattle.clap.specs.Words.{Text}
use Rattle.fb_expect.specs.Reading.{rules_of}
use Rattle.fb_expect.specs.Refusals as rules
use Rattle.fb_expect.specs.declared.error.RulesError.{RulesError}
use Rattle.fb_expect.specs.declared.rule.Rule.{Rule}
use Rattle.fbsim_command.specs.Expecting.{AreRules, IsUnnamed, Names, RefusesFor}
use Rattle.fbsim_command.specs.Failures.{failure_of_rules}
use Rattle.fbsim_command.specs.Notes.{IsUnnoted, Noted}

-- ---- What is declared is refused

-- nothing is held where the inputs are refused
pub refused-inputs : (given : Given) (rs : List Rule) (f : Failure) → IsUndeclared given f → IsUnnamed given rs f
refused-inputs given rs (Refused refusal) is = inl is
refused-inputs given rs Memory is = tt
refused-inputs given rs (RefusedTrace text) is = absurd is
refused-inputs given rs File is = absurd is
refused-inputs given rs (Write n) is = absurd is
refused-inputs given rs (Line message) is = absurd is
refused-inputs given rs BadOption is = absurd is

-- ---- Rules are refused

pub refused-rules : (bytes : Text) (declared : Option Given) (e : RulesError) → IfSome (rules.number_of e) (λ n. rules_of bytes ≡ Err n) → RefusesFor bytes declared (failure_of_rules e)
refused-rules bytes declared e is = by (rules.number_of e) is
  where
    by : (o : Option ℕ) → IfSome o (λ n. rules_of bytes ≡ Err n) → RefusesFor bytes declared (numbered_input o)
    by None is = tt
    by (Some n) is = inl (record { number = n; are = is; reported = refl })

-- their names are not in what is declared
pub unnamed :
    (bytes : Text) (declared : Option Given) (given : Given) (rs : List Rule) (f : Failure) → declared ≡ Some given → rules_of bytes ≡ Ok rs → IsUnnamed given rs f
    → RefusesFor bytes declared f
unnamed bytes declared given rs (Refused refusal) same are (inl is) = inr (inl (record { rules = rs; are = are; given = given; is = same; refused = is }))
unnamed bytes declared given rs (Refused refusal) same are (inr is) =
    inr (inr (record { rules = rs; are = are; given = given; is = same; unknown = is.0; reported = is.1 }))
unnamed bytes declared given rs Memory same are is = tt
unnamed bytes declared given rs (RefusedTrace text) same are is = absurd is
unnamed bytes declared given rs File same are is = absurd is
unnamed bytes declared given rs (Write n) same are is = absurd is
unnamed bytes declared given rs (Line message) same are is = absurd is
unnamed bytes declared given rs BadOption same are is = absurd is

-- their names are in it
pub named :
    (bytes : Text) (declared : Option Given) (given : Given) (rs : List Rule) → declared ≡ Some given → rules_of bytes ≡ Ok rs → Names given rs true
    → AreRules bytes declared rs
named bytes None given rs same are is = absurd (let bad : None ≡ Some given = same in cc)
named bytes (Some other) given rs same are is =
    let one : other ≡ given = some_is other given same in record { are = are; named = subst (λ (g : Given). Names g rs true) (sym one) is }
  where
    some_is : (x y : Given) → Some x ≡ Some y → x ≡ y
    some_is x y e = cc

-- nothing is declared
pub alone : (bytes : Text) (declared : Option Given) (rs : List Rule) → declared ≡ None → rules_of bytes ≡ Ok rs → AreRules bytes declared rs
alone bytes declared rs none are = subst (λ (o : Option Given). AreRules bytes o rs) (sym none) (record { are = are; named = tt })

-- nothing is held where rules are refused
pub held-none :
    {S : Type 0} (opens : Opening S) (x : Expect) (s : S) (bytes : Text) (declared : Option Given) (a : Held) (note : Noted) (f : Failure) → IsUnnoted note → RefusesFor bytes declared f
    → Holds opens x s s bytes declared a a note (Err f)
held-none opens x s bytes declared a note (Refused refusal) none is = (is, refl, refl, none)
held-none opens x s bytes declared a note Memory none is = (refl, none)
held-none opens x s bytes declared a note (RefusedTrace text) none is = absurd is
held-none opens x s bytes declared a note File none is = absurd is
held-none opens x s bytes declared a note (Write n) none is = absurd is
held-none opens x s bytes declared a note (Line message) none is = absurd is
held-none opens x s bytes declared a note BadOption none is = absurd is

-- bytes that are refused are no rules
pub no-rules : (bytes : Text) (e : RulesError) → (e ≡ error.Memory → ⊥) → IfSome (rules.number_of e) (λ n. rules_of bytes ≡ Err n) → (rs : List Rule) → rules_of bytes ≡ Ok rs → ⊥
no-rules bytes e other is rs are = by e other is
  where
    clash : (n : ℕ) → rules_of bytes ≡ Err n → ⊥
    clash n is = let bad : ◌≡◌ {A = rules.Outcome (List Rule)} (Ok rs) (Err n) = sym are ∙ is in absurd cc

    by : (e : RulesError) → (e ≡ error.Memory → ⊥) → IfSome (rules.number_of e) (λ n. rules_of bytes ≡ Err n) → ⊥
    by error.Memory other is = other refl
    by error.Limit other is = clash _ is
    by error.Document other is = clash _ is
    by error.Shape other is = clash _ is
    by error.Pattern other is = clash _ is
    by error.Number other is = clash _ is

-- the rule whose pattern is unknown is one of them
pub unknown-within : (i : Inputs) (rs : List Rule) (k : ℕ) (key : RuleKey) → IsUnknownAt i rs k key → k < length rs
unknown-within i rs k key unknown = slice_get_within rs k unknown.rule unknown.there
