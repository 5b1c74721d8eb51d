-- What a definition says of rules, and what a function that reads them may answer (this project's profile).
use Rattle.std.specs.Prelude.{◌≡◌, ℕ, Option, Some, None, IfSome, Result, Ok, Err}
use Rattle.fb_expect.specs.declared.error.RulesError.{RulesError}
use Rattle.fb_expect.specs.declared.error.RulesError.TheVariants.{Memory, Limit, Document, Shape, Pattern, Number}

-- The numbers of the refusals: a limit, bytes that are no document, a rule's shape, a pattern, and a number.
abbrev pub over_limit : ℕ
over_limit = 40

abbrev pub no_document : ℕ
no_document = 41

abbrev pub bad_shape : ℕ
bad_shape = 42

abbrev pub bad_pattern : ℕ
bad_pattern = 43

abbrev pub bad_number : ℕ
bad_number = 44

abbrev pub number_of : RulesError → Option ℕ
number_of Memory = None
number_of Limit = Some over_limit
number_of Document = Some no_document
number_of Shape = Some bad_shape
number_of Pattern = Some bad_pattern
number_of Number = Some bad_number

-- A value, or the number of the refusal.
abbrev pub Outcome : Type 0 → Type 0
Outcome A = Result A ℕ

infixl 10 ◌>>=◌
abbrev pub ◌>>=◌ : {A B : Type 0} → Outcome A → (A → Outcome B) → Outcome B
Ok x >>= f = f x
Err n >>= f = Err n

-- the value, where there is one, or this refusal
abbrev pub or_refuse : {A : Type 0} → ℕ → Option A → Outcome A
or_refuse n (Some x) = Ok x
or_refuse n None = Err n

-- A function answers this outcome, of which contracts see so much, unless memory runs out.
abbrev pub Answers : {X Y : Type 0} → (X → Y) → Outcome Y → Result X RulesError → Type 0
Answers seen outcome (Ok x) = outcome ≡ Ok (seen x)
Answers seen outcome (Err e) = IfSome (number_of e) (λ n. outcome ≡ Err n)
