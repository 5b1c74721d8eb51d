-- What a definition says of an input, and what a function that reads it may return (this project's profile).
use Rattle.std.specs.Prelude.{◌≡◌, ℕ, Option, Some, None, IfSome, Result, Ok, Err}
use Rattle.fb_inputs.specs.declared.error.InputError.{InputError}
use Rattle.fb_inputs.specs.declared.error.InputError.TheVariants.{Memory, Document, Shape, Latency, Row, Number, Limit, Table}

-- The numbers of the refusals: bytes that are no document, a deployment's shape, a latency, a row's shape, a tick
-- or a value, a limit, and a table of latencies.
abbrev pub no_document : ℕ
no_document = 10

abbrev pub bad_shape : ℕ
bad_shape = 11

abbrev pub bad_latency : ℕ
bad_latency = 12

abbrev pub bad_row : ℕ
bad_row = 13

abbrev pub bad_number : ℕ
bad_number = 14

abbrev pub over_limit : ℕ
over_limit = 15

abbrev pub bad_table : ℕ
bad_table = 16

abbrev pub number_of : InputError → Option ℕ
number_of Memory = None
number_of Document = Some no_document
number_of Shape = Some bad_shape
number_of Latency = Some bad_latency
number_of Row = Some bad_row
number_of Number = Some bad_number
number_of Limit = Some over_limit
number_of Table = Some bad_table

-- A value, or the number of the refusal.
abbrev pub Outcome : Type 0 → Type 0
Outcome A = Result A ℕ

abbrev pub and_then : {A B N : Type 0} → Result A N → (A → Result B N) → Result B N
and_then (Ok x) f = f x
and_then (Err n) f = Err n

infixl 10 ◌>>=◌
abbrev pub ◌>>=◌ : {A B N : Type 0} → Result A N → (A → Result B N) → Result B N
o >>= f = and_then o f

-- the value, if there is one, or this refusal
abbrev pub or_refuse : {A N : Type 0} → N → Option A → Result A N
or_refuse n (Some x) = Ok x
or_refuse n None = Err n

-- A function returns this result, as far as contracts see it, unless memory runs out. What an error says is none then.
abbrev pub AnswersBy : {X Y E N : Type 0} → (E → Option N) → (X → Y) → Result Y N → Result X E → Type 0
AnswersBy says seen outcome (Ok x) = outcome ≡ Ok (seen x)
AnswersBy says seen outcome (Err e) = IfSome (says e) (λ n. outcome ≡ Err n)

abbrev pub Answers : {X Y : Type 0} → (X → Y) → Outcome Y → Result X InputError → Type 0
Answers seen outcome result = AnswersBy number_of seen outcome result
