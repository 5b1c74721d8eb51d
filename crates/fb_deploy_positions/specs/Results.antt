-- How a result stands to what the grammar gives.
use Rattle.std.specs.Prelude.{◌≡◌, ◌<◌, length, Option, IfSome, option_map, Result, IfOk}
use Rattle.std.specs.declared.alloc.AllocError.{AllocError}
use Rattle.std.specs.Borrow.{Bor}
use Rattle.toml_parser.specs.Lexical.{Read}
use Rattle.fb_deploy_positions.specs.Values.{Text}

-- The result is this, seen through f, unless memory ran out.
abbrev pub Answers : {A B : Type 0} → (A → B) → Result (Option A) AllocError → Option B → Type 0
Answers f result expected = IfOk result (λ o. option_map f o ≡ expected)

-- the same of what was read with the text after it
abbrev pub AnswersRead : {A B : Type 0} → (A → B) → Result (Option (A × Bor Text)) AllocError → Read B → Type 0
AnswersRead f result expected = Answers (λ r. (f r.0, r.1.now)) result expected

-- less text is left
abbrev pub LeavesLess : {A : Type 0} → Text → Result (Option (A × Bor Text)) AllocError → Type 0
LeavesLess text result = IfOk result (λ o. IfSome o (λ r. length r.1.now < length text))
