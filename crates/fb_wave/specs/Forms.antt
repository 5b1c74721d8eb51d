-- The form of a line by its second word (this project's profile).
use Rattle.std.specs.Prelude.{ℕ, List, [], ◌∷◌, if◌then◌else◌}
use Rattle.fb_types.specs.declared.run.Form.{Form}
use Rattle.fb_types.specs.declared.run.Form.TheVariants.{One, Two}
use Rattle.fb_wave.specs.Named.{is_digit}

-- The form by what comes after the first word: a byte, and then a digit in form two. A line with less after it is one of form one.
abbrev pub form_by : List ℕ → Form
form_by [] = One
form_by (c ∷ []) = One
form_by (c ∷ (b ∷ more)) = if is_digit b then Two else One
