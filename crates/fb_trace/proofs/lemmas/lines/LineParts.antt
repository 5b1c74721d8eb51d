-- The pieces of a line, and what follows each.
use Rattle.fb_types.proofs.Common.{◌≡◌, refl, append_assoc, ℕ, List, [], ◌∷◌, ◌++◌, codes, if◌then◌else◌, System, tick_and_resource_text, path_text, values_text}
use Rattle.fb_types.specs.declared.run.Form.{Form}
use Rattle.fb_types.specs.States.{Line}
use Rattle.fb_types.specs.Text.{key_text}

-- the sign of an event
abbrev pub sign_text : Line → List ℕ
sign_text l = if l.taken then codes " > " else codes " < "

-- a line up to the name of its event
abbrev pub until_event : Form → System → Line → List ℕ
until_event form sys l =
    key_text form l.key ++ tick_and_resource_text sys l.key.tick l.key.resource ++ sign_text l ++ path_text l.at ++ codes "." ++ l.event

abbrev pub after_values : List (List ℕ)
after_values = (10 ∷ []) ∷ []

abbrev pub after_event : Line → List (List ℕ)
after_event l = values_text l.values ∷ after_values

-- a head after what is before it
pub following : (k index sign path dot event : List ℕ) → k ++ (index ++ sign ++ path ++ dot ++ event) ≡ k ++ index ++ sign ++ path ++ dot ++ event
following k index sign path dot event =
    rw (append_assoc k index sign, append_assoc k (index ++ sign) path, append_assoc k (index ++ sign ++ path) dot, append_assoc k (index ++ sign ++ path ++ dot) event) refl
