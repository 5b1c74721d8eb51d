-- Ports with stars in patterns: `LANE*.X`, `*.OVERRUN` (docs/FORMATS.md, "Rules over traces"; this project's own).
use Rattle.std.specs.Prelude.{ℕ, ◌+◌, ◌-◌, Bool, true, false, if◌then◌else◌, ◌&&◌, ◌||◌, ◌==◌, nat_eq, nat_le, List, [], ◌∷◌, length, take, drop, Option, Some, None, codes}
use Rattle.std.specs.List.{list_all, slice_split}
use Rattle.std.specs.Option.{option_map_or}
use Rattle.std.specs.Str.{bytes_eq}
use Rattle.fb_expect.specs.Words.{Text, has_stop, is_name, is_word, split_at_mark}

-- ---- Names with a star

-- nothing, or a name
abbrev pub is_front_of_name : Text → Bool
is_front_of_name [] = true
is_front_of_name (b ∷ z) = is_name (b ∷ z)

-- one star, with a beginning and an end of a name around it, which may be empty
abbrev pub is_star_name : Text → Bool
is_star_name z = option_map_or (λ p. is_front_of_name p.0 && list_all is_word p.1) (split_at_mark 42 z) (is_name z)

-- two names or more, in which stars may be, with a full stop between each and the next
abbrev pub is_star_port : Text → Bool
is_star_port z = has_stop z && list_all is_star_name (slice_split (nat_eq 46) z)

-- ---- What they mean

abbrev pub begins : (front : Text) → Text → Bool
begins front z = bytes_eq (take (length front) z) front

abbrev pub ends : (end : Text) → Text → Bool
ends end z = bytes_eq (drop (length z - length end) z) end

-- whether a name has the form: the same, or with any characters in place of the star
abbrev pub fits_name : (form name : Text) → Bool
fits_name form name =
    option_map_or (λ p. nat_le (length p.0 + length p.1) (length name) && (begins p.0 name && ends p.1 name)) (split_at_mark 42 form) (bytes_eq name form)

abbrev pub is_star : Text → Bool
is_star z = bytes_eq z (codes "*")

-- whether names have the forms, one by one; a last star is for one name or more
abbrev pub fits_last : (form : Text) → List Text → Bool
fits_last form [] = false
fits_last form (n ∷ []) = fits_name form n
fits_last form (n ∷ m ∷ ns) = is_star form

abbrev pub fits : (forms names : List Text) → Bool
fits [] names = false
fits (f ∷ []) names = fits_last f names
fits (f ∷ g ∷ fs) [] = false
fits (f ∷ g ∷ fs) (n ∷ ns) = fits_name f n && fits (g ∷ fs) ns

-- whether the names after one or more have the forms
abbrev pub fits_later : (forms names : List Text) → Bool
fits_later forms [] = false
fits_later forms (n ∷ ns) = fits forms ns || fits_later forms ns

-- the same, where a first star is for one name or more
abbrev pub fits_port : (forms names : List Text) → Bool
fits_port [] names = false
fits_port (f ∷ []) names = fits (f ∷ []) names
fits_port (f ∷ g ∷ fs) names = if is_star f then fits_later (g ∷ fs) names else fits (f ∷ g ∷ fs) names

-- whether a port has the form of a pattern with stars
unfoldable pub has_form : (form port : Text) → Bool
has_form form port = fits_port (slice_split (nat_eq 46) form) (slice_split (nat_eq 46) port)
