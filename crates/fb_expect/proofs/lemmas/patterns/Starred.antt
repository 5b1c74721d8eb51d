-- Ports with stars: the names of two texts, one by one.
use Rattle.fb_types.proofs.Common.{◌≡◌, Bool, true, false, List, [], ◌∷◌, Some, None, nat_eq, refl, sym, ap, ap₂, ◌∙◌, Option, ◌&&◌, ◌||◌, if◌then◌else◌, slice_split}
use Rattle.fb_expect.specs.Stars.{fits, fits_later, fits_name, fits_port, has_form, is_star}
use Rattle.fb_expect.specs.Words.{Text, split_at_mark}
use Rattle.fb_expect.proofs.lemmas.texts.TextParts.{part_first, part_last}

abbrev pub parts : Text → List Text
parts z = slice_split (nat_eq 46) z

-- the names of a text are one or more
abbrev first-of : Option (Text × Text) → Text → Text
first-of (Some p) z = p.0
first-of None z = z

abbrev rest-of : Option (Text × Text) → List Text
rest-of (Some p) = parts p.1
rest-of None = []

some-parts : (z : Text) (o : Option (Text × Text)) → o ≡ split_at_mark 46 z → parts z ≡ first-of o z ∷ rest-of o
some-parts z (Some p) is = part_first 46 z p.0 p.1 is
some-parts z None is = part_last 46 z is

pub fits-first :
    (form port f g n o : Text) (t : Bool) → Some (f, g) ≡ split_at_mark 46 form → Some (n, o) ≡ split_at_mark 46 port → fits_name f n ≡ t
    → fits (parts form) (parts port) ≡ (t && fits (parts g) (parts o))
fits-first form port f g n o t is-form is-port of =
    ap₂ fits (part_first 46 form f g is-form ∙ ap (λ (xs : List Text). f ∷ xs) (some-parts g (split_at_mark 46 g) refl)) (part_first 46 port n o is-port)
    ∙ ap (λ (b : Bool). b && fits (first-of (split_at_mark 46 g) g ∷ rest-of (split_at_mark 46 g)) (parts o)) of
    ∙ ap (λ (xs : List Text). t && fits xs (parts o)) (sym (some-parts g (split_at_mark 46 g) refl))

and-no : (b : Bool) → (b && false) ≡ false
and-no true = refl
and-no false = refl

fits-none : (xs : List Text) (x : Text) → fits (x ∷ xs) [] ≡ false
fits-none [] x = refl
fits-none (y ∷ ys) x = refl

-- more forms than names
pub fits-short : (form port f g : Text) → Some (f, g) ≡ split_at_mark 46 form → None ≡ split_at_mark 46 port → fits (parts form) (parts port) ≡ false
fits-short form port f g is-form is-port =
    ap₂ fits (part_first 46 form f g is-form ∙ ap (λ (xs : List Text). f ∷ xs) (some-parts g (split_at_mark 46 g) refl)) (part_last 46 port is-port)
    ∙ ap (λ (b : Bool). fits_name f port && b) (fits-none (rest-of (split_at_mark 46 g)) (first-of (split_at_mark 46 g) g)) ∙ and-no (fits_name f port)

-- the last form
pub fits-end : (form port : Text) → None ≡ split_at_mark 46 form → None ≡ split_at_mark 46 port → fits (parts form) (parts port) ≡ fits_name form port
fits-end form port is-form is-port = ap₂ fits (part_last 46 form is-form) (part_last 46 port is-port)

pub fits-rest : (form port n o : Text) → None ≡ split_at_mark 46 form → Some (n, o) ≡ split_at_mark 46 port → fits (parts form) (parts port) ≡ is_star form
fits-rest form port n o is-form is-port =
    ap₂ fits (part_last 46 form is-form) (part_first 46 port n o is-port ∙ ap (λ (xs : List Text). n ∷ xs) (some-parts o (split_at_mark 46 o) refl))

-- ---- Later names

pub later-first :
    (form port n o : Text) (t : Bool) → Some (n, o) ≡ split_at_mark 46 port → fits (parts form) (parts o) ≡ t
    → fits_later (parts form) (parts port) ≡ (t || fits_later (parts form) (parts o))
later-first form port n o t is of = ap (fits_later (parts form)) (part_first 46 port n o is) ∙ ap (λ (b : Bool). b || fits_later (parts form) (parts o)) of

pub later-last : (form port : Text) → None ≡ split_at_mark 46 port → fits_later (parts form) (parts port) ≡ false
later-last form port is =
    ap (fits_later (parts form)) (part_last 46 port is) ∙ ap (λ (b : Bool). b || false) (none (parts form) (some-parts form (split_at_mark 46 form) refl))
  where
    none : {x : Text} {xs : List Text} (zs : List Text) → zs ≡ x ∷ xs → fits zs [] ≡ false
    none {x} {xs} zs is = ap (λ (ys : List Text). fits ys []) is ∙ fits-none xs x

-- ---- Forms of ports

both-parts : (z a b : Text) → Some (a, b) ≡ split_at_mark 46 z → parts z ≡ a ∷ first-of (split_at_mark 46 b) b ∷ rest-of (split_at_mark 46 b)
both-parts z a b is = part_first 46 z a b is ∙ ap (λ (xs : List Text). a ∷ xs) (some-parts b (split_at_mark 46 b) refl)

pub form-star : (form port f g : Text) → Some (f, g) ≡ split_at_mark 46 form → is_star f ≡ true → has_form form port ≡ fits_later (parts g) (parts port)
unfolding has_form
form-star form port f g is on =
    let x = first-of (split_at_mark 46 g) g in
    let xs = rest-of (split_at_mark 46 g) in
    ap (λ (ys : List Text). fits_port ys (parts port)) (both-parts form f g is)
    ∙ ap (λ (b : Bool). if b then fits_later (x ∷ xs) (parts port) else fits (f ∷ x ∷ xs) (parts port)) on
    ∙ ap (λ (ys : List Text). fits_later ys (parts port)) (sym (some-parts g (split_at_mark 46 g) refl))

pub form-plain : (form port f g : Text) → Some (f, g) ≡ split_at_mark 46 form → is_star f ≡ false → has_form form port ≡ fits (parts form) (parts port)
unfolding has_form
form-plain form port f g is off =
    let x = first-of (split_at_mark 46 g) g in
    let xs = rest-of (split_at_mark 46 g) in
    ap (λ (ys : List Text). fits_port ys (parts port)) (both-parts form f g is)
    ∙ ap (λ (b : Bool). if b then fits_later (x ∷ xs) (parts port) else fits (f ∷ x ∷ xs) (parts port)) off
    ∙ ap (λ (ys : List Text). fits ys (parts port)) (sym (both-parts form f g is))

pub form-one : (form port : Text) → None ≡ split_at_mark 46 form → has_form form port ≡ fits (parts form) (parts port)
unfolding has_form
form-one form port is = ap (λ (xs : List Text). fits_port xs (parts port)) (part_last 46 form is) ∙ ap (λ (xs : List Text). fits xs (parts port)) (sym (part_last 46 form is))
