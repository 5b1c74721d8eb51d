-- The values of variables of a line, word by word.
use Rattle.fb_types.proofs.Common.{◌≡◌, Some, None, nat_eq, refl, ap, ◌∙◌, Option, slice_split, Name}
use Rattle.fb_expect.specs.Pairing.{or_else, text_in, text_of}
use Rattle.fb_expect.specs.Words.{Text, split_at_mark}
use Rattle.fb_expect.proofs.lemmas.texts.TextParts.{part_first, part_last}

abbrev pub texts : Name → Text → Option Text
texts name z = text_in name (slice_split (nat_eq 32) z)

pub text-first : (name : Name) (z a b : Text) (o : Option Text) → Some (a, b) ≡ split_at_mark 32 z → text_of name a ≡ o → texts name z ≡ or_else o (texts name b)
text-first name z a b o is of = ap (text_in name) (part_first 32 z a b is) ∙ ap (λ (t : Option Text). or_else t (texts name b)) of

or-none : (o : Option Text) → or_else o None ≡ o
or-none (Some t) = refl
or-none None = refl

pub text-last : (name : Name) (z : Text) → None ≡ split_at_mark 32 z → texts name z ≡ text_of name z
text-last name z is = ap (text_in name) (part_last 32 z is) ∙ or-none (text_of name z)
