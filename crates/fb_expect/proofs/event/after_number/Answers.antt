use Rattle.fb_types.proofs.Common.{◌≡◌, ℕ, ◌++◌, Bor, true, codes, refl, sym, ap, ◌∙◌, append_assoc, IfSome, Option, Some, None, is_some}
use Rattle.fb_expect.specs.Events.{IsNumberText}
use Rattle.fb_expect.specs.Words.{Text, natural}
use Rattle.fb_expect.proofs.event.after_number.Goals as goal

number : (most : ℕ) (text digits rest : Text) (o : Option (Bor Text)) → text ≡ digits ++ rest → is_some (natural most digits) ≡ true
    → IfSome o (λ r. rest ≡ codes " " ++ r.now) → IfSome o (λ r. (head : Text) × IsNumberText most head × (text ≡ head ++ r.now))
number most text digits rest None parts is blank = tt
number most text digits rest (Some r) parts is blank =
    (digits ++ codes " ", (digits, is, refl), parts ∙ ap (λ (t : Text). digits ++ t) blank ∙ sym (append_assoc digits (codes " ") r.now))

pub returns-then-is_number-clause-parts : goal.returns-then-is_number-clause-parts
returns-then-is_number-clause-parts c =
    number c.args.most c.args.text.now c.in_ok-digits.digits.now c.in_ok-digits.rest.now c.after_front.result c.in_ok-digits.ensures.parts (sym c.is_number.ensures ∙ c.if-is_number.true)
    c.after_front.ensures.parts
