use Rattle.fb_expect.proofs.lemmas.Common.{◌≡◌, ℕ, ◌-◌, ◌^◌, ◌++◌, refl, sym, ap, ◌∙◌, append_assoc, IfSome, Option, Some, None, Text}
use Rattle.std.specs.Borrow.{Bor}
use Rattle.fb_expect.specs.Events.{IsKeyText, IsNumberText}
use Rattle.fb_expect.proofs.event.after_key.Goals as goal

abbrev IsAfter : (most : ℕ) → (text rest : Text) → Type 0
IsAfter most text rest = (head : Text) × IsNumberText most head × (text ≡ head ++ rest)

key : (text first second : Text) (o : Option (Bor Text)) → IsAfter (2 ^ 8 - 1) text first → IsAfter (2 ^ 128 - 1) first second
    → IfSome o (λ rest. IsAfter (2 ^ 128 - 1) second rest.now) → IfSome o (λ rest. (head : Text) × IsKeyText head × (text ≡ head ++ rest.now))
key text first second None a b c = tt
key text first second (Some rest) a b c = (
  a.0 ++ (b.0 ++ c.0),
  record { class = a.0; a = b.0; b = c.0; is_class = a.1; is_a = b.1; is_b = c.1; parts = refl },
  a.2 ∙ ap (λ (t : Text). a.0 ++ t) (b.2 ∙ ap (λ (t : Text). b.0 ++ t) c.2 ∙ sym (append_assoc b.0 c.0 rest.now))
      ∙ sym (append_assoc a.0 (b.0 ++ c.0) rest.now),
)

pub returns-clause-parts : goal.returns-clause-parts
returns-clause-parts c = key c.args.text.now c.in_ok-after_class.after_class.now c.in_ok-after_first.after_first.now c.after_number-3.result c.in_ok-after_class.ensures.parts c.in_ok-after_first.ensures.parts c.after_number-3.ensures.parts
