use Rattle.fb_types.proofs.Common.{◌≡◌, ◌-◌, ℕ, Bor, Option, Some, length, drop, take, Ok, Err, refl, sym, ap, subst, ◌∙◌, arith, false≢true, option_copied, length-drop, take_all, Name}
use Rattle.fb_read.specs.Blank.{Text}
use Rattle.fb_read.specs.Front.{TokenFault, bad_byte, bad_token, front}
use Rattle.fb_read.specs.declared.token.Span.{Span}
use Rattle.fb_read.specs.declared.token.Token.{Token}
use Rattle.fb_read.specs.declared.token.Token.TheVariants as token
use Rattle.fb_read_positions.specs.Spans.{IsNameOf, IsNamed}
use Rattle.fb_read_positions.proofs.lemmas.NamesAtTokens.{as_long, front-token}
use Rattle.fb_read_positions.proofs.lemmas.OneReading.{not_both}
use Rattle.fb_read_positions.proofs.find.is_named.Goals as goal

-- all bytes from an offset on
whole : (text : Text) (start : ℕ) → take (length text - start) (drop start text) ≡ drop start text
whole text start = take_all (length text - start) (drop start text) (omega (arith, length-drop start text))

pub returns-in_default : goal.returns-in_default
returns-in_default c = (
  λ yes. subst (λ (o : Option Name). IsNamed c.args.text.now o c.args.span) (ap (λ (o : Option (Bor Name)). option_copied o) (sym c.in_default.is)) tt,
  λ named. refl,
)

pub returns-in-Ok : goal.returns-in-Ok
returns-in-Ok c =
    let text = c.args.text.now in
    let start = c.args.span.start in
    let name = c.in-Some.name.now in
    let (left, next) = c.requires in
    let len = c.in-Ok._len in
    let asked = ap (λ (o : Option (Bor Name)). option_copied o) c.in-Some.is in (
      λ t.
          let found = c.in-Ok.ensures.value ∙ ap (λ (k : Token). Ok (k, len)) (c.is_name-found.ensures.0 t) in
          subst (λ (o : Option Name). IsNamed text o c.args.span) (sym asked)
          (as_long left text start c.args.span.end len name next (subst (λ (z : Text). IsNameOf z name len) (whole text start) found)),
      λ named.
          let there : IsNameOf (drop start text) name (c.args.span.end - start) = subst (λ (o : Option Name). IsNamed text o c.args.span) asked named in
          c.is_name-found.ensures.1
          (front-token c.in-Ok.token (token.Name name) len (c.args.span.end - start) (front (drop start text)) (sym (ap (λ (z : Text). front z) (whole text start)) ∙ c.in-Ok.ensures.value) there),
    )

no_token :
    (text : Text) (span : Span) (name : Option (Bor Name)) (asked : Bor Name) (f : TokenFault) → name ≡ Some asked → front (take (length text - span.start) (drop span.start text)) ≡ Err f
    → IsNamed text (option_copied name) span → ⊥
no_token text span name asked f is fault named =
    let there : IsNameOf (drop span.start text) asked.now (span.end - span.start) =
    subst (λ (o : Option Name). IsNamed text o span) (ap (λ (o : Option (Bor Name)). option_copied o) is) named in
    not_both (front (drop span.start text)) f (token.Name asked.now, span.end - span.start) (sym (ap (λ (z : Text). front z) (whole text span.start)) ∙ fault) there

pub returns-in-Err-Byte : goal.returns-in-Err-Byte
returns-in-Err-Byte c = (
  λ yes. absurd (false≢true yes),
  λ named. absurd (no_token c.args.text.now c.args.span _ c.in-Some.name bad_byte c.in-Some.is (rw c.in-Err-Byte.field-0-is at c.in-Err-Byte.ensures.value) named),
)

pub returns-in-Err-Token : goal.returns-in-Err-Token
returns-in-Err-Token c = (
  λ yes. absurd (false≢true yes),
  λ named. absurd (no_token c.args.text.now c.args.span _ c.in-Some.name bad_token c.in-Some.is (rw c.in-Err-Token.field-0-is at c.in-Err-Token.ensures.value) named),
)
