-- The name at the first of the tokens that are left.
use Rattle.fb_types.proofs.Common.{◌≡◌, ◌-◌, ℕ, List, [], ◌∷◌, length, drop, Ok, Err, sym, ap, ◌∙◌, arith, drop_all, Name}
use Rattle.fb_read.specs.Blank.{Text}
use Rattle.fb_read.specs.Front.{Found, bad_byte, front}
use Rattle.fb_read.specs.Refusals.{IsNext}
use Rattle.fb_read.specs.declared.token.Located.{Located}
use Rattle.fb_read.specs.declared.token.Token.{Token}
use Rattle.fb_read.specs.declared.token.Token.TheVariants as token
use Rattle.fb_read.proofs.lemmas.tokens.TokenLaws.{front_empty}
use Rattle.fb_read_positions.specs.Spans.{IsNameOf}

abbrev found : Token × ℕ → Found
found p = Ok p

same-found : (p q : Token × ℕ) → found p ≡ found q → p ≡ q
same-found p q e = cc

not_both : (o : Found) → o ≡ Err bad_byte → (p : Token × ℕ) → o ≡ Ok p → ⊥
not_both o h p e = cc

-- one token is at the front of a text
pub front-token : (t u : Token) (m n : ℕ) (o : Found) → o ≡ Ok (t, m) → o ≡ Ok (u, n) → t ≡ u
front-token t u m n o h k = ap (λ (q : Token × ℕ). q.0) (same-found (t, m) (u, n) (sym h ∙ k))

-- a token that is at these bytes is as long as they are
pub as_long : (left : List Located) (text : Text) (start end len : ℕ) (n : Name) → IsNext left text start end → IsNameOf (drop start text) n len → IsNameOf (drop start text) n (end - start)
as_long [] text start end len n next named =
    absurd (not_both (front (drop start text)) (ap (λ (y : Text). front y) (ap (λ (k : ℕ). drop k text) next.0 ∙ drop_all (length text) text (omega arith)) ∙ front_empty) (token.Name n, len) named)
as_long (p ∷ ps) text start end len n next named =
    let same : (p.token, end - start) ≡ (token.Name n, len) = same-found (p.token, end - start) (token.Name n, len) (sym next.1 ∙ named) in
    named ∙ ap (λ (m : ℕ). found (token.Name n, m)) (sym (ap (λ (q : Token × ℕ). q.1) same))
