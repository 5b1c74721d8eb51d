-- Where the reader stops, no library goes on.
use Rattle.fb_read.proofs.lemmas.Common.{◌≡◌, Bool, true, false, [], ◌∷◌, ◌++◌, Result, Ok, Err, sym, ap, subst, ◌∙◌, append_assoc, Library, Token, Tokens, Outcome, RuleFault, syntax, too_deep, library, IsLibrary, ended}
use Rattle.fb_read.specs.Fits.{fits_library}
use Rattle.fb_read.specs.Stops.{BeginsNoneThatFits, IsRefusedToken, Stops}
use Rattle.fb_read.proofs.lemmas.lookahead.OneTokenAhead.{IsLeft, shape, Shape, is_read, is_stuck, is_deep}
use Rattle.fb_read.proofs.lemmas.lookahead.LocalLibrary.{local-library}
use Rattle.fb_read.proofs.lemmas.texts.WholeLaws.{answer, parsed}

-- what is refused by its syntax is no library
no-library : (ts left : Tokens) → ended (library ts) ≡ Err (syntax left) → (x : Library) → IsLibrary x ts [] → ⊥
no-library ts left h x l = go (fits_library x) (sym h ∙ parsed ts x l)
  where
    go : (b : Bool) → Err (syntax left) ≡ answer b x → ⊥
    go true e = cc
    go false e = cc

abbrev refused : RuleFault → Result Library RuleFault
refused f = Err f

-- whatever follows the token, it is refused there
refused-on : (before left more : Tokens) (t : Token) → ended (library (before ++ t ∷ left)) ≡ Err (syntax (t ∷ left)) → Shape (library (before ++ t ∷ left))
    → ended (library (before ++ t ∷ more)) ≡ Err (syntax (t ∷ more))
refused-on before left more t h (is_read x rest e) = read rest e
  where
    same-rest : (u : Token) (us : Tokens) → ended (library (before ++ t ∷ left)) ≡ Err (syntax (u ∷ us)) → u ∷ us ≡ t ∷ left
    same-rest u us k = same (sym k ∙ h)
      where
        same : refused (syntax (u ∷ us)) ≡ refused (syntax (t ∷ left)) → u ∷ us ≡ t ∷ left
        same e = cc

    read : (rest : Tokens) → library (before ++ t ∷ left) ≡ Ok (x, rest) → ended (library (before ++ t ∷ more)) ≡ Err (syntax (t ∷ more))
    read [] e = absurd (let k = sym (ap ended e) ∙ h in cc)
    read (u ∷ us) e =
        let w = same-rest u us (ap ended e) in
        ap ended (local-library.looks.same before [] left more t x (e ∙ ap (λ (r : Tokens). Ok (x, r)) w))
refused-on before left more t h (is_stuck rest e) =
    let w : rest ≡ t ∷ left = (let k = sym (ap ended e) ∙ h in cc) in
    ap ended (local-library.looks.refused before [] left more t (e ∙ ap (λ (r : Tokens). Err (syntax r)) w))
refused-on before left more t h (is_deep e) = absurd (let k = sym (ap ended e) ∙ h in cc)

left-of : (ts left : Tokens) (t : Token) → ended (library ts) ≡ Err (syntax (t ∷ left)) → Shape (library ts) → IsLeft (t ∷ left) ts
left-of ts left t h (is_read x rest e) = read rest e
  where
    read : (rest : Tokens) → library ts ≡ Ok (x, rest) → IsLeft (t ∷ left) ts
    read [] e = absurd (let k = sym (ap ended e) ∙ h in cc)
    read (u ∷ us) e =
        let w : u ∷ us ≡ t ∷ left = (let k = sym (ap ended e) ∙ h in cc) in
        subst (λ (r : Tokens). IsLeft r ts) w (local-library.looks.left ts (u ∷ us) x e)
left-of ts left t h (is_stuck rest e) =
    let w : rest ≡ t ∷ left = (let k = sym (ap ended e) ∙ h in cc) in
    subst (λ (r : Tokens). IsLeft r ts) w (local-library.looks.stuck ts rest e)
left-of ts left t h (is_deep e) = absurd (let k = sym (ap ended e) ∙ h in cc)

-- no library begins with the tokens up to the one at which they are refused
stops-at : (ts left : Tokens) (t : Token) → ended (library ts) ≡ Err (syntax (t ∷ left)) → IsRefusedToken t left ts
stops-at ts left t h =
    let w = left-of ts left t h (shape (library ts)) in
    let here : ended (library (w.before ++ t ∷ left)) ≡ Err (syntax (t ∷ left)) = ap (λ (us : Tokens). ended (library us)) w.joined ∙ h in
    record {
      before = w.before;
      joined = w.joined;
      none = λ x more l.
          no-library (w.before ++ t ∷ more) (t ∷ more) (refused-on w.before left more t here (shape (library (w.before ++ t ∷ left)))) x
          (subst (λ (us : Tokens). IsLibrary x us []) (append_assoc w.before (t ∷ []) more) l);
    }

pub stops : (ts left : Tokens) → ended (library ts) ≡ Err (syntax left) → Stops left ts
stops ts [] h = no-library ts [] h
stops ts (t ∷ left) h = stops-at ts left t h

ended-deep : (o : Outcome Library) → ended o ≡ Err too_deep → o ≡ Err too_deep
ended-deep (Ok (y, [])) e = absurd cc
ended-deep (Ok (y, (t ∷ ts))) e = absurd cc
ended-deep (Err f) e = cc

-- no tokens nest too deep
pub none-deep : ended (library []) ≡ Err too_deep → ⊥
none-deep h = local-library.flat (ended-deep (library []) h)

-- what is refused for its nesting is, whatever follows
pub deep-more : (front more : Tokens) → ended (library front) ≡ Err too_deep → ended (library (front ++ more)) ≡ Err too_deep
deep-more front more h = ap ended (local-library.deep front more (ended-deep (library front) h))

-- no library that keeps the limit of nesting begins with tokens that are refused for theirs
pub none-fits : (front : Tokens) → ended (library front) ≡ Err too_deep → BeginsNoneThatFits front
none-fits front h x more l fits =
    let deep : library (front ++ more) ≡ Err too_deep = local-library.deep front more (ended-deep (library front) h) in
    go (fits_library x) fits (sym (ap (λ (o : Outcome Library). ended o) deep) ∙ parsed (front ++ more) x l)
  where
    go : (b : Bool) → b ≡ true → refused too_deep ≡ answer b x → ⊥
    go true f e = cc
    go false f e = cc
