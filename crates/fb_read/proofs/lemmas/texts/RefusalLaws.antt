-- What is parsed of a text's tokens, or the refusal of the text.
use Rattle.fb_read.proofs.lemmas.Common.{◌≡◌, ℕ, zero, suc, ◌-◌, ◌<◌, ◌≤◌, Bool, true, false, List, [], ◌∷◌, ◌++◌, length, take, drop, Ok, Err, refl, sym, ap, subst, ◌∙◌, arith, length-take, take-append-drop, take_all, Library, Located, Text, Tokens, tokens_of, after_mark, AreLocated, syntax, too_deep, library, ended, IsDeepLen}
use Rattle.fb_types.proofs.Common.{map-append, nil_from_length, take-take, IsTrue, ◌↔◌}
use Rattle.fb_read.specs.declared.refused.ReadFault.{ReadFault}
use Rattle.fb_read.specs.declared.refused.ReadFault.TheVariants as fault
use Rattle.fb_read.specs.declared.refused.Refusal.{Refusal}
use Rattle.fb_read.specs.declared.refused.TextFault.{TextFault}
use Rattle.fb_read.specs.declared.refused.TextFault.TheVariants as text_fault
use Rattle.fb_read.specs.Whole.{most_bytes, IsLibraryText}
use Rattle.fb_read.specs.Refusals.{IsAtNext, IsFaultAt, IsFirstDeep, IsRefused, IsSameFault, IsTooDeep}
use Rattle.fb_read.proofs.lemmas.tokens.TokenLaws.{tokens-located}
use Rattle.fb_read.proofs.lemmas.texts.WholeLaws.{parsed-derived, parsed-fits}
use Rattle.fb_read.proofs.lemmas.texts.StopLaws.{deep-more, none-deep, none-fits, stops}

module _ (text : Text) (ps : List Located) (short : length text ≤ most_bytes) (a : AreLocated text ps (after_mark text)) where
  pub whole-declared : (x : Library) (left : Tokens) → library (tokens_of ps) ≡ Ok (x, left) → length left ≡ 0 → IsLibraryText text x
  whole-declared x left h none =
      let e : ended (library (tokens_of ps)) ≡ Ok x = ap ended h ∙ ap (λ (l : Tokens). ended (Ok (x, l))) (nil_from_length left none) in
      record { derived = record { short = short; tokens = tokens_of ps; read = tokens-located a; derived = parsed-derived (tokens_of ps) x e }; fits = parsed-fits (tokens_of ps) x e }

  pub stuck : (left : Tokens) (e : ReadFault) → ended (library (tokens_of ps)) ≡ Err (syntax left) → IsAtNext text (drop (length ps - length left) ps) text_fault.Syntax e → IsRefused text e
  stuck left fault.Memory h n = tt
  stuck left (fault.Refused r) h n = subst (λ (why : TextFault). IsFaultAt why text r.start r.end) (sym n.0) (record {
    short = short;
    placed = ps;
    located = a;
    left = left;
    refused = h;
    stops = stops (tokens_of ps) left h;
    next = n.1;
  })

  pub over-deep : (n k : ℕ) (e : ReadFault) → IsTooDeep ps → IsFirstDeep ps n → k ≡ n - 1 → IsAtNext text (drop k ps) text_fault.Nesting e → IsRefused text e
  over-deep n k fault.Memory h d is w = tt
  over-deep n k (fault.Refused r) h d is w =
      let some : 0 < n = d.0.0 in
      let same : suc k ≡ n = omega arith in
      let up_to : IsTooDeep (take (suc k) ps) = subst (λ (m : ℕ). IsTooDeep (take m ps)) (sym same) d.0.2 in
      subst (λ (why : TextFault). IsFaultAt why text r.start r.end) (sym w.0) (record {
        short = short;
        placed = ps;
        located = a;
        refused = h;
        index = k;
        some = omega (arith, d.0.1);
        next = w.1;
        up_to = up_to;
        first = λ t. d.1 (subst (λ (m : ℕ). IsTooDeep (take m ps)) is t);
        none = none-fits (tokens_of (take (suc k) ps)) up_to;
      })

  pub left-over : (x : Library) (left : Tokens) (e : ReadFault) → library (tokens_of ps) ≡ Ok (x, left) → (length left ≡ 0 → ⊥) → IsAtNext text (drop (length ps - length left) ps) text_fault.Syntax e → IsRefused text e
  left-over x [] e h some n = absurd (some refl)
  left-over x (t ∷ ts) e h some n = stuck (t ∷ ts) e (ap ended h) n

  pub refused-rule : (left : Tokens) (e : ReadFault) → library (tokens_of ps) ≡ Err (syntax left) → IsAtNext text (drop (length ps - length left) ps) text_fault.Syntax e → IsRefused text e
  refused-rule left e h n = stuck left e (ap ended h) n

-- what is expected there makes no difference
pub same-refused : (text : Text) (r : Refusal) (e : ReadFault) → IsFaultAt r.fault text r.start r.end → IsSameFault r e → IsRefused text e
same-refused text r fault.Memory h w = tt
same-refused text r (fault.Refused s) h w = rw (w.0, w.1, w.2) h

-- ---- tokens that nest too deep

pub deep-len : (ps : List Located) (n : ℕ) → n ≤ length ps → IsTooDeep (take n ps) → IsDeepLen ps n
deep-len ps zero fits h = absurd (none-deep h)
deep-len ps (suc n) fits h = (omega arith, fits, h)

pub all-deep : (ps : List Located) → IsTooDeep ps → IsDeepLen ps (length ps)
all-deep ps h = deep-len ps (length ps) (omega arith) (subst (λ (qs : List Located). IsTooDeep qs) (sym (take_all (length ps) ps (omega arith))) h)

-- if the first tokens nest too deep, all do
pub front-deep : (ps : List Located) (n : ℕ) → IsTooDeep (take n ps) → IsTooDeep ps
front-deep ps n h =
    let joined : tokens_of (take n ps) ++ tokens_of (drop n ps) ≡ tokens_of ps = sym (map-append (λ (p : Located). p.token) (take n ps) (drop n ps)) ∙ ap (λ (qs : List Located). tokens_of qs) (take-append-drop n ps) in
    subst (λ (ts : Tokens). ended (library ts) ≡ Err too_deep) joined (deep-more (tokens_of (take n ps)) (tokens_of (drop n ps)) h)

-- the first that nests too deep among the first tokens is the first of all
pub first-front : (ps : List Located) (k n : ℕ) → IsFirstDeep (take k ps) n → IsFirstDeep ps n
first-front ps k n d =
    let fits : n ≤ length (take k ps) = d.0.1 in
    let len = length-take k ps in
    let deep : IsTooDeep (take n ps) = subst (λ (qs : List Located). IsTooDeep qs) (take-take n k ps (omega arith)) d.0.2 in
    ((d.0.0, omega arith, deep), λ t. d.1 (subst (λ (qs : List Located). IsTooDeep qs) (sym (take-take (n - 1) k ps (omega arith))) t))

pub first-deep : (ps : List Located) (n : ℕ) (b : Bool) → IsDeepLen ps n → IsTrue b ↔ IsTooDeep (take (n - 1) ps) → b ≡ false → IsFirstDeep ps n
first-deep ps n b d w none = (d, λ t. let some : b ≡ true = w.1 t in let e : true ≡ false = sym some ∙ none in absurd cc)

pub deep-shorter : (ps : List Located) (n : ℕ) (b : Bool) → IsDeepLen ps n → IsTrue b ↔ IsTooDeep (take (n - 1) ps) → b ≡ true → IsDeepLen ps (n - 1)
deep-shorter ps n b d w some = let fits : n ≤ length ps = d.1 in deep-len ps (n - 1) (omega arith) (w.0 some)

module _ (ps : List Located) where
  pub read-not-deep : (x : Library) (left : Tokens) → library (tokens_of ps) ≡ Ok (x, left) → IsTrue false ↔ IsTooDeep ps
  read-not-deep x left h = (λ t. let e : false ≡ true = t in absurd cc, λ d. absurd (go left (sym (ap ended h) ∙ d)))
    where
      go : (left : Tokens) → ended (Ok (x, left)) ≡ Err too_deep → ⊥
      go [] e = cc
      go (t ∷ ts) e = cc

  pub stuck-not-deep : (left : Tokens) → library (tokens_of ps) ≡ Err (syntax left) → IsTrue false ↔ IsTooDeep ps
  stuck-not-deep left h = (λ t. let e : false ≡ true = t in absurd cc, λ d. absurd (go (sym (ap ended h) ∙ d)))
    where
      go : ended (Err (syntax left)) ≡ Err too_deep → ⊥
      go e = cc

  pub deep-is : library (tokens_of ps) ≡ Err too_deep → IsTrue true ↔ IsTooDeep ps
  deep-is h = (λ t. ap ended h, λ d. refl)
