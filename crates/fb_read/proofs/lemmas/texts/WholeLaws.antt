-- A text has one list of tokens, or a first fault; what is read of its tokens is the one library that it declares.
use Rattle.fb_read.proofs.lemmas.Common.{◌≡◌, ℕ, ◌<◌, Bool, true, false, cond, List, [], ◌∷◌, length, drop, Result, Ok, Err, Some, refl, sym, ap, subst, ◌∙◌, inl, inr, arith, Library, Located, Token, Text, skip, start, bad_byte, bad_token, Found, front, Tokens, tokens_of, after_mark, Outcome, RuleFault, syntax, too_deep, library, IsLibrary, ended}
use Rattle.fb_types.proofs.Common.{◌↔◌}
use Rattle.fb_read.specs.declared.error.ReadError.{ReadError}
use Rattle.fb_read.specs.declared.error.ReadError.TheVariants as error
use Rattle.fb_read.specs.Front.{TokenFault}
use Rattle.fb_read.specs.Tokens.{AreTokens, no_more, then_token, IsFirstFault, open_comment, is_here, is_later}
use Rattle.fb_read.specs.Fits.{fits_library}
use Rattle.fb_read.specs.Whole.{most_bytes, IsDerived, IsLibraryText, IsNesting, HasTokenFault, HasTokens, RefusesWhere, IsMemory, IsGrammarFault, DeclaresOne}
use Rattle.fb_read.specs.declared.read.Unread.{Unread}
use Rattle.fb_read.specs.declared.read.Unread.TheVariants as unread
use Rattle.fb_read.specs.declared.refused.ReadFault.TheVariants as fault
use Rattle.fb_read.specs.declared.refused.TextFault.{TextFault}
use Rattle.fb_read.specs.declared.refused.TextFault.TheVariants as text_fault
use Rattle.fb_read.specs.Refusals.{IsFaultAt, IsUnread, IsUnreadOf, IsErrorAt, IsErrorFor, SyntaxIsNoNesting, too_long}
use Rattle.fb_read.proofs.lemmas.tokens.TokenLaws.{first-located, front_empty, tokens-located}
use Rattle.fb_read.proofs.lemmas.declarations.BlocksSound.{library-sound}
use Rattle.fb_read.proofs.lemmas.declarations.BlocksComplete.{library-complete}
use Rattle.fb_read.proofs.lemmas.rules.Lists.{picked}

abbrev at_token : Token × ℕ → Found
at_token p = Ok p

same_token : (p q : Token × ℕ) → at_token p ≡ at_token q → p ≡ q
same_token p q e = cc

-- two readings of one text continue the same way
record Alike (t u : Token) (a b : Text) : Type 0 where
  token_is : t ≡ u
  rest_is : a ≡ b

alike : (z h k a b : Text) (t u : Token) (m n : ℕ) → skip start z ≡ Some h → skip start z ≡ Some k → front h ≡ Ok (t, m) → front k ≡ Ok (u, n) → drop m h ≡ a → drop n k ≡ b → Alike t u a b
alike z h k a b t u m n eh ek et eu da db =
    let here : h ≡ k = cc in
    let p : (t, m) ≡ (u, n) = same_token (t, m) (u, n) (sym et ∙ ap front here ∙ eu) in
    let step : m ≡ n = ap (λ (q : Token × ℕ). q.1) p in
    record { token_is = ap (λ (q : Token × ℕ). q.0) p; rest_is = sym da ∙ (rw (step, here) db) }

no_front : (p : Token × ℕ) (f : TokenFault) (o : Found) → o ≡ Ok p → o ≡ Err f → ⊥
no_front p f o e g = cc

-- a text that is at its end has no token
end-not-token : (z here : Text) (t : Token) (n : ℕ) → skip start z ≡ Some [] → skip start z ≡ Some here → front here ≡ Ok (t, n) → ⊥
end-not-token z here t n h k e = let none : here ≡ [] = cc in no_front (t, n) bad_byte (front []) (rw none at e) front_empty

tokens-unique : {ts us : Tokens} {z : Text} → AreTokens ts z → AreTokens us z → ts ≡ us
tokens-unique (no_more h) (no_more k) = refl
tokens-unique {z = z} (no_more h) (then_token {t = t} {n = n} {here = here} k e d a) = absurd (end-not-token z here t n h k e)
tokens-unique {z = z} (then_token {t = t} {n = n} {here = here} h e d a) (no_more k) = absurd (end-not-token z here t n k h e)
tokens-unique {z = z} (then_token {t = t} {n = m} {ts = ts} {here = p} {rest = a} h e d r) (then_token {t = u} {n = n} {ts = us} {here = q} {rest = b} k f g s) =
    let w = alike z p q a b t u m n h k e f d g in
    let more : ts ≡ us = tokens-unique r (subst (λ (x : Text). AreTokens us x) (sym w.rest_is) s) in
    rw (w.token_is, more) refl

no-fault : {ts : Tokens} {z : Text} {f : TokenFault} → AreTokens ts z → IsFirstFault f z → ⊥
no-fault (no_more h) (open_comment f k) = cc
no-fault (no_more h) (is_here k g) = cc
no-fault {z = z} (no_more h) (is_later {t = t} {n = n} {here = here} k e d l) = end-not-token z here t n h k e
no-fault (then_token h e d a) (open_comment f k) = cc
no-fault {z = z} {f = f} (then_token {t = t} {n = n} {here = p} h e d a) (is_here {b = b} {here = q} k g) =
    let here : p ≡ b ∷ q = cc in no_front (t, n) f (front (b ∷ q)) (rw here at e) g
no-fault {z = z} {f = f} (then_token {t = t} {n = m} {here = p} {rest = a} h e d r) (is_later {t = u} {n = n} {here = q} {rest = b} k g c l) =
    let w = alike z p q a b t u m n h k e g d c in no-fault r (subst (λ (x : Text). IsFirstFault f x) (sym w.rest_is) l)

same_fault : (f g : TokenFault) (o : Found) → o ≡ Err f → o ≡ Err g → f ≡ g
same_fault f g o h k = cc

fault-unique : {f g : TokenFault} {z : Text} → IsFirstFault f z → IsFirstFault g z → f ≡ g
fault-unique (open_comment a h) (open_comment b k) = a ∙ sym b
fault-unique (open_comment a h) (is_here k e) = absurd cc
fault-unique (open_comment a h) (is_later k e d l) = absurd cc
fault-unique (is_here h e) (open_comment b k) = absurd cc
fault-unique {f = f} {g = g} (is_here {b = a} {here = p} h e) (is_here {b = b} {here = q} k d) =
    let here : a ∷ p ≡ b ∷ q = cc in same_fault f g (front (b ∷ q)) (rw here at e) d
fault-unique {f = f} (is_here {b = a} {here = p} h e) (is_later {t = t} {n = n} {here = q} k d r l) =
    let here : q ≡ a ∷ p = cc in absurd (no_front (t, n) f (front (a ∷ p)) (rw here at d) e)
fault-unique (is_later h e d l) (open_comment b k) = absurd cc
fault-unique {g = g} (is_later {t = t} {n = n} {here = q} k d r l) (is_here {b = a} {here = p} h e) =
    let here : q ≡ a ∷ p = cc in absurd (no_front (t, n) g (front (a ∷ p)) (rw here at d) e)
fault-unique {g = g} {z = z} (is_later {t = t} {n = m} {here = p} {rest = a} h e d l) (is_later {t = u} {n = n} {here = q} {rest = b} k f c r) =
    let w = alike z p q a b t u m n h k e f d c in fault-unique l (subst (λ (x : Text). IsFirstFault g x) (sym w.rest_is) r)

-- ---- what is parsed of the tokens

ended-ok : (o : Outcome Library) (x : Library) → ended o ≡ Ok x → o ≡ Ok (x, [])
ended-ok (Ok (y, [])) x e = let same : y ≡ x = cc in rw same refl
ended-ok (Ok (y, (t ∷ ts))) x e = absurd cc
ended-ok (Err fault) x e = absurd cc

abbrev pub answer : Bool → Library → Result Library RuleFault
answer b x = cond b (Ok x) (Err too_deep)

-- what is derived is parsed if it keeps the limit of nesting, and refused for its nesting if it does not
pub parsed : (ts : Tokens) (x : Library) → IsLibrary x ts [] → ended (library ts) ≡ answer (fits_library x) x
parsed ts x l = rw (library-complete x ts [] l refl) (go (fits_library x))
  where
    go : (b : Bool) → ended (picked b x []) ≡ answer b x
    go true = refl
    go false = refl

pub parsed-derived : (ts : Tokens) (x : Library) → ended (library ts) ≡ Ok x → IsLibrary x ts []
parsed-derived ts x h = library-sound ts x [] (ended-ok (library ts) x h)

pub parsed-fits : (ts : Tokens) (x : Library) → ended (library ts) ≡ Ok x → fits_library x ≡ true
parsed-fits ts x h = go (fits_library x) (sym (parsed ts x (parsed-derived ts x h)) ∙ h)
  where
    go : (b : Bool) → answer b x ≡ Ok x → b ≡ true
    go true e = refl
    go false e = absurd cc

parsed-complete : (ts : Tokens) (x : Library) → IsLibrary x ts [] → fits_library x ≡ true → ended (library ts) ≡ answer true x
parsed-complete ts x l fits = parsed ts x l ∙ ap (λ (b : Bool). answer b x) fits

same_answer : (x y : Library) → answer true x ≡ answer true y → x ≡ y
same_answer x y e = cc

pub declares-one : DeclaresOne
declares-one text x y a b =
    let same = tokens-unique a.derived.read b.derived.read in
    let other : IsLibrary y a.derived.tokens [] = subst (λ (ts : Tokens). IsLibrary y ts []) (sym same) b.derived.derived in
    same_answer x y (sym (parsed-complete a.derived.tokens x a.derived.derived a.fits) ∙ parsed-complete a.derived.tokens y other b.fits)

-- the tokens of a text are refused for one thing
pub syntax-is-no-nesting : SyntaxIsNoNesting
syntax-is-no-nesting text begin end placed is located deep =
    let same : tokens_of is.placed ≡ tokens_of placed = tokens-unique (tokens-located is.located) (tokens-located located) in
    let no : ◌≡◌ {A = Result Library RuleFault} (Err (syntax is.left)) (Err too_deep) = sym is.refused ∙ ap (λ ts. ended (library ts)) same ∙ deep in
    cc

-- ---- what a refusal says

not_parsed : (ts : Tokens) (f : RuleFault) (x : Library) → ended (library ts) ≡ Err f → IsLibrary x ts [] → f ≡ too_deep
not_parsed ts f x h l = go (fits_library x) (sym h ∙ parsed ts x l)
  where
    go : (b : Bool) → Err f ≡ answer b x → f ≡ too_deep
    go true e = absurd cc
    go false e = cc

not_fitting : (ts : Tokens) (f : RuleFault) (x : Library) → ended (library ts) ≡ Err f → IsLibrary x ts [] → fits_library x ≡ true → ⊥
not_fitting ts f x h l fits = go (sym h ∙ parsed-complete ts x l fits)
  where
    go : Err f ≡ answer true x → ⊥
    go e = cc

abbrev pub Nothing : Text → Type 0
Nothing text = (x : Library) → IsLibraryText text x → ⊥

-- nothing is derived
abbrev Barren : Text → Type 0
Barren text = (x : Library) → IsDerived text x → ⊥

at-tokens : (text : Text) (ts : Tokens) (x : Library) → AreTokens ts (after_mark text) → IsDerived text x → IsLibrary x ts []
at-tokens text ts x a l = subst (λ (us : Tokens). IsLibrary x us []) (tokens-unique l.read a) l.derived

pub nothing-parsed : (text : Text) (ts : Tokens) (f : RuleFault) → AreTokens ts (after_mark text) → ended (library ts) ≡ Err f → Nothing text
nothing-parsed text ts f a h x l = not_fitting ts f x h (at-tokens text ts x a l.derived) l.fits

too-deep : (text : Text) (ts : Tokens) (f : RuleFault) (x : Library) → AreTokens ts (after_mark text) → ended (library ts) ≡ Err f → IsDerived text x → f ≡ too_deep
too-deep text ts f x a h l = not_parsed ts f x h (at-tokens text ts x a l)

pub barren-faulty : (text : Text) (f : TokenFault) → IsFirstFault f (after_mark text) → Barren text
barren-faulty text f h x l = no-fault l.read h

pub nothing-faulty : (text : Text) (f : TokenFault) → IsFirstFault f (after_mark text) → Nothing text
nothing-faulty text f h x l = no-fault l.derived.read h

-- ---- what is read, if something is

pub read-token : (text : Text) (x : Library) (e : ReadError) (f : TokenFault) → IsLibraryText text x → RefusesWhere (Ok x) e (HasTokenFault f text)
read-token text x e f l = record { only = λ h. absurd cc; always = λ h. absurd (no-fault l.derived.read h.first) }

pub read-short : (text : Text) (x : Library) → IsLibraryText text x → most_bytes < length text → ⊥
read-short text x l long = let short = l.derived.short in omega arith

-- ---- what is refused

-- the refusal of a text, with its number
module _ (text : Text) where
  none-at : (why : TextFault) (begin end : ℕ) → IsFaultAt why text begin end → Nothing text
  none-at text_fault.Byte begin end h = nothing-faulty text bad_byte (first-located h.first)
  none-at text_fault.Token begin end h = nothing-faulty text bad_token (first-located h.first)
  none-at text_fault.Syntax begin end h = nothing-parsed text (tokens_of h.placed) (syntax h.left) (tokens-located h.located) h.refused
  none-at text_fault.TooLong begin end h = λ x l. let long = h.long in read-short text x l long
  none-at text_fault.Nesting begin end h = nothing-parsed text (tokens_of h.placed) too_deep (tokens-located h.located) h.refused

  -- the text is refused for what its tokens are
  pub unread-of : (ps : List Located) (o : Unread) → IsUnreadOf text ps o → IsUnread text o
  unread-of ps (unread.Fault e) h = h
  unread-of ps (unread.Nesting left) h = (ps, h)

  pub is-none : (o : Unread) (e : ReadError) → IsUnread text o → IsErrorFor text o e → ¬ IsMemory e → Nothing text
  is-none (unread.Fault fault.Memory) e h w n = absurd (n (subst IsMemory (sym w) tt))
  is-none (unread.Fault (fault.Refused r)) e h w n = none-at r.fault r.start r.end h
  is-none (unread.Nesting left) e h w n = nothing-parsed text (tokens_of h.0) too_deep (tokens-located h.1.located) h.1.refused

  nesting-at : (why : TextFault) (begin end : ℕ) (e : ReadError) → IsFaultAt why text begin end → IsErrorAt why text begin e → (x : Library) → IsDerived text x → IsNesting e
  nesting-at text_fault.Byte begin end e h w x l = absurd (barren-faulty text bad_byte (first-located h.first) x l)
  nesting-at text_fault.Token begin end e h w x l = absurd (barren-faulty text bad_token (first-located h.first) x l)
  nesting-at text_fault.Syntax begin end e h w x l = absurd (no-syntax h.left (too-deep text (tokens_of h.placed) (syntax h.left) x (tokens-located h.located) h.refused l))
    where
      no-syntax : (left : Tokens) → syntax left ≡ too_deep → ⊥
      no-syntax left g = cc
  nesting-at text_fault.TooLong begin end e h w x l = absurd (let long = h.long in let short = l.short in omega arith)
  nesting-at text_fault.Nesting begin end e h w x l = subst IsNesting (sym w) tt

  pub is-nesting : (o : Unread) (e : ReadError) → IsUnread text o → IsErrorFor text o e → ¬ IsMemory e → (x : Library) → IsDerived text x → IsNesting e
  is-nesting (unread.Fault fault.Memory) e h w n = absurd (n (subst IsMemory (sym w) tt))
  is-nesting (unread.Fault (fault.Refused r)) e h w n = nesting-at r.fault r.start r.end e h w
  is-nesting (unread.Nesting left) e h w n = λ x l. subst IsNesting (sym w) tt

  grammar-at : (why : TextFault) (begin end : ℕ) (e : ReadError) → IsFaultAt why text begin end → IsErrorAt why text begin e → IsGrammarFault e → HasTokens text
  grammar-at text_fault.Byte begin end e h w g = absurd (subst IsGrammarFault w g)
  grammar-at text_fault.Token begin end e h w g = absurd (subst IsGrammarFault w g)
  grammar-at text_fault.Syntax begin end e h w g = record { short = h.short; tokens = tokens_of h.placed; read = tokens-located h.located }
  grammar-at text_fault.TooLong begin end e h w g = absurd (subst IsGrammarFault w g)
  grammar-at text_fault.Nesting begin end e h w g = record { short = h.short; tokens = tokens_of h.placed; read = tokens-located h.located }

  pub is-grammar : (o : Unread) (e : ReadError) → IsUnread text o → IsErrorFor text o e → IsGrammarFault e → HasTokens text
  is-grammar (unread.Fault fault.Memory) e h w g = absurd (subst IsGrammarFault w g)
  is-grammar (unread.Fault (fault.Refused r)) e h w g = grammar-at r.fault r.start r.end e h w g
  is-grammar (unread.Nesting left) e h w g = record { short = h.1.short; tokens = tokens_of h.0; read = tokens-located h.1.located }

  -- ---- a fault of a byte or of a token

  abbrev Failed : ReadError → Result Library ReadError
  Failed e = Err e

  abbrev AtByte : ReadError → Type 0
  AtByte e = RefusesWhere (Err e) error.Byte (HasTokenFault bad_byte text)

  abbrev AtToken : ReadError → Type 0
  AtToken e = RefusesWhere (Err e) error.Token (HasTokenFault bad_token text)

  -- another refusal, where the fault is not there
  other : (e g : ReadError) (P : Type 0) → (e ≡ g → ⊥) → (P → ⊥) → RefusesWhere (Err e) g P
  other e g P apart none = record { only = λ h. absurd (apart (inside e g h)); always = λ p. absurd (none p) }
    where
      inside : (e g : ReadError) → Failed e ≡ Failed g → e ≡ g
      inside e g h = cc

  this : (e : ReadError) (P : Type 0) → P → RefusesWhere (Err e) e P
  this e P p = record { only = λ h. p; always = λ p. inl refl }

  memory : (g : ReadError) (P : Type 0) → (error.Memory ≡ g → ⊥) → RefusesWhere (Err error.Memory) g P
  memory g P apart = record { only = λ h. absurd (apart (inside g h)); always = λ p. inr refl }
    where
      inside : (g : ReadError) → Failed error.Memory ≡ Failed g → error.Memory ≡ g
      inside g h = cc

  with-tokens : (ts : Tokens) (f : TokenFault) → AreTokens ts (after_mark text) → HasTokenFault f text → ⊥
  with-tokens ts f a h = no-fault a h.first

  too-much : (f : TokenFault) → most_bytes < length text → HasTokenFault f text → ⊥
  too-much f long h = let short = h.short in omega arith

  byte-at : (why : TextFault) (begin end : ℕ) (e : ReadError) → IsFaultAt why text begin end → IsErrorAt why text begin e → AtByte e
  byte-at text_fault.Byte begin end e h w = subst AtByte (sym w) (this error.Byte _ (record { short = h.short; first = first-located h.first }))
  byte-at text_fault.Token begin end e h w = subst AtByte (sym w) (other error.Token error.Byte _ (λ g. cc) (λ k. absurd (apart (fault-unique (first-located h.first) k.first))))
    where
      apart : bad_token ≡ bad_byte → ⊥
      apart g = cc
  byte-at text_fault.Syntax begin end e h w = subst AtByte (sym w) (other _ error.Byte _ (λ g. cc) (with-tokens (tokens_of h.placed) bad_byte (tokens-located h.located)))
  byte-at text_fault.TooLong begin end e h w = subst AtByte (sym w) (other error.TooLong error.Byte _ (λ g. cc) (too-much bad_byte h.long))
  byte-at text_fault.Nesting begin end e h w = subst AtByte (sym w) (other error.Nesting error.Byte _ (λ g. cc) (with-tokens (tokens_of h.placed) bad_byte (tokens-located h.located)))

  pub is-byte : (o : Unread) (e : ReadError) → IsUnread text o → IsErrorFor text o e → AtByte e
  is-byte (unread.Fault fault.Memory) e h w = subst AtByte (sym w) (memory error.Byte _ (λ g. cc))
  is-byte (unread.Fault (fault.Refused r)) e h w = byte-at r.fault r.start r.end e h w
  is-byte (unread.Nesting left) e h w = subst AtByte (sym w) (other error.Nesting error.Byte _ (λ g. cc) (with-tokens (tokens_of h.0) bad_byte (tokens-located h.1.located)))

  token-at : (why : TextFault) (begin end : ℕ) (e : ReadError) → IsFaultAt why text begin end → IsErrorAt why text begin e → AtToken e
  token-at text_fault.Byte begin end e h w = subst AtToken (sym w) (other error.Byte error.Token _ (λ g. cc) (λ k. absurd (apart (fault-unique (first-located h.first) k.first))))
    where
      apart : bad_byte ≡ bad_token → ⊥
      apart g = cc
  token-at text_fault.Token begin end e h w = subst AtToken (sym w) (this error.Token _ (record { short = h.short; first = first-located h.first }))
  token-at text_fault.Syntax begin end e h w = subst AtToken (sym w) (other _ error.Token _ (λ g. cc) (with-tokens (tokens_of h.placed) bad_token (tokens-located h.located)))
  token-at text_fault.TooLong begin end e h w = subst AtToken (sym w) (other error.TooLong error.Token _ (λ g. cc) (too-much bad_token h.long))
  token-at text_fault.Nesting begin end e h w = subst AtToken (sym w) (other error.Nesting error.Token _ (λ g. cc) (with-tokens (tokens_of h.placed) bad_token (tokens-located h.located)))

  pub is-token : (o : Unread) (e : ReadError) → IsUnread text o → IsErrorFor text o e → AtToken e
  is-token (unread.Fault fault.Memory) e h w = subst AtToken (sym w) (memory error.Token _ (λ g. cc))
  is-token (unread.Fault (fault.Refused r)) e h w = token-at r.fault r.start r.end e h w
  is-token (unread.Nesting left) e h w = subst AtToken (sym w) (other error.Nesting error.Token _ (λ g. cc) (with-tokens (tokens_of h.0) bad_token (tokens-located h.1.located)))

  -- ---- a text that is too long

  long-at : (why : TextFault) (begin end : ℕ) (e : ReadError) → IsFaultAt why text begin end → IsErrorAt why text begin e → (Failed e ≡ Failed error.TooLong) ↔ (most_bytes < length text)
  long-at text_fault.Byte begin end e h w = (λ g. absurd cc, λ long. absurd (let short = h.short in omega arith))
  long-at text_fault.Token begin end e h w = (λ g. absurd cc, λ long. absurd (let short = h.short in omega arith))
  long-at text_fault.Syntax begin end e h w = (λ g. absurd cc, λ long. absurd (let short = h.short in omega arith))
  long-at text_fault.TooLong begin end e h w = (λ g. h.long, λ long. ap Failed w)
  long-at text_fault.Nesting begin end e h w = (λ g. absurd cc, λ long. absurd (let short = h.short in omega arith))

  pub is-too-long : (o : Unread) (e : ReadError) → IsUnread text o → IsErrorFor text o e → (most_bytes < length text → o ≡ unread.Fault too_long) → (Failed e ≡ Failed error.TooLong) ↔ (most_bytes < length text)
  is-too-long (unread.Fault fault.Memory) e h w long = (λ g. absurd cc, λ l. absurd (let g = long l in cc))
  is-too-long (unread.Fault (fault.Refused r)) e h w long = long-at r.fault r.start r.end e h w
  is-too-long (unread.Nesting left) e h w long = (λ g. absurd cc, λ l. absurd (let short = h.1.short in omega arith))
