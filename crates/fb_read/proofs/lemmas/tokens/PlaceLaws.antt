-- Where a refusal shows: in the text, after its byte order mark; and what the text up to a token that nests too deep is.
use Rattle.fb_read.proofs.lemmas.Common.{ℕ, suc, ◌+◌, ◌-◌, ◌≤◌, Bool, true, false, cond, List, [], ◌∷◌, length, take, drop, ap, arith, length-drop, length-take, Library, Located, Text, start, AreLocated, too_deep, after_mark, tokens_of}
use Rattle.fb_read.specs.declared.refused.TextFault.{TextFault}
use Rattle.fb_read.specs.declared.refused.TextFault.TheVariants as text_fault
use Rattle.fb_read.specs.Front.{TokenFault}
use Rattle.fb_read.specs.Located.{IsFirstFaultAt, open_comment, is_here, is_later}
use Rattle.fb_read.specs.Refusals.{IsFaultAt, IsNestingAt, IsNext}
use Rattle.fb_read.specs.Whole.{HasTokens, IsLibraryText}
use Rattle.fb_read.proofs.lemmas.tokens.TextEnds.{end-length, skip-end}
use Rattle.fb_read.proofs.lemmas.tokens.PrefixLaws.{has_mark, next-after, tokens-before}
use Rattle.fb_read.proofs.lemmas.texts.WholeLaws.{nothing-parsed}

-- these bytes are in the text, after its byte order mark
pub record IsInside (text : Text) (begin end : ℕ) : Type 0 where
  pub after : length text ≤ begin + length (after_mark text)
  pub ordered : begin ≤ end
  pub within : end ≤ length text

fault-after : {f : TokenFault} {text : Text} {k : ℕ} {z : Text} → IsFirstFaultAt f text k z → length text ≤ k + length z
fault-after {text = text} {k = k} (open_comment f h there none inside) = omega (arith, length-drop k text)
fault-after {text = text} {k = k} {z = z} (is_here {b = b} {here = here} h e d) =
    let size = ap (λ (y : Text). length y) d in omega (arith, length-drop k text, end-length (b ∷ here) z (skip-end start z (b ∷ here) h))
fault-after {text = text} {k = k} {z = z} (is_later {n = n} {here = here} {rest = rest} h e d l) =
    let size = ap (λ (y : Text). length y) d in omega (arith, fault-after l, length-drop n here, end-length here z (skip-end start z here h))

-- the mark has three bytes
mark-length : (text : Text) → length text ≤ 3 + length (after_mark text)
mark-length text = go (has_mark text)
  where
    go : (b : Bool) → length text ≤ 3 + length (cond b (drop 3 text) text)
    go true = omega (arith, length-drop 3 text)
    go false = omega arith

next-inside : (text : Text) (k begin end : ℕ) (ps : List Located) → AreLocated text ps (after_mark text) → IsNext (drop k ps) text begin end → IsInside text begin end
next-inside text k begin end ps a x = go (drop k ps) x (next-after text k begin end ps (after_mark text) a x)
  where
    go : (qs : List Located) → IsNext qs text begin end → length text ≤ begin + length (after_mark text) → IsInside text begin end
    go [] w l = record { after = l; ordered = omega (arith, w.0, w.1); within = omega (arith, w.1) }
    go (q ∷ qs) w l = record { after = l; ordered = omega (arith, w.2); within = w.3 }

pub inside : (why : TextFault) (text : Text) (begin end : ℕ) → IsFaultAt why text begin end → IsInside text begin end
inside text_fault.Byte text begin end h = record { after = fault-after h.first; ordered = omega (arith, h.one); within = h.within }
inside text_fault.Token text begin end h = record { after = fault-after h.first; ordered = omega (arith, h.some); within = h.within }
inside text_fault.Syntax text begin end h = next-inside text (length h.placed - length h.left) begin end h.placed h.located h.next
inside text_fault.TooLong text begin end h = record {
  after = omega (arith, h.long, h.begin_is, mark-length text);
  ordered = omega (arith, h.begin_is, h.end_is);
  within = omega (arith, h.long, h.end_is);
}
inside text_fault.Nesting text begin end h = next-inside text h.index begin end h.placed h.located h.next

-- the text up to the end of the token that nests too deep has tokens, which are those of no library
pub tokens-up-to : (text : Text) (begin end : ℕ) → IsNestingAt text begin end → HasTokens (take end text)
tokens-up-to text begin end h = record {
  short = omega (arith, length-take end text, h.short);
  tokens = tokens_of (take (suc h.index) h.placed);
  read = tokens-before text h.placed h.index begin end h.located h.some h.next;
}

pub nothing-up-to : (text : Text) (begin end : ℕ) → IsNestingAt text begin end → (library : Library) → IsLibraryText (take end text) library → ⊥
nothing-up-to text begin end h =
    nothing-parsed (take end text) (tokens_of (take (suc h.index) h.placed)) too_deep (tokens-before text h.placed h.index begin end h.located h.some h.next) h.up_to
