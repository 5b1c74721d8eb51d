-- A text is read a token at a time.
use Rattle.fb_read.proofs.lemmas.Common.{◌≡◌, ℕ, ◌+◌, ◌-◌, ◌<◌, ◌≤◌, List, [], ◌∷◌, ◌++◌, length, drop, Some, None, Ok, Err, refl, sym, subst, ap, ◌∙◌, append_assoc, append-nil, arith, length-drop, Located, Text, at, skip, start, bad_byte, bad_token, front, tokens_of, after_mark, AreLocated}
use Rattle.std.proofs.lemmas.List.{drop-drop, get_or-drop, nil_from_length}
use Rattle.fb_read.specs.declared.front.LexFault.{LexFault}
use Rattle.fb_read.specs.declared.front.LexFault.TheVariants as fault
use Rattle.fb_read.specs.declared.refused.ReadFault.{ReadFault}
use Rattle.fb_read.specs.Front.{TokenFault, Gives}
use Rattle.fb_read.specs.Tokens.{AreTokens, no_more, then_token, IsFirstFault, open_comment, is_here, is_later}
use Rattle.fb_read.specs.declared.refused.TextFault.TheVariants as text_fault
use Rattle.fb_read.specs.Located.{IsEnd, IsFirstFaultAt}
use Rattle.fb_read.specs.Located as located
use Rattle.fb_read.specs.Whole.{most_bytes}
use Rattle.fb_read.specs.Refusals.{IsRefused, IsFaultOf, IsFoundAt, IsUnclosed, refused_at}
use Rattle.fb_read.proofs.lemmas.tokens.TextEnds.{end-at, end-length}

-- no token begins at the end of a text
pub front_empty : front [] ≡ Err bad_byte
unfolding front
front_empty = refl

-- what is still to be read of a text of which these tokens were found
pub record Reading (found : List Located) (text rest : Text) : Type 0 where
  pub goes_on : (ps : List Located) → AreLocated text ps rest → AreLocated text (found ++ ps) (after_mark text)
  pub first : (f : TokenFault) (k : ℕ) → IsFirstFaultAt f text k rest → IsFirstFaultAt f text k (after_mark text)

pub begun : (found : List Located) (text rest : Text) → found ≡ [] → rest ≡ after_mark text → Reading found text rest
begun found text rest none same = rw (none, same) (record { goes_on = λ ps a. a; first = λ f k l. l })

pub ended : (found : List Located) (text rest here : Text) → Reading found text rest → skip start rest ≡ Some here → length here ≡ 0 → AreLocated text found (after_mark text)
ended found text rest here r h none = let e = nil_from_length here none in ended_at (rw e at h)
  where
    ended_at : skip start rest ≡ Some [] → AreLocated text found (after_mark text)
    ended_at h = subst (λ (ps : List Located). AreLocated text ps (after_mark text)) (append-nil found) (r.goes_on [] (located.no_more h))

one_more_token : (found : List Located) (p : Located) (text rest here : Text) (n : ℕ) → Reading found text rest → skip start rest ≡ Some here → front here ≡ Ok (p.token, n)
    → drop p.index text ≡ here → Reading (found ++ p ∷ []) text (drop n here)
one_more_token found p text rest here n r h e d = record {
  goes_on = λ ps a. subst (λ (qs : List Located). AreLocated text qs (after_mark text)) (sym (append_assoc found (p ∷ []) ps)) (r.goes_on (p ∷ ps) (located.then_token h e refl d a));
  first = λ f k l. r.first f k (located.is_later h e refl l);
}

pub one_more : (found next : List Located) (p : Located) (text rest here following : Text) (n : ℕ) → next ≡ found ++ p ∷ [] → following ≡ drop n here
    → Reading found text rest → skip start rest ≡ Some here → front here ≡ Ok (p.token, n) → drop p.index text ≡ here → Reading next text following
one_more found next p text rest here following n more moved r h e d = rw (more, moved) (one_more_token found p text rest here n r h e d)

pub unclosed : (found : List Located) (text rest : Text) (e : ReadFault) → length text ≤ most_bytes → Reading found text rest → skip start rest ≡ None → IsUnclosed text rest e → IsRefused text e
unclosed found text rest e short r h w = rw w.is (record {
  short = short;
  first = r.first bad_token w.index (located.open_comment refl h w.there w.none w.inside);
  some = w.within;
  within = omega arith;
})

pub faulty : (found : List Located) (text rest here : Text) (k : ℕ) (o : ReadFault) → length text ≤ most_bytes → Reading found text rest → skip start rest ≡ Some here
    → 0 < length here → drop k text ≡ here → k < length text → IsFoundAt text k (front here) o → IsRefused text o
faulty found text rest [] k o short r h some d lt w = absurd (omega arith)
faulty found text rest (b ∷ here) k o short r h some d lt w = go w.0 w.1 w.2
  where
    go : (e : LexFault) → Gives (Err e) (front (b ∷ here)) → IsFaultOf text k e o → IsRefused text o
    go fault.Memory g w = rw w tt
    go fault.Byte g w = rw w (record {
      short = short;
      first = r.first bad_byte k (located.is_here h g d);
      one = refl;
      within = omega arith;
    })
    go fault.Token g w = rw w.3 (record {
      short = short;
      first = r.first bad_token k (located.is_here h g d);
      some = w.1;
      within = w.2;
    })

-- the comment that is not closed in an end of a text
pub unclosed-in : (text rest : Text) (k : ℕ) (e : ReadFault) → IsEnd rest text → k < length rest → at rest k ≡ 40 → skip start (drop k rest) ≡ None
    → e ≡ refused_at text_fault.Token (length text - length rest + k) (length text) → IsUnclosed text rest e
unclosed-in text rest k e w lt there none is =
    let n : ℕ = length text - length rest in
    let here : drop n text ≡ rest = end-at rest text w in
    let path : drop (n + k) text ≡ drop k rest = sym (drop-drop k n text) ∙ ap (λ (z : Text). drop k z) here in
    let fits = end-length rest text w in
    record {
      index = n + k;
      is = is;
      within = omega arith;
      there = sym (get_or-drop n text k 0) ∙ ap (λ (z : Text). at z k) here ∙ there;
      none = ap (λ (z : Text). skip start z) path ∙ none;
      inside = rw path (omega (arith, length-drop k rest));
    }

-- ---- without offsets

pub tokens-located : {text : Text} {ps : List Located} {z : Text} → AreLocated text ps z → AreTokens (tokens_of ps) z
tokens-located (located.no_more h) = no_more h
tokens-located (located.then_token h e d l a) = then_token h e d (tokens-located a)

pub first-located : {f : TokenFault} {text : Text} {k : ℕ} {z : Text} → IsFirstFaultAt f text k z → IsFirstFault f z
first-located (located.open_comment f h t o l) = open_comment f h
first-located (located.is_here h e d) = is_here h e
first-located (located.is_later h e d l) = is_later h e d (first-located l)
