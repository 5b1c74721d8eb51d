-- Pieces one after another, and the bytes that a writer got of them.
use Rattle.fb_types.proofs.Common.{◌≡◌, ◌⊎◌, ℕ, ◌+◌, ◌≤◌, List, [], ◌∷◌, ◌++◌, length, take, Option, Some, None, Err, refl, sym, ap, ◌∙◌, subst, arith, append_assoc, append-nil, length-append, suc, Appends, Appends-trans, All-nil, All-push, IsTrace, Each}
use Rattle.std.specs.Io.KnownBytes.{Keeps}
use Rattle.fb_trace.specs.End.{ending_of}
use Rattle.fb_trace.specs.Progress.{bounded}
use Rattle.fb_trace.specs.declared.last.Outcome.{Outcome}
use Rattle.fb_session.specs.Pasts.{with_rows}
use Rattle.fb_sim_machine.proofs.lemmas.JoinedRuns.{each_append}
use Rattle.fbsim_session.specs.Talks.{all_of, Answer, AreFront, AreWhole, Ends, Fails, Flushes, IsAnswer, IsBegun, IsNoWrite, IsWell, Opening, Piece, Sends, Spoken, Text, count_of, text_in, told_in, told_of}
use Rattle.fbsim_session.specs.declared.talking.TalkFault.{TalkFault}
use Rattle.fbsim_session.specs.declared.talking.TalkFault.TheVariants.{Memory, Read, Write}

told-append : (ps qs : List Piece) → told_of (ps ++ qs) ≡ told_of ps ++ told_of qs
told-append [] qs = refl
told-append (p ∷ ps) qs = ap (λ (x : Text). told_in p ++ x) (told-append ps qs) ∙ sym (append_assoc (told_in p) (told_of ps) (told_of qs))

all-append : (ps qs : List Piece) → all_of (ps ++ qs) ≡ all_of ps ++ all_of qs
all-append [] qs = refl
all-append (p ∷ ps) qs = ap (λ (x : Text). text_in p ++ x) (all-append ps qs) ∙ sym (append_assoc (text_in p) (all_of ps) (all_of qs))

-- one piece more
pub told_more : (ps : List Piece) (p : Piece) → told_of (ps ++ p ∷ []) ≡ told_of ps ++ told_in p
told_more ps p = told-append ps (p ∷ []) ∙ ap (λ (x : Text). told_of ps ++ x) (append-nil (told_in p))

pub all_more : (ps : List Piece) (p : Piece) → all_of (ps ++ p ∷ []) ≡ all_of ps ++ text_in p
all_more ps p = all-append ps (p ∷ []) ∙ ap (λ (x : Text). all_of ps ++ x) (append-nil (text_in p))

pub well_more : (ps : List Piece) (p : Piece) → Each IsWell ps → IsWell p → Each IsWell (ps ++ p ∷ [])
well_more ps p w x = each_append IsWell ps (p ∷ []) w (x, tt)

-- an answer is no part of the trace
told_answer : (ps : List Piece) (a : Text) → told_of (ps ++ Answer a ∷ []) ≡ told_of ps
told_answer ps a = told_more ps (Answer a) ∙ append-nil (told_of ps)

pub told_answered : (ps : List Piece) (a : Text) → told_of (ps ++ Answer a ∷ []) ≡ told_of ps
told_answered ps a = told_answer ps a

-- ---- Bytes

take_after : (x y : Text) (n : ℕ) → take (length x + n) (x ++ y) ≡ x ++ take n y
take_after [] y n = let e : 0 + n ≡ n = omega arith in ap (λ k. take k y) e
take_after (a ∷ x) y n =
    let e : length (a ∷ x) + n ≡ suc (length x + n) = omega arith in
    ap (λ k. take k (a ∷ x ++ y)) e ∙ ap (λ t. a ∷ t) (take_after x y n)

pub take_whole : (x : Text) → take (length x) x ≡ x
take_whole [] = refl
take_whole (a ∷ x) = ap (λ (t : Text). a ∷ t) (take_whole x)

pub got_more : (start now new : Option Text) (ps : List Piece) (p : Piece) → Appends start now (all_of ps) → Appends now new (text_in p) → Appends start new (all_of (ps ++ p ∷ []))
got_more start now new ps p got more =
    subst (λ (x : Text). Appends start new x) (sym (all_more ps p)) (Appends-trans start now new (all_of ps) (text_in p) got more)

-- a part of a piece and of what comes after it
pub got_part : (start now new : Option Text) (ps : List Piece) (p : Piece) (end : Text) (n : ℕ) → Appends start now (all_of ps) → Appends now new (take n (text_in p ++ end))
    → Appends start new (take (length (all_of ps) + n) (all_of (ps ++ p ∷ []) ++ end))
got_part start now new ps p end n got more =
    let e : all_of (ps ++ p ∷ []) ++ end ≡ all_of ps ++ (text_in p ++ end) =
    ap (λ (x : Text). x ++ end) (all_more ps p) ∙ append_assoc (all_of ps) (text_in p) end in
    subst (λ (x : Text). Appends start new x) (sym (ap (take (length (all_of ps) + n)) e ∙ take_after (all_of ps) (text_in p ++ end) n))
    (Appends-trans start now new (all_of ps) (take n (text_in p ++ end)) got more)

pub kept_more : (start now new : Option Text) (x : Text) → Appends start now x → Keeps now new → Appends start new x
kept_more None now new x got k = tt
kept_more (Some s) None new x got k = absurd got
kept_more (Some s) (Some n) None x got k = absurd k
kept_more (Some s) (Some n) (Some m) x got k = k ∙ got

-- nothing more
none_more : (start now new : Option Text) (x : Text) → Appends start now x → Appends now new [] → Appends start new x
none_more start now new x got none = subst (λ (z : Text). Appends start new z) (append-nil x) (Appends-trans start now new x [] got none)

-- ---- Answers

pub front_answered : (g : Opening) (ps : List Piece) (a : Text) → IsAnswer a → AreFront g ps → AreFront g (ps ++ Answer a ∷ [])
front_answered g ps a is f = record {
  well = well_more ps (Answer a) f.well is;
  given = f.given;
  rows = f.rows;
  horizon = f.horizon;
  end = f.end;
  rest = f.rest;
  trace = subst (λ (x : Text). IsTrace (with_rows g.inputs f.given) g.form f.horizon g.steps (x ++ f.rest) f.end) (sym (told_answer ps a)) f.trace;
}

-- the whole is a beginning of itself
pub front_whole : (g : Opening) (ps : List Piece) (o : Outcome) → AreWhole g ps o → AreFront g ps
front_whole g ps o f = record {
  well = f.well;
  given = f.given;
  rows = f.rows;
  horizon = f.horizon;
  end = ending_of o;
  rest = [];
  trace = subst (λ (x : Text). IsTrace (with_rows g.inputs f.given) g.form f.horizon g.steps x (ending_of o)) (sym (append-nil (told_of ps))) f.trace;
}

-- ---- Faults after pieces that are a beginning

-- all bytes of pieces, and nothing more
written_all : (g : Opening) (new : Option Text) (ps : List Piece) (n : ℕ) → AreFront g ps → Appends g.start new (all_of ps) → n ≡ bounded (length (all_of ps)) → Fails g new (Write n)
written_all g new ps n f got counted = (
  ps,
  [],
  length (all_of ps),
  f,
  subst (λ (x : Text). Appends g.start new x) (sym (ap (take (length (all_of ps))) (append-nil (all_of ps)) ∙ take_whole (all_of ps))) got,
  subst (λ (x : Text). length (all_of ps) ≤ length x) (sym (append-nil (all_of ps))) (omega arith),
  counted,
)

pub fails_still : (g : Opening) (now new : Option Text) (ps : List Piece) → AreFront g ps → Appends g.start now (all_of ps) → (e : TalkFault) → IsNoWrite e → Keeps now new → Fails g new e
fails_still g now new ps f got Memory other k = (ps, f, kept_more g.start now new (all_of ps) got k)
fails_still g now new ps f got Read other k = (ps, f, kept_more g.start now new (all_of ps) got k)
fails_still g now new ps f got (Write n) other k = absurd other

pub fails_flush : (g : Opening) (now new : Option Text) (ps : List Piece) → AreFront g ps → Appends g.start now (all_of ps) → (t : Spoken) → bounded (count_of t) ≡ bounded (length (all_of ps))
    → (e : TalkFault) → Flushes t now new (Err e) → Fails g new e
fails_flush g now new ps f got t counted Memory x = absurd x
fails_flush g now new ps f got t counted Read x = absurd x
fails_flush g now new ps f got t counted (Write n) x = written_all g new ps n f (kept_more g.start now new (all_of ps) got x.0) (x.1 ∙ counted)

-- the bytes of the trace and of the answers, with those of one answer more
pub count_on : (w a n k : ℕ) → bounded (w + a) ≡ bounded n → bounded (w + bounded (a + k)) ≡ bounded (n + k)
count_on w a n k counted = omega (arith, counted)

pub length_more : (ps : List Piece) (p : Piece) → length (all_of (ps ++ p ∷ [])) ≡ length (all_of ps) + length (text_in p)
length_more ps p = ap (λ (x : Text). length x) (all_more ps p) ∙ length-append (all_of ps) (text_in p)

pub fails_sent : (g : Opening) (now new : Option Text) (ps : List Piece) → AreFront g ps → Appends g.start now (all_of ps) → (t u : Spoken) → bounded (count_of t) ≡ bounded (length (all_of ps))
    → (e : TalkFault) → Sends t u now new (Err e) → Fails g new e
fails_sent g now new ps f got t u counted Memory x = (ps, f, none_more g.start now new (all_of ps) got x)
fails_sent g now new ps f got t u counted Read x = absurd x
fails_sent g now new ps f got t u counted (Write n) x =
    let more : length (all_of (ps ++ Answer x.0 ∷ [])) ≡ length (all_of ps) + length x.0 = length_more ps (Answer x.0) in
    let le : x.1 ≤ length x.0 = x.4 in (
      ps ++ Answer x.0 ∷ [],
      [],
      length (all_of ps) + x.1,
      front_answered g ps x.0 x.2 f,
      got_part g.start now new ps (Answer x.0) [] x.1 got (subst (λ (z : Text). Appends now new (take x.1 z)) (sym (append-nil x.0)) x.3),
      subst (λ (z : Text). length (all_of ps) + x.1 ≤ length z) (sym (append-nil (all_of (ps ++ Answer x.0 ∷ [])))) (omega (arith, more, le)),
      x.5 ∙ count_on t.session.written t.answered (length (all_of ps)) x.1 counted,
    )

-- ---- After the end

pub ends_flushed : (g : Opening) (now new : Option Text) (o : Outcome) → Ends g now o → Keeps now new → Ends g new o
ends_flushed g now new o e k = (e.0, e.1, kept_more g.start now new (all_of e.0) e.2 k)

pub ends_failed : (g : Opening) (now new : Option Text) (o : Outcome) (x : Ends g now o) (t : Spoken) → bounded (count_of t) ≡ bounded (length (all_of x.0)) → (e : TalkFault)
    → Flushes t now new (Err e) → Fails g new e
ends_failed g now new o x t counted e f = fails_flush g now new x.0 (front_whole g x.0 o x.1) x.2 t counted e f

-- ---- The line of an answer

pub begun : (first : ℕ) → (first ≡ 61) ⊎ (first ≡ 33) → (o t u : Text) → o ≡ [] → t ≡ o ++ first ∷ [] → u ≡ t ++ 32 ∷ [] → IsBegun u
begun first sign o t u none a b = record {
  first = first;
  rest = 32 ∷ [];
  sign = sign;
  parts = b ∙ ap (λ (x : Text). x ++ 32 ∷ []) (a ∙ ap (λ (x : Text). x ++ first ∷ []) none);
  one = All-push (λ (b : ℕ). b ≡ 10 → ⊥) [] 32 (All-nil (λ (b : ℕ). b ≡ 10 → ⊥)) (λ e. absurd (omega (arith, e)));
}

pub begun_more : (t u : Text) (b : ℕ) → IsBegun t → (b ≡ 10 → ⊥) → u ≡ t ++ b ∷ [] → IsBegun u
begun_more t u b x other is = record {
  first = x.first;
  rest = x.rest ++ b ∷ [];
  sign = x.sign;
  parts = is ∙ ap (λ (z : Text). z ++ b ∷ []) x.parts;
  one = All-push (λ (b : ℕ). b ≡ 10 → ⊥) x.rest b x.one other;
}

pub answer_of : (t u : Text) → IsBegun t → u ≡ t ++ 10 ∷ [] → IsAnswer u
answer_of t u x is = record {
  first = x.first;
  rest = x.rest;
  sign = x.sign;
  parts = is ∙ ap (λ (z : Text). z ++ 10 ∷ []) x.parts;
  one = x.one;
}
