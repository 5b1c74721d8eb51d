-- What keeps a text from being the end of a last line, and which ends have one text.
use Rattle.fb_wave.proofs.lemmas.Common.{◌≡◌, ℕ, ◌<◌, ◌^◌, true, List, [], ◌∷◌, ◌++◌, length, get_or, codes, decimal, refl, sym, ap, ◌∙◌, arith, append_assoc, slice_get, unwrap_or, unwrap_or-slice_get, Name, Ending, System, last_line, ending_of, Outcome, IsAfter, HasNames, number_text, IsCut, is_word}
use Rattle.fb_types.proofs.Common.{append_cancel_left, AtHorizon, AtStop, tick_and_resource_text, reason_text}
use Rattle.fb_types.specs.declared.value.Reason.{Reason}
use Rattle.fb_trace.specs.declared.last.Outcome.TheVariants.{End, Stop}
use Rattle.fb_wave.specs.Lines.{IsEndOf, IsNoStop, stop_text}
use Rattle.fb_wave.specs.Waves.{EndsAfter}
use Rattle.fb_wave.proofs.lemmas.Cutting.{cut_once, uncut, word_once}
use Rattle.fb_wave.proofs.lemmas.Known.{there}
use Rattle.fb_wave.proofs.lemmas.Numerals.{decimal_once, digits_of, number_once}
use Rattle.fb_wave.proofs.lemmas.Plain.{name_word}

-- ---- Horizons

pub other_end : (text w r : List ℕ) → IsCut text w r → (r ≡ 10 ∷ [] → ⊥) → (h : ℕ) → h < 2 ^ 64 → text ≡ decimal h ++ 10 ∷ [] → ⊥
other_end text w r cut other h small e =
    other (cut_once text w r (decimal h) (10 ∷ []) cut (digits_of h (omega (arith, small))).word refl e).1

-- ---- Stops

abbrev name_at : System → ℕ → Name
name_at sys r = unwrap_or (slice_get sys.resource_names r) []

abbrev after_name : Reason → List ℕ
after_name reason = codes " " ++ (reason_text reason ++ 10 ∷ [])

stop_parts : (n h b r l : List ℕ) → (((n ++ h) ++ b) ++ r) ++ l ≡ n ++ (h ++ (b ++ (r ++ l)))
stop_parts n h b r l = simp append_assoc

stop_is : (sys : System) (k r : ℕ) (reason : Reason) → stop_text sys k r reason ≡ number_text k ++ (name_at sys r ++ after_name reason)
stop_is sys k r reason = stop_parts (number_text k) (name_at sys r) (codes " ") (reason_text reason) (10 ∷ [])

module _ (sys : System) (text rest : List ℕ) (t : ℕ) (small : t < 2 ^ 64) (tick : text ≡ number_text t ++ rest) where
  rest_is : (k r : ℕ) (reason : Reason) → k < 2 ^ 64 → text ≡ stop_text sys k r reason → rest ≡ name_at sys r ++ after_name reason
  rest_is k r reason little e =
      (number_once t k rest _ (omega (arith, small)) (omega (arith, little)) (sym tick ∙ e ∙ stop_is sys k r reason)).1

  pub no_word : is_word rest ≡ true → IsNoStop sys text
  no_word word k r reason little within e = uncut rest (name_at sys r) (after_name reason) word (rest_is k r reason little e) refl

  module _ (w more : List ℕ) (cut : IsCut rest w more) (names : HasNames sys) where
    cut_is : (k r : ℕ) (reason : Reason) → k < 2 ^ 64 → r < length sys.resource_names → text ≡ stop_text sys k r reason → (w ≡ name_at sys r) × (more ≡ after_name reason)
    cut_is k r reason little within e =
        cut_once rest w more (name_at sys r) (after_name reason) cut (name_word (name_at sys r) (names.resources (name_at sys r) (there sys.resource_names r [] within))) refl
        (rest_is k r reason little e)

    pub no_resource : ((r : ℕ) → r < length sys.resource_names → w ≡ get_or sys.resource_names r [] → ⊥) → IsNoStop sys text
    no_resource none k r reason little within e = none r within ((cut_is k r reason little within e).0 ∙ unwrap_or-slice_get sys.resource_names r [])

    pub no_reason : ((reason : Reason) → more ≡ (codes " " ++ reason_text reason) ++ 10 ∷ [] → ⊥) → IsNoStop sys text
    no_reason none k r reason little within e =
        none reason ((cut_is k r reason little within e).1 ∙ sym (append_assoc (codes " ") (reason_text reason) (10 ∷ [])))

-- ---- The last line

last_parts : (s n b r l : List ℕ) → (((s ++ n) ++ b) ++ r) ++ l ≡ s ++ (((n ++ b) ++ r) ++ l)
last_parts s n b r l = simp append_assoc

horizon_is : (sys : System) (h : ℕ) → last_line sys (AtHorizon h) ≡ codes "end " ++ (decimal h ++ 10 ∷ [])
horizon_is sys h = append_assoc (codes "end ") (decimal h) (10 ∷ [])

last_is : (sys : System) (k r : ℕ) (reason : Reason) → last_line sys (AtStop k r reason) ≡ codes "stop " ++ stop_text sys k r reason
last_is sys k r reason = last_parts (codes "stop ") (tick_and_resource_text sys k r) (codes " ") (reason_text reason) (10 ∷ [])

apart : (t u : List ℕ) → codes "end " ++ t ≡ codes "stop " ++ u → ⊥
apart t u e = let first : 101 ≡ 115 = ap (λ (l : List ℕ). get_or l 0 0) e in omega (arith, first)

-- ---- Ends with one text come after the same ticks

pub after_once :
    (sys : System) (t u : ℕ) (end : Outcome) (other : Ending) → t ≡ u → IsEndOf sys (ending_of end) → IsEndOf sys other → last_line sys (ending_of end) ≡ last_line sys other
    → EndsAfter u other → IsAfter t end
after_once sys t u (End h) (AtHorizon k) tick can also e after =
    let words = word_once (decimal h) (decimal k) (10 ∷ []) (10 ∷ []) (digits_of h (omega (arith, can))).word (digits_of k (omega (arith, also))).word refl refl
    (append_cancel_left (codes "end ") (decimal h ++ 10 ∷ []) (decimal k ++ 10 ∷ []) (sym (horizon_is sys h) ∙ e ∙ horizon_is sys k))
    in
    let same = decimal_once h k (omega (arith, can)) (omega (arith, also)) words.0 in
    omega (arith, same, tick, after)
after_once sys t u (End h) (AtStop k r reason) tick can also e after =
    absurd (apart (decimal h ++ 10 ∷ []) (stop_text sys k r reason) (sym (horizon_is sys h) ∙ e ∙ last_is sys k r reason))
after_once sys t u (Stop m) (AtHorizon k) tick can also e after =
    absurd (apart (decimal k ++ 10 ∷ []) (stop_text sys m.tick m.resource m.reason) (sym (horizon_is sys k) ∙ sym e ∙ last_is sys m.tick m.resource m.reason))
after_once sys t u (Stop m) (AtStop k r reason) tick can also e after =
    let small = can.0 in
    let little = also.0 in
    let texts = append_cancel_left (codes "stop ") (stop_text sys m.tick m.resource m.reason) (stop_text sys k r reason)
    (sym (last_is sys m.tick m.resource m.reason) ∙ e ∙ last_is sys k r reason)
    in
    let same = (number_once m.tick k _ _ (omega (arith, small)) (omega (arith, little)) (sym (stop_is sys m.tick m.resource m.reason) ∙ texts ∙ stop_is sys k r reason)).0 in
    omega (arith, same, tick, after)
