use Rattle.fb_inspect.proofs.lemmas.Common.{◌≡◌, ◌∙◌, ◌<◌, ◌⊎◌, ℕ, List, [], ◌∷◌, ◌++◌, All, All-head, All-tail, ap, append-nil, append_assoc, inl, inr, length, map, pair_up, subst, sym, Name, Value}
use Rattle.std.specs.Prelude.{string_bytes}
use Rattle.std.specs.Iterator.Adapters.{zip_first, zip_second}
use Rattle.std.specs.Slice.Iter.{iter_rest}
use Rattle.std.proofs.lemmas.Slice.Zip.{Zip-more, either_empty_from_Zip}
use Rattle.fb_wave.specs.Reading.{name_at}
use Rattle.fb_inspect.specs.refused.Messages.{binding_text, bindings_text}
use Rattle.fb_inspect.proofs.lemmas.words.BoundValues.{same_variable}
use Rattle.fb_inspect.proofs.refused.message.put_values.Goals as goal

none_left : (f : ℕ → Name) (ks : List ℕ) (vs : List Value) → (ks ≡ []) ⊎ (vs ≡ []) → bindings_text (pair_up (map f ks) vs) ≡ []
none_left f ks vs (inl e) = ap (λ (ms : List ℕ). bindings_text (pair_up (map f ms) vs)) e
none_left f [] vs (inr e) = ap (λ (ws : List Value). bindings_text (pair_up [] ws)) e
none_left f (k ∷ ks) vs (inr e) = ap (λ (ws : List Value). bindings_text (pair_up (f k ∷ map f ks) ws)) e

pub loop-index-preserved : goal.loop-index-preserved
loop-index-preserved c =
    let us = c.args.variables.now in
    let k = c.in-Some.index.now in
    let v = c.in-Some.value.now in
    let more = Zip-more c.loop-index.index-iterator c.next.new.self c.next.result (c.in-Some.index, c.in-Some.value) c.in-Some.is c.next.ensures.steps in
    let ks = iter_rest (zip_first c.next.new.self) in
    let vs = iter_rest (zip_second c.next.new.self) in
    let all : All (λ k. k < length us) (k ∷ ks) = subst (All (λ k. k < length us)) more.0 c.loop-index.invariant.1 in
    let within : k < length us = All-head (λ k. k < length us) k ks all in
    let named = same_variable us k c.index-variables-index.result c.as_bytes.result.now within c.as_bytes.ensures in
    let rest : List ℕ = bindings_text (pair_up (map (name_at us) ks) vs) in
    let o : List ℕ = string_bytes c.loop-index.text in (
      ap (λ (t : List ℕ). t ++ rest) (c.in_ok-put_binding.ensures ∙ ap (λ (n : List ℕ). o ++ binding_text n v) named) ∙ append_assoc o (binding_text (name_at us k) v) rest
          ∙ ap (λ (ms : List ℕ). o ++ bindings_text (pair_up (map (name_at us) ms) (v ∷ vs))) (sym more.0)
          ∙ ap (λ (ws : List Value). o ++ bindings_text (pair_up (map (name_at us) (iter_rest (zip_first c.loop-index.index-iterator))) ws)) (sym more.1) ∙ c.loop-index.invariant.0,
      All-tail (λ k. k < length us) k ks all,
    )

pub returns : goal.returns
returns c =
    let us = c.args.variables.now in
    let none =
    none_left (name_at us) (iter_rest (zip_first c.loop-index.index-iterator)) (iter_rest (zip_second c.loop-index.index-iterator))
    (either_empty_from_Zip c.loop-index.index-iterator c.next.new.self c.next.result c.in-None.is c.next.ensures.steps)
    in
    sym (append-nil (string_bytes c.loop-index.text)) ∙ ap (λ (t : List ℕ). string_bytes c.loop-index.text ++ t) (sym none) ∙ c.loop-index.invariant.0
