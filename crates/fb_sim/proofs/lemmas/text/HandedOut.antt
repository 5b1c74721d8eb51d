-- What a writer got of lists of lines.
use Rattle.fb_sim.proofs.lemmas.Common.{◌≡◌, ℕ, ◌^◌, ◌<◌, List, map, length, Option, sym, subst, IsPermutation, Vec, Result, Ok, Err, IsErrAnd, Appends, Inputs, system_of, line_of, Form, Lists, flat, bounded, WritesPartOf, text_of, IsMergedText, RunError}
use Rattle.fb_types.proofs.Common.{IfErr}
use Rattle.std.specs.Global.{Global}
use Rattle.fb_types.specs.declared.run.Line as run
use Rattle.fb_trace.specs.Merging.{AreMerged, AreRising}
use Rattle.fb_sim.specs.Rounds.{HandsOut, HandsPart}
use Rattle.fb_sim.proofs.lemmas.text.Texts.{handed}

module _ (i : Inputs) (form : Form) (lists : Lists) (old new : Option (List ℕ)) where
  -- by a text of all their lines
  module _ (heap : Global) (count : ℕ) (text : List ℕ) (t : IsMergedText i form (map (λ v. v.items) lists) text) (few : count < 10 ^ 12) (counted : count ≡ length (flat lists)) where
    pub whole_by_text : (n : ℕ) → Appends old new text → n ≡ bounded (length text) → HandsOut i form lists old new n count
    whole_by_text n got bytes =
        let h = handed i form heap lists count text t few counted in
        record {
          all = h.0;
          merged = h.1;
          got = subst (λ (x : List ℕ). Appends old new x) h.2 got;
          counted = subst (λ (x : List ℕ). n ≡ bounded (length x)) h.2 bytes;
          lined = h.3;
        }

    pub part_by_text : (e : RunError) → WritesPartOf old new text e → HandsPart i form lists old new e
    part_by_text e part =
        let h = handed i form heap lists count text t few counted in
        record { all = h.0; merged = h.1; part = subst (λ (x : List ℕ). WritesPartOf old new x e) h.2 part }

  -- by one list of them
  module _ (all : Vec run.Line) (merged : AreRising lists → AreMerged lists all.items) (moved : IsPermutation (flat lists) all.items) where
    pub whole_by_list : (n lines : ℕ) → Appends old new (text_of i form (map (line_of (system_of i)) all.items)) → n ≡ bounded (length (text_of i form (map (line_of (system_of i)) all.items)))
        → lines ≡ length all.items → HandsOut i form lists old new n lines
    whole_by_list n lines got bytes lined = record { all = all; merged = record { merged = merged; moved = moved }; got = got; counted = bytes; lined = lined }

    pub part_by_list : (e : RunError) → WritesPartOf old new (text_of i form (map (line_of (system_of i)) all.items)) e → HandsPart i form lists old new e
    part_by_list e part = record { all = all; merged = record { merged = merged; moved = moved }; part = part }

-- the error that `?` passes on
pub failed_passed : {X : Type 0} (P : RunError → Type 0) (r : Result X RunError) (e : RunError) → IsErrAnd r (λ f. f ≡ e) → P e → IfErr r P
failed_passed P (Ok x) e bad h = absurd bad
failed_passed P (Err f) e is h = subst P (sym is) h
