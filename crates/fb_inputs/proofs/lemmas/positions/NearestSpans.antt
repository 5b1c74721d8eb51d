-- Spans near positions, one after another.
use Rattle.fb_types.proofs.Common.{◌≡◌, ℕ, ◌+◌, ◌<◌, List, [], ◌∷◌, ◌++◌, get_or, length, take, sym, subst, take_more, AllZip}
use Rattle.std.proofs.lemmas.Slice.Zip.{all_zipped_more}
use Rattle.fb_read.specs.declared.token.Span.{Span}
use Rattle.fb_inputs.specs.Counts.{Text}
use Rattle.fb_inputs.specs.NearSpans.{IsInStimuli, IsNearInStimuli, IsStart}
use Rattle.fb_inputs.specs.Positions.{around_stimuli, stepped}
use Rattle.fb_inputs.specs.declared.position.StimuliPosition.{StimuliPosition}
use Rattle.fb_inputs.proofs.lemmas.positions.StepsAround.{steps_to_beginning}

-- one span more
pub one_near :
    (text : Text) (positions : List StimuliPosition) (i : ℕ) (spans more : List Span) (span : Span) (d : StimuliPosition) → i < length positions → more ≡ spans ++ span ∷ []
    → AllZip (IsNearInStimuli text) (take i positions) spans → IsNearInStimuli text (get_or positions i d) span → AllZip (IsNearInStimuli text) (take (i + 1) positions) more
one_near text positions i spans more span d within added before here =
    let R = IsNearInStimuli text in
    subst (λ (ss : List Span). AllZip R (take (i + 1) positions) ss) (sym added)
    (subst (λ (ps : List StimuliPosition). AllZip R ps (spans ++ span ∷ [])) (sym (take_more positions i d within))
    (all_zipped_more R (take i positions) spans (get_or positions i d) span before here))

-- ---- The beginning of a text, which is around all

pub begins_stimuli : (text : Text) (position : StimuliPosition) (steps : ℕ) (span : Span) → steps ≡ 3 → IsStart text span → IsInStimuli text (stepped around_stimuli steps position) span
begins_stimuli text position steps span three start =
    subst (λ (n : ℕ). IsInStimuli text (stepped around_stimuli n position) span) (sym three) (subst (λ (p : StimuliPosition). IsInStimuli text p span) (steps_to_beginning position) start)
