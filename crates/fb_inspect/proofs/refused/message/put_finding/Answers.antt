use Rattle.fb_inspect.proofs.lemmas.Common.{◌∙◌, ℕ, List, ◌++◌, ap, append_assoc, system_of}
use Rattle.std.specs.Prelude.{codes, string_bytes}
use Rattle.fb_types.specs.Text.{reason_text}
use Rattle.fb_wave.proofs.lemmas.Handing.{on_ok, on_put}
use Rattle.fb_inspect.specs.refused.Messages.{emission_text, shown}
use Rattle.fb_inspect.proofs.lemmas.words.Texts.{three_added}
use Rattle.fb_inspect.proofs.refused.message.put_finding.Goals as goal

pub returns-in_ok-put_emission-in-Emits : goal.returns-in_ok-put_emission-in-Emits
returns-in_ok-put_emission-in-Emits c =
    let emitted : List ℕ = emission_text (system_of c.args.system.now) c.in-Emits.instance c.in-Emits.emission in
    rw c.in-Emits.is
    (on_put c.push_str-in-Emits.result _ _ _ _ c.push_str-in-Emits.ensures.bytes
    (λ e.
    e
    ∙ ap (λ (t : List ℕ). t ++ codes " here") (c.in_ok-put_emission-in-Emits.ensures ∙ ap (λ (t : List ℕ). t ++ emitted) c.in_ok-push_str-in-Emits.ensures.bytes)
    ∙ three_added _ (codes "the reaction emits ") emitted (codes " here")))

pub returns-in-Unmade : goal.returns-in-Unmade
returns-in-Unmade c = rw c.in-Unmade.is (on_put c.push_str-in-Unmade.result _ _ _ _ c.push_str-in-Unmade.ensures.bytes (λ e. e))

pub returns-in-NotDue : goal.returns-in-NotDue
returns-in-NotDue c = rw c.in-NotDue.is (on_put c.push_str-in-NotDue.result _ _ _ _ c.push_str-in-NotDue.ensures.bytes (λ e. e))

pub returns-in-NoStep : goal.returns-in-NoStep
returns-in-NoStep c = rw c.in-NoStep.is (on_put c.push_str-in-NoStep.result _ _ _ _ c.push_str-in-NoStep.ensures.bytes (λ e. e))

pub returns-in_ok-push_str-in-Stops : goal.returns-in_ok-push_str-in-Stops
returns-in_ok-push_str-in-Stops c =
    let S : List ℕ = shown (reason_text c.in-Stops.reason) in
    rw c.in-Stops.is
    (on_ok c.put_shown.result _ _ c.put_shown.ensures
    (λ e.
    e ∙ ap (λ (w : List ℕ). string_bytes c.push_str-in-Stops.new.self ++ shown w) c.word_of.ensures ∙ ap (λ (t : List ℕ). t ++ S) c.in_ok-push_str-in-Stops.ensures.bytes
    ∙ append_assoc (string_bytes c.args.text.now) (codes "the reaction stops the resource here: ") S))
