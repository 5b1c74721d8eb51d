use Rattle.fb_inspect.proofs.lemmas.Common.{◌∙◌, ℕ, List, ◌++◌, ap}
use Rattle.std.specs.Prelude.{codes, decimal}
use Rattle.fb_wave.proofs.lemmas.Handing.{on_put}
use Rattle.fb_inspect.proofs.lemmas.words.Texts.{three_added}
use Rattle.fb_inspect.proofs.refused.message.put_excess.Goals as goal

pub returns : goal.returns
returns c =
    let D : List ℕ = decimal c.args.line in
    on_put c.push_str-2.result _ _ _ _ c.push_str-2.ensures.bytes
    (λ e.
    e
    ∙ ap (λ (t : List ℕ). t ++ codes " uses more steps in that tick than it has") (c.in_ok-put_number.ensures ∙ ap (λ (t : List ℕ). t ++ D) c.in_ok-push_str.ensures.bytes)
    ∙ three_added _ (codes "the resource of line ") D (codes " uses more steps in that tick than it has"))
