use Rattle.fb_types.proofs.Common.{◌∷◌, [], ◌++◌, List, ◌∙◌, ap}
use Rattle.fb_types.specs.declared.value.Value.{Value}
use Rattle.fb_ecc.proofs.lemmas.Actions.{on_ok}
use Rattle.fb_ecc.proofs.action.emit_several.Goals as goal

pub returns-clause-ok : goal.returns-clause-ok
returns-clause-ok c =
    on_ok c.push.result c.push.ensures.ok
    (λ grown. λ names are. grown ∙ ap (λ (vs : List Value). c.args.emits.now ++ record { event = c.args.event; values = vs } ∷ []) (c.in_ok-values.ensures names are))
