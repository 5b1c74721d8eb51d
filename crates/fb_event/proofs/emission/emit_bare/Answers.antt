use Rattle.fb_types.proofs.Common.{◌≡◌, ◌++◌, ◌∷◌, [], List, sym, subst, on_ok_weaker}
use Rattle.fb_types.specs.declared.value.Value.{Value}
use Rattle.fb_event.proofs.emission.emit_bare.Goals as goal

pub returns-clause-ok : goal.returns-clause-ok
returns-clause-ok c =
    on_ok_weaker c.push_bare.result
    (subst (λ (vs : List Value). c.push_bare.new.self ≡ c.args.emits.now ++ record { event = c.args.event; values = vs } ∷ []) (sym c.requires))
    c.push_bare.ensures.ok
