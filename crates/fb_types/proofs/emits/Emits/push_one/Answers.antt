use Rattle.fb_types.proofs.Common.{List, [], ◌∷◌, ◌++◌, ◌≡◌, ap, subst, ◌∙◌, on_ok_weaker, Value}
use Rattle.fb_types.specs.declared.run.Emission.{Emission}
use Rattle.fb_types.proofs.lemmas.events.Emitting.{first_pushed}
use Rattle.fb_types.proofs.emits.Emits.push_one.Goals as goal

pub returns-then-not-self-clause-ok : goal.returns-then-not-self-clause-ok
returns-then-not-self-clause-ok c =
    let q = c.self.inside in
    let first : Emission = record { event = c.args.event; values = c.one-values.result } in
    first_pushed q.is_filled q.first first q.others.items c.args.self.now c.self.invariant c.self.view_is c.if-not-self.true
    ∙ ap (λ (vs : List Value). c.args.self.now ++ record { event = c.args.event; values = vs } ∷ []) c.one-values.ensures

pub returns-clause-ok : goal.returns-clause-ok
returns-clause-ok c =
    on_ok_weaker c.push_other.result
    (subst (λ (vs : List Value). c.push_other.new.self ≡ c.args.self.now ++ record { event = c.args.event; values = vs } ∷ []) c.one-values.ensures)
    c.push_other.ensures.ok
