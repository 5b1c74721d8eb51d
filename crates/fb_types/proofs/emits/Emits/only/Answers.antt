use Rattle.std.proofs.Common.{[], ◌∷◌}
use Rattle.fb_types.proofs.lemmas.events.Emitting.{alone, no_others}
use Rattle.fb_types.proofs.emits.Emits.only.Goals as goal

pub returns : goal.returns
returns c =
    let q = c.self.inside in
    alone q.is_filled q.first q.others.items c.args.self.now (c.in_ok-value.value.now ∷ []) c.self.view_is c.if-not-self.false c.in_ok-value.ensures
    (no_others q.others.items _ c.is_empty.result q.others.ok.0 c.is_empty.ensures c.if-not-is_empty.false)
