use Rattle.std.proofs.Common.{[]}
use Rattle.fb_types.proofs.lemmas.events.Emitting.{alone, no_others}
use Rattle.fb_types.proofs.emits.Emits.pop_bare.Goals as goal

pub returns-clause-alone : goal.returns-clause-alone
returns-clause-alone c =
    let q = c.self.inside in
    alone q.is_filled q.first q.others.items c.args.self.now [] c.self.view_is c.if-not-self.false (c.is_nothing.ensures c.if-not-is_nothing.false)
    (no_others q.others.items _ c.is_empty.result q.others.ok.0 c.is_empty.ensures c.if-not-is_empty.false)
