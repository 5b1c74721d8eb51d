use Rattle.std.proofs.Common.{◌<◌, ℕ, refl, sym, subst}
use Rattle.fb_inspect.proofs.lemmas.lines.NearStop.{limit_left, limit_more}
use Rattle.fb_inspect.proofs.lemmas.reactions.Placed.{item_is}
use Rattle.fb_inspect.proofs.walk.Walk.limit.Goals as goal

pub index_mut-requires : goal.index_mut-requires
index_mut-requires c = subst (λ (n : ℕ). c.args.key.now.resource < n) (sym c.args.self.now.steps.ok.0) c.requires

pub returns-clause-limited : goal.returns-clause-limited
returns-clause-limited c = λ yes.
    let old = c.args.self.now.steps.items in
    let key = c.args.key.now in
    let own = c.index_mut.result.now in
    limit_left c.limit.result c.args.steps key old _ own c.limit.new.self (item_is old key.resource own c.requires c.index_mut.ensures.value) c.limit.ensures.within c.limit.ensures.left refl yes

pub returns-clause-more : goal.returns-clause-more
returns-clause-more c = λ no few other at.
    let old = c.args.self.now.steps.items in
    let key = c.args.key.now in
    let own = c.index_mut.result.now in
    limit_more c.limit.result c.args.steps key old own (item_is old key.resource own c.requires c.index_mut.ensures.value) c.limit.ensures.none no few other at
