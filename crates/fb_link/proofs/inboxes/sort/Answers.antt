use Rattle.fb_types.proofs.Common.{rules, answers_always, on_ok_weaker}
use Rattle.fb_link.proofs.lemmas.Exchanged.{index_of, sorted}
use Rattle.fb_link.proofs.inboxes.sort.Goals as goal

pub returns : goal.returns
returns c =
    let keys = answers_always _ _ _ (λ f a r next called. search rules) in
    let sort = c.sort_by_key.ensures in
    on_ok_weaker _ (λ up. sorted c.args.messages.now.items c.sort_by_key.new.self.items sort.permutation (up index_of keys) (sort.stable index_of keys)) sort.sorted
