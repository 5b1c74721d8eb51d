use Rattle.std.proofs.Common.{rules}
use Rattle.std.proofs.lemmas.Fn.{filter_same}
use Rattle.fb_expect.proofs.pairs.Pairs.answer_all.Goals as goal

pub returns-clause-waiting : goal.returns-clause-waiting
returns-clause-waiting c = filter_same _ _ _ (λ x b f' k. search rules) _ _ c.retain.ensures.filtered
