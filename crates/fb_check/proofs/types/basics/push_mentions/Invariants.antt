use Rattle.fb_check.proofs.lemmas.Common.{◌≡◌, ◌++◌, drop, is_known, each_at, each_from, unless, meant, mention_in}
use Rattle.fb_check.specs.declared.types.mentions.Mention as gathered
use Rattle.fb_check.proofs.types.basics.push_mentions.Given as goal

abbrev pub invariant-loop-index : goal.invariant-loop-index
invariant-loop-index l =
    l.found.items ++ each_from (λ m (x : gathered.Mention). unless (is_known l.scope (meant x)) (mention_in l.naming m)) l.index (drop l.index l.mentions) ≡ l.fn.found.items ++ each_at (λ m (x : gathered.Mention). unless (is_known l.scope (meant x)) (mention_in l.naming m)) l.mentions
