use Rattle.fb_types.proofs.Common.{ap, is_some, key_cmp}
use Rattle.fb_types.proofs.lemmas.events.KeyLaws.{before_least}
use Rattle.std.specs.BTreeMap as tree
use Rattle.fb_agenda.proofs.store.first_of_map.Goals as goal

pub returns-clause-some : goal.returns-clause-some
returns-clause-some c =
    let facts = c.in_ok-key.ensures in
    record {
      there = ap is_some facts.value;
      none_before = λ j before. before_least (λ q. tree.get key_cmp c.args.map.now q) c.in_ok-key.key.now facts.least j before;
    }
