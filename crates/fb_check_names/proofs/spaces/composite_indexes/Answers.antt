use Rattle.std.proofs.Common.{List, [], inl, inr}
use Rattle.fb_check_names.specs.declared.location.Site.TheVariants as site
use Rattle.fb_check_names.specs.declared.twice.GivenTwice.{GivenTwice}
use Rattle.fb_check_names.specs.TwiceLists.{twice_in_network, twice_in_ports}
use Rattle.fb_check_names.proofs.lemmas.numbers.BlockIndexes.{after_one}
use Rattle.fb_check_names.proofs.lemmas.numbers.LastIndexes.{index_none}
use Rattle.fb_check_names.proofs.spaces.composite_indexes.Goals as goal

pub returns-clause-found : goal.returns-clause-found
returns-clause-found c =
    let b = c.args.block in
    let t = c.args.composite.now in
    let old : List GivenTwice = c.args.found.now.items in
    after_one old (twice_in_ports b t.ports []) (twice_in_network (site.Inside b) t.network) _ _ c.in_ok-ports.ensures.found c.in_ok-instances.ensures.found

pub returns-clause-indexes : goal.returns-clause-indexes
returns-clause-indexes c = λ once. record {
  ports = c.in_ok-ports.ensures.indexes (λ t. once (inl t));
  states = index_none c.new.result c.new.ensures.empty;
  algorithms = index_none c.new-2.result c.new-2.ensures.empty;
  instances = c.in_ok-instances.ensures.indexes (λ t. once (inr t));
}
