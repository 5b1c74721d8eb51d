use Rattle.fb_net.proofs.lemmas.Common.{system_of, path_at, ports_at, sampled_from, names_in}
use Rattle.fb_net.proofs.lemmas.values.ReadIndexes.{read_all, read_more, sampled_at}
use Rattle.fb_net.proofs.taking.samples.sampled_each.Goals as goal

pub returns-clause-sampled : goal.returns-clause-sampled
returns-clause-sampled c =
    let sys = system_of c.args.system.now in
    let p = path_at sys c.args.at.instance in
    read_all (ports_at sys p).inputs (names_in sys c.args.at) (λ w n. sampled_from sys c.args.forest.now.resource w (record { at = p; name = n })) c.loop-index.index-index c.args.indexes.now c.loop-index.values
    c.loop-index.invariant c.loop-index-test.false c.requires.indexes

pub loop-index-preserved : goal.loop-index-preserved
loop-index-preserved c =
    let i = c.args.system.now in
    let f = c.args.forest.now in
    let k = c.args.at.instance in
    read_more i f k (sampled_at i f k) c.loop-index.index-index c.args.indexes.now c.loop-index.values c.push.new.self c.sampled.result.now c.loop-index.invariant c.loop-index-test.true c.in_ok-push.ensures.ok c.sampled.ensures
