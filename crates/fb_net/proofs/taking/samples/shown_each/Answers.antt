use Rattle.fb_types.proofs.Common.{system_of, path_at, ports_at, from_inside}
use Rattle.fb_net.specs.Samples.{names_out}
use Rattle.fb_net.proofs.lemmas.values.ReadIndexes.{read_all, read_more, shown_at}
use Rattle.fb_net.proofs.taking.samples.shown_each.Goals as goal

pub returns-clause-shown : goal.returns-clause-shown
returns-clause-shown c =
    let sys = system_of c.args.system.now in
    let p = path_at sys c.args.at.instance in
    read_all (ports_at sys p).outputs (names_out sys c.args.at) (λ w n. from_inside sys c.args.forest.now.resource w p n) c.loop-index.index-index c.args.indexes.now c.loop-index.values
    c.loop-index.invariant c.loop-index-test.false c.requires.indexes

pub loop-index-preserved : goal.loop-index-preserved
loop-index-preserved c =
    let i = c.args.system.now in
    let f = c.args.forest.now in
    let k = c.args.at.instance in
    read_more i f k (shown_at i f k) c.loop-index.index-index c.args.indexes.now c.loop-index.values c.push.new.self c.shown_inside.result.now c.loop-index.invariant c.loop-index-test.true c.in_ok-push.ensures.ok c.shown_inside.ensures
