use Rattle.std.proofs.lemmas.Iterator.{YieldsList-from_slice, YieldsList-from_zip}
use Rattle.std.proofs.lemmas.Iterator.Consumers.{YieldsList-end}
use Rattle.fb_net.proofs.lemmas.Common.{system_of, path_at, ports_at, names_in}
use Rattle.fb_net.proofs.lemmas.blocks.Changing.{changes_none, samples_all, samples_push}
use Rattle.fb_net.proofs.lemmas.blocks.BlocksKept.{stands-changed}
use Rattle.fb_net.proofs.taking.bring.keep_samples.Goals as goal

pub loop-index-init : goal.loop-index-init
loop-index-init c = changes_none c.args.system.now c.args.forest.now c.args.at.instance

pub loop-index-preserved : goal.loop-index-preserved
loop-index-preserved c =
    let sys = system_of c.args.system.now in
    let inputs = (ports_at sys (path_at sys c.args.at.instance)).inputs in
    samples_push inputs c.loop-index.yielded (c.in-Some.index, c.in-Some.value) c.loop-index.invariant c.set_input.ensures

pub returns : goal.returns
returns c =
    let sys = system_of c.args.system.now in
    let inputs = (ports_at sys (path_at sys c.args.at.instance)).inputs in
    let indexes = c.args.indexes.now in
    samples_all inputs (names_in sys c.args.at) indexes c.args.values.now c.loop-index.yielded c.loop-index.invariant
    (YieldsList-end (YieldsList-from_zip {s = c.into_iter-index-iterator.result} (YieldsList-from_slice indexes (cc)) (YieldsList-from_slice c.args.values.now (cc)))
    c.loop-index.yielded c.loop-index.index-iterator c.loop-index.yielded_by c.next.result c.next.new.self c.in-None.is c.next.ensures.steps).0 c.requires.indexes

pub set_input-requires-clause-stands : goal.set_input-requires-clause-stands
set_input-requires-clause-stands c = stands-changed c.args.system.now c.args.forest.now c.loop-index.forest c.args.at.instance _ c.requires.stands c.loop-index.invariant
