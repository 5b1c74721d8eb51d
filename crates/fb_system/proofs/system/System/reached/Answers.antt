use Rattle.fb_system.proofs.lemmas.rows.KeptEnds.{first_read, row_read}
use Rattle.fb_system.proofs.lemmas.rows.KeptRows.{ports_seen}
use Rattle.fb_system.proofs.system.System.reached.Goals as goal

pub returns-in-Some-clause-leads : goal.returns-in-Some-clause-leads
returns-in-Some-clause-leads c =
    (first_read c.args.self.now c.args.from c.args.index _
    (row_read c.args.self.now c.args.from _ _ c.in-Some.is (c.port.ensures _ (ports_seen _ _ _ c.deref.ensures c.self.view_is c.self.invariant))) c.if-index-eq0.true).leads

pub returns-in-Some-clause-within : goal.returns-in-Some-clause-within
returns-in-Some-clause-within c =
    (first_read c.args.self.now c.args.from c.args.index _
    (row_read c.args.self.now c.args.from _ _ c.in-Some.is (c.port.ensures _ (ports_seen _ _ _ c.deref.ensures c.self.view_is c.self.invariant))) c.if-index-eq0.true).within

pub returns-in-Some-clause-more : goal.returns-in-Some-clause-more
returns-in-Some-clause-more c =
    (first_read c.args.self.now c.args.from c.args.index _
    (row_read c.args.self.now c.args.from _ _ c.in-Some.is (c.port.ensures _ (ports_seen _ _ _ c.deref.ensures c.self.view_is c.self.invariant))) c.if-index-eq0.true).more

pub returns-in-Some-clause-here : goal.returns-in-Some-clause-here
returns-in-Some-clause-here c =
    (first_read c.args.self.now c.args.from c.args.index _
    (row_read c.args.self.now c.args.from _ _ c.in-Some.is (c.port.ensures _ (ports_seen _ _ _ c.deref.ensures c.self.view_is c.self.invariant))) c.if-index-eq0.true).here

pub returns-in-Some-clause-link : goal.returns-in-Some-clause-link
returns-in-Some-clause-link c =
    (first_read c.args.self.now c.args.from c.args.index _
    (row_read c.args.self.now c.args.from _ _ c.in-Some.is (c.port.ensures _ (ports_seen _ _ _ c.deref.ensures c.self.view_is c.self.invariant))) c.if-index-eq0.true).link

pub port-requires : goal.port-requires
port-requires c = (c.args.self.now, ports_seen _ _ _ c.deref.ensures c.self.view_is c.self.invariant)
