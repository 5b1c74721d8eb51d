use Rattle.fb_types.proofs.Common.{◌+◌, length, ap, not, system_of, port_of}
use Rattle.fb_net.specs.Emitting.{home_of}
use Rattle.fb_net.proofs.lemmas.taking.Targets.{all_gone, last_gone, none_after, none_gone, one_more_gone, puts_out}
use Rattle.fb_net.proofs.lemmas.emitting.PortRows.{leads_to}
use Rattle.fb_net.proofs.taking.emit.send_out.Goals as goal

pub loop-next-init : goal.loop-next-init
loop-next-init c =
    let sys = system_of c.args.system.now in
    (none_gone sys (home_of c.args.system.now c.args.from) _ (sys.targets (port_of sys c.args.from)) c.args.outs.now.items, c.requires.first)

pub loop-next-preserved : goal.loop-next-preserved
loop-next-preserved c =
    let sys = system_of c.args.system.now in
    let gone = c.loop-next.invariant.0 in
    let leads = leads_to sys c.args.from c.loop-next.index c.loop-next.next c.in-Some.reached c.loop-next.invariant.1 c.in-Some.is in
    let put = puts_out sys c.args.from.instance c.in-Some.reached _ c.loop-next.outs.items c.put_out.new.outs.items leads.within leads.here leads.link c.requires.carried c.in_ok-put_out.ensures in (
      rw put.2 (one_more_gone sys (home_of c.args.system.now c.args.from) _ (sys.targets (port_of sys c.args.from)) c.args.outs.now.items c.loop-next.index c.loop-next.outs.items c.loop-next.next c.in-Some.reached put.0 gone c.loop-next.invariant.1.leads c.in-Some.is put.1),
      record {
        leads = c.reached-next.ensures.leads;
        within = c.reached-next.ensures.within;
        more = c.reached-next.ensures.more;
        here = c.reached-next.ensures.here;
        link = c.reached-next.ensures.link;
      },
    )

-- no target is after the last
pub returns-then-not-reached : goal.returns-then-not-reached
returns-then-not-reached c =
    let sys = system_of c.args.system.now in
    let r = home_of c.args.system.now c.args.from in
    let targets = sys.targets (port_of sys c.args.from) in
    let leads = leads_to sys c.args.from c.loop-next.index c.loop-next.next c.in-Some.reached c.loop-next.invariant.1 c.in-Some.is in
    let put = puts_out sys c.args.from.instance c.in-Some.reached _ c.loop-next.outs.items c.put_out.new.outs.items leads.within leads.here leads.link c.requires.carried c.in_ok-put_out.ensures in
    let gone = one_more_gone sys r _ targets c.args.outs.now.items c.loop-next.index c.loop-next.outs.items c.loop-next.next c.in-Some.reached put.0 c.loop-next.invariant.0 c.loop-next.invariant.1.leads c.in-Some.is put.1 in
    let past = none_after c.in-Some.reached.more (c.loop-next.index + 1) (length targets) leads.more (ap not c.if-not-reached.true) in
    rw put.2 (record { sent = last_gone sys r _ targets c.args.outs.now.items (c.loop-next.index + 1) _ gone past; belong = gone.belong })

pub returns : goal.returns
returns c =
    let sys = system_of c.args.system.now in
    let r = home_of c.args.system.now c.args.from in
    let gone = c.loop-next.invariant.0 in
    record {
      sent = all_gone sys r _ (sys.targets (port_of sys c.args.from)) c.args.outs.now.items c.loop-next.index c.loop-next.outs.items c.loop-next.next gone c.loop-next.invariant.1.leads c.in_default.is;
      belong = gone.belong;
    }
