use Rattle.fb_types.proofs.Common.{◌<◌, length, arith, system_of}
use Rattle.fb_wave.proofs.lemmas.Heading.{resources_on}
use Rattle.fb_wave.proofs.head.put_resources.Goals as goal

pub loop-resource-preserved : goal.loop-resource-preserved
loop-resource-preserved c =
    let sys = system_of c.args.system.now in
    let r = c.loop-resource.resource in
    let within : r < length sys.resource_names = omega arith in
    resources_on sys r c.resource_name.result.now c.loop-resource.text.items c.put_opened.new.text.items c.put_instances.new.text.items c.put_closed.new.text.items _ within
    c.resource_name.ensures c.in_ok-put_opened.ensures c.in_ok-put_instances.ensures c.in_ok-put_closed.ensures c.loop-resource.invariant
