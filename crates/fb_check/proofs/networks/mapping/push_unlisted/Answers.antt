use Rattle.fb_check.proofs.lemmas.Common.{is_some, index_in}
use Rattle.fb_check_names.specs.declared.location.NotMappedAt.TheVariants.{Unlisted}
use Rattle.fb_check_names.proofs.lemmas.Listing.{added_unless, each_done, each_more}
use Rattle.fb_check.specs.networks.Mapping.{unlisted_by}
use Rattle.fb_check.proofs.networks.mapping.push_unlisted.Goals as goal

pub loop-instance-preserved : goal.loop-instance-preserved
loop-instance-preserved c =
    let x = c.index-instances-instance.result in
    each_more (unlisted_by c.args.indexes.now) c.args.instances.now c.loop-instance.instance x c.loop-instance.found.items c.push_unless.new.found.items _ c.loop-instance-test.true
    c.index-instances-instance.is
    (added_unless c.loop-instance.found.items c.push_unless.new.found.items c.contains_key-is_listed.result (is_some (index_in c.args.indexes.now x.name)) (Unlisted c.loop-instance.instance)
    c.contains_key-is_listed.ensures c.in_ok-push_unless.ensures)
    c.loop-instance.invariant

pub returns : goal.returns
returns c = each_done (unlisted_by c.args.indexes.now) c.args.instances.now c.loop-instance.instance c.loop-instance.found.items _ c.loop-instance-test.false c.loop-instance.invariant
