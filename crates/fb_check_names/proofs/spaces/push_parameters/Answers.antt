use Rattle.fb_types.proofs.Common.{◌++◌, List, ◌∙◌, ap, map}
use Rattle.fb_types.specs.declared.library.Parameter.{Parameter}
use Rattle.fb_check_names.specs.TwiceLists.{names_twice, parameters_twice}
use Rattle.fb_check_names.specs.declared.repeats.NameSpace.TheVariants as space
use Rattle.fb_check_names.proofs.lemmas.Listing.{each_done, each_more}
use Rattle.fb_check_names.proofs.spaces.push_parameters.Goals as goal

pub loop-instance-preserved : goal.loop-instance-preserved
loop-instance-preserved c =
    each_more (parameters_twice c.args.site) c.args.instances.now c.loop-instance.instance c.index-instances-instance.result c.loop-instance.found.items c.called_indexes.new.found.items _
    c.loop-instance-test.true c.index-instances-instance.is
    (c.in_ok-called_indexes.ensures.found
    ∙ ap (λ (ps : List Parameter). c.loop-instance.found.items ++ names_twice (space.Parameters c.args.site c.loop-instance.instance) (map (λ (p : Parameter). p.name) ps)) c.as_slice.ensures)
    c.loop-instance.invariant

pub returns : goal.returns
returns c = each_done (parameters_twice c.args.site) c.args.instances.now c.loop-instance.instance c.loop-instance.found.items _ c.loop-instance-test.false c.loop-instance.invariant
