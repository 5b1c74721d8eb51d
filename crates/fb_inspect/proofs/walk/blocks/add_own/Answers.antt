use Rattle.fb_types.proofs.Common.{◌<◌, ◌++◌, List, length, ap, ◌∙◌, arith, take_all, variable_names}
use Rattle.fb_types.specs.declared.library.Variable.{Variable}
use Rattle.fb_inspect.proofs.lemmas.walk.Opened.{names_next}
use Rattle.fb_inspect.proofs.walk.blocks.add_own.Goals as goal

pub loop-index-preserved : goal.loop-index-preserved
loop-index-preserved c =
    let within : c.loop-index.index < length c.args.variables.now = omega arith in
    names_next c.args.variables.now c.loop-index.index c.index-variables-index.result c.args.own.now.items c.loop-index.own.items _ _ within c.index-variables-index.is
    (c.new-reference.ensures ∙ c.in_ok-try_clone.ensures) c.loop-index.invariant c.in_ok-push.ensures.items

pub returns : goal.returns
returns c = c.loop-index.invariant ∙ ap (λ (vs : List Variable). c.args.own.now.items ++ variable_names vs) (take_all c.loop-index.index c.args.variables.now (omega arith))
