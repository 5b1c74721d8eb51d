use Rattle.fb_types.proofs.Common.{sym, ap, ◌∙◌, Name, same_name}
use Rattle.fb_types.specs.declared.library.Variable.{Variable}
use Rattle.fbsim_command.proofs.lemmas.rules.SomeNumber.{index-found, index-passed}
use Rattle.fbsim_command.proofs.possible.is_among.Goals as goal

pub returns-then-is : goal.returns-then-is
returns-then-is c =
    let v = c.index-variables-index.result in
    let required = c.args.name.now in
    let i = c.loop-index.index-index in
    index-found (λ (n : Name). same_name n required) c.args.variables.now c.args.indexes.now i v _ c.loop-index-test.true (c.requires i 0 c.loop-index-test.true) c.index-variables-index.is
    c.loop-index.invariant (ap (λ (w : Variable). same_name w.name required) c.index-variables-index.is ∙ sym c.is.ensures ∙ c.if-is.true)

pub loop-index-preserved : goal.loop-index-preserved
loop-index-preserved c =
    let v = c.index-variables-index.result in
    let required = c.args.name.now in
    let i = c.loop-index.index-index in
    index-passed (λ (n : Name). same_name n required) c.args.variables.now c.args.indexes.now i v _ c.loop-index-test.true (c.requires i 0 c.loop-index-test.true) c.index-variables-index.is
    c.loop-index.invariant (ap (λ (w : Variable). same_name w.name required) c.index-variables-index.is ∙ sym c.is.ensures ∙ c.if-is.false)
