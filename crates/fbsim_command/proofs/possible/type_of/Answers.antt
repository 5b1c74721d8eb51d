use Rattle.fb_types.proofs.Common.{◌∙◌, Some, ap, sym, same_name}
use Rattle.fb_types.specs.declared.library.Variable.{Variable}
use Rattle.fbsim_command.proofs.lemmas.TypeOf.{type-found, type-none, type-passed}
use Rattle.fbsim_command.proofs.possible.type_of.Goals as goal

pub returns-then-is : goal.returns-then-is
returns-then-is c =
    let v = c.variable-item.result in
    let name = c.args.name.now in
    ap (λ (w : Variable). Some w.ty) c.variable-item.is
    ∙ type-found c.args.variables.now name c.loop-variable.variable-index v c.loop-variable-test.true c.loop-variable.invariant
    (ap (λ (w : Variable). same_name w.name name) (sym c.variable-item.is) ∙ sym c.is.ensures ∙ c.if-is.true)

pub loop-variable-preserved : goal.loop-variable-preserved
loop-variable-preserved c =
    let v = c.variable-item.result in
    let name = c.args.name.now in
    type-passed c.args.variables.now name c.loop-variable.variable-index v c.loop-variable-test.true c.loop-variable.invariant
    (ap (λ (w : Variable). same_name w.name name) (sym c.variable-item.is) ∙ sym c.is.ensures ∙ c.if-is.false)

pub returns : goal.returns
returns c = type-none c.args.variables.now c.args.name.now c.loop-variable.variable-index c.loop-variable-test.false c.loop-variable.invariant
