use Rattle.fbsim_command.proofs.lemmas.Common.{option_map, refl, subst, Appends, Memory}
use Rattle.fbsim_command.proofs.lemmas.calls.Drawing.{drawn, refused, undeclared, undrawn, unwritten}
use Rattle.fbsim_command.proofs.draw.write_graph.Goals as goal

pub returns-in_err-system : goal.returns-in_err-system
returns-in_err-system g c =
    let asked = option_map (λ t. t.now) c.args.block_type in
    undrawn c.args.inputs.now asked (g.W.Write.contents c.args.out.now) c.from_residual.result _ c.from_residual.ensures.1
    (refused c.args.inputs.now asked c.in_err-system.field-0.0 c.in_err-system.ensures.refused)

pub returns-in_err-text : goal.returns-in_err-text
returns-in_err-text g c =
    undrawn c.args.inputs.now (option_map (λ t. t.now) c.args.block_type) (g.W.Write.contents c.args.out.now) c.from_residual-in_err-text.result Memory c.from_residual-in_err-text.ensures.1 tt

pub returns-in_default : goal.returns-in_default
returns-in_default g c = (
  undeclared c.args.inputs.now c.in_ok-system.system (option_map (λ t. t.now) c.args.block_type) c.in_ok-text.field-0 c.in_ok-system.ensures.system c.in_ok-text.ensures c.in_default.is,
  refl,
)

pub returns-in_err-write_text : goal.returns-in_err-write_text
returns-in_err-write_text g c =
    let asked = option_map (λ t. t.now) c.args.block_type in
    unwritten c.args.inputs.now asked (g.W.Write.contents c.args.out.now) _ c.in-Some.text.items _ c.from_residual-in_err-write_text.result _
    (drawn c.args.inputs.now c.in_ok-system.system asked c.in_ok-text.field-0 c.in-Some.text c.in_ok-system.ensures.system c.in_ok-text.ensures c.in-Some.is)
    c.as_slice.ensures.value c.from_residual-in_err-write_text.ensures.1 c.in_err-write_text.ensures.part

pub returns : goal.returns
returns g c =
    let asked = option_map (λ t. t.now) c.args.block_type in
    let old = g.W.Write.contents c.args.out.now in (
      c.in-Some.text.items,
      drawn c.args.inputs.now c.in_ok-system.system asked c.in_ok-text.field-0 c.in-Some.text c.in_ok-system.ensures.system c.in_ok-text.ensures c.in-Some.is,
      subst (Appends old (g.W.Write.contents c.write_text.new.out)) c.as_slice.ensures.value c.in_ok-write_text.ensures.whole,
    )
