use Rattle.std.proofs.Common.{Bor, List, ℕ, Option, option_map, ap, sym, ◌∙◌}
use Rattle.fb_inputs.specs.Words.{name}
use Rattle.fbsim_command.proofs.lemmas.calls.Drawing.{named, unnamed, whole}
use Rattle.fbsim_command.proofs.draw.graph.Goals as goal

abbrev text_of : Option (Bor (List ℕ)) → Option (List ℕ)
text_of o = option_map (λ t. t.now) o

pub returns-in_default : goal.returns-in_default
returns-in_default c =
    whole c.draw.result c.args.system.now c.library.result.now c.plan.result.now _ c.library.ensures c.plan.ensures (ap text_of c.in_default.is) c.draw.ensures

pub returns-in-Some-2 : goal.returns-in-Some-2
returns-in-Some-2 c =
    named c.draw-in-Some-2.result c.args.system.now c.library-in-Some-2.result.now c.plan-in-Some-2.result.now _ c.in-Some.text.now c.in-Some-2.name
    c.library-in-Some-2.ensures c.plan-in-Some-2.ensures (ap text_of c.in-Some.is) (sym (ap name c.as_bytes.ensures.value) ∙ sym c.in_ok-name.ensures ∙ c.in-Some-2.is)
    c.draw-in-Some-2.ensures

pub returns-in-None : goal.returns-in-None
returns-in-None c =
    unnamed c.args.system.now _ c.in-Some.text.now (ap text_of c.in-Some.is) (sym (ap name c.as_bytes.ensures.value) ∙ sym c.in_ok-name.ensures ∙ c.in-None.is)
