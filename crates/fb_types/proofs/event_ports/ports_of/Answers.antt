use Rattle.fb_types.proofs.Common.{◌≡◌, ◌<◌, ◌^◌, List, length, subst, sym, ap, ◌∙◌, ports, Ports}
use Rattle.fb_types.proofs.lemmas.events.EventCounts.{event_block_narrow}
use Rattle.fb_types.proofs.event_ports.ports_of.Goals as goal

-- a list that is one of few elements
few : {A : Type 0} (xs ys : List A) → xs ≡ ys → length ys < 2 ^ 32 → length xs < 2 ^ 32
few {A = A} xs ys e h = subst (λ (zs : List A). length zs < 2 ^ 32) (sym e) h

pub new-requires : goal.new-requires
new-requires c =
    few _ _ (c.in_ok-events.ensures ∙ ap (λ (p : Ports). p.event_inputs) c.row_of-row.ensures) (event_block_narrow c.args.kind).event_inputs

pub new-requires-2 : goal.new-requires-2
new-requires-2 c =
    few _ _ (c.in_ok-events-2.ensures ∙ ap (λ (p : Ports). p.event_outputs) c.row_of-row.ensures) (event_block_narrow c.args.kind).event_outputs

pub new-requires-3 : goal.new-requires-3
new-requires-3 c =
    few _ _ (c.in_ok-variables.ensures ∙ ap (λ (p : Ports). p.inputs) c.row_of-row.ensures) (event_block_narrow c.args.kind).inputs

pub new-requires-4 : goal.new-requires-4
new-requires-4 c =
    few _ _ (c.in_ok-variables-2.ensures ∙ ap (λ (p : Ports). p.outputs) c.row_of-row.ensures) (event_block_narrow c.args.kind).outputs

pub returns : goal.returns
returns c =
    (λ i. ports ((c.new.ensures ∙ c.in_ok-events.ensures) i) ((c.new-2.ensures ∙ c.in_ok-events-2.ensures) i) ((c.new-3.ensures ∙ c.in_ok-variables.ensures) i)
    ((c.new-4.ensures ∙ c.in_ok-variables-2.ensures) i))
    ∙ c.row_of-row.ensures
