use Rattle.fb_check.proofs.lemmas.Common.{Bool, List, map, ap, ◌∙◌}
use Rattle.fb_check.specs.networks.Heights.{holds_marked}
use Rattle.fb_check.proofs.lemmas.networks.Lasting.{one_round_more, they_are_fewer, they_last}
use Rattle.fb_check.proofs.networks.heights.lasting_marks.Goals as goal

pub rounds-init : goal.rounds-init
rounds-init c = (0, c.in_ok-marks.ensures)

pub returns-then-eq : goal.returns-then-eq
returns-then-eq c =
    let xs = c.args.blocks.now in
    let round = c.in_ok-again.ensures ∙ ap (λ (ms : List Bool). map (holds_marked ms) xs) c.deref.ensures.value in
    they_last xs c.rounds.invariant.0 _ _ _ c.rounds.invariant.1 round c.eq.ensures c.if-eq.true

pub rounds-preserved : goal.rounds-preserved
rounds-preserved c =
    let xs = c.args.blocks.now in
    let round = c.in_ok-again.ensures ∙ ap (λ (ms : List Bool). map (holds_marked ms) xs) c.deref.ensures.value in
    one_round_more xs c.rounds.invariant.0 _ _ c.rounds.invariant.1 round

pub rounds-smaller : goal.rounds-smaller
rounds-smaller c =
    let xs = c.args.blocks.now in
    let round = c.in_ok-again.ensures ∙ ap (λ (ms : List Bool). map (holds_marked ms) xs) c.deref.ensures.value in
    they_are_fewer xs c.rounds.invariant.0 _ _ _ c.rounds.invariant.1 round c.eq.ensures c.if-eq.false
