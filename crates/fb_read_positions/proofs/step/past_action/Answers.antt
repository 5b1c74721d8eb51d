use Rattle.fb_read_positions.proofs.lemmas.PassedTokens.{algorithm_alone, no_action, read_as, to_output}
use Rattle.fb_read_positions.proofs.step.past_action.Goals as goal

pub returns-then-eat : goal.returns-then-eat
returns-then-eat c =
    let named = c.eat_name-has_algorithm.ensures in
    read_as _ _ _ _ (to_output _ _ _ _ _ named.found named.after c.eat.ensures.found c.eat.ensures.after c.if-eat.true) c.past_name.ensures

pub returns-then-has_algorithm : goal.returns-then-has_algorithm
returns-then-has_algorithm c =
    let named = c.eat_name-has_algorithm.ensures in
    algorithm_alone _ _ _ _ _ named.found named.after c.eat.ensures.found c.eat.ensures.after c.if-eat.false c.if-has_algorithm.true

pub returns-else-has_algorithm : goal.returns-else-has_algorithm
returns-else-has_algorithm c =
    let named = c.eat_name-has_algorithm.ensures in
    no_action _ _ _ _ _ named.found named.after c.eat.ensures.found c.eat.ensures.after c.if-eat.false c.if-has_algorithm.false
