use Rattle.fb_check.proofs.lemmas.Common.{◌≡◌, ◌++◌, drop, context_in, choices_of, part_at}
use Rattle.fb_check.specs.types.KindWrongLists.{wrong_choices}
use Rattle.fb_check.proofs.types.statements.push_choice_parts.Given as goal

abbrev pub invariant-loop-index : goal.invariant-loop-index
invariant-loop-index l =
    l.found.items ++ wrong_choices (part_at l.at) (context_in l.scope) l.index (choices_of (drop l.index l.choices))
    ≡ l.fn.found.items ++ wrong_choices (part_at l.at) (context_in l.scope) 0 (choices_of l.choices)
