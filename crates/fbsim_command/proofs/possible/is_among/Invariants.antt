use Rattle.fb_types.proofs.Common.{◌≡◌, drop, map, list_any, same_name}
use Rattle.fb_system.specs.IndexLists.{variable_at}
use Rattle.fbsim_command.proofs.possible.is_among.Given as goal

abbrev pub invariant-loop-index : goal.invariant-loop-index
invariant-loop-index l =
    list_any (λ n. same_name n l.name) (map (variable_at l.variables) l.indexes)
    ≡ list_any (λ n. same_name n l.name) (map (variable_at l.variables) (drop l.index-index l.indexes))
