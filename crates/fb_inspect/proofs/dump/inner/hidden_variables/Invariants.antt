use Rattle.std.proofs.Common.{◌≡◌, ◌++◌, Bor, map, take}
use Rattle.std.specs.List.{filter}
use Rattle.fb_types.specs.declared.library.Variable.{Variable}
use Rattle.fb_inspect.specs.walk.Notes.{is_unpublished}
use Rattle.fb_inspect.proofs.dump.inner.hidden_variables.Given as goal

abbrev pub invariant-loop-variable : goal.invariant-loop-variable
invariant-loop-variable l = map (λ (v : Bor Variable). v.now) l.hidden.items ≡ filter (is_unpublished l.block) (take l.variable-index l.block.ports.outputs)

abbrev pub invariant-loop-variable-2 : goal.invariant-loop-variable-2
invariant-loop-variable-2 l =
    map (λ (v : Bor Variable). v.now) l.hidden.items ≡ filter (is_unpublished l.block) l.block.ports.outputs ++ take l.variable-index l.block.internals
