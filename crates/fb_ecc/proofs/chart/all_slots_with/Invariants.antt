use Rattle.fb_types.proofs.Common.{◌≡◌, ◌<◌, ◌+◌, ◌^◌, List, length, map, take, among, variable_names}
use Rattle.fb_types.specs.declared.library.Variable.{Variable}
use Rattle.fb_check_names.specs.Indexes.{IsIndex}
use Rattle.fb_ecc.specs.Located.{slots_among}
use Rattle.fb_ecc.proofs.chart.all_slots_with.Given as goal

abbrev pub invariant-loop-event : goal.invariant-loop-event
invariant-loop-event l =
    (list : List Variable) → IsIndex (variable_names list) l.variables → l.first + length list < 2 ^ 64
    → l.all ≡ map (λ e. slots_among (among e.with) (variable_names list) l.first) (take l.event-index l.events)
