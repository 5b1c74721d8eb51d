use Rattle.fb_types.proofs.Common.{◌∙◌, arith, lookup, same_key}
use Rattle.fb_types.proofs.lemmas.lists.Lookups.{or_else_nones}
use Rattle.fb_agenda.proofs.lemmas.Lists.{lookup_both, when_false}
use Rattle.fb_agenda.proofs.later.Later.has_local.Goals as goal

pub returns : goal.returns
returns c =
    let i = c.self.inside in
    let inv = c.self.invariant in
    rw (← c.self.view_is)
    (when_false i.has_local
    (λ unmarked j local. lookup_both j i.timers i.others ∙ or_else_nones (lookup (same_key j) i.timers) (lookup (same_key j) i.others) (inv.only j (λ timer. omega (arith, timer, local))) (inv.marked unmarked j local)))
