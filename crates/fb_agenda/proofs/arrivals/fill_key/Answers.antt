use Rattle.fb_types.proofs.Common.{◌≡◌, Some, ap, subst, sym, arith, lookup, IsSome, same_key}
use Rattle.fb_types.specs.declared.key.Key.{Key}
use Rattle.fb_types.specs.declared.run.Event.TheVariants.{Arrival}
use Rattle.fb_agenda.specs.Lists.{Sets}
use Rattle.fb_agenda.proofs.lemmas.MessagesPut.{surely}
use Rattle.fb_agenda.proofs.arrivals.fill_key.Goals as goal

pub put-reserved-requires : goal.put-reserved-requires
put-reserved-requires c = λ timer. let class : c.key_of_arrival-key.result.class ≡ 2 = ap (λ (k : Key). k.class) c.key_of_arrival-key.ensures in omega (arith, timer, class)

pub returns-clause-filled : goal.returns-clause-filled
returns-clause-filled c =
    let m = c.args.message in
    let k = c.key_of_arrival-key.result in
    let old = c.args.later.now.events in
    let put = c.put-reserved in
    let new = put.new.self.events in
    let there : IsSome (lookup (same_key k) old) = subst (λ (z : Key). IsSome (lookup (same_key z) old)) (sym c.key_of_arrival-key.ensures) c.requires in
    let sets : Sets k (Some (Arrival m)) old new = surely put.result (lookup (same_key k) old) there put.ensures.absent put.ensures.put in
    subst (λ (z : Key). Sets z (Some (Arrival m)) old new) c.key_of_arrival-key.ensures sets
