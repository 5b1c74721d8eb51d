use Rattle.fb_agenda.proofs.lemmas.Common.{None, sym, subst, AreRising, Sets}
use Rattle.fb_agenda.proofs.lemmas.Lists.{alone, few_sets, few_split, many_sets, many_split, removed_rises, removed_sets}
use Rattle.fb_agenda.proofs.store.Store.remove.Goals as goal

-- ---- The key is not in the row

pub invariant_of-self : goal.invariant_of-self
invariant_of-self c =
    let few = c.self.inside.row.items in
    let many = c.self.inside.map.entries in
    let k = c.args.key.now in
    let new = c.remove.new.self.entries in
    let sets = c.remove.ensures.updates.0 in
    many_split few many c.self.invariant k None new sets c.in_default.ensures.absent

pub returns-in_default : goal.returns-in_default
returns-in_default c =
    rw (← c.self.view_is)
    (many_sets c.self.inside.row.items c.self.inside.map.entries c.self.invariant c.args.key.now None c.remove.new.self.entries c.remove.ensures.updates.0 c.in_default.ensures.absent)

-- ---- The key is in the row

pub invariant_of-self-2 : goal.invariant_of-self-2
invariant_of-self-2 c =
    let few = c.self.inside.row.items in
    let many = c.self.inside.map.entries in
    let split = c.self.invariant in
    let k = c.args.key.now in
    let i = c.in-Some.index in
    let index = c.in-Some.ensures.there in
    let new = c.remove-2.new.self.items in
    let is = c.in_ok-event.ensures.items in
    let sets : Sets k None few new = subst (λ es. Sets k None few es) (sym is) (removed_sets few k i split.rising index.within index.there) in
    let rises : AreRising new = subst (λ es. AreRising es) (sym is) (removed_rises few i split.rising) in
    let none = alone few many split k i index in
    few_split few many split k None new sets rises none

pub returns : goal.returns
returns c =
    let few = c.self.inside.row.items in
    let many = c.self.inside.map.entries in
    let split = c.self.invariant in
    let k = c.args.key.now in
    let i = c.in-Some.index in
    let index = c.in-Some.ensures.there in
    let new = c.remove-2.new.self.items in
    let is = c.in_ok-event.ensures.items in
    let sets : Sets k None few new = subst (λ es. Sets k None few es) (sym is) (removed_sets few k i split.rising index.within index.there) in
    rw (← c.self.view_is) (few_sets few many split k None new sets (alone few many split k i index))
