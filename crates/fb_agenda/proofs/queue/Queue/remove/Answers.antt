use Rattle.fb_agenda.proofs.lemmas.Common.{◌≡◌, List, map, ap, ◌∙◌, arith, Key, Target, remove, keyed, local_events}
use Rattle.fb_agenda.proofs.lemmas.Queueing.{gone_queue, gone_sets, index_within, number_removed, numbers_length, where_some}
use Rattle.fb_agenda.proofs.lemmas.TimerKeys.{none_sets}
use Rattle.fb_agenda.proofs.queue.Queue.remove.Goals as goal

-- ---- The key is there

pub returns-in-Some-clause-gone : goal.returns-in-Some-clause-gone
returns-in-Some-clause-gone c =
    let q = c.self.inside in
    let i = c.in-Some.index in
    let new : List (Key × Target) = map (keyed q.tick q.resource) c.remove.new.self.items in
    let index = c.in-Some.ensures.there in
    let within = index_within c.args.self.now c.args.key.now i index in
    let count = numbers_length q.tick q.resource q.waiting.items c.args.self.now c.self.view_is in
    let some = where_some c.remove.result (c.remove.ensures.variant.1 (omega (arith, within, count))) c.remove.ensures.items in
    let is : new ≡ remove c.args.self.now i = ap (map (keyed q.tick q.resource)) some ∙ number_removed q.tick q.resource q.waiting.items i ∙ ap (λ l. remove l i) c.self.view_is in
    gone_sets c.args.self.now new c.args.key.now i c.requires index is

pub returns-in-Some-clause-queue : goal.returns-in-Some-clause-queue
returns-in-Some-clause-queue c =
    let q = c.self.inside in
    let i = c.in-Some.index in
    let new : List (Key × Target) = map (keyed q.tick q.resource) c.remove.new.self.items in
    let index = c.in-Some.ensures.there in
    let within = index_within c.args.self.now c.args.key.now i index in
    let count = numbers_length q.tick q.resource q.waiting.items c.args.self.now c.self.view_is in
    let some = where_some c.remove.result (c.remove.ensures.variant.1 (omega (arith, within, count))) c.remove.ensures.items in
    let is : new ≡ remove c.args.self.now i = ap (map (keyed q.tick q.resource)) some ∙ number_removed q.tick q.resource q.waiting.items i ∙ ap (λ l. remove l i) c.self.view_is in
    gone_queue c.args.self.now new c.args.key.now i c.requires index is

-- ---- The key is not there

pub returns-in_default-clause-gone : goal.returns-in_default-clause-gone
returns-in_default-clause-gone c = none_sets c.args.key.now (local_events c.args.self.now) c.in_default.ensures.absent
