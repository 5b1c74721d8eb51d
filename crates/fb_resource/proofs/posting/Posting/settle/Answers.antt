use Rattle.std.proofs.Common.{◌^◌, length, refl, arith}
use Rattle.fb_resource.proofs.lemmas.Posted.{grown_then, posted_after, same_then, still_postable}
use Rattle.fb_resource.proofs.lemmas.ReadyIs.{when_ok}
use Rattle.fb_resource.proofs.posting.Posting.settle.Goals as goal

pub post_all-requires-clause-may : goal.post_all-requires-clause-may
post_all-requires-clause-may c = c.in_ok-set_timer.ensures.grown.may

pub post_all-requires-clause-outs : goal.post_all-requires-clause-outs
post_all-requires-clause-outs c = still_postable c.args.self.now c.set_timer.new.self c.args.outbox.now.outs.items c.set_timer.ensures.same c.requires.outs

pub post_all-requires-clause-room : goal.post_all-requires-clause-room
post_all-requires-clause-room c =
    let few = c.in_ok-set_timer.ensures.grown.few in
    omega (arith, few, c.requires.room)

pub returns-clause-settled : goal.returns-clause-settled
returns-clause-settled c = when_ok c.post_all.result c.post_all.ensures.posted
    (λ posted counts are.
    let set = c.in_ok-set_timer.ensures.set in
    record {
      mid = c.set_timer.new.self.agenda.now;
      set = set.set;
      posted = posted_after c.args.self.now c.set_timer.new.self c.post_all.new.self c.args.outbox.now.timer c.args.event.now c.args.outbox.now.outs.items c.set_timer.ensures.same set posted counts are;
    })

pub returns-clause-grown : goal.returns-clause-grown
returns-clause-grown c = when_ok c.post_all.result c.post_all.ensures.grown
    (grown_then c.args.self.now c.set_timer.new.self c.post_all.new.self 0 (length c.args.outbox.now.outs.items) (2 ^ 64) c.set_timer.ensures.same (omega arith) c.in_ok-set_timer.ensures.grown)

pub returns-clause-emptied : goal.returns-clause-emptied
returns-clause-emptied c = when_ok c.post_all.result c.post_all.ensures.none (λ none. record { lines = refl; none = none; keeps = refl })

pub returns-clause-same : goal.returns-clause-same
returns-clause-same c = same_then c.args.self.now c.set_timer.new.self c.post_all.new.self c.set_timer.ensures.same c.post_all.ensures.same
