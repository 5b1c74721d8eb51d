use Rattle.fb_resource.proofs.lemmas.Common.{◌≡◌, ℕ, All, sym, subst, rules, system_of, BelongsTo, Traffic}
use Rattle.fb_types.proofs.Common.{OnOk}
use Rattle.fb_resource.specs.Takings.{Settles}
use Rattle.fb_resource.proofs.lemmas.Posted.{ready_again}
use Rattle.fb_resource.proofs.lemmas.ReadyIs.{when_ok_three}
use Rattle.fb_resource.proofs.one_taking.settle_all.Goals as goal

pub settle-requires-clause-may : goal.settle-requires-clause-may
settle-requires-clause-may c =
    let may = c.requires.may in
    record { order = may.order; due = may.due; counted = may.counted; mail = may.mail }

pub settle-requires-clause-event : goal.settle-requires-clause-event
settle-requires-clause-event c = c.requires.may.event

pub settle-requires-clause-later : goal.settle-requires-clause-later
settle-requires-clause-later c = c.requires.may.later

pub settle-requires-clause-outs : goal.settle-requires-clause-outs
settle-requires-clause-outs c = c.requires.may.outs

pub returns : goal.returns
returns c =
    let i = c.args.system.now in
    let l = c.args.least.now in
    let now = c.settle.new.self in
    let new : Traffic = record { agenda = now.agenda.now; sent = now.sent.now; mail = now.mail.now; outbox = c.settle.new.outbox } in
    let locals : now.locals.now ≡ c.locals-1.given.0 = search rules in
    subst (λ (n : ℕ). OnOk c.settle.result (Settles i l c.args.locals.now c.args.traffic.now n new)) locals
    (when_ok_three c.settle.result c.settle.ensures.settled c.settle.ensures.grown c.settle.ensures.emptied
    (λ settled grown emptied. record {
      settled = settled;
      ready = ready_again _ now c.settle.new.outbox c.settle.ensures.same grown.may
          (subst (All (BelongsTo (system_of i))) (sym emptied.lines) c.requires.may.lines) emptied.none emptied.keeps;
      later = grown.later;
      few = grown.few;
      lines = emptied.lines;
    }))
