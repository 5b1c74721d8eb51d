use Rattle.fb_resource.proofs.lemmas.Common.{refl, ap, ◌∙◌, arith, option_map, system_of, changed_to, waiting, event_of, meaning}
use Rattle.fb_types.proofs.Common.{timer_change}
use Rattle.fb_resource.proofs.lemmas.Posted.{grown_nothing, set_nothing}
use Rattle.fb_resource.proofs.lemmas.ReadyIs.{lies_in, order_timer, when_ok, when_ok_both}
use Rattle.fb_resource.proofs.lemmas.TakenIs.{meaning_timer}
use Rattle.fb_resource.proofs.posting.Posting.set_timer.Goals as goal

pub returns-in-Keep-clause-set : goal.returns-in-Keep-clause-set
returns-in-Keep-clause-set c = set_nothing c.args.self.now c.args.ask.now c.args.event.now c.in-Keep.is

pub returns-in-Keep-clause-grown : goal.returns-in-Keep-clause-grown
returns-in-Keep-clause-grown c = grown_nothing c.args.self.now 0 c.requires.may

pub set_timer-requires-clause-home : goal.set_timer-requires-clause-home
set_timer-requires-clause-home c =
    let p = c.args.self.now in
    let i = p.system.now in
    lies_in i p.key.now.tick p.key.now.resource c.instance_of-instance.result p.agenda.now c.requires.may.order
    (ap (system_of i).resource c.instance_of-instance.ensures.path ∙ c.requires.event.here)

pub returns-in_default-clause-set : goal.returns-in_default-clause-set
returns-in_default-clause-set c = when_ok c.set_timer.result c.set_timer.ensures.changed
    (λ changed.
    let p = c.args.self.now in
    let i = p.system.now in
    let n = c.instance_of-instance.result in
    let r = p.key.now.resource in
    record {
      set = λ j.
          ap (option_map (event_of i)) (changed j)
          ∙ meaning_timer i r n c.args.ask.now j (waiting p.agenda.now j) (p.numbered n c.instance_of-instance.ensures.instance)
          ∙ ap (λ q. changed_to (timer_change (system_of i) r q c.args.ask.now j) (meaning i p.agenda.now j)) c.instance_of-instance.ensures.path;
      mail = refl;
      sent = refl;
      locals = refl;
    })

pub returns-in_default-clause-grown : goal.returns-in_default-clause-grown
returns-in_default-clause-grown c = when_ok_both c.set_timer.result c.set_timer.ensures.changed c.set_timer.ensures.timed
    (λ changed timed.
    let p = c.args.self.now in
    let i = p.system.now in
    let may = c.requires.may in
    record {
      may = record {
        order = order_timer i p.key.now.tick p.key.now.resource c.instance_of-instance.result c.args.ask.now p.agenda.now c.set_timer.new.self
            c.instance_of-instance.ensures.instance (ap (system_of i).resource c.instance_of-instance.ensures.path ∙ c.requires.event.here) p.named c.requires.later changed timed may.order;
        due = c.set_timer.ensures.counted ∙ may.due;
        counted = may.counted;
        mail = may.mail;
      };
      later = λ all. all;
      few = omega arith;
    })
