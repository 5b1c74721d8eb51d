use Rattle.fb_types.proofs.Common.{◌+◌, ◌<◌, All, length, refl, sym, ap, subst, ◌∙◌, arith, length-set, All-push, system_of, local_key}
use Rattle.fb_types.specs.declared.run.Event.TheVariants.{Local}
use Rattle.fb_resource.specs.Posts.{IsMessage, IsPostable, IsSendable, message_of}
use Rattle.fb_resource.proofs.lemmas.PostLaws.{local_waits, message_is, one_local, one_message, order_put}
use Rattle.fb_resource.proofs.lemmas.ReadyIs.{when_ok_both, when_ok_three}
use Rattle.fb_resource.proofs.posting.Posting.post_one.Goals as goal

-- ---- A local event

pub returns-in_ok-put_local-in-Local-clause-posted : goal.returns-in_ok-put_local-in-Local-clause-posted
returns-in_ok-put_local-in-Local-clause-posted c = λ before base first are.
    let p = c.args.self.now in
    one_local p.system.now p.key.now base p.agenda.now c.put_local.new.self first p.mail.now.items before c.args.out
    p.locals.now (p.locals.now + 1) p.sent.now.items c.in-Local.target c.in-Local.is refl are c.in_ok-put_local-in-Local.ensures.put

pub returns-in_ok-put_local-in-Local-clause-grown : goal.returns-in_ok-put_local-in-Local-clause-grown
returns-in_ok-put_local-in-Local-clause-grown c =
    let p = c.args.self.now in
    let i = p.system.now in
    let k = p.key.now in
    let n = p.locals.now in
    let t = c.in-Local.target in
    let may = c.requires.may in
    let due = c.put_local.ensures.due in
    let is = subst (IsPostable (system_of i) k.resource) c.in-Local.is c.requires.out in
    record {
      may = record {
        order = order_put i k.tick p.agenda.now c.put_local.new.self (local_key k.tick k.resource n) (Local t) c.in_ok-put_local-in-Local.ensures.put (λ one. omega (arith, one)) (local_waits i k n t is p.named) due may.order;
        due = ap length due ∙ may.due;
        counted = may.counted;
        mail = may.mail;
      };
      later = λ all. all;
      few = omega arith;
    }

-- ---- A message

pub returns-in-Send-clause-posted : goal.returns-in-Send-clause-posted
returns-in-Send-clause-posted c = when_ok_both c.post_message.result c.post_message.ensures.put c.post_message.ensures.counted
    (λ put more before base first are.
    let p = c.args.self.now in
    let sys = system_of p.system.now in
    let s = c.in-Send.sending in
    let is : IsSendable sys p.key.now.resource s = subst (IsPostable sys p.key.now.resource) c.in-Send.is c.requires.out in
    let there = is.there in
    let counted = c.requires.may.counted in
    let within : s.link < length p.sent.now.items = omega (arith, there, counted) in
    one_message p.system.now p.key.now base p.agenda.now first p.mail.now.items c.post_message.new.mail.items before c.args.out
    p.locals.now p.sent.now.items c.post_message.new.sent.items s c.in-Send.is more are is within put)

pub returns-in-Send-clause-grown : goal.returns-in-Send-clause-grown
returns-in-Send-clause-grown c =
    let p = c.args.self.now in
    let i = p.system.now in
    let sys = system_of i in
    let k = p.key.now in
    let s = c.in-Send.sending in
    let may = c.requires.may in
    let is : IsSendable sys k.resource s = subst (IsPostable sys k.resource) c.in-Send.is c.requires.out in
    when_ok_three c.post_message.result c.post_message.ensures.put c.post_message.ensures.counted c.post_message.ensures.later
    (λ put counted later. record {
      may = record {
        order = may.order;
        due = may.due;
        counted = ap length counted ∙ length-set p.sent.now.items s.link _ ∙ may.counted;
        mail = subst (All (IsMessage i)) (sym put) (All-push (IsMessage i) p.mail.now.items (message_of sys k s _) may.mail (message_is i k _ s is));
      };
      later = λ all. subst (All (λ m. k.tick < m.arrives)) (sym put) (All-push (λ m. k.tick < m.arrives) p.mail.now.items (message_of sys k s _) all later);
      few = omega arith;
    })
