use Rattle.fb_resource.proofs.lemmas.Common.{[], ◌∷◌, All, refl, sym, ◌∙◌, ap, subst, arith, system_of, Out, IsPostable, IsSendable}
use Rattle.fb_net.specs.declared.outbox.Out.TheVariants.{Send}
use Rattle.fb_resource.specs.Posts.{IsOneMessage}
use Rattle.fb_resource.proofs.lemmas.Lone.{lone_out, message_settles, nothing_out, still_settles}
use Rattle.fb_resource.proofs.lemmas.ReadyIs.{when_ok_four}
use Rattle.fb_resource.proofs.one_taking.settle.Goals as goal

pub returns-in-empty : goal.returns-in-empty
returns-in-empty c =
    let none = sym c.as_slice.ensures.value ∙ nothing_out c.as_slice.result.now (omega (arith, c.in-empty.len_below)) in
    still_settles c.args.system.now c.args.least.now c.args.locals.now c.args.traffic.now c.requires.may none c.in-Keep.is

-- ---- One message

pub post_lone-requires-clause-alone : goal.post_lone-requires-clause-alone
post_lone-requires-clause-alone c = record {
  message = c.in-Send.sending;
  is = sym c.as_slice.ensures.value
      ∙ lone_out c.as_slice.result.now c.only-item.result _ (omega (arith, c.in-len1.len_at_least, c.in-len1.len_below)) c.only-item.is
      ∙ ap (λ (o : Out). o ∷ []) c.in-Send.is;
  over = refl;
}

pub post_lone-requires-clause-link : goal.post_lone-requires-clause-link
post_lone-requires-clause-link c =
    let sys = system_of c.args.system.now in
    let r = c.args.least.now.key.resource in
    let is = sym c.as_slice.ensures.value
    ∙ lone_out c.as_slice.result.now c.only-item.result _ (omega (arith, c.in-len1.len_at_least, c.in-len1.len_below)) c.only-item.is
    ∙ ap (λ (o : Out). o ∷ []) c.in-Send.is in
    let sendable : IsSendable sys r c.in-Send.sending = subst (All (IsPostable sys r)) is c.requires.may.outs 0 (Send c.in-Send.sending) (omega arith) in
    sendable.there

pub returns-in-Send : goal.returns-in-Send
returns-in-Send c =
    let alone : IsOneMessage c.in-Send.sending.link c.args.traffic.now.outbox.outs.items = record {
      message = c.in-Send.sending;
      is = sym c.as_slice.ensures.value
          ∙ lone_out c.as_slice.result.now c.only-item.result _ (omega (arith, c.in-len1.len_at_least, c.in-len1.len_below)) c.only-item.is
          ∙ ap (λ (o : Out). o ∷ []) c.in-Send.is;
      over = refl;
    } in
    when_ok_four c.post_lone.result c.post_lone.ensures.put c.post_lone.ensures.counted c.post_lone.ensures.later c.post_lone.ensures.none
    (message_settles c.args.system.now c.args.least.now c.args.locals.now c.in-Send.sending.link c.args.traffic.now c.post_lone.new.sent c.post_lone.new.mail c.post_lone.new.outs
    c.requires.may alone c.in-Keep.is)
