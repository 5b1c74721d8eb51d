use Rattle.fb_types.proofs.Common.{◌<◌, ◌++◌, [], ◌∷◌, length, refl, sym, ap, subst, ◌∙◌, append_assoc, arith, slice_set, into_iter_items, length-set, slice_get_read, system_of, path_at}
use Rattle.fb_laws.proofs.lemmas.soundness.Accepting.{sound_of}
use Rattle.fb_link.specs.Exchanges.{AreDealt}
use Rattle.fb_link.proofs.lemmas.Dealt.{dealt_more}
use Rattle.fb_link.proofs.inboxes.deal.Goals as goal

pub index_mut-requires : goal.index_mut-requires
index_mut-requires c =
    let i = c.args.system.now in
    let named = (sound_of i (record { accepted = c.facts.ensures.accepted; limits = c.facts.ensures.limits })).counted (path_at (system_of i) c.in-Some.message.target.instance) in
    let to = c.resource-receiver.ensures in
    let counted = c.loop-message.invariant.counted in
    let all = c.requires.counted in
    let ok = c.loop-message.inboxes.ok.0 in
    omega (arith, named, to, counted, all, ok)

pub loop-message-preserved : goal.loop-message-preserved
loop-message-preserved c =
    let i = c.args.system.now in
    let inv = c.loop-message.invariant in
    let step = c.in-Some.ensures.steps in
    let boxes = c.loop-message.inboxes.items in
    let r = c.resource-receiver.result in
    let m = c.in-Some.message in
    let named = (sound_of i (record { accepted = c.facts.ensures.accepted; limits = c.facts.ensures.limits })).counted (path_at (system_of i) m.target.instance) in
    let to = c.resource-receiver.ensures in
    let counted = inv.counted in
    let all_counted = c.requires.counted in
    let within : r < length boxes = omega (arith, named, to, counted, all_counted) in
    let was = slice_get_read boxes (length boxes) r c.index_mut.result.now refl within c.index_mut.ensures.value in
    let rest = ap (λ z. c.loop-message.yielded ++ z) (sym step.0) ∙ inv.rest in
    record {
      counted = length-set boxes r c.push.new.self ∙ inv.counted;
      dealt = λ all h.
          subst (λ z. AreDealt (system_of i) z (slice_set boxes r c.push.new.self)) (append_assoc all c.loop-message.yielded (m ∷ []))
          (dealt_more (system_of i) (all ++ c.loop-message.yielded) boxes (slice_set boxes r c.push.new.self) m r c.index_mut.result.now c.push.new.self to within was c.in_ok-push.ensures.items refl (inv.dealt all h));
      rest = append_assoc c.loop-message.yielded (m ∷ []) (into_iter_items c.next.new.self) ∙ rest;
      len = let same = ap length step.0 in omega (arith, inv.len, step.1, same);
    }
