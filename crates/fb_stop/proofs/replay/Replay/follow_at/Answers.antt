use Rattle.fb_types.proofs.Common.{◌≡◌, ◌<◌, ◌∙◌, List, length, Some, refl, sym, ap, subst, arith, slice_get, slice_get_read, on_ok_weaker, system_of}
use Rattle.fb_types.specs.declared.run.Line.{Line}
use Rattle.fb_types.specs.declared.value.Value.{Value}
use Rattle.fb_stop.specs.Copies.{HasFollowed}
use Rattle.fb_stop.specs.Found.{ArrivesAt}
use Rattle.fb_stop.specs.declared.found.EventSite.{EventSite}
use Rattle.fb_stop.proofs.lemmas.copies.Copying.{is_followed}
use Rattle.fb_stop.proofs.replay.Replay.follow_at.Goals as goal

pub returns-clause-followed : goal.returns-clause-followed
returns-clause-followed c =
    let i = c.args.system.now in
    let lines = c.args.self.now.run.traffic.outbox.lines.items in
    let copies = c.args.self.now.copies.items in
    let t = c.in-Port.target in
    let block = c.in-Some-basic_type.block.now in
    let copy = c.index_mut.result.now in
    let line = c.in-Some-first.line.now in
    let counted = c.requires.copies.1.counted in
    let arrives = subst (λ (z : EventSite). ArrivesAt (system_of i) c.requires.arrives.0 z) c.in-Port.is c.requires.arrives.1 in
    let number = arrives.0.port.instance in
    let within : t.instance < length copies = omega (arith, counted, number) in
    let first : slice_get lines 0 ≡ Some line = sym (c.in-Some-first.ensures.value ∙ ap (λ (l : List Line). slice_get l 0) c.deref.ensures.value) in
    on_ok_weaker c.follow.result
    (λ h.
    is_followed i t c.in-Some.left line copies block copy c.follow.new.copy c.in-Some-basic_type.ensures.some
    (slice_get_read copies (length copies) t.instance copy refl within c.index_mut.ensures.value)
    (subst (λ (vs : List Value). HasFollowed block t.event vs c.in-Some.left copy c.follow.new.copy) c.as_slice.ensures h)
    c.args.at c.args.left lines c.in-Port.is c.in-Some.is first)
    c.follow.ensures
