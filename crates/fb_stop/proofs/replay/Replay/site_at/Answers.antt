use Rattle.fb_types.proofs.Common.{◌≡◌, ◌∙◌, ℕ, List, length, Option, None, Some, refl, sym, ap, subst, IfSome, slice_get, slice_get_read}
use Rattle.fb_types.specs.declared.run.Line.{Line}
use Rattle.fb_types.specs.declared.value.Value.{Value}
use Rattle.fb_stop.specs.Copies.{HasLocated, IsSiteBy, Stopping}
use Rattle.fb_stop.specs.declared.found.StopSite.TheVariants.{InReaction}
use Rattle.fb_stop.specs.declared.site.ReactionStop.{ReactionStop}
use Rattle.fb_stop.proofs.lemmas.copies.Locating.{copy_within, located, never_none}
use Rattle.fb_stop.proofs.replay.Replay.site_at.Goals as goal

pub unreachable-requires-in-None : goal.unreachable-requires-in-None
unreachable-requires-in-None c =
    let i = c.args.system.now in
    let lines = c.args.self.now.run.traffic.outbox.lines.items in
    let copies = c.args.self.now.copies.items in
    let t = c.in-Port.target in
    let left = c.in-Some.left in
    let stopping : Stopping i c.args.at left lines copies = subst (λ (o : Option ℕ). IfSome o (λ n. Stopping i c.args.at n lines copies)) c.in-Some.is c.requires in
    let block = c.in-Some-basic_type.block.now in
    let copy = c.index_mut.result.now in
    let line = c.in-Some-first.line.now in
    let within = copy_within i c.args.at left lines copies stopping t c.in-Port.is in
    let first : slice_get lines 0 ≡ Some line = sym (c.in-Some-first.ensures.value ∙ ap (λ (l : List Line). slice_get l 0) c.deref.ensures.value) in
    let there = slice_get_read copies (length copies) t.instance copy refl within c.index_mut.ensures.value in
    let none = subst (λ (o : Option ReactionStop). HasLocated block t.event c.as_slice.result.now left copy o) c.in-None.is c.in_ok-stop.ensures in
    never_none i c.args.at left lines copies stopping t c.in-Port.is block c.in-Some-basic_type.ensures.some copy there line first
    (subst (λ (vs : List Value). HasLocated block t.event vs left copy None) c.as_slice.ensures none)

pub returns-clause-site : goal.returns-clause-site
returns-clause-site c =
    let i = c.args.system.now in
    let lines = c.args.self.now.run.traffic.outbox.lines.items in
    let copies = c.args.self.now.copies.items in
    let t = c.in-Port.target in
    let left = c.in-Some.left in
    let stopping : Stopping i c.args.at left lines copies = subst (λ (o : Option ℕ). IfSome o (λ n. Stopping i c.args.at n lines copies)) c.in-Some.is c.requires in
    let block = c.in-Some-basic_type.block.now in
    let copy = c.index_mut.result.now in
    let line = c.in-Some-first.line.now in
    let stop = c.in-Some-stop.stop in
    let within = copy_within i c.args.at left lines copies stopping t c.in-Port.is in
    let first : slice_get lines 0 ≡ Some line = sym (c.in-Some-first.ensures.value ∙ ap (λ (l : List Line). slice_get l 0) c.deref.ensures.value) in
    let there = slice_get_read copies (length copies) t.instance copy refl within c.index_mut.ensures.value in
    let some = subst (λ (o : Option ReactionStop). HasLocated block t.event c.as_slice.result.now left copy o) c.in-Some-stop.is c.in_ok-stop.ensures in
    let found = located i c.args.at left lines copies stopping t c.in-Port.is block c.in-Some-basic_type.ensures.some copy there line first stop
    (subst (λ (vs : List Value). HasLocated block t.event vs left copy (Some stop)) c.as_slice.ensures some) in
    subst (λ (o : Option ℕ). IsSiteBy i c.args.at o lines copies (InReaction stop.site)) (sym c.in-Some.is) (stop.site, refl, found)
