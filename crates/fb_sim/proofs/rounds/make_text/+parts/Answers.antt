use denote.Param.Send.{sendable, param_send}
use Rattle.std.proofs.Crossing.{crosses}
use Rattle.fb_sim.proofs.lemmas.Common.{All, Bor, List, map, rules, subst, sym, IfOk, Line, system_of, BelongsTo, IsMergedText, all_bytes}
use Rattle.fb_types.proofs.Common.{IfOk-weaker}
use Rattle.fb_types.proofs.run.Form.TheSendSync as form_crosses
use Rattle.fb_types.proofs.run.Line.TheSendSync as line_crosses
use Rattle.fb_sim.proofs.rounds.make_text.+parts.Lts-parts_by.{arg-4-1}
use Rattle.fb_sim.proofs.lemmas.runs.Crossing.{system_sync}
use Rattle.fb_sim.proofs.lemmas.text.Texts.{last_joined, one_joined}
use Rattle.fb_sim.proofs.lemmas.text.MergedText.{parts_each}
use Rattle.fb_sim.proofs.rounds.make_text.+parts.Goals as goal

pub parts_by-join-last-requires-send-F : goal.parts_by-join-last-requires-send-F
parts_by-join-last-requires-send-F g t c κs within =
    param_send 1 (arg-4-1 g.row.R g.R.laws g.R.Threads-dict κs) (search (sendable, crosses, system_sync, line_crosses.the_field_sync, form_crosses.the_field_send) depth 40)

pub parts_by-join-last-requires-after_bounds : goal.parts_by-join-last-requires-after_bounds
parts_by-join-last-requires-after_bounds g t c =
    let belong = parts_each (BelongsTo (system_of c.args.system.now)) c.args.lists.now c.in_ok-firsts.firsts.items c.in_ok-firsts.lasts.items c.in_ok-firsts.ensures c.requires.belong in
    let first : All (λ q. All (BelongsTo (system_of c.args.system.now)) q.now) c.as_slice-front_lists.result.now =
    subst (λ (qs : List (Bor (List Line))). All (λ q. All (BelongsTo (system_of c.args.system.now)) q.now) qs) (sym c.as_slice-front_lists.ensures.value) belong.0 in
    let last : All (λ q. All (BelongsTo (system_of c.args.system.now)) q.now) c.as_slice-back_lists.result.now =
    subst (λ (qs : List (Bor (List Line))). All (λ q. All (BelongsTo (system_of c.args.system.now)) q.now) qs) (sym c.as_slice-back_lists.ensures.value) belong.1 in
    search (rules, first, last)

-- one text more
pub parts_by-returns : goal.parts_by-returns
parts_by-returns g t c =
    let i = c.args.system.now in
    let form = c.args.form in
    let lists = map (λ (q : Bor (List Line)). q.now) c.args.lists.now in
    let front = map (λ (q : Bor (List Line)). q.now) c.in_ok-firsts.firsts.items in
    let back = map (λ (q : Bor (List Line)). q.now) c.in_ok-firsts.lasts.items in
    let texts : IfOk c.join-last.result.1 (λ v. IsMergedText i form front (all_bytes v.items)) =
    subst (λ (qs : List (Bor (List Line))). IfOk c.join-last.result.1 (λ v. IsMergedText i form (map (λ q. q.now) qs) (all_bytes v.items))) c.as_slice-front_lists.ensures.value c.join-last.ensures.second in
    let last : IfOk c.join-last.result.0 (λ v. IsMergedText i form back v.items) =
    subst (λ (qs : List (Bor (List Line))). IfOk c.join-last.result.0 (λ v. IsMergedText i form (map (λ q. q.now) qs) v.items)) c.as_slice-back_lists.ensures.value c.join-last.ensures.first in
    IfOk-weaker c.with_last.result _ (λ v. IsMergedText i form lists (all_bytes v.items))
    (λ v is. last_joined i form lists front back c.in_ok-firsts.ensures c.join-last.result.1 c.join-last.result.0 (all_bytes v.items) is texts last) c.with_last.ensures

-- one text
pub texts_by-returns-then-threads-lt2 : goal.texts_by-returns-then-threads-lt2
texts_by-returns-then-threads-lt2 g t c =
    let lists = map (λ (q : Bor (List Line)). q.now) c.args.lists.now in
    one_joined c.args.system.now c.args.form lists c.with_last.result c.new.result c.merged_text-text.result c.new.ensures.items c.with_last.ensures c.merged_text-text.ensures
