use Rattle.fb_sim.proofs.lemmas.Common.{◌≡◌, List, ℕ, length, inr, refl, sym, ap, subst, ◌∙◌, Appends, core_of, AreGood, bounded, WritesPartOf, all_bytes, Memory}
use Rattle.fb_sim.proofs.lemmas.text.HandedOut.{part_by_text, whole_by_text}
use Rattle.fb_sim.proofs.lemmas.text.Texts.{merged_list}
use Rattle.fb_sim.proofs.lemmas.rounds.WindowIs.{held_failed, unwritten_out_of_memory, held_passed, unwritten_whole, home_since, series_keeps, turned_on}
use Rattle.fb_sim.proofs.rounds.round_with_counts.Goals as goal

pub turn_series-requires-clause-system : goal.turn_series-requires-clause-system
turn_series-requires-clause-system g c =
    let h = c.requires.holds.1 in
    let all = merged_list c.args.alloc c.args.round_state.unwritten.lists.items c.args.round_state.unwritten.count h.of.few h.of.counted in
    sym (h.come all.0 all.1).of.inputs

pub turn_series-requires-clause-clocks : goal.turn_series-requires-clause-clocks
turn_series-requires-clause-clocks g c =
    let o = c.args.plan.options in
    let h = c.requires.holds.1 in
    let all = merged_list c.args.alloc c.args.round_state.unwritten.lists.items c.args.round_state.unwritten.count h.of.few h.of.counted in
    series_keeps c.args.system.now o.steps o.horizon c.args.round_state.core _ (h.come all.0 all.1) (record { accepted = c.facts.ensures.accepted; limits = c.facts.ensures.limits })

pub window-requires-clause-come : goal.window-requires-clause-come
window-requires-clause-come g c κs w =
    let h = c.requires.holds.1 in
    let all = merged_list c.args.alloc c.args.round_state.unwritten.lists.items c.args.round_state.unwritten.count h.of.few h.of.counted in
    let o = c.args.plan.options in
    let on = c.in_ok-core.ensures in
    let turned = turned_on c.args.system.now o.steps o.horizon c.args.round_state.core _ (h.come all.0 all.1) c.args.plan.turns _ on.system on.steps on.pending on.takes_turns in
    (_, turned.way)

pub window-requires-2-clause-come : goal.window-requires-2-clause-come
window-requires-2-clause-come g c κs w =
    let h = c.requires.holds.1 in
    let all = merged_list c.args.alloc c.args.round_state.unwritten.lists.items c.args.round_state.unwritten.count h.of.few h.of.counted in
    let o = c.args.plan.options in
    let on = c.in_ok-core.ensures in
    let turned = turned_on c.args.system.now o.steps o.horizon c.args.round_state.core _ (h.come all.0 all.1) c.args.plan.turns _ on.system on.steps on.pending on.takes_turns in
    (_, turned.way)

pub returns-in_err-core : goal.returns-in_err-core
returns-in_err-core g c ls h =
    let o = c.args.plan.options in
    let s = c.args.round_state in
    let old = g.W.Write.contents c.args.out.now in
    held_passed c.args.system.now o s.core s.unwritten ls h old old _ Memory c.from_residual.ensures.1 (unwritten_out_of_memory c.args.system.now o s.core s.unwritten ls h old old Memory refl refl)

pub returns-in_err-texts : goal.returns-in_err-texts
returns-in_err-texts g c ls h =
    let o = c.args.plan.options in
    let s = c.args.round_state in
    let old = g.W.Write.contents c.args.out.now in
    let e = c.in_err-texts.field-0.0 in
    held_passed c.args.system.now o s.core s.unwritten ls h old old _ e c.from_residual-in_err-texts.ensures.1 (unwritten_out_of_memory c.args.system.now o s.core s.unwritten ls h old old e c.in_err-texts.ensures.memory refl)

pub returns-in_err-bytes : goal.returns-in_err-bytes
returns-in_err-bytes g c ls h =
    let i = c.args.system.now in
    let o = c.args.plan.options in
    let s = c.args.round_state in
    let old = g.W.Write.contents c.args.out.now in
    let new = g.W.Write.contents c.write_texts.new.out in
    let e = c.in_err-bytes.field-0.0 in
    let good : AreGood i = record { accepted = c.facts.ensures.accepted; limits = c.facts.ensures.limits } in
    let text = all_bytes c.in_ok-texts.texts.items in
    let same : all_bytes c.as_slice.result.now ≡ text = ap all_bytes c.as_slice.ensures.value in
    held_passed i o s.core s.unwritten ls h old new _ e c.from_residual-in_err-bytes.ensures.1
    (held_failed i o s.core s.unwritten ls h old new good e
    (inr
    (part_by_text i o.form s.unwritten.lists.items old new c.args.alloc s.unwritten.count text c.in_ok-texts.ensures.text h.of.few h.of.counted e
    (subst (λ (t : List ℕ). WritesPartOf old new t e) same c.in_err-bytes.ensures.part))))

-- the text was made beside the window
pub returns-then-is_shared : goal.returns-then-is_shared
returns-then-is_shared g c ls h =
    let i = c.args.system.now in
    let o = c.args.plan.options in
    let s = c.args.round_state in
    let old = g.W.Write.contents c.args.out.now in
    let new = g.W.Write.contents c.write_texts.new.out in
    let text = all_bytes c.in_ok-texts.texts.items in
    let same : all_bytes c.as_slice.result.now ≡ text = ap all_bytes c.as_slice.ensures.value in
    let whole = c.in_ok-bytes.ensures.whole in
    let bytes = c.in_ok-bytes.bytes in
    let pool =
    whole_by_text i o.form s.unwritten.lists.items old new c.args.alloc s.unwritten.count text c.in_ok-texts.ensures.text h.of.few h.of.counted bytes
    (subst (λ (t : List ℕ). Appends old new t) same whole.0) (subst (λ (t : List ℕ). bytes ≡ bounded (length t)) same whole.1) in
    unwritten_whole i o s.core s.unwritten ls h old new c.in_ok-texts.result.reach c.in_ok-texts.result.finals bytes s.unwritten.count c.after.result c.after.ensures.round c.after.ensures.unwritten c.after.ensures.bytes
    (c.after.ensures.lines ∙ c.count-lines.ensures)
    (λ ks come all merged.
    let on = c.in_ok-core.ensures in
    let turned = turned_on i o.steps o.horizon s.core ks come c.args.plan.turns _ on.system on.steps on.pending on.takes_turns in
    home_since i o.steps o.horizon (core_of i o.steps come.steps) ks _ turned _ (c.in_ok-texts.ensures.home ks turned.way all merged)) c.in_ok-texts.ensures.unwritten pool

pub returns-in_err-result : goal.returns-in_err-result
returns-in_err-result g c ls h =
    let o = c.args.plan.options in
    let s = c.args.round_state in
    let old = g.W.Write.contents c.args.out.now in
    let e = c.in_err-result.field-0.0 in
    held_passed c.args.system.now o s.core s.unwritten ls h old old _ e c.from_residual-in_err-result.ensures.1 (unwritten_out_of_memory c.args.system.now o s.core s.unwritten ls h old old e c.in_err-result.ensures.memory refl)

pub returns-in_err-bytes-2 : goal.returns-in_err-bytes-2
returns-in_err-bytes-2 g c ls h =
    let i = c.args.system.now in
    let o = c.args.plan.options in
    let s = c.args.round_state in
    let old = g.W.Write.contents c.args.out.now in
    let new = g.W.Write.contents c.hand_out.new.out in
    let e = c.in_err-bytes-2.field-0.0 in
    let good : AreGood i = record { accepted = c.facts.ensures.accepted; limits = c.facts.ensures.limits } in
    held_passed i o s.core s.unwritten ls h old new _ e c.from_residual-in_err-bytes-2.ensures.1 (held_failed i o s.core s.unwritten ls h old new good e c.in_err-bytes-2.ensures.failed)

pub returns : goal.returns
returns g c ls h =
    let i = c.args.system.now in
    let o = c.args.plan.options in
    let s = c.args.round_state in
    let old = g.W.Write.contents c.args.out.now in
    let new = g.W.Write.contents c.hand_out.new.out in
    unwritten_whole i o s.core s.unwritten ls h old new c.in_ok-result.result.reach c.in_ok-result.result.finals c.in_ok-bytes-2.bytes c.in_ok-bytes-2.lines c.after-2.result c.after-2.ensures.round c.after-2.ensures.unwritten c.after-2.ensures.bytes
    c.after-2.ensures.lines
    (λ ks come all merged.
    let on = c.in_ok-core.ensures in
    let turned = turned_on i o.steps o.horizon s.core ks come c.args.plan.turns _ on.system on.steps on.pending on.takes_turns in
    home_since i o.steps o.horizon (core_of i o.steps come.steps) ks _ turned _ (c.in_ok-result.ensures.home ks turned.way all merged)) c.in_ok-result.ensures.unwritten c.in_ok-bytes-2.ensures.whole
