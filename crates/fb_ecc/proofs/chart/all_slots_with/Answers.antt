use Rattle.fb_types.proofs.Common.{◌≡◌, ◌<◌, ◌+◌, ◌^◌, ℕ, List, [], ◌∷◌, ◌++◌, length, map, take, sym, ◌∙◌, ap, subst, rules, length-map, take_all, Name, among, variable_names}
use Rattle.fb_types.specs.declared.library.EventPort.{EventPort}
use Rattle.fb_types.specs.declared.library.Variable.{Variable}
use Rattle.fb_types.proofs.lemmas.lists.LoopSteps.{map_take_more}
use Rattle.fb_ecc.specs.Located.{slots_among}
use Rattle.fb_ecc.proofs.lemmas.Indexing.{own_lists}
use Rattle.fb_ecc.proofs.chart.all_slots_with.Goals as goal

pub returns : goal.returns
returns c = λ list index few.
    let first : ℕ = c.args.first in
    c.loop-event.invariant list index few
    ∙ ap (map (λ (e : EventPort). slots_among (among e.with) (variable_names list) first)) (take_all c.loop-event.event-index c.args.events.now c.loop-event-test.false)
    ∙ own_lists c.args.events.now (variable_names list) first c.requires

pub loop-event-preserved : goal.loop-event-preserved
loop-event-preserved c = λ list index few.
    let ns : List Name = variable_names list in
    let first : ℕ = c.args.first in
    let kept : EventPort → List ℕ = λ e. slots_among (among e.with) ns first in
    let so_far : List (List ℕ) = map kept (take c.loop-event.event-index c.args.events.now) in
    let Few : ℕ → Type 0 = λ n. first + n < 2 ^ 64 in
    let fewer : Few (length ns) = subst Few (sym (length-map list (λ (v : Variable). v.name))) few in
    let shown : c.in_ok-slots_with.field-0 ≡ kept c.event-item.result = c.in_ok-slots_with.ensures ns index fewer ∙ search rules in
    c.in_ok-push.ensures.ok ∙ ap (λ (all : List (List ℕ)). all ++ c.in_ok-slots_with.field-0 ∷ []) (c.loop-event.invariant list index few)
    ∙ ap (λ (slots : List ℕ). so_far ++ slots ∷ []) shown
    ∙ sym (map_take_more kept c.args.events.now c.loop-event.event-index c.event-item.result c.loop-event-test.true c.event-item.is)
