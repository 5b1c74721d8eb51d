use Rattle.fb_inspect.proofs.lemmas.Common.{◌≡◌, ◌≤◌, ◌<◌, ◌+◌, [], ℕ, Option, Some, ap, inl, inr, length, refl, subst, sym, ◌∙◌, not, length-map, system_of, line_of, all_lines, last_look, IsTaking, Left, most, opening_look, FailsBy, IsUnstarted, IsLookOf, unread, Ended, Refuses, List}
use Rattle.fb_types.specs.States as model
use Rattle.fb_inspect.specs.declared.walk.Step.TheVariants.{Taken}
use Rattle.fb_inspect.specs.walk.Standing.{BlamesSteps}
use Rattle.fb_inspect.proofs.lemmas.lines.NearStop.{not_kept, not_over}
use Rattle.fb_inspect.proofs.lemmas.walk.OneStep.{free_ends, free_goes, line_watched}
use Rattle.fb_inspect.proofs.lemmas.reactions.Placed.{item_is}
use Rattle.fb_inspect.proofs.lemmas.walk.StandsAfter.{freely_on, freely_stop, watched_step, wrong_freely}
use Rattle.fb_inspect.proofs.lemmas.walk.Watched.{watches_on}
use Rattle.fb_inspect.proofs.lemmas.walk.Held.{below, fails_later, takes_later}
use Rattle.fb_inspect.proofs.lemmas.results.Refused.{refused_then}
use Rattle.fb_inspect.proofs.walk.Walk.take_counting_steps.Goals as goal

pub returns-in_default-clause-takes : goal.returns-in_default-clause-takes
returns-in_default-clause-takes c = λ look remaining is.
    let fixed = c.args.fixed.now in
    let types = fixed.table.now.system.now.library.blocks in
    let sys = system_of fixed.table.now.system.now in
    let a = c.args.ahead.now in
    line_watched types sys fixed.form c.args.steps look c.args.line.now c.args.self.now c.take_from_ahead.new.self a a c.take_from_ahead.new.ahead c.note.new.self remaining Taken refl c.note.ensures.text c.note.ensures.rows
    (free_goes types sys fixed.form c.args.steps look c.args.line.now c.args.self.now c.take_from_ahead.new.self (unread a remaining) (unread c.take_from_ahead.new.ahead remaining) fixed.limit c.in-Ok.stop
    c.requires.limit c.in_default.is (c.in-Ok.ensures.goes look remaining is) c.in-Ok.ensures.next)

pub returns-clause-takes : goal.returns-clause-takes
returns-clause-takes c = λ look remaining is.
    let fixed = c.args.fixed.now in
    let types = fixed.table.now.system.now.library.blocks in
    let sys = system_of fixed.table.now.system.now in
    let a = c.args.ahead.now in
    line_watched types sys fixed.form c.args.steps look c.args.line.now c.args.self.now c.take_from_ahead.new.self a a c.take_from_ahead.new.ahead c.note.new.self remaining (Ended c.stop_of.result) refl c.note.ensures.text
    c.note.ensures.rows
    (free_ends types sys fixed.form c.args.steps look c.args.line.now c.args.self.now c.take_from_ahead.new.self (unread a remaining) (unread c.take_from_ahead.new.ahead remaining) fixed.limit c.in-Ok.stop
    c.in-Some.reason c.stop_of.result c.requires.limit c.in-Some.is (c.is_for_steps.ensures.other c.if-is_for_steps.false) (c.in-Ok.ensures.goes look remaining is) c.in-Ok.ensures.next
    (c.is_stop.ensures.stop c.if-not-is_stop.false) c.stop_of.ensures)

pub returns-in-Err-Refused-clause-stands : goal.returns-in-Err-Refused-clause-stands
returns-in-Err-Refused-clause-stands c = λ takings rest text rows at watches ahead free.
    let fixed = c.args.fixed.now in
    let sys = system_of fixed.table.now.system.now in
    let line = c.args.line.now in
    let a = c.args.ahead.now in
    let look = last_look (opening_look sys) takings in
    let old = c.args.self.now.trail.reading in
    let new = c.take_from_ahead.new.self.trail.reading in
    let refusal = c.in-Err-Refused.refusal in
    let fails = subst
    (Refuses (λ n. (left : List ℕ) × FailsBy (IsTaking sys fixed.limit look) (IsUnstarted sys fixed.limit look line) sys fixed.form line old new (Some a.text.items) (Some left) n)) c.in-Err-Refused.field-0-is
    (c.in-Err-Refused.ensures.refused look at.names at.plain at.stands.look) in
    wrong_freely fixed.table.now fixed.form takings c.args.self.now a line rest text at c.args.steps refusal rows new fails.0 a.excess c.refusal_after.result ahead watches free
    (subst (λ (o : Option ℕ). BlamesSteps sys line o new refusal.finding c.refusal_after.result) c.take_from_ahead.ensures.excess (c.refusal_after.ensures.found at.names at.apart at.is.line))
    (subst (λ (limit : ℕ). FailsBy (IsTaking sys limit look) (IsUnstarted sys limit look line) sys fixed.form line old new (Some a.text.items) (Some fails.0) refusal) c.requires.limit fails.1)

pub returns-then-is_for_steps-clause-stands : goal.returns-then-is_for_steps-clause-stands
returns-then-is_for_steps-clause-stands c = λ takings rest text rows at watches ahead free.
    let fixed = c.args.fixed.now in
    let sys = system_of fixed.table.now.system.now in
    let line = c.args.line.now in
    let a = c.args.ahead.now in
    let is = c.is_for_steps.ensures.steps c.if-is_for_steps.true in
    freely_stop fixed.table.now fixed.form takings c.args.self.now a line rest text at rows ahead c.args.steps free fixed.table.now.system.now.library.blocks fixed.limit c.requires.limit c.take_from_ahead.new.self
    c.take_from_ahead.new.ahead c.in-Ok.stop (c.in-Ok.ensures.goes (last_look (opening_look sys) takings) (Some []) at.stands.look) c.in-Ok.ensures.alone c.in-Ok.ensures.last c.in-Ok.ensures.next c.in-Some.reason a.excess
    c.note.new.self.excess c.refusal_after-then-is_for_steps.result watches (λ k e. c.note.ensures.first k (c.take_from_ahead.ensures.excess ∙ e))
    (c.refusal_after-then-is_for_steps.ensures.found at.names at.apart at.is.line) c.in-Some.is (inl is) (λ not. absurd (not is))

pub returns-then-not-is_stop-clause-stands : goal.returns-then-not-is_stop-clause-stands
returns-then-not-is_stop-clause-stands c = λ takings rest text rows at watches ahead free.
    let fixed = c.args.fixed.now in
    let sys = system_of fixed.table.now.system.now in
    let line = c.args.line.now in
    let a = c.args.ahead.now in
    freely_stop fixed.table.now fixed.form takings c.args.self.now a line rest text at rows ahead c.args.steps free fixed.table.now.system.now.library.blocks fixed.limit c.requires.limit c.take_from_ahead.new.self
    c.take_from_ahead.new.ahead c.in-Ok.stop (c.in-Ok.ensures.goes (last_look (opening_look sys) takings) (Some []) at.stands.look) c.in-Ok.ensures.alone c.in-Ok.ensures.last c.in-Ok.ensures.next c.in-Some.reason a.excess
    c.note.new.self.excess c.refusal_after-then-not-is_stop.result watches (λ k e. c.note.ensures.first k (c.take_from_ahead.ensures.excess ∙ e))
    (c.refusal_after-then-not-is_stop.ensures.found at.names at.apart at.is.line) c.in-Some.is (inr (c.is_for_steps.ensures.other c.if-is_for_steps.false)) (λ not. c.is_stop.ensures.other c.if-not-is_stop.true)

pub returns-in_default-clause-stands : goal.returns-in_default-clause-stands
returns-in_default-clause-stands c = λ takings rest text rows at watches ahead free.
    let fixed = c.args.fixed.now in
    let sys = system_of fixed.table.now.system.now in
    let line = c.args.line.now in
    let a = c.args.ahead.now in
    let steps = c.args.steps in
    let same = c.take_from_ahead.ensures.excess in
    watched_step sys fixed.form steps takings c.take_from_ahead.new.self c.take_from_ahead.new.ahead c.note.new.self line rest text Taken c.note.ensures.text c.note.ensures.last
    (freely_on fixed.table.now fixed.form takings c.args.self.now a line rest text at rows ahead steps free fixed.table.now.system.now.library.blocks fixed.limit c.requires.limit c.take_from_ahead.new.self
    c.take_from_ahead.new.ahead c.in-Ok.stop (c.in-Ok.ensures.goes (last_look (opening_look sys) takings) (Some []) at.stands.look) c.in-Ok.ensures.alone c.in-Ok.ensures.last c.in-Ok.ensures.next c.in_default.is)
    (λ x first taking look.
    let there = λ (is : IsLookOf sys c.take_from_ahead.new.self.blocks.items c.take_from_ahead.new.self.steps.items x.after).
    item_is c.take_from_ahead.new.self.steps.items line.key.resource c.index-own.result.now (subst (λ (n : ℕ). line.key.resource < n) (sym is.counts) c.requires.is.line.belongs.resource) c.index-own.ensures in
    let count : length at.stands.lines ≡ length (all_lines takings) = sym (length-map at.stands.lines (line_of sys)) ∙ ap length at.stands.lines_are in
    watches_on sys steps takings x taking c.args.self.now.trail.reading.number a.excess c.note.new.self.excess (not c.keeps.result) watches (at.stands.numbered ∙ ap (λ (n : ℕ). n + 1) count)
    (λ k e. c.note.ensures.first k (same ∙ e)) (λ none over. c.note.ensures.over (same ∙ none) over) (λ none under. c.note.ensures.none (same ∙ none) under)
    (λ over.
    subst (λ (m : model.Line). (m.key.resource < length sys.resource_names) × (most ≤ (x.after.steps m.key.resource).least + steps → ⊥)) (sym first) (
      c.requires.is.line.belongs.resource,
      λ kept. c.keeps.ensures.more (not_kept c.keeps.result over) (subst (λ (l : Left). most ≤ l.least + steps) (look.lefts line.key.resource c.index-own.result.now (there look)) kept),
    ))
    (λ under within.
    subst (λ (m : model.Line). most ≤ (x.after.steps m.key.resource).least + steps) (sym first)
    (subst (λ (l : Left). most ≤ l.least + steps) (sym (look.lefts line.key.resource c.index-own.result.now (there look))) (c.keeps.ensures.kept (not_over c.keeps.result under)))))

pub index-own-requires : goal.index-own-requires
index-own-requires c =
    let takes = c.in-Ok.ensures.goes c.requires.look.0 (Some []) c.requires.look.1 in
    subst (λ (n : ℕ). c.args.line.now.key.resource < n) (sym (c.take_from_ahead.new.self.steps.ok.0 ∙ takes.look_after.counts)) c.requires.is.line.belongs.resource

-- ---- The number of a line that is refused

pub returns-in-Err-Refused-clause-later : goal.returns-in-Err-Refused-clause-later
returns-in-Err-Refused-clause-later c = λ takings rest text at.
    let fixed = c.args.fixed.now in
    let sys = system_of fixed.table.now.system.now in
    let look = last_look (opening_look sys) takings in
    let old = c.args.self.now.trail.reading in
    let new = c.take_from_ahead.new.self.trail.reading in
    let line = c.args.line.now in
    let fails = subst
    (Refuses (λ n. (left : List ℕ) × FailsBy (IsTaking sys fixed.limit look) (IsUnstarted sys fixed.limit look line) sys fixed.form line old new (Some c.args.ahead.now.text.items) (Some left) n)) c.in-Err-Refused.field-0-is
    (c.in-Err-Refused.ensures.refused look at.names at.plain at.stands.look) in
    let less = (fails_later _ _ sys fixed.form c.args.line.now old new _ _ c.in-Err-Refused.refusal fails.1).0 in
    refused_then c.refusal_after.result (λ n. n.number ≡ new.number) (λ n. old.number ≤ n.number) c.refusal_after.ensures.number (λ n is. subst (λ (k : ℕ). old.number ≤ k) (sym is) less)

pub returns-then-is_for_steps-clause-later : goal.returns-then-is_for_steps-clause-later
returns-then-is_for_steps-clause-later c = λ takings rest text at.
    let fixed = c.args.fixed.now in
    let sys = system_of fixed.table.now.system.now in
    let look = last_look (opening_look sys) takings in
    let old = c.args.self.now.trail.reading in
    let new = c.take_from_ahead.new.self.trail.reading in
    let less = takes_later fixed.table.now.system.now.library.blocks sys fixed.form fixed.limit look c.args.line.now c.in-Ok.stop c.args.self.now c.take_from_ahead.new.self _ _ (c.in-Ok.ensures.goes look (Some []) at.stands.look) in
    refused_then c.refusal_after-then-is_for_steps.result (λ n. n.number ≡ new.number) (λ n. old.number ≤ n.number) c.refusal_after-then-is_for_steps.ensures.number
    (λ n is. subst (λ (k : ℕ). old.number ≤ k) (sym is) (below less))

pub returns-then-not-is_stop-clause-later : goal.returns-then-not-is_stop-clause-later
returns-then-not-is_stop-clause-later c = λ takings rest text at.
    let fixed = c.args.fixed.now in
    let sys = system_of fixed.table.now.system.now in
    let look = last_look (opening_look sys) takings in
    let old = c.args.self.now.trail.reading in
    let new = c.take_from_ahead.new.self.trail.reading in
    let less = takes_later fixed.table.now.system.now.library.blocks sys fixed.form fixed.limit look c.args.line.now c.in-Ok.stop c.args.self.now c.take_from_ahead.new.self _ _ (c.in-Ok.ensures.goes look (Some []) at.stands.look) in
    refused_then c.refusal_after-then-not-is_stop.result (λ n. n.number ≡ new.number) (λ n. old.number ≤ n.number) c.refusal_after-then-not-is_stop.ensures.number
    (λ n is. subst (λ (k : ℕ). old.number ≤ k) (sym is) (below less))
