use Rattle.fb_inspect.proofs.lemmas.Common.{◌≡◌, ℕ, ◌<◌, suc, List, length, slice_set, refl, ap, sym, subst, inl, ◌∙◌, arith, IfErr, OnOk, ◌&&◌, if◌then◌else◌, slice_get, take, same_Some, system_of, path_at, IsTaking, IsTakingAt, left_at, FailsBy, IsUnbegun, IsUnstarted, Refusal, Refuses, IsAlone, WalkTakes, Reading, Remembered, Trail, TickSteps, Walk}
use Rattle.fb_types.proofs.Common.{length-set}
use Rattle.fb_types.proofs.lemmas.lists.ByIndex.{element_at}
use Rattle.fb_net.proofs.lemmas.blocks.OtherBlocks.{get_set_same}
use Rattle.fb_inspect.specs.Selections.{is_wanted}
use Rattle.fb_inspect.specs.walk.OfWalk.{IsNext}
use Rattle.fb_inspect.specs.walk.Walking.{is_chart}
use Rattle.fb_inspect.proofs.lemmas.results.Errors.{of_refusal}
use Rattle.fb_inspect.proofs.lemmas.walk.FailedTakings.{fails_whole, no_step, too_late}
use Rattle.fb_inspect.proofs.lemmas.reactions.Placed.{item_is, ok_on, ok_then}
use Rattle.fb_inspect.proofs.lemmas.results.Refused.{err_refused}
use Rattle.fb_inspect.proofs.lemmas.walk.Walked.{taking_gone}
use Rattle.fb_inspect.specs.declared.refused.finding.Finding.TheVariants as why
use Rattle.fb_inspect.proofs.walk.Walk.take_event.Goals as goal

pub index_mut-steps-requires : goal.index_mut-steps-requires
index_mut-steps-requires g c =
    let counted = ap length c.if-not-use_step.ensures.used.steps_are ∙ length-set c.args.self.now.steps.items c.args.line.now.key.resource c.if-not-use_step.ensures.used.after ∙ c.requires.look.1.counts in
    subst (λ (n : ℕ). c.args.line.now.key.resource < n) (sym (c.use_step.new.steps.ok.0 ∙ counted)) c.requires.is.line.belongs.resource

pub index_mut-block-requires : goal.index_mut-block-requires
index_mut-block-requires g c =
    subst (λ (n : ℕ). c.args.line.now.instance < n) (sym (c.args.self.now.blocks.ok.0 ∙ c.requires.look.1.are.all)) c.requires.is.line.belongs.instance

pub react_kept-stop-requires : goal.react_kept-stop-requires
react_kept-stop-requires g c =
    let sys = system_of c.args.fixed.now.table.now.system.now in
    let l = c.args.line.now in
    let are = c.requires.look.1.are in
    let within = subst (λ (n : ℕ). l.instance < n) (sym are.all) c.requires.is.line.belongs.instance in
    record {
      is = c.requires.is;
      early = c.if-line-gt-LATEST_TICK.false;
      seen = c.requires.look.0.blocks (path_at sys l.instance);
      kept = are.each l.instance c.index_mut-block.result.now (item_is c.args.self.now.blocks.items l.instance c.index_mut-block.result.now within c.index_mut-block.ensures.value);
    }

pub returns-clause-goes : goal.returns-clause-goes
returns-clause-goes g c = λ look is.
    let types = c.args.fixed.now.table.now.system.now.library.blocks in
    let sys = system_of c.args.fixed.now.table.now.system.now in
    let form = c.args.fixed.now.form in
    let limit = c.args.fixed.now.limit in
    let l = c.args.line.now in
    let old : Walk = c.args.self.now in
    let mid : Walk = record old { steps = c.use_step.new.steps; trail = record (old.trail) { is_shown = c.may_show-self.result } } in
    let last : Walk = c.leave_out.new.self in
    let gone : Trail = c.react_kept-stop.new.trail in
    let others = c.leave_out.ensures.others in
    let stepped = c.if-not-use_step.ensures.used in
    let within = subst (λ (n : ℕ). l.instance < n) (sym is.are.all) c.requires.is.line.belongs.instance in
    let at = item_is old.blocks.items l.instance c.index_mut-block.result.now within c.index_mut-block.ensures.value in
    let counted = ap length stepped.steps_are ∙ length-set c.args.self.now.steps.items l.key.resource stepped.after ∙ is.counts in
    let resource = subst (λ (n : ℕ). l.key.resource < n) (sym counted) c.requires.is.line.belongs.resource in
    let before = g.R.Read.remaining c.args.input.now in
    let after = g.R.Read.remaining c.react_kept-stop.new.input in
    let all = gone.page.text.items in
    ok_then c.react_kept-stop.result _ _ (c.react_kept-stop.ensures.goes look (is.are.each l.instance c.index_mut-block.result.now at))
    (λ stop goes.
    subst (λ (t : Trail). WalkTakes types sys form limit look l stop old (record last { trail = t }) before after) (sym (ap (λ (w : Walk). w.trail) others))
    (taking_gone types sys form limit look c.facts.ensures.numbered l stop old mid (record last { trail = gone }) last.trail.page before after c.requires.is.line.belongs.instance is
    c.if-line-gt-LATEST_TICK.false stepped refl refl refl refl c.may_show-self.ensures refl refl refl
    (c.leave_out.ensures.text
    ∙ ap (λ (bs : List Remembered). if is_wanted old.shown.events (gone.marks.charts.lost && is_chart (slice_get bs l.instance)) then all else take c.len-before.result all)
    (sym (ap (λ (w : Walk). w.blocks.items) others))
    ∙ ap (λ (n : ℕ). if is_wanted old.shown.events (gone.marks.charts.lost && is_chart (slice_get last.blocks.items l.instance)) then all else take n all)
    (c.len-before.ensures ∙ old.trail.page.text.ok.0))
    (record {
      own = c.index_mut-steps.result.now;
      stood = item_is c.use_step.new.steps.items l.key.resource c.index_mut-steps.result.now resource c.index_mut-steps.ensures.value;
      block = c.react_kept-stop.new.block;
      left = c.react_kept-stop.new.meter.left;
      goes = goes;
      blocks_are = ap (λ (w : Walk). w.blocks.items) others;
      steps_are = ap (λ (w : Walk). w.steps.items) others ∙ ap (slice_set c.use_step.new.steps.items l.key.resource) c.settle.ensures;
      shown_are = ap (λ (w : Walk). w.shown) others;
    })))

pub returns-clause-alone : goal.returns-clause-alone
returns-clause-alone g c =
    let l = c.args.line.now in
    let are = c.requires.look.1.are in
    let within = subst (λ (n : ℕ). l.instance < n) (sym are.all) c.requires.is.line.belongs.instance in
    let at = item_is c.args.self.now.blocks.items l.instance c.index_mut-block.result.now within c.index_mut-block.ensures.value in
    let before = g.R.Read.remaining c.args.input.now in
    let after = g.R.Read.remaining c.react_kept-stop.new.input in
    subst (λ (r : Reading). OnOk c.react_kept-stop.result (IsAlone c.args.self.now.trail.reading.line.items before → IsAlone r.line.items after)) (sym (ap (λ (w : Walk). w.trail.reading) c.leave_out.ensures.others))
    (ok_on c.react_kept-stop.result _ _ (c.react_kept-stop.ensures.goes c.requires.look.0 (are.each l.instance c.index_mut-block.result.now at)) (λ stop goes. goes.alone))

pub returns-then-line-gt-LATEST_TICK-clause-refused : goal.returns-then-line-gt-LATEST_TICK-clause-refused
returns-then-line-gt-LATEST_TICK-clause-refused g c = λ look names plain is.
    let sys = system_of c.args.fixed.now.table.now.system.now in
    let l = c.args.line.now in
    let old = c.args.self.now.trail.reading in
    let limit = c.args.fixed.now.limit in
    let over = c.if-line-gt-LATEST_TICK.true in
    let late : Refusal = record { number = old.number; finding = why.Late } in
    of_refusal (FailsBy (IsTaking sys limit look) (IsUnstarted sys limit look l) sys c.args.fixed.now.form l old old (g.R.Read.remaining c.args.input.now) (g.R.Read.remaining c.args.input.now)) c.refusal.result late
    c.refusal.ensures (inl (too_late sys limit look l old late (λ early. absurd (omega (arith, early, over))) refl))

pub returns-then-not-use_step-clause-refused : goal.returns-then-not-use_step-clause-refused
returns-then-not-use_step-clause-refused g c = λ look names plain is.
    let sys = system_of c.args.fixed.now.table.now.system.now in
    let l = c.args.line.now in
    let limit = c.args.fixed.now.limit in
    let old = c.args.self.now.trail.reading in
    let none : Refusal = record { number = old.number; finding = why.NoStep } in
    let within = subst (λ (n : ℕ). l.key.resource < n) (sym is.counts) c.requires.is.line.belongs.resource in
    let own = element_at c.args.self.now.steps.items l.key.resource within in
    of_refusal (FailsBy (IsTaking sys limit look) (IsUnstarted sys limit look l) sys c.args.fixed.now.form l old old (g.R.Read.remaining c.args.input.now) (g.R.Read.remaining c.args.input.now))
    c.refusal-then-not-use_step.result none c.refusal-then-not-use_step.ensures
    (inl
    (no_step sys limit look l old none c.if-line-gt-LATEST_TICK.false (ap (left_at limit l.key.tick) (is.lefts l.key.resource own.0 own.1) ∙ c.if-not-use_step.ensures.none own.0 own.1)
    refl))

pub returns-clause-refused : goal.returns-clause-refused
returns-clause-refused g c = λ look names plain is.
    let sys = system_of c.args.fixed.now.table.now.system.now in
    let form = c.args.fixed.now.form in
    let l = c.args.line.now in
    let k = sys.kind (path_at sys l.instance) in
    let limit = c.args.fixed.now.limit in
    let old = c.args.self.now.trail.reading in
    let new = c.react_kept-stop.new.trail.reading in
    let before = g.R.Read.remaining c.args.input.now in
    let after = g.R.Read.remaining c.react_kept-stop.new.input in
    let stepped = c.if-not-use_step.ensures.used in
    let stood = ap (λ (s : List TickSteps). slice_get s l.key.resource) stepped.steps_are ∙ get_set_same c.args.self.now.steps.items l.key.resource stepped.before stepped.after stepped.stood in
    let used : left_at limit l.key.tick (look.steps l.key.resource) ≡ suc stepped.after.meter.left = ap (left_at limit l.key.tick) (is.lefts l.key.resource stepped.before stepped.stood) ∙ stepped.used in
    let within = subst (λ (n : ℕ). l.instance < n) (sym is.are.all) c.requires.is.line.belongs.instance in
    let at = item_is c.args.self.now.blocks.items l.instance c.index_mut-block.result.now within c.index_mut-block.ensures.value in
    let counted = ap length stepped.steps_are ∙ length-set c.args.self.now.steps.items l.key.resource stepped.after ∙ is.counts in
    let resource = subst (λ (n : ℕ). l.key.resource < n) (sym counted) c.requires.is.line.belongs.resource in
    let there = item_is c.use_step.new.steps.items l.key.resource c.index_mut-steps.result.now resource c.index_mut-steps.ensures.value in
    let same : c.index_mut-steps.result.now ≡ stepped.after = same_Some c.index_mut-steps.result.now stepped.after (sym there ∙ stood) in
    subst (λ (r : Reading). IfErr c.react_kept-stop.result (Refuses (FailsBy (IsTaking sys limit look) (IsUnstarted sys limit look l) sys form l old r before after))) (sym (ap (λ (w : Walk). w.trail.reading) c.leave_out.ensures.others))
    (err_refused c.react_kept-stop.result (FailsBy (IsTakingAt stepped.after.meter.left look k) (IsUnbegun sys l) sys form l old new before after)
    (FailsBy (IsTaking sys limit look) (IsUnstarted sys limit look l) sys form l old new before after)
    (subst (λ (s : TickSteps). IfErr c.react_kept-stop.result (Refuses (FailsBy (IsTakingAt s.meter.left look k) (IsUnbegun sys l) sys form l old new before after))) same
    (c.react_kept-stop.ensures.refused look names plain (is.are.each l.instance c.index_mut-block.result.now at)))
    (λ n fails. fails_whole sys limit look l stepped.after.meter.left used c.if-line-gt-LATEST_TICK.false form old new before after n fails))

pub returns-clause-next : goal.returns-clause-next
returns-clause-next g c =
    subst (λ (r : Reading). OnOk c.react_kept-stop.result (IsNext c.args.fixed.now c.args.line.now.key.tick r)) (sym (ap (λ (w : Walk). w.trail.reading) c.leave_out.ensures.others)) c.react_kept-stop.ensures.next
