use Rattle.fb_inspect.proofs.lemmas.Common.{◌<◌, List, ℕ, ap, ◌∙◌, inl, inr, subst, sym, slice_get, system_of, path_at, line_of, steps_stop, ◌≡◌, Chart, Remembered}
use Rattle.fb_inspect.specs.declared.walk.blocks.Remembered.TheVariants as kept
use Rattle.fb_inspect.proofs.lemmas.dump.Changing.{no_chart}
use Rattle.fb_inspect.proofs.lemmas.lines.NearStop.{basic_kept}
use Rattle.fb_inspect.proofs.walk.Walk.is_near.Goals as goal

pub returns-in_default-clause-other : goal.returns-in_default-clause-other
returns-in_default-clause-other c = λ look are names apart is no. inl
    (λ t kind text.
    let k = c.args.line.now.instance in
    let within = subst (λ (n : ℕ). k < n) are.are.all c.requires in
    no_chart (system_of c.args.fixed.now.table.now.system.now) c.args.self.now.blocks.items look k t are.are within kind
    (λ chart there. c.in_default.ensures.none chart (ap (λ (bs : List Remembered). slice_get bs k) c.as_slice.ensures.value ∙ there)))

pub returns-then-not-is_own_stop-clause-other : goal.returns-then-not-is_own_stop-clause-other
returns-then-not-is_own_stop-clause-other c = λ look are names apart is no. inl
    (λ t kind text.
    let sys = system_of c.args.fixed.now.table.now.system.now in
    c.is_own_stop.ensures.other names apart is c.if-not-is_own_stop.true
    (subst (λ (u : List ℕ). u ≡ steps_stop sys (line_of sys c.args.line.now)) (sym c.as_slice-2.ensures.value) text))

pub returns-clause-near : goal.returns-clause-near
returns-clause-near c = λ look are yes.
    let sys = system_of c.args.fixed.now.table.now.system.now in
    let k = c.args.line.now.instance in
    let chart : Chart = c.in-Some._chart.now in
    let there = ap (λ (bs : List Remembered). slice_get bs k) (sym c.as_slice.ensures.value) ∙ c.in-Some.ensures.some in
    let basic = basic_kept (sys.kind (path_at sys k)) chart (look.blocks (path_at sys k)) (are.each k (kept.Basic chart) there) in
    record {
      block = basic.0;
      kind = basic.1;
      is = subst (λ (u : List ℕ). u ≡ steps_stop sys (line_of sys c.args.line.now)) c.as_slice-2.ensures.value (c.is_own_stop.ensures.stop c.if-not-is_own_stop.false);
    }

pub returns-clause-kept : goal.returns-clause-kept
returns-clause-kept c = λ look are yes. c.keep_steps.ensures.kept (system_of c.args.fixed.now.table.now.system.now) look are yes

pub returns-clause-other : goal.returns-clause-other
returns-clause-other c = λ look are names apart is no. inr (λ kept. c.keep_steps.ensures.more (system_of c.args.fixed.now.table.now.system.now) look are no kept)
