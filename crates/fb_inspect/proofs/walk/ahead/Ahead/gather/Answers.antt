use Rattle.fb_inspect.proofs.lemmas.Common.{List, ap, refl, subst, ◌∙◌, ◌++◌, ℕ, system_of, IsNext}
use Rattle.fb_inspect.proofs.lemmas.lines.Gathered.{rows_last, rows_more, rows_none}
use Rattle.fb_inspect.proofs.lemmas.lines.AheadOf.{last_other}
use Rattle.fb_inspect.proofs.walk.ahead.Ahead.gather.Goals as goal

pub loop-init : goal.loop-init
loop-init g c = (
  rows_none (system_of c.args.fixed.now.table.now.system.now) c.args.fixed.now.form c.args.first.now c.clear-2.new.self.items c.clear.new.self.items (g.R.Read.remaining c.args.input.now) c.clear-2.ensures.items c.clear.ensures.items,
  refl,
)

pub returns-in_default-clause-gathered : goal.returns-in_default-clause-gathered
returns-in_default-clause-gathered g c =
    rows_last (system_of c.args.fixed.now.table.now.system.now) c.args.fixed.now.form c.args.first.now c.loop.self.rows.items c.loop.self.text.items c.read_on.new.line.items (g.R.Read.remaining c.args.input.now)
    (g.R.Read.remaining c.loop.input) (g.R.Read.remaining c.read_on.new.input) c.loop.invariant.0 c.in_ok-read_on.ensures.read c.in_ok-read_on.ensures.line

pub loop-preserved : goal.loop-preserved
loop-preserved g c =
    let sys = system_of c.args.fixed.now.table.now.system.now in
    let form = c.args.fixed.now.form in
    let first = c.args.first.now in
    let text = c.loop.self.text.items in (
      rows_more sys form first c.loop.self.rows.items c.keep_row.new.rows.items c.in-Some.row text c.read_on.new.line.items c.extend_from_slice.new.self.items (g.R.Read.remaining c.args.input.now)
          (g.R.Read.remaining c.loop.input) (g.R.Read.remaining c.read_on.new.input) c.in_ok-next.next c.loop.invariant.0 c.in-Some.ensures.own.0 c.in-Some.ensures.own.1
          (subst (λ (l : List ℕ). IsNext sys form first.key.tick l c.in_ok-next.next) c.as_slice-line.ensures.value c.in_ok-next.ensures) c.in_ok-read_on.ensures.read
          (c.in_ok-extend_from_slice.ensures.items ∙ ap (λ (l : List ℕ). text ++ l) c.as_slice-line.ensures.value) c.in_ok-keep_row.ensures,
      c.loop.invariant.1,
    )

pub returns-in_default-clause-excess : goal.returns-in_default-clause-excess
returns-in_default-clause-excess g c = c.loop.invariant.1

pub returns-in_default-clause-other : goal.returns-in_default-clause-other
returns-in_default-clause-other g c = λ names m is own.
    let fixed = c.args.fixed.now in
    last_other fixed.table.now fixed.form names c.args.first.now c.read_on.new.line.items c.in_ok-next.next
    (subst (λ (l : List ℕ). IsNext (system_of fixed.table.now.system.now) fixed.form c.args.first.now.key.tick l c.in_ok-next.next) c.as_slice-line.ensures.value c.in_ok-next.ensures) c.in_default.ensures.none m is own
