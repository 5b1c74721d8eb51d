use Rattle.fbsim_command.proofs.lemmas.Common.{Bor, [], arith, refl, inl, Memory, noted_of}
use Rattle.clap.specs.Words.{Text}
use Rattle.fbsim_command.specs.Covering.{AreStopped}
use Rattle.fbsim_command.proofs.lemmas.calls.CoverageCalls.{cut-rises, gone-all, gone-more-of, stops-at-of}
use Rattle.fbsim_command.proofs.lemmas.rules.HeldRules.{passed-on}
use Rattle.fbsim_command.proofs.coverage.cover_all.Goals as goal

pub returns-in_err-of-clause-stopped : goal.returns-in_err-of-clause-stopped
returns-in_err-of-clause-stopped g c =
    passed-on c.from_residual.result Memory (AreStopped g.S.Streams.opens c.args.system.now c.args.coverage.now c.args.source.now c.args.source.now (noted_of c.args.note.now)) c.from_residual.ensures.1
    (inl c.requires.unnoted)

pub loop-name-init : goal.loop-name-init
loop-name-init g c = ((refl, refl), c.requires.unnoted, omega arith)

pub loop-name-preserved : goal.loop-name-preserved
loop-name-preserved g c = (
  gone-more-of g.S.Streams.opens c.args.system.now c.args.coverage.now (record { marks = c.in_ok-of.field-0; cut = 0 }) (c.in_ok-of.ensures, refl) c.deref-name-items.result.now c.loop-name.name-index _ c.args.source.now
      c.loop-name.source c.cover_one.new.source c.loop-name.gleaned _ c.deref-name-items.ensures.value c.loop-name-test.true c.loop-name.invariant.0 c.in_ok-gleaned.ensures.covered,
  c.in_ok-gleaned.ensures.unnoted,
  cut-rises g.S.Streams.opens c.args.system.now c.args.coverage.now _ c.loop-name.source c.cover_one.new.source c.loop-name.gleaned _ c.loop-name.name-index c.in_ok-gleaned.ensures.covered c.loop-name.invariant.2,
)

pub returns-in_err-gleaned-clause-stopped : goal.returns-in_err-gleaned-clause-stopped
returns-in_err-gleaned-clause-stopped g c =
    let none : Bor Text = record { ref_ptr = (0, 0); now = [] } in
    let note = noted_of c.cover_one.new.note in
    passed-on c.from_residual-in_err-gleaned.result _ (AreStopped g.S.Streams.opens c.args.system.now c.args.coverage.now c.args.source.now c.cover_one.new.source note)
    c.from_residual-in_err-gleaned.ensures.1
    (stops-at-of g.S.Streams.opens c.args.system.now c.args.coverage.now (record { marks = c.in_ok-of.field-0; cut = 0 }) (c.in_ok-of.ensures, refl) c.deref-name-items.result.now c.loop-name.name-index none c.args.source.now
    c.loop-name.source c.cover_one.new.source c.loop-name.gleaned note _ c.deref-name-items.ensures.value c.loop-name-test.true c.loop-name.invariant.0 c.in_err-gleaned.ensures.stopped)

pub returns-clause-covered : goal.returns-clause-covered
returns-clause-covered g c =
    gone-all g.S.Streams.opens c.args.system.now c.args.coverage.now (record { marks = c.in_ok-of.field-0; cut = 0 }) (c.in_ok-of.ensures, refl) c.deref-name-items.result.now c.loop-name.name-index c.args.source.now
    c.loop-name.source c.loop-name.gleaned c.deref-name-items.ensures.value c.loop-name-test.false c.loop-name.invariant.0

pub returns-clause-unnoted : goal.returns-clause-unnoted
returns-clause-unnoted g c = c.loop-name.invariant.1
