use Rattle.fbsim_command.proofs.lemmas.Common.{◌∙◌, inl, Memory, noted_of}
use Rattle.fbsim_command.specs.Covering.{AreStopped}
use Rattle.fbsim_command.proofs.lemmas.calls.CoverageCalls.{report_is}
use Rattle.fbsim_command.proofs.lemmas.rules.HeldRules.{passed-on}
use Rattle.fbsim_command.proofs.coverage.report.Goals as goal

pub returns-in_err-gleaned-clause-stopped : goal.returns-in_err-gleaned-clause-stopped
returns-in_err-gleaned-clause-stopped g c =
    passed-on c.from_residual.result _ (AreStopped g.S.Streams.opens c.args.system.now c.args.coverage.now c.args.source.now c.cover_all.new.source (noted_of c.cover_all.new.note)) c.from_residual.ensures.1
    c.in_err-gleaned.ensures.stopped

pub returns-in_err-text-clause-stopped : goal.returns-in_err-text-clause-stopped
returns-in_err-text-clause-stopped g c =
    passed-on c.from_residual-in_err-text.result Memory (AreStopped g.S.Streams.opens c.args.system.now c.args.coverage.now c.args.source.now c.cover_all.new.source (noted_of c.cover_all.new.note))
    c.from_residual-in_err-text.ensures.1 (inl c.in_ok-gleaned.ensures.unnoted)

pub returns-in_err-put_cut-clause-stopped : goal.returns-in_err-put_cut-clause-stopped
returns-in_err-put_cut-clause-stopped g c =
    passed-on c.from_residual-in_err-put_cut.result Memory (AreStopped g.S.Streams.opens c.args.system.now c.args.coverage.now c.args.source.now c.cover_all.new.source (noted_of c.cover_all.new.note))
    c.from_residual-in_err-put_cut.ensures.1 (inl c.in_ok-gleaned.ensures.unnoted)

pub returns-clause-report : goal.returns-clause-report
returns-clause-report g c = (
  c.in_ok-gleaned.gleaned,
  c.in_ok-gleaned.ensures.covered,
  report_is c.args.system.now c.args.coverage.now c.in_ok-gleaned.gleaned c.in_ok-text.text.items c.put_cut.new.text.items c.len.result c.in_ok-text.ensures c.in_ok-put_cut.ensures
      (c.len.ensures ∙ c.args.coverage.now.traces.ok.0),
  c.is_too_little-below.ensures,
)
