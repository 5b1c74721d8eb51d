use Rattle.fbsim_command.proofs.lemmas.Common.{List, ℕ, noted_of, subst, sym, AreUnheld, Memory}
use Rattle.fbsim_command.specs.Expecting.{PutsAll}
use Rattle.fbsim_command.proofs.lemmas.rules.HeldRules.{passed-on, rules_reported}
use Rattle.fbsim_command.proofs.expect.report.Goals as goal

pub returns-in_err-text-clause-unheld : goal.returns-in_err-text-clause-unheld
returns-in_err-text-clause-unheld g c =
    passed-on c.from_residual.result Memory (AreUnheld g.S.Streams.opens c.args.expect.now c.args.rules.now c.args.source.now c.args.source.now (noted_of c.args.note.now)) c.from_residual.ensures.1 c.requires

pub returns-in_err-counts-clause-unheld : goal.returns-in_err-counts-clause-unheld
returns-in_err-counts-clause-unheld g c =
    passed-on c.from_residual-in_err-counts.result _ (AreUnheld g.S.Streams.opens c.args.expect.now c.args.rules.now c.args.source.now c.put_all.new.source (noted_of c.put_all.new.note))
    c.from_residual-in_err-counts.ensures.1 c.in_err-counts.ensures.unheld

pub returns-in_err-put_applied_part-clause-unheld : goal.returns-in_err-put_applied_part-clause-unheld
returns-in_err-put_applied_part-clause-unheld g c =
    passed-on c.from_residual-in_err-put_applied_part.result Memory
    (AreUnheld g.S.Streams.opens c.args.expect.now c.args.rules.now c.args.source.now c.put_all.new.source (noted_of c.put_all.new.note)) c.from_residual-in_err-put_applied_part.ensures.1
    c.in_ok-counts.ensures.unnoted

pub returns-in_err-put_tail-clause-unheld : goal.returns-in_err-put_tail-clause-unheld
returns-in_err-put_tail-clause-unheld g c =
    passed-on c.from_residual-in_err-put_tail.result Memory (AreUnheld g.S.Streams.opens c.args.expect.now c.args.rules.now c.args.source.now c.put_all.new.source (noted_of c.put_all.new.note))
    c.from_residual-in_err-put_tail.ensures.1 c.in_ok-counts.ensures.unnoted

pub returns-clause-reported : goal.returns-clause-reported
returns-clause-reported g c =
    let value = c.as_slice-counts.ensures.value in
    rules_reported g.S.Streams.opens c.args.expect.now c.args.rules.now c.args.source.now c.put_all.new.source c.in_ok-text.text.items c.put_all.new.text.items c.put_applied_part.new.text.items
    c.put_tail.new.text.items c.as_slice-counts.result.now c.in_ok-counts.is_well c.are_applied.result c.both.result c.in_ok-text.ensures
    (subst (λ (ns : List ℕ). PutsAll g.S.Streams.opens c.args.expect.now c.args.rules.now c.args.source.now c.put_all.new.source c.in_ok-text.text.items c.put_all.new.text.items ns c.in_ok-counts.is_well) (sym value) c.in_ok-counts.ensures.put)
    c.in_ok-put_applied_part.ensures
    c.in_ok-put_tail.ensures (c.are_applied.ensures c.args.rules.now) c.both.ensures
