use Rattle.fbsim_command.proofs.lemmas.Common.{Bor, Bool, List, [], length, noted_of, take, get_or, subst, ap, ◌∙◌, ◌&&◌, ◌<◌, ◌≤◌, take_all, AreUnheld, IsUnheld, Memory}
use Rattle.clap.specs.Words.{Text}
use Rattle.fb_expect.specs.Reports.{are_well}
use Rattle.fb_expect.specs.declared.judging.Judged.{Judged}
use Rattle.fbsim_command.proofs.lemmas.rules.HeldRules.{CountsOne, comes-to, index-room, passed-on, puts-all, puts-more-of, puts-none, unheld-at}
use Rattle.fbsim_command.proofs.expect.put_all.Goals as goal

pub loop-index-init : goal.loop-index-init
loop-index-init g c =
    (puts-none g.S.Streams.opens c.args.expect.now c.args.rules.now c.args.expect.now.traces.items c.args.source.now c.args.text.now.items c.in_ok-counts.counts.items c.in_ok-counts.ensures, c.requires)

pub loop-index-preserved : goal.loop-index-preserved
loop-index-preserved g c = (
  puts-more-of g.S.Streams.opens c.args.expect.now c.args.rules.now c.args.expect.now.traces.items c.deref-trace-items.result.now c.loop-index.index _ c.args.source.now c.loop-index.source
      c.put_one.new.source c.args.text.now.items c.loop-index.text.items c.put_one.new.text.items c.in_ok-judged.judged.items c.loop-index.counts.items c.count_trace.new.counts.items
      c.loop-index.is_well c.both-is_well.result c.deref-trace-items.ensures.value c.loop-index-test.true (index-room c.args.expect.now.traces c.deref-trace-items.result.now c.loop-index.index c.deref-trace-items.ensures.value c.loop-index-test.true)
      c.loop-index.invariant.0 c.in_ok-judged.ensures.put
      (subst (λ (js : List Judged). CountsOne c.args.rules.now js c.loop-index.counts.items c.count_trace.new.counts.items) c.as_slice.ensures.value c.count_trace.ensures)
      (c.both-is_well.ensures ∙ ap (λ (b : Bool). b && c.loop-index.is_well) (c.are_well-ok.ensures ∙ ap (are_well c.args.expect.now.is_strict) c.as_slice-in-loop-index.ensures.value)),
  c.in_ok-judged.ensures.unnoted,
)

pub returns-in_err-counts-clause-unheld : goal.returns-in_err-counts-clause-unheld
returns-in_err-counts-clause-unheld g c =
    passed-on c.from_residual.result Memory (AreUnheld g.S.Streams.opens c.args.expect.now c.args.rules.now c.args.source.now c.args.source.now (noted_of c.args.note.now)) c.from_residual.ensures.1 c.requires

pub returns-in_err-judged-clause-unheld : goal.returns-in_err-judged-clause-unheld
returns-in_err-judged-clause-unheld g c =
    let x = c.args.expect.now in
    let i = c.loop-index.index in
    let same = c.deref-trace-items.ensures.value in
    let none : Bor Text = record { ref_ptr = (0, 0); now = [] } in
    let note = noted_of c.put_one.new.note in
    passed-on c.from_residual-in_err-judged.result _ (AreUnheld g.S.Streams.opens x c.args.rules.now c.args.source.now c.put_one.new.source note) c.from_residual-in_err-judged.ensures.1
    (unheld-at g.S.Streams.opens x c.args.rules.now _ c.args.source.now c.loop-index.source c.put_one.new.source note _
    (comes-to g.S.Streams.opens x c.args.rules.now i none c.args.source.now c.loop-index.source c.args.text.now.items c.loop-index.text.items c.loop-index.counts.items c.loop-index.is_well
    (subst (λ (vs : List (Bor Text)). i < length vs) same c.loop-index-test.true) c.loop-index.invariant.0)
    (subst (λ (vs : List (Bor Text)). IsUnheld g.S.Streams.opens x c.loop-index.source c.put_one.new.source (get_or vs i none).now note c.in_err-judged.field-0.0) same c.in_err-judged.ensures.unheld))

pub returns-clause-put : goal.returns-clause-put
returns-clause-put g c =
    let ts = c.args.expect.now.traces.items in
    let end = subst (λ (vs : List (Bor Text)). length vs ≤ c.loop-index.index) c.deref-trace-items.ensures.value c.loop-index-test.false in
    puts-all g.S.Streams.opens c.args.expect.now c.args.rules.now ts (take c.loop-index.index ts) c.args.source.now c.loop-index.source c.args.text.now.items c.loop-index.text.items c.loop-index.counts.items c.loop-index.is_well
    (take_all c.loop-index.index ts end) c.loop-index.invariant.0

pub returns-clause-unnoted : goal.returns-clause-unnoted
returns-clause-unnoted g c = c.loop-index.invariant.1
