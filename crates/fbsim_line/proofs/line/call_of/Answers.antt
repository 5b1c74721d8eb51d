use Rattle.fb_types.proofs.Common.{◌≡◌, ◌∙◌, None, sym, subst, codes, IfSome}
use Rattle.clap.specs.Words.{Text, first_of, found_of, rows_of}
use Rattle.fbsim_line.specs.Line.{AsksCoverage, AsksDiff, AsksDraw, AsksExpect, AsksInspect, AsksSession, AsksWave, IsCall, IsNoTask, call_name}
use Rattle.fbsim_line.specs.declared.bench_line.Diff.{Diff}
use Rattle.fbsim_line.specs.declared.bench_line.Expect.{Expect}
use Rattle.fbsim_line.specs.declared.coverage_line.Coverage.{Coverage}
use Rattle.fbsim_line.specs.declared.draw_line.Draw.{Draw}
use Rattle.fbsim_line.specs.declared.inspect_line.Inspect.{Inspect}
use Rattle.fbsim_line.specs.declared.line.Call.{Call}
use Rattle.fbsim_line.specs.declared.line.Wave.{Wave}
use Rattle.fbsim_line.specs.declared.session_line.SessionCall.{SessionCall}
use Rattle.fbsim_line.proofs.lemmas.LineLaws.{no_coverage, no_diff, no_draw, no_expect, no_inspect, no_name, no_other_call, no_session, no_wave, ok_some, ok_none, when_none}
use Rattle.fbsim_line.proofs.line.call_of.Goals as goal

pub returns-in-explain-clause-name : goal.returns-in-explain-clause-name
returns-in-explain-clause-name c =
    let named : c.args.name.now ≡ codes "explain" = c.in-explain.is in
    subst (λ (t : Text). IfSome c.explain_of.result (λ r. t ≡ call_name r)) (sym named) c.explain_of.ensures.name

pub returns-in-explain-clause-rows : goal.returns-in-explain-clause-rows
returns-in-explain-clause-rows c = c.explain_of.ensures.rows

pub returns-in-explain-clause-none : goal.returns-in-explain-clause-none
returns-in-explain-clause-none c =
    let named : c.args.name.now ≡ codes "explain" = c.in-explain.is in
    let rows = rows_of (found_of c.args.found.now) in
    when_none c.explain_of.result (first_of (codes "NAME") rows ≡ None) ((r : Call) → c.args.name.now ≡ call_name r → IsCall rows r → ⊥) (no_name rows c.args.name.now named)
    c.explain_of.ensures.none

pub returns-in-wave-clause-name : goal.returns-in-wave-clause-name
returns-in-wave-clause-name c =
    let named : c.args.name.now ≡ codes "wave" = c.in-wave.is in
    ok_some c.wave_of.result (λ r. codes "wave" ≡ call_name r) (λ r. c.args.name.now ≡ call_name r) (λ r is. named ∙ is) c.wave_of.ensures.name

pub returns-in-wave-clause-rows : goal.returns-in-wave-clause-rows
returns-in-wave-clause-rows c = c.wave_of.ensures.rows

pub returns-in-wave-clause-none : goal.returns-in-wave-clause-none
returns-in-wave-clause-none c =
    let named : c.args.name.now ≡ codes "wave" = c.in-wave.is in
    let rows = rows_of (found_of c.args.found.now) in
    ok_none c.wave_of.result ((w : Wave) → AsksWave rows w → ⊥) ((r : Call) → c.args.name.now ≡ call_name r → IsCall rows r → ⊥) (no_wave rows c.args.name.now named)
    c.wave_of.ensures.none

pub returns-in-diff-clause-name : goal.returns-in-diff-clause-name
returns-in-diff-clause-name c =
    let named : c.args.name.now ≡ codes "diff" = c.in-diff.is in
    subst (λ (t : Text). IfSome c.diff_of.result (λ r. t ≡ call_name r)) (sym named) c.diff_of.ensures.name

pub returns-in-diff-clause-rows : goal.returns-in-diff-clause-rows
returns-in-diff-clause-rows c = c.diff_of.ensures.rows

pub returns-in-diff-clause-none : goal.returns-in-diff-clause-none
returns-in-diff-clause-none c =
    let named : c.args.name.now ≡ codes "diff" = c.in-diff.is in
    let rows = rows_of (found_of c.args.found.now) in
    when_none c.diff_of.result ((d : Diff) → AsksDiff rows d → ⊥) ((r : Call) → c.args.name.now ≡ call_name r → IsCall rows r → ⊥) (no_diff rows c.args.name.now named) c.diff_of.ensures.none

pub returns-in-draw-clause-name : goal.returns-in-draw-clause-name
returns-in-draw-clause-name c =
    let named : c.args.name.now ≡ codes "draw" = c.in-draw.is in
    ok_some c.draw_of.result (λ r. codes "draw" ≡ call_name r) (λ r. c.args.name.now ≡ call_name r) (λ r is. named ∙ is) c.draw_of.ensures.name

pub returns-in-draw-clause-rows : goal.returns-in-draw-clause-rows
returns-in-draw-clause-rows c = c.draw_of.ensures.rows

pub returns-in-draw-clause-none : goal.returns-in-draw-clause-none
returns-in-draw-clause-none c =
    let named : c.args.name.now ≡ codes "draw" = c.in-draw.is in
    let rows = rows_of (found_of c.args.found.now) in
    ok_none c.draw_of.result ((d : Draw) → AsksDraw rows d → ⊥) ((r : Call) → c.args.name.now ≡ call_name r → IsCall rows r → ⊥) (no_draw rows c.args.name.now named)
    c.draw_of.ensures.none

pub returns-in-coverage-clause-name : goal.returns-in-coverage-clause-name
returns-in-coverage-clause-name c =
    let named : c.args.name.now ≡ codes "coverage" = c.in-coverage.is in
    ok_some c.coverage_of.result (λ r. codes "coverage" ≡ call_name r) (λ r. c.args.name.now ≡ call_name r) (λ r is. named ∙ is) c.coverage_of.ensures.name

pub returns-in-coverage-clause-rows : goal.returns-in-coverage-clause-rows
returns-in-coverage-clause-rows c = c.coverage_of.ensures.rows

pub returns-in-coverage-clause-none : goal.returns-in-coverage-clause-none
returns-in-coverage-clause-none c =
    let named : c.args.name.now ≡ codes "coverage" = c.in-coverage.is in
    let rows = rows_of (found_of c.args.found.now) in
    ok_none c.coverage_of.result ((x : Coverage) → AsksCoverage rows x → ⊥) ((r : Call) → c.args.name.now ≡ call_name r → IsCall rows r → ⊥) (no_coverage rows c.args.name.now named)
    c.coverage_of.ensures.none

pub returns-in-inspect-clause-name : goal.returns-in-inspect-clause-name
returns-in-inspect-clause-name c =
    let named : c.args.name.now ≡ codes "inspect" = c.in-inspect.is in
    ok_some c.inspect_of.result (λ r. codes "inspect" ≡ call_name r) (λ r. c.args.name.now ≡ call_name r) (λ r is. named ∙ is) c.inspect_of.ensures.name

pub returns-in-inspect-clause-rows : goal.returns-in-inspect-clause-rows
returns-in-inspect-clause-rows c = c.inspect_of.ensures.rows

pub returns-in-inspect-clause-none : goal.returns-in-inspect-clause-none
returns-in-inspect-clause-none c =
    let named : c.args.name.now ≡ codes "inspect" = c.in-inspect.is in
    let rows = rows_of (found_of c.args.found.now) in
    ok_none c.inspect_of.result ((x : Inspect) → AsksInspect rows x → ⊥) ((r : Call) → c.args.name.now ≡ call_name r → IsCall rows r → ⊥) (no_inspect rows c.args.name.now named)
    c.inspect_of.ensures.none

pub returns-in-session-clause-name : goal.returns-in-session-clause-name
returns-in-session-clause-name c =
    let named : c.args.name.now ≡ codes "session" = c.in-session.is in
    ok_some c.session_of.result (λ r. codes "session" ≡ call_name r) (λ r. c.args.name.now ≡ call_name r) (λ r is. named ∙ is) c.session_of.ensures.name

pub returns-in-session-clause-rows : goal.returns-in-session-clause-rows
returns-in-session-clause-rows c = c.session_of.ensures.rows

pub returns-in-session-clause-none : goal.returns-in-session-clause-none
returns-in-session-clause-none c =
    let named : c.args.name.now ≡ codes "session" = c.in-session.is in
    let rows = rows_of (found_of c.args.found.now) in
    ok_none c.session_of.result ((x : SessionCall) → AsksSession rows x → ⊥) ((r : Call) → c.args.name.now ≡ call_name r → IsCall rows r → ⊥) (no_session rows c.args.name.now named)
    c.session_of.ensures.none

pub returns-in-expect-clause-name : goal.returns-in-expect-clause-name
returns-in-expect-clause-name c =
    let named : c.args.name.now ≡ codes "expect" = c.in-expect.is in
    ok_some c.expect_of.result (λ r. codes "expect" ≡ call_name r) (λ r. c.args.name.now ≡ call_name r) (λ r is. named ∙ is) c.expect_of.ensures.name

pub returns-in-expect-clause-rows : goal.returns-in-expect-clause-rows
returns-in-expect-clause-rows c = c.expect_of.ensures.rows

pub returns-in-expect-clause-none : goal.returns-in-expect-clause-none
returns-in-expect-clause-none c =
    let named : c.args.name.now ≡ codes "expect" = c.in-expect.is in
    let rows = rows_of (found_of c.args.found.now) in
    ok_none c.expect_of.result ((x : Expect) → AsksExpect rows x → ⊥) ((r : Call) → c.args.name.now ≡ call_name r → IsCall rows r → ⊥) (no_expect rows c.args.name.now named)
    c.expect_of.ensures.none

pub returns-in_default-clause-name : goal.returns-in_default-clause-name
returns-in_default-clause-name c = c.task_of.ensures.name

pub returns-in_default-clause-rows : goal.returns-in_default-clause-rows
returns-in_default-clause-rows c = c.task_of.ensures.rows

pub returns-in_default-clause-none : goal.returns-in_default-clause-none
returns-in_default-clause-none c =
    let rows = rows_of (found_of c.args.found.now) in
    ok_none c.task_of.result (IsNoTask rows c.args.name.now) ((r : Call) → c.args.name.now ≡ call_name r → IsCall rows r → ⊥)
    (no_other_call rows c.args.name.now c.in_default.not-explain c.in_default.not-wave c.in_default.not-expect c.in_default.not-diff
    c.in_default.not-draw c.in_default.not-inspect c.in_default.not-coverage c.in_default.not-session)
    c.task_of.ensures.none
