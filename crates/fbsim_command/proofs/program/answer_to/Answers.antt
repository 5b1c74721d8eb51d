use Rattle.fbsim_command.proofs.lemmas.Common.{Bor, Err, List, Noted, map, noted_of, inl, inr, refl, subst, End}
use Rattle.clap.specs.Words.{Text}
use Rattle.fbsim_line.specs.Line.{AreCall}
use Rattle.fbsim_line.specs.declared.line.Call.{Call}
use Rattle.fbsim_command.specs.Command.{Does, Performs}
use Rattle.fbsim_command.specs.Drawing.{Draws}
use Rattle.fbsim_command.specs.Covering.{ReportsCoverage}
use Rattle.fbsim_command.specs.Inspecting.{ShowsInsides}
use Rattle.fbsim_command.specs.Sessions.{TalksIn}
use Rattle.fbsim_command.specs.Showing.{Shows}
use Rattle.fbsim_command.proofs.lemmas.calls.Reporting.{ended_so, noted_so}
use Rattle.fbsim_command.proofs.program.answer_to.Goals as goal

pub returns-in-Ok : goal.returns-in-Ok
returns-in-Ok g c = λ words asked taken.
    let here = subst (λ (r : Call). AreCall words r) c.in-Task.is asked in
    let done = subst (λ (ns : List (Bor Text)). Performs g.S.Source.gives c.args.source.now c.perform.new.source (map (λ (n : Bor Text). n.now) ns) c.in-Task.task c.in-Ok.sorting (g.W.Write.contents c.args.out.now)
    (g.W.Write.contents c.perform.new.out) c.perform.result.end c.perform.result.is_heard c.perform.ensures.0 (noted_of c.perform.result.note)) c.as_slice.ensures.value c.perform.ensures.2 in
    (c.perform.ensures.0, c.perform.ensures.1, inl (c.in-Task.task, c.in-Task.types, c.in-Task.levels, here, taken, inl (c.in-Ok.sorting, c.in-Ok.ensures.sorted, done)))

pub returns-in-Err : goal.returns-in-Err
returns-in-Err g c = λ words asked taken.
    let source = c.args.source.now in
    let out = g.W.Write.contents c.args.out.now in
    let here = subst (λ (r : Call). AreCall words r) c.in-Task.is asked in
    ended_so c.ended.result (Err c.in-Err.failure) c.ended.ensures (g.E.Write.contents c.args.err.now)
    (λ (end : End) (reports : Text) (note : Noted). Does g.S.Source.gives g.S.Streams.opens source source words out out end c.ended.result.is_heard reports note)
    (inl (c.in-Task.task, c.in-Task.types, c.in-Task.levels, here, taken, inr (c.in-Err.failure, c.in-Err.ensures.unknown, refl, refl, (refl, refl, refl))))

pub returns-in-Explain : goal.returns-in-Explain
returns-in-Explain g c = λ words asked taken.
    let source = c.args.source.now in
    let old = g.W.Write.contents c.args.out.now in
    let new = g.W.Write.contents c.explain_to.new.out in
    let here = subst (λ (r : Call). AreCall words r) c.in-Explain.is asked in
    ended_so c.ended-in-Explain.result c.explain_to.result c.ended-in-Explain.ensures (g.E.Write.contents c.args.err.now)
    (λ (end : End) (reports : Text) (note : Noted). Does g.S.Source.gives g.S.Streams.opens source source words old new end c.ended-in-Explain.result.is_heard reports note)
    (inr (inr (inl (c.in-Explain.name, here, taken, c.explain_to.ensures, (refl, refl, refl)))))

pub returns-in-Wave : goal.returns-in-Wave
returns-in-Wave g c = λ words asked taken.
    let here = subst (λ (r : Call). AreCall words r) c.in-Wave.is asked in
    let shown = subst (λ (ns : List (Bor Text)). Shows g.S.Source.gives g.S.Streams.opens c.args.source.now c.show.new.source (map (λ (n : Bor Text). n.now) ns) c.in-Wave.wave
    (g.W.Write.contents c.args.out.now) (g.W.Write.contents c.show.new.out) c.show.result.0 (noted_of c.show.result.1)) c.as_slice-in-Wave.ensures.value c.show.ensures in
    noted_so c.ended_with.result _ c.ended_with.ensures refl (g.E.Write.contents c.args.err.now)
    (λ (end : End) (reports : Text) (note : Noted). Does g.S.Source.gives g.S.Streams.opens c.args.source.now c.show.new.source words (g.W.Write.contents c.args.out.now) (g.W.Write.contents c.show.new.out) end c.ended_with.result.is_heard reports note)
    (inr (inl (c.in-Wave.wave, c.in-Wave.types, here, taken, shown, refl)))

pub returns-in-Expect : goal.returns-in-Expect
returns-in-Expect g c = λ words asked taken.
    let here = subst (λ (r : Call). AreCall words r) c.in-Expect.is asked in
    noted_so c.ended_with-in-Expect.result _ c.ended_with-in-Expect.ensures refl (g.E.Write.contents c.args.err.now)
    (λ (end : End) (reports : Text) (note : Noted). Does g.S.Source.gives g.S.Streams.opens c.args.source.now c.expect.new.source words (g.W.Write.contents c.args.out.now) (g.W.Write.contents c.expect.new.out) end c.ended_with-in-Expect.result.is_heard reports note)
    (inr (inr (inr (inl (c.in-Expect.call, here, taken, c.expect.ensures, refl)))))

pub returns-in-Diff : goal.returns-in-Diff
returns-in-Diff g c = λ words asked taken.
    let here = subst (λ (r : Call). AreCall words r) c.in-Diff.is asked in
    noted_so c.ended_with-in-Diff.result _ c.ended_with-in-Diff.ensures refl (g.E.Write.contents c.args.err.now)
    (λ (end : End) (reports : Text) (note : Noted). Does g.S.Source.gives g.S.Streams.opens c.args.source.now c.diff.new.source words (g.W.Write.contents c.args.out.now) (g.W.Write.contents c.diff.new.out) end c.ended_with-in-Diff.result.is_heard reports note)
    (inr (inr (inr (inr (inl (c.in-Diff.call, here, taken, c.diff.ensures, refl))))))

pub returns-in-Draw : goal.returns-in-Draw
returns-in-Draw g c = λ words asked taken.
    let here = subst (λ (r : Call). AreCall words r) c.in-Draw.is asked in
    let drawn = subst (λ (ns : List (Bor Text)). Draws g.S.Source.gives c.args.source.now c.show_graph.new.source (map (λ (n : Bor Text). n.now) ns) c.in-Draw.call
    (g.W.Write.contents c.args.out.now) (g.W.Write.contents c.show_graph.new.out) c.show_graph.result.0 (noted_of c.show_graph.result.1)) c.as_slice-in-Draw.ensures.value c.show_graph.ensures in
    noted_so c.ended_with-in-Draw.result _ c.ended_with-in-Draw.ensures refl (g.E.Write.contents c.args.err.now)
    (λ (end : End) (reports : Text) (note : Noted). Does g.S.Source.gives g.S.Streams.opens c.args.source.now c.show_graph.new.source words (g.W.Write.contents c.args.out.now) (g.W.Write.contents c.show_graph.new.out) end c.ended_with-in-Draw.result.is_heard reports note)
    (inr (inr (inr (inr (inr (inl (c.in-Draw.call, c.in-Draw.types, here, taken, drawn, refl)))))))

pub returns-in-Inspect : goal.returns-in-Inspect
returns-in-Inspect g c = λ words asked taken.
    let here = subst (λ (r : Call). AreCall words r) c.in-Inspect.is asked in
    let shown = subst (λ (ns : List (Bor Text)). ShowsInsides g.S.Source.gives g.S.Streams.opens c.args.source.now c.show_insides.new.source (map (λ (n : Bor Text). n.now) ns) c.in-Inspect.call
    (g.W.Write.contents c.args.out.now) (g.W.Write.contents c.show_insides.new.out) c.show_insides.result.0 (noted_of c.show_insides.result.1)) c.as_slice-in-Inspect.ensures.value c.show_insides.ensures in
    noted_so c.ended_with-in-Inspect.result _ c.ended_with-in-Inspect.ensures refl (g.E.Write.contents c.args.err.now)
    (λ (end : End) (reports : Text) (note : Noted). Does g.S.Source.gives g.S.Streams.opens c.args.source.now c.show_insides.new.source words (g.W.Write.contents c.args.out.now) (g.W.Write.contents c.show_insides.new.out) end c.ended_with-in-Inspect.result.is_heard reports note)
    (inr (inr (inr (inr (inr (inr (inl (c.in-Inspect.call, c.in-Inspect.types, here, taken, shown, refl))))))))

pub returns-in-Coverage : goal.returns-in-Coverage
returns-in-Coverage g c = λ words asked taken.
    let here = subst (λ (r : Call). AreCall words r) c.in-Coverage.is asked in
    let shown = subst (λ (ns : List (Bor Text)). ReportsCoverage g.S.Source.gives g.S.Streams.opens c.args.source.now c.show_coverage.new.source (map (λ (n : Bor Text). n.now) ns) c.in-Coverage.call
    (g.W.Write.contents c.args.out.now) (g.W.Write.contents c.show_coverage.new.out) c.show_coverage.result.0 (noted_of c.show_coverage.result.1)) c.as_slice-in-Coverage.ensures.value c.show_coverage.ensures in
    noted_so c.ended_with-in-Coverage.result _ c.ended_with-in-Coverage.ensures refl (g.E.Write.contents c.args.err.now)
    (λ (end : End) (reports : Text) (note : Noted). Does g.S.Source.gives g.S.Streams.opens c.args.source.now c.show_coverage.new.source words (g.W.Write.contents c.args.out.now) (g.W.Write.contents c.show_coverage.new.out) end c.ended_with-in-Coverage.result.is_heard reports note)
    (inr (inr (inr (inr (inr (inr (inr (inl (c.in-Coverage.call, c.in-Coverage.types, here, taken, shown, refl)))))))))

pub returns-in-Session : goal.returns-in-Session
returns-in-Session g c = λ words asked taken.
    let old = g.W.Write.contents c.args.out.now in
    let new = g.W.Write.contents c.talk_to.new.out in
    let here = subst (λ (r : Call). AreCall words r) c.in-Session.is asked in
    let talked = subst (λ (ns : List (Bor Text)). TalksIn g.S.Source.gives g.S.Streams.opens c.args.source.now c.talk_to.new.source (map (λ (n : Bor Text). n.now) ns) c.in-Session.call old new c.talk_to.result)
    c.as_slice-in-Session.ensures.value c.talk_to.ensures in
    ended_so c.ended-in-Session.result c.talk_to.result c.ended-in-Session.ensures (g.E.Write.contents c.args.err.now)
    (λ (end : End) (reports : Text) (note : Noted). Does g.S.Source.gives g.S.Streams.opens c.args.source.now c.talk_to.new.source words old new end c.ended-in-Session.result.is_heard reports note)
    (inr (inr (inr (inr (inr (inr (inr (inr (inl (c.in-Session.call, c.in-Session.types, here, taken, talked, refl, refl))))))))))
