use Rattle.fbsim_command.proofs.lemmas.Common.{Bor, List, Noted, ℕ, map, inr, refl, End}
use Rattle.clap.specs.Words.{Text}
use Rattle.fbsim_command.specs.Command.{Does}
use Rattle.fbsim_command.proofs.lemmas.calls.Reporting.{ended_so}
use Rattle.fbsim_command.proofs.program.obey.Goals as goal

pub returns-in-Ok : goal.returns-in-Ok
returns-in-Ok g c = c.answer_to-answer.ensures (map (λ (w : Bor (List ℕ)). w.now) c.args.words.now) c.in-Ok.ensures.call c.in-Ok.ensures.taken

pub returns-in-Err : goal.returns-in-Err
returns-in-Err g c =
    let words = map (λ (w : Bor (List ℕ)). w.now) c.args.words.now in
    let source = c.args.source.now in
    ended_so c.ended.result c.end_without_call.result c.ended.ensures (g.E.Write.contents c.args.err.now)
    (λ (end : End) (reports : Text) (note : Noted). Does g.S.Source.gives g.S.Streams.opens source source words (g.W.Write.contents c.args.out.now) (g.W.Write.contents c.end_without_call.new.out) end c.ended.result.is_heard reports note)
    (inr (inr (inr (inr (inr (inr (inr (inr (inr (c.end_without_call.ensures words c.in-Err.ensures.help c.in-Err.ensures.none, (refl, refl, refl)))))))))))
