use Rattle.fbsim_session.proofs.lemmas.Telling.{leads_as, leads_flushed, leads_sent}
use Rattle.fbsim_session.proofs.talking.Console.answer.Goals as goal

pub returns-in-Line : goal.returns-in-Line
returns-in-Line g c = λ x h. leads_sent x _ _ h _ _ c.send.result c.send.ensures.sends

pub returns-in-Written : goal.returns-in-Written
returns-in-Written g c = λ x h. leads_as x _ _ _ c.flush.result c.flush.ensures.same (leads_flushed x _ _ h _ c.flush.result c.flush.ensures.flushes)

pub returns-in-Help : goal.returns-in-Help
returns-in-Help g c = c.help.ensures
