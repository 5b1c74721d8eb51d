use Rattle.fb_net.proofs.lemmas.Common.{sym, ap, TimerAsk, asked, Outbox}
use Rattle.fb_net.proofs.outbox.Outbox.ask_timer.Goals as goal

pub returns-in-Keep : goal.returns-in-Keep
returns-in-Keep c =
    let before : Outbox = c.args.self.now in
    ap (λ (a : TimerAsk). record before { timer = asked before.timer a }) (sym c.in-Keep.is)
