use Rattle.fb_types.proofs.Common.{◌+◌, List, sym, ap, subst, ◌∙◌, latency_at, system_of}
use Rattle.fb_types.specs.declared.latency.Entry.{Entry}
use Rattle.fb_window.specs.LinkRows.{AreRowsOf, IsLink}
use Rattle.fb_window.specs.declared.links.LinkRow.{LinkRow}
use Rattle.fb_window.proofs.lemmas.messages.LinkLemmas.{rows_more}
use Rattle.fb_window.proofs.links.copy_all.Goals as goal

pub loop-link-preserved : goal.loop-link-preserved
loop-link-preserved c =
    let sys = system_of c.args.system.now in
    let link = c.loop-link.link in
    let row : LinkRow = record { from = c.sender.result; to = c.receiver.result; latency = c.in_ok-latency.latency } in
    let here : IsLink sys link row = record {
      from = c.sender.ensures;
      to = c.receiver.ensures;
      arrival = λ sent. c.latency.ensures sent ∙ ap (λ (table : List Entry). sent + latency_at table sent) (sym c.in_ok-latency.ensures);
    } in
    subst (λ (rows : List LinkRow). AreRowsOf sys (link + 1) rows) (sym c.in_ok-push.ensures.items) (rows_more sys link c.loop-link.rows.items row c.loop-link.invariant here)
