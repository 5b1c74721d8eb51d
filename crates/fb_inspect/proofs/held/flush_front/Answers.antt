use Rattle.fb_inspect.proofs.lemmas.Common.{◌++◌, List, ℕ, ap, append_assoc, drop, sym, ◌∙◌}
use Rattle.fb_types.proofs.Common.{take-append-drop}
use Rattle.fb_inspect.proofs.lemmas.reactions.Placed.{err_any}
use Rattle.fb_inspect.proofs.held.flush_front.Goals as goal

pub returns-in_err-flush-clause-part : goal.returns-in_err-flush-clause-part
returns-in_err-flush-clause-part g c =
    let whole = c.args.page.now.text.items in
    let short = c.in_err-flush.ensures.part in
    let left : List ℕ = drop c.args.count whole in
    err_any c.from_residual-in_err-flush.result _
    (record {
      sent = short.sent;
      missing = short.missing ++ left;
      parts = sym (take-append-drop c.args.count whole) ∙ ap (λ (u : List ℕ). u ++ left) (sym c.truncate.ensures.items ∙ short.parts) ∙ append_assoc short.sent short.missing left;
      got = short.got;
    })
