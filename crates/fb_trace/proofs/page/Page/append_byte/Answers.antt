use Rattle.std.proofs.Common.{◌≡◌, ◌++◌, ◌∷◌, [], List, ℕ, length, ap, sym, ◌∙◌, arith}
use Rattle.std.proofs.lemmas.List.{length-take-le, take_more_set}
use Rattle.fb_trace.specs.Page.{Page}
use Rattle.fb_trace.proofs.page.Page.append_byte.Goals as goal

pub returns-clause-text : goal.returns-clause-text
returns-clause-text c =
    let p = c.self.inside in
    let used : length c.args.self.now.waiting ≡ p.used = ap (λ (q : Page). length q.waiting) (sym c.self.view_is) ∙ length-take-le p.used p.bytes (omega arith) in
    ap (λ (t : List ℕ). record { waiting = t; written = p.written }) (take_more_set p.bytes p.used c.args.byte (omega (arith, used)))
    ∙ ap (λ (q : Page). record { waiting = q.waiting ++ c.args.byte ∷ []; written = q.written }) c.self.view_is
