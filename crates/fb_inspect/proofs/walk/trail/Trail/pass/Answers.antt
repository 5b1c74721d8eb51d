use Rattle.fb_inspect.proofs.lemmas.Common.{ℕ, List, ◌++◌, ap, ◌∙◌, refl, system_of, shown_text}
use Rattle.fb_inspect.proofs.lemmas.lines.Moving.{goes_pass}
use Rattle.fb_inspect.proofs.lemmas.results.Refused.{alone_first}
use Rattle.fb_inspect.proofs.lemmas.reactions.Placed.{on_both}
use Rattle.fb_inspect.proofs.walk.trail.Trail.pass.Goals as goal

pub returns-clause-goes : goal.returns-clause-goes
returns-clause-goes g c =
    let a = c.args.self.now in
    on_both c.advance.result _ _ _ c.advance.ensures.read c.advance.ensures.number
    (λ read number.
    goes_pass (system_of c.args.fixed.now.table.now.system.now) c.args.fixed.now.form c.args.line.now a _ _ _ c.requires
    (c.in_ok-put_line.ensures ∙ ap (λ (l : List ℕ). a.page.text.items ++ shown_text a.is_shown l) c.as_slice-whole.ensures.value) refl c.mark.ensures c.in_ok-pass.ensures read number)

pub returns-clause-alone : goal.returns-clause-alone
returns-clause-alone g c = on_both c.advance.result _ _ _ c.advance.ensures.read c.advance.ensures.first (λ read first. alone_first _ _ _ read first c.args.self.now.reading.line.items)
