use Rattle.fb_types.proofs.Common.{◌≡◌, ◌+◌, ℕ, List, [], length, ap, subst, ◌∙◌, arith, Appends, take_all}
use Rattle.fb_trace.specs.Progress.{Fails, bounded}
use Rattle.fb_trace.proofs.lemmas.lines.PutPieces.{Fails-direct}
use Rattle.fb_wave.proofs.page.Page.flush.Goals as goal

pub returns-then-taken-len-clause-part : goal.returns-then-taken-len-clause-part
returns-then-taken-len-clause-part g c =
    let before = c.args.self.now.written in
    subst
    (λ (t : List ℕ). Fails (g.W.Write.contents c.args.out.now) (g.W.Write.contents c.write_front-taken.new.out) (record { waiting = []; written = before }) t c.saturating_add-self.result)
    c.as_slice.ensures.value
    (Fails-direct c.as_slice.result.now c.write_front-taken.result before _ (omega arith) c.write_front-taken.ensures.got c.saturating_add-self.ensures)

pub returns-clause-whole : goal.returns-clause-whole
returns-clause-whole g c =
    subst (λ (t : List ℕ). Appends (g.W.Write.contents c.args.out.now) (g.W.Write.contents c.write_front-taken.new.out) t)
    (take_all c.write_front-taken.result c.as_slice.result.now (omega arith) ∙ c.as_slice.ensures.value) c.write_front-taken.ensures.got

pub returns-clause-counted : goal.returns-clause-counted
returns-clause-counted g c =
    let all : c.write_front-taken.result ≡ length c.args.self.now.text.items = omega arith in
    c.saturating_add-self.ensures ∙ ap (λ (n : ℕ). bounded (c.args.self.now.written + n)) all
