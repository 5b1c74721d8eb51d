use Rattle.fb_types.proofs.Common.{◌≤◌, ◌+◌, ◌∙◌, ap, refl, subst, take, List, ℕ, Appends, length, arith}
use Rattle.fb_trace.specs.Progress.{bounded}
use Rattle.fbsim_session.proofs.talking.Console.send.Goals as goal

pub returns-then-taken-len : goal.returns-then-taken-len
returns-then-taken-len g c =
    let line = c.put_line.new.line.items in
    let taken = c.write_front-taken.result in
    let long : taken ≤ length line = omega (arith, c.if-taken-len.true, c.len.ensures) in
    record {
      sends = (
        line,
        taken,
        c.in_ok-put_line.ensures,
        subst (λ (z : List ℕ). Appends (g.W.Write.contents c.args.out.now) (g.W.Write.contents c.write_front-taken.new.out) (take taken z)) c.as_slice-2.ensures.value c.write_front-taken.ensures.got,
        long,
        c.written.ensures ∙ ap (λ a. bounded (c.args.self.now.session.written + a)) c.saturating_add-self.ensures,
      );
      same = refl;
    }
