use Rattle.std.proofs.Common.{ap, ◌∙◌}
use Rattle.fb_trace.specs.Page.{Page}
use Rattle.fb_trace.proofs.lemmas.lines.PutPieces.{Puts-more, Puts-direct, Fails-after, Fails-before, Fails-past, Gathers-passed}
use Rattle.fb_trace.proofs.page.Page.put.Goals as goal

pub returns-in_err-flush : goal.returns-in_err-flush
returns-in_err-flush g c = Gathers-passed _ c.from_residual.ensures.1 (Fails-before c.args.bytes.now c.in_err-flush.ensures.text.part)

pub returns-in_err-self-inside : goal.returns-in_err-self-inside
returns-in_err-self-inside g c =
    Gathers-passed _ c.from_residual-in_err-self-inside.ensures.1
    (Fails-after c.in_ok-flush.ensures.text.whole
    (Fails-past c.flush.new.self c.in_ok-flush.ensures.empty (rw (← c.self-then-bytes-self.view_is) c.in_err-self-inside.ensures.part)))

pub returns-then-bytes-gt-SIZE : goal.returns-then-bytes-gt-SIZE
returns-then-bytes-gt-SIZE g c =
    let same = c.self-then-bytes-self.view_is in
    record {
      whole =
          Puts-more c.in_ok-flush.ensures.text.whole
          (Puts-direct c.flush.new.self _ c.args.bytes.now c.in_ok-flush.ensures.empty (ap (λ (p : Page). p.waiting) same ∙ c.in_ok-flush.ensures.empty) c.in_ok-self-inside.ensures.got (rw (← same) c.in_ok-self-inside.ensures.counted));
      part = tt;
    }
