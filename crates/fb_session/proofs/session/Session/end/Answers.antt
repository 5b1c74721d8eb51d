use Rattle.fb_types.proofs.Common.{[], ◌∙◌, ap, append-nil, arith, inl, inr, refl, sym, Appends-nil}
use Rattle.fb_session.specs.Pasts.{Talk}
use Rattle.fb_session.proofs.lemmas.EndingIs.{whole_stopped}
use Rattle.fb_session.proofs.session.Session.end.Goals as goal

pub returns-in-Failed : goal.returns-in-Failed
returns-in-Failed g c = rw (← c.self.view_is) (inr (c.in-Failed.is, (refl, refl)))

pub returns-in-Stopped : goal.returns-in-Stopped
returns-in-Stopped g c = rw (← c.self.view_is)
    (λ p was. ([], Appends-nil _, omega arith, rw (append-nil _) (whole_stopped _ p was c.args.to c.in-Stopped.mark c.in-Stopped.is c.if-to-self.false)))

pub returns-in-Err : goal.returns-in-Err
returns-in-Err g c =
    let same = c.self-in-Running.view_is in
    inl
    (record {
      running = ap (λ (t : Talk). t.stage) (sym c.self.view_is) ∙ c.in-Running.is;
      failed = refl;
      of = record {
        inputs = ap (λ (t : Talk). t.inputs) same ∙ c.finish.ensures.of.inputs;
        steps = ap (λ (t : Talk). t.steps) same ∙ c.finish.ensures.of.steps;
        form = ap (λ (t : Talk). t.form) same ∙ c.finish.ensures.of.form;
      };
      counted = ap (λ (t : Talk). t.written) same ∙ c.in-Err.ensures.counted;
      beginning = c.in-Err.ensures.failed;
    })
