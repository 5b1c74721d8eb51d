use Rattle.fb_types.proofs.Common.{Result, Ok, Err, false, inl, inr, refl, subst, sym, ◌≡◌, ◌≤◌, IfErr, IsTrue, IsErrAnd}
use Rattle.fb_session.specs.Going.{IsBeginning}
use Rattle.fb_session.specs.Pasts.{Past, StandsBy, Talk, now}
use Rattle.fb_session.specs.declared.fault.SessionFault.{SessionFault}
use Rattle.fb_session.specs.declared.stage.Stage.TheVariants as stage
use Rattle.fb_session.proofs.lemmas.GoingIs.{alive, fails_run}
use Rattle.fb_session.proofs.lemmas.Seen.{seen}
use Rattle.fb_session.proofs.lemmas.UntilIs.{end_fails, reach_of, stop_fails, whole_at, whole_stop}
use Rattle.fb_session.proofs.session.Session.finish.Goals as goal

-- a fault that is passed on
passed_on : {A : Type 0} (P : SessionFault → Type 0) (r : Result A SessionFault) (e : SessionFault) → IsErrAnd r (λ f. f ≡ e) → P e → IfErr r P
passed_on P (Ok x) e bad h = tt
passed_on P (Err f) e is h = subst P (sym is) h

pub returns-in_err-end-clause-failed : goal.returns-in_err-end-clause-failed
returns-in_err-end-clause-failed g c =
    let v = seen c.self.inside in
    let i = c.self.inside.system.now in
    let running = subst (λ (x : Talk). x.stage ≡ stage.Running) (sym c.self.view_is) c.requires.running in
    passed_on (λ e. (p : Past) → StandsBy c.args.self.now p → IsBeginning c.args.self.now p e (g.W.Write.contents c.args.out.now) (g.W.Write.contents c.run_on.new.out))
    c.from_residual.result c.in_err-end.field-0.0 c.from_residual.ensures.1
    (rw (← c.self.view_is)
    (λ p was. fails_run v p (reach_of v c.args.to false) c.in_err-end.field-0.0 _ _ refl refl (c.in_err-end.ensures.runs (now i p) (was.at (alive v p was running)))))

pub returns-in_err-bytes-in-At-clause-failed : goal.returns-in_err-bytes-in-At-clause-failed
returns-in_err-bytes-in-At-clause-failed g c =
    let v = seen c.self.inside in
    let i = c.self.inside.system.now in
    let running = subst (λ (x : Talk). x.stage ≡ stage.Running) (sym c.self.view_is) c.requires.running in
    let later = subst (λ (x : Talk). x.reached ≤ c.args.to) (sym c.self.view_is) c.requires.least in
    passed_on (λ e. (p : Past) → StandsBy c.args.self.now p → IsBeginning c.args.self.now p e (g.W.Write.contents c.args.out.now) (g.W.Write.contents c.write_end.new.out))
    c.from_residual-in_err-bytes-in-At.result c.in_err-bytes-in-At.field-0.0 c.from_residual-in_err-bytes-in-At.ensures.1
    (rw (← c.self.view_is)
    (λ p was.
    end_fails v p was running c.run_on.new.machine c.args.to false later c.requires.most _ _ c.in_ok-end.written
    (rw c.in-At.is at c.in_ok-end.ensures.runs (now i p) (was.at (alive v p was running))) c.in_err-bytes-in-At.field-0.0 _ c.in_err-bytes-in-At.ensures.part))

pub write_end-requires-in-Stop : goal.write_end-requires-in-Stop
write_end-requires-in-Stop g c =
    let v = seen c.self.inside in
    let i = c.self.inside.system.now in
    let p = c.requires.stands.0 in
    let was = subst (λ (x : Talk). StandsBy x p) (sym c.self.view_is) c.requires.stands.1 in
    let running = subst (λ (x : Talk). x.stage ≡ stage.Running) (sym c.self.view_is) c.requires.running in
    let r = rw c.in-Stop.is at c.in_ok-end.ensures.runs (now i p) (was.at (alive v p was running)) in
    r.2.0

pub returns-in_err-bytes-in-Stop-clause-failed : goal.returns-in_err-bytes-in-Stop-clause-failed
returns-in_err-bytes-in-Stop-clause-failed g c =
    let v = seen c.self.inside in
    let i = c.self.inside.system.now in
    let running = subst (λ (x : Talk). x.stage ≡ stage.Running) (sym c.self.view_is) c.requires.running in
    let later = subst (λ (x : Talk). x.reached ≤ c.args.to) (sym c.self.view_is) c.requires.least in
    passed_on (λ e. (p : Past) → StandsBy c.args.self.now p → IsBeginning c.args.self.now p e (g.W.Write.contents c.args.out.now) (g.W.Write.contents c.write_end-in-Stop.new.out))
    c.from_residual-in_err-bytes-in-Stop.result c.in_err-bytes-in-Stop.field-0.0 c.from_residual-in_err-bytes-in-Stop.ensures.1
    (rw (← c.self.view_is)
    (λ p was.
    stop_fails v p was running c.run_on.new.machine c.args.to false later c.requires.most _ _ c.in_ok-end.written c.in-Stop.mark
    (rw c.in-Stop.is at c.in_ok-end.ensures.runs (now i p) (was.at (alive v p was running))) c.in_err-bytes-in-Stop.field-0.0 _ c.in_err-bytes-in-Stop.ensures.part))

pub unreachable-requires : goal.unreachable-requires
unreachable-requires g c =
    let v = seen c.self.inside in
    let i = c.self.inside.system.now in
    let p = c.requires.stands.0 in
    let was = subst (λ (x : Talk). StandsBy x p) (sym c.self.view_is) c.requires.stands.1 in
    let running = subst (λ (x : Talk). x.stage ≡ stage.Running) (sym c.self.view_is) c.requires.running in
    let r = c.in_ok-end.ensures.runs (now i p) (was.at (alive v p was running)) in
    elim c.in-Break.is [
      | inl e ↦ let s = rw e.2 at r in let no : IsTrue false = s.2.0 in absurd cc
      | inr rest ↦ elim rest [
        | inl e ↦ let s = rw e at r in s.2
        | inr e ↦ let s = rw e.1 at r in s.2
      ]
    ]

pub returns-in_ok-bytes-in-At-clause-whole : goal.returns-in_ok-bytes-in-At-clause-whole
returns-in_ok-bytes-in-At-clause-whole g c =
    let v = seen c.self.inside in
    let i = c.self.inside.system.now in
    let running = subst (λ (x : Talk). x.stage ≡ stage.Running) (sym c.self.view_is) c.requires.running in
    let later = subst (λ (x : Talk). x.reached ≤ c.args.to) (sym c.self.view_is) c.requires.least in
    rw (← c.self.view_is)
    (λ p was.
    whole_at v p was running c.run_on.new.machine c.args.to false later c.requires.most _ _ c.in_ok-end.written
    (rw c.in-At.is at c.in_ok-end.ensures.runs (now i p) (was.at (alive v p was running))) _ c.in_ok-bytes-in-At.bytes c.in_ok-bytes-in-At.ensures.counted c.saturating_add-self-inside.ensures _
    c.in_ok-bytes-in-At.ensures.whole)

pub returns-in_ok-bytes-in-Stop-clause-whole : goal.returns-in_ok-bytes-in-Stop-clause-whole
returns-in_ok-bytes-in-Stop-clause-whole g c =
    let v = seen c.self.inside in
    let i = c.self.inside.system.now in
    let running = subst (λ (x : Talk). x.stage ≡ stage.Running) (sym c.self.view_is) c.requires.running in
    let later = subst (λ (x : Talk). x.reached ≤ c.args.to) (sym c.self.view_is) c.requires.least in
    rw (← c.self.view_is)
    (λ p was.
    whole_stop v p was running c.run_on.new.machine c.args.to false later c.requires.most _ _ c.in_ok-end.written c.in-Stop.mark
    (rw c.in-Stop.is at c.in_ok-end.ensures.runs (now i p) (was.at (alive v p was running))) _ c.in_ok-bytes-in-Stop.bytes c.in_ok-bytes-in-Stop.ensures.counted c.saturating_add-self-inside-in-Stop.ensures _
    c.in_ok-bytes-in-Stop.ensures.whole)
