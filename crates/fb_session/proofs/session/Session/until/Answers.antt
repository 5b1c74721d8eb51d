use Rattle.std.proofs.Common.{◌≡◌, ◌+◌, ◌↔◌, Bool, IsTrue, List, [], Ok, arith, false, inl, inr, not, refl, subst, sym, true}
use Rattle.fb_session.specs.declared.breaks.Break.{Break}
use Rattle.fb_session.specs.Going.{GoesUntil}
use Rattle.fb_session.specs.Pasts.{StandsBy, Talk, now}
use Rattle.fb_session.specs.declared.going.Until.TheVariants as until
use Rattle.fb_session.specs.declared.stage.Stage.TheVariants as stage
use Rattle.fb_session.proofs.lemmas.GoingIs.{alive, fails_run}
use Rattle.fb_session.proofs.lemmas.Seen.{seen}
use Rattle.fb_session.proofs.lemmas.UntilIs.{reach_of, stop_fails, until_at, until_break, until_stop}
use Rattle.fb_session.proofs.session.Session.until.Goals as goal

-- breaks are watched unless none is set
unset : (b : Bool) (bs : List Break) → (IsTrue b ↔ (bs ≡ [])) → not b ≡ false → bs ≡ []
unset true bs both is = both.0 refl
unset false bs both is = absurd cc

pub run_on-requires-clause-ready : goal.run_on-requires-clause-ready
run_on-requires-clause-ready g c =
    let was = subst (λ (x : Talk). StandsBy x c.requires.stands.0) (sym c.self.view_is) c.requires.stands.1 in
    let goes = was.goes (alive (seen c.self.inside) c.requires.stands.0 was c.in-Running.is) in (goes.0, goes.2)

pub run_on-requires-clause-represents : goal.run_on-requires-clause-represents
run_on-requires-clause-represents g c =
    let was = subst (λ (x : Talk). StandsBy x c.requires.stands.0) (sym c.self.view_is) c.requires.stands.1 in (now c.self.inside.system.now c.requires.stands.0, was.at (alive (seen c.self.inside) c.requires.stands.0 was c.in-Running.is))

pub run_on-requires-clause-none : goal.run_on-requires-clause-none
run_on-requires-clause-none g c =
    let was = subst (λ (x : Talk). StandsBy x c.requires.stands.0) (sym c.self.view_is) c.requires.stands.1 in was.none (alive (seen c.self.inside) c.requires.stands.0 was c.in-Running.is)

pub run_on-requires-clause-few : goal.run_on-requires-clause-few
run_on-requires-clause-few g c =
    let was = subst (λ (x : Talk). StandsBy x c.requires.stands.0) (sym c.self.view_is) c.requires.stands.1 in was.few_steps

pub overflow_add-self : goal.overflow_add-self
overflow_add-self g c =
    let was = subst (λ (x : Talk). StandsBy x c.requires.stands.0) (sym c.self.view_is) c.requires.stands.1 in
    let r = rw c.in-Break.is at c.in-Ok.ensures.runs (now c.self.inside.system.now c.requires.stands.0) (was.at (alive (seen c.self.inside) c.requires.stands.0 was c.in-Running.is)) in
    let less = r.2.6 in
    let most = c.requires.most in
    record { fits = omega (arith, less, most) }

pub overflow_add-self-in-Stop : goal.overflow_add-self-in-Stop
overflow_add-self-in-Stop g c =
    let was = subst (λ (x : Talk). StandsBy x c.requires.stands.0) (sym c.self.view_is) c.requires.stands.1 in
    let r = rw c.in-Stop.is at c.in-Ok.ensures.runs (now c.self.inside.system.now c.requires.stands.0) (was.at (alive (seen c.self.inside) c.requires.stands.0 was c.in-Running.is)) in
    let less = r.2.2 in
    let most = c.requires.most in
    record { fits = omega (arith, less, most) }

pub write_end-requires : goal.write_end-requires
write_end-requires g c =
    let was = subst (λ (x : Talk). StandsBy x c.requires.stands.0) (sym c.self.view_is) c.requires.stands.1 in
    let r = rw c.in-Stop.is at c.in-Ok.ensures.runs (now c.self.inside.system.now c.requires.stands.0) (was.at (alive (seen c.self.inside) c.requires.stands.0 was c.in-Running.is)) in
    r.2.0

pub unreachable-requires : goal.unreachable-requires
unreachable-requires g c =
    let was = subst (λ (x : Talk). StandsBy x c.requires.stands.0) (sym c.self.view_is) c.requires.stands.1 in
    let r = c.in-Ok.ensures.runs (now c.self.inside.system.now c.requires.stands.0) (was.at (alive (seen c.self.inside) c.requires.stands.0 was c.in-Running.is)) in
    elim c.in-Stopped.is [
      | inl e ↦ let s = rw e at r in s.2
      | inr e ↦ let s = rw e.1 at r in s.2
    ]

pub returns-in-At : goal.returns-in-At
returns-in-At g c =
    let v = seen c.self.inside in
    let w0 = g.W.Write.contents c.args.out.now in
    let w1 = g.W.Write.contents c.run_on.new.out in
    let new : Talk = record v { reached = c.args.to; written = c.saturating_add-self-inside.result; set = c.run_on.new.breaks.count; breaks = c.run_on.new.breaks.set.items; machine = c.run_on.new.machine } in
    subst (λ (x : Talk). GoesUntil c.args.to x new w0 w1 (Ok until.At)) c.self.view_is
    (λ p was.
    until_at v p was c.in-Running.is c.run_on.new.machine c.args.to (not c.is_empty.result) c.if-to-self.false c.requires.most w0 w1 c.in-Ok.written (unset c.is_empty.result v.breaks c.is_empty.ensures) new.written new.set new.breaks c.saturating_add-self-inside.ensures
    c.run_on.ensures.set.0 (rw c.in-At.is at c.in-Ok.ensures.runs (now c.self.inside.system.now p) (was.at (alive v p was c.in-Running.is))))

pub returns-in-Break : goal.returns-in-Break
returns-in-Break g c =
    let v = seen c.self.inside in
    let w0 = g.W.Write.contents c.args.out.now in
    let w1 = g.W.Write.contents c.run_on.new.out in
    let number = c.in-Break.number in
    let tick = c.in-Break.tick in
    let new : Talk = record v { reached = tick + 1; written = c.saturating_add-self-inside-in-Break.result; set = c.run_on.new.breaks.count; breaks = c.run_on.new.breaks.set.items; machine = c.run_on.new.machine } in
    subst (λ (x : Talk). GoesUntil c.args.to x new w0 w1 (Ok (until.Break number tick))) c.self.view_is
    (λ p was.
    until_break v p was c.in-Running.is c.run_on.new.machine c.args.to (not c.is_empty.result) c.if-to-self.false c.requires.most w0 w1 c.in-Ok.written number tick new.written new.set new.breaks
    c.saturating_add-self-inside-in-Break.ensures c.run_on.ensures.set.0 (rw c.in-Break.is at c.in-Ok.ensures.runs (now c.self.inside.system.now p) (was.at (alive v p was c.in-Running.is))))

pub returns-in-Ok-write_end : goal.returns-in-Ok-write_end
returns-in-Ok-write_end g c =
    let v = seen c.self.inside in
    let w0 = g.W.Write.contents c.args.out.now in
    let w1 = g.W.Write.contents c.run_on.new.out in
    let w2 = g.W.Write.contents c.write_end.new.out in
    let mark = c.in-Stop.mark in
    let new : Talk = record v { stage = stage.Stopped mark; reached = mark.tick + 1; written = c.saturating_add-self-inside-in-Ok-write_end.result; set = c.run_on.new.breaks.count; breaks = c.run_on.new.breaks.set.items; machine = c.run_on.new.machine } in
    subst (λ (x : Talk). GoesUntil c.args.to x new w0 w2 (Ok (until.Stop mark))) c.self.view_is
    (λ p was.
    until_stop v p was c.in-Running.is c.run_on.new.machine c.args.to (not c.is_empty.result) c.if-to-self.false c.requires.most w0 w1 c.in-Ok.written mark
    (rw c.in-Stop.is at c.in-Ok.ensures.runs (now c.self.inside.system.now p) (was.at (alive v p was c.in-Running.is))) (unset c.is_empty.result v.breaks c.is_empty.ensures) new.written new.set c.in-Ok-write_end.bytes new.breaks
    c.in-Ok-write_end.ensures.counted c.saturating_add-self-inside-in-Ok-write_end.ensures c.run_on.ensures.set.0 w2 c.in-Ok-write_end.ensures.whole)

pub returns-in-Err-write_end : goal.returns-in-Err-write_end
returns-in-Err-write_end g c = rw (← c.self.view_is) (record {
  running = c.in-Running.is;
  failed = refl;
  of = record { inputs = refl; steps = refl; form = refl };
  counted = refl;
  beginning = λ p was.
      stop_fails (seen c.self.inside) p was c.in-Running.is c.run_on.new.machine c.args.to (not c.is_empty.result) c.if-to-self.false c.requires.most _ _ c.in-Ok.written c.in-Stop.mark
      (rw c.in-Stop.is at c.in-Ok.ensures.runs (now c.self.inside.system.now p) (was.at (alive (seen c.self.inside) p was c.in-Running.is))) c.in-Err-write_end.fault _ c.in-Err-write_end.ensures.part;
})

pub returns-in-Err : goal.returns-in-Err
returns-in-Err g c = rw (← c.self.view_is) (record {
  running = c.in-Running.is;
  failed = refl;
  of = record { inputs = refl; steps = refl; form = refl };
  counted = refl;
  beginning = λ p was. fails_run (seen c.self.inside) p (reach_of (seen c.self.inside) c.args.to true) c.in-Err.fault _ _ refl refl (c.in-Err.ensures.runs (now c.self.inside.system.now p) (was.at (alive (seen c.self.inside) p was c.in-Running.is)));
})
