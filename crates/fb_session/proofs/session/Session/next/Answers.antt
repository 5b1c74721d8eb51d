use Rattle.fb_types.proofs.Common.{All, List, Ok, arith, refl, subst, sym, system_of}
use Rattle.fb_types.specs.declared.run.Line.{Line}
use Rattle.fb_system.specs.Lines.{BelongsTo}
use Rattle.fb_session.specs.Going.{TakesOne}
use Rattle.fb_session.specs.Pasts.{StandsBy, Talk, now}
use Rattle.fb_session.specs.declared.going.Next.TheVariants as next
use Rattle.fb_session.proofs.lemmas.GoingIs.{alive}
use Rattle.fb_session.proofs.lemmas.NextIs.{lines_belong, next_nothing, next_stopped, next_took, piece_fails, stopped_fails}
use Rattle.fb_session.proofs.lemmas.Seen.{seen}
use Rattle.fb_session.proofs.session.Session.next.Goals as goal

pub write_lines_with_count-requires : goal.write_lines_with_count-requires
write_lines_with_count-requires g c =
    let v = seen c.self.inside in
    let i = c.self.inside.system.now in
    let on = c.in-Running.is in
    let m = c.take_next.new.self in
    let p = c.requires.0 in
    let was = subst (λ (x : Talk). StandsBy x p) (sym c.self.view_is) c.requires.1 in
    let steps = c.in-Ok.ensures (now i p) (was.at (alive v p was on)) in
    subst (λ (ls : List Line). All (BelongsTo (system_of i)) ls) (sym c.lines.ensures) (lines_belong v p was on m m c.in-Ok.step steps)

pub returns-in-Err-write_lines_with_count : goal.returns-in-Err-write_lines_with_count
returns-in-Err-write_lines_with_count g c =
    let v = seen c.self.inside in
    let i = c.self.inside.system.now in
    let on = c.in-Running.is in
    let m = c.take_next.new.self in
    rw (← c.self.view_is) (record {
      running = on;
      failed = refl;
      of = record { inputs = refl; steps = refl; form = refl };
      counted = refl;
      beginning = λ p was.
          piece_fails v p was on m m c.in-Ok.step (c.in-Ok.ensures (now i p) (was.at (alive v p was on))) _ _ c.in-Err-write_lines_with_count.fault.written
          (rw c.lines.ensures at c.in-Err-write_lines_with_count.ensures.part);
    })

pub overflow_add-self : goal.overflow_add-self
overflow_add-self g c =
    let v = seen c.self.inside in
    let i = c.self.inside.system.now in
    let on = c.in-Running.is in
    let m = c.take_next.new.self in
    let p = c.requires.0 in
    let was = subst (λ (x : Talk). StandsBy x p) (sym c.self.view_is) c.requires.1 in
    let steps = c.in-Ok.ensures (now i p) (was.at (alive v p was on)) in
    let less = (rw c.in-Took.is at steps).3 in
    record { fits = omega (arith, less) }

pub overflow_add-self-in-Stopped : goal.overflow_add-self-in-Stopped
overflow_add-self-in-Stopped g c =
    let v = seen c.self.inside in
    let i = c.self.inside.system.now in
    let on = c.in-Running.is in
    let m = c.take_next.new.self in
    let p = c.requires.0 in
    let was = subst (λ (x : Talk). StandsBy x p) (sym c.self.view_is) c.requires.1 in
    let steps = c.in-Ok.ensures (now i p) (was.at (alive v p was on)) in
    let less = (rw c.in-Stopped.is at steps).3 in
    record { fits = omega (arith, less) }

pub write_end-requires : goal.write_end-requires
write_end-requires g c =
    let v = seen c.self.inside in
    let i = c.self.inside.system.now in
    let on = c.in-Running.is in
    let m = c.take_next.new.self in
    let p = c.requires.0 in
    let was = subst (λ (x : Talk). StandsBy x p) (sym c.self.view_is) c.requires.1 in
    let steps = c.in-Ok.ensures (now i p) (was.at (alive v p was on)) in
    (rw c.in-Stopped.is at steps).6

pub returns-in-Nothing : goal.returns-in-Nothing
returns-in-Nothing g c =
    let v = seen c.self.inside in
    let i = c.self.inside.system.now in
    let on = c.in-Running.is in
    let m = c.take_next.new.self in
    let w0 = g.W.Write.contents c.args.out.now in
    let w1 = g.W.Write.contents c.write_lines_with_count.new.out in
    let got = rw c.lines.ensures at c.in-Ok-write_lines_with_count.ensures.whole in
    let counted = rw c.lines.ensures at c.in-Ok-write_lines_with_count.ensures.counted in
    let new : Talk = record v { written = c.saturating_add-self-inside.result; machine = c.clear_lines.new.self } in
    subst (λ (x : Talk). TakesOne x new w0 w1 (Ok next.Nothing)) c.self.view_is (
      on,
      on,
      refl,
      λ p was.
          next_nothing v p was on m c.clear_lines.new.self c.clear_lines.ensures.none (c.clear_lines.ensures.at i) (c.clear_lines.ensures.ready i v.steps) w0 w1 got c.in-Ok-write_lines_with_count.bytes counted new.written c.saturating_add-self-inside.ensures
          (rw c.in-Nothing.is at c.in-Ok.ensures (now i p) (was.at (alive v p was on))),
    )

pub returns-in-Took : goal.returns-in-Took
returns-in-Took g c =
    let v = seen c.self.inside in
    let i = c.self.inside.system.now in
    let on = c.in-Running.is in
    let m = c.take_next.new.self in
    let got = rw c.lines.ensures at c.in-Ok-write_lines_with_count.ensures.whole in
    let counted = rw c.lines.ensures at c.in-Ok-write_lines_with_count.ensures.counted in
    rw (← c.self.view_is) (
      on,
      refl,
      λ p was.
          let s = rw c.in-Took.is at c.in-Ok.ensures (now i p) (was.at (alive v p was on)) in
          let goes = was.goes (alive v p was on) in
          let r = s.5 goes.0 goes.2 in
          (s.0, next_took v p was on m c.clear_lines.new.self c.clear_lines.ensures.none (c.clear_lines.ensures.at i) (c.clear_lines.ensures.ready i v.steps) _ _ got c.in-Ok-write_lines_with_count.bytes counted s.0 c.in-Took.tick s.1 s.2 s.3 r.0 r.1 _ c.saturating_add-self-inside-in-Took.ensures s.4, s.2),
    )

pub returns-in-Ok-write_end : goal.returns-in-Ok-write_end
returns-in-Ok-write_end g c =
    let v = seen c.self.inside in
    let i = c.self.inside.system.now in
    let on = c.in-Running.is in
    let m = c.take_next.new.self in
    let got = rw c.lines.ensures at c.in-Ok-write_lines_with_count.ensures.whole in
    let counted = rw c.lines.ensures at c.in-Ok-write_lines_with_count.ensures.counted in
    rw (← c.self.view_is) (
      refl,
      refl,
      λ p was.
          let s = rw c.in-Stopped.is at c.in-Ok.ensures (now i p) (was.at (alive v p was on)) in
          let goes = was.goes (alive v p was on) in
          let r = s.7 goes.0 goes.2 in
          let mark = c.in-Stopped.mark in
          (s.0, next_stopped v p was on m c.clear_lines.new.self c.clear_lines.ensures.none (c.clear_lines.ensures.at i) (c.clear_lines.ensures.ready i v.steps) _ _ got c.in-Ok-write_lines_with_count.bytes counted s.0 mark.tick s.1 s.2 s.3 r.0 r.1 mark.resource mark.reason _ c.in-Ok-write_end.bytes c.in-Ok-write_end.ensures.counted c.saturating_add-self-inside-in-Ok-write_end.ensures s.4 s.5 _ c.in-Ok-write_end.ensures.whole),
    )

pub returns-in-Err-write_end : goal.returns-in-Err-write_end
returns-in-Err-write_end g c =
    let v = seen c.self.inside in
    let i = c.self.inside.system.now in
    let on = c.in-Running.is in
    let m = c.take_next.new.self in
    let got = rw c.lines.ensures at c.in-Ok-write_lines_with_count.ensures.whole in
    let counted = rw c.lines.ensures at c.in-Ok-write_lines_with_count.ensures.counted in
    rw (← c.self.view_is) (record {
      running = on;
      failed = refl;
      of = record { inputs = refl; steps = refl; form = refl };
      counted = refl;
      beginning = λ p was.
          let s = rw c.in-Stopped.is at c.in-Ok.ensures (now i p) (was.at (alive v p was on)) in
          let goes = was.goes (alive v p was on) in
          let r = s.7 goes.0 goes.2 in
          let mark = c.in-Stopped.mark in
          stopped_fails v p was on m c.clear_lines.new.self c.clear_lines.ensures.none (c.clear_lines.ensures.at i) (c.clear_lines.ensures.ready i v.steps) _ _ got c.in-Ok-write_lines_with_count.bytes counted s.0 mark.tick s.1 s.2 s.3 r.0 r.1 mark.resource mark.reason s.4 s.5 c.in-Err-write_end.fault _
          c.in-Err-write_end.ensures.part;
    })
