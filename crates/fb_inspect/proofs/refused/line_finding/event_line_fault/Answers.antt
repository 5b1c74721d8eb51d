use Rattle.fb_types.proofs.Common.{ℕ, List, refl, subst, system_of, path_at}
use Rattle.fb_wave.specs.Lines.{HasNoHead, IsHead}
use Rattle.fb_wave.proofs.lemmas.Bounds.{resource_named}
use Rattle.fb_wave.proofs.lemmas.Gluing.{key_with, line_read, line_with, port_at}
use Rattle.fb_inspect.proofs.refused.line_finding.event_line_fault.Goals as goal

pub returns-in-None : goal.returns-in-None
returns-in-None c =
    let sys = system_of c.args.system.now in
    let placed = c.in-None.ensures in
    let p = placed.port in
    let r = sys.resource (path_at sys p.instance) in
    record {
      line = line_with (key_with c.in-Some-tick.tick.0 r c.in-Some.head.0) (port_at p.instance p.event p.taken) placed.values;
      is = line_read sys c.args.current.now.form p.instance p.event p.taken c.in-Some-tick.tick.0 r c.in-Some.head.0 placed.values c.args.current.now.text.items _ c.in-Some-tick.tick.1.now placed.rest
          (subst (λ (t : List ℕ). IsHead c.args.current.now.form t c.in-Some.head.0 c.in-Some.head.1.now) c.as_slice.ensures.value c.in-Some.ensures.head) c.in-Some-tick.ensures.tick placed.begins.port placed.begins.parts placed.are refl (resource_named c.args.system.now (path_at sys p.instance) c.facts.ensures.limits)
          (record { tick = c.in-Some-tick.ensures.range; class = c.in-Some.ensures.range.class; a = c.in-Some.ensures.range.a; b = c.in-Some.ensures.range.b });
      rises = c.if-tick-current.false;
    }

pub returns-in_default : goal.returns-in_default
returns-in_default c = subst (λ (t : List ℕ). HasNoHead c.args.current.now.form t) c.as_slice.ensures.value c.in_default.ensures.head

pub returns-in_default-tick : goal.returns-in_default-tick
returns-in_default-tick c =
    let form = c.args.current.now.form in
    let head = c.in-Some.head in (
      head.0,
      head.1.now,
      subst (λ (t : List ℕ). IsHead form t head.0 head.1.now) c.as_slice.ensures.value c.in-Some.ensures.head,
      c.in_default-tick.ensures.tick,
    )

pub returns-then-tick-current : goal.returns-then-tick-current
returns-then-tick-current c =
    let form = c.args.current.now.form in
    let head = c.in-Some.head in
    let tick = c.in-Some-tick.tick in (
      head.0,
      tick.1.now,
      subst (λ (t : List ℕ). IsHead form c.args.current.now.text.items head.0 t) c.in-Some-tick.ensures.tick
          (subst (λ (t : List ℕ). IsHead form t head.0 head.1.now) c.as_slice.ensures.value c.in-Some.ensures.head),
      c.if-tick-current.true,
    )

pub returns-in-Some-port_fault : goal.returns-in-Some-port_fault
returns-in-Some-port_fault c =
    let form = c.args.current.now.form in
    let head = c.in-Some.head in
    let tick = c.in-Some-tick.tick in (
      head.0,
      tick.0,
      tick.1.now,
      subst (λ (t : List ℕ). IsHead form c.args.current.now.text.items head.0 t) c.in-Some-tick.ensures.tick
          (subst (λ (t : List ℕ). IsHead form t head.0 head.1.now) c.as_slice.ensures.value c.in-Some.ensures.head),
      c.in-Some-port_fault.ensures,
    )
