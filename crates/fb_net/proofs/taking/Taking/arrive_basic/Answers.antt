use Rattle.fb_net.proofs.lemmas.Common.{All, Basic, List, ℕ, Changed, Forest, Ports, get_or, ◌∙◌, map, refl, subst, sym, system_of, emission_of, line_of, path_at, ports_at, Value, StillAreOuts}
use Rattle.fb_types.proofs.Common.{All-nil}
use Rattle.fb_net.specs.Leaves.{ChartEnded, HasCharted, IsReadyAt}
use Rattle.fb_net.proofs.lemmas.blocks.Basics.{ended_from, is_ready, is_sound, whole_from}
use Rattle.fb_net.proofs.lemmas.taking.Arriving.{wrote-so}
use Rattle.fb_net.proofs.lemmas.taking.Charting.{chart-reacts}
use Rattle.fb_net.proofs.lemmas.emitting.OutboxKept.{blocks-changed, lines-put, remembered-always}
use Rattle.fb_net.proofs.lemmas.blocks.BlocksKept.{kept-same, kept-then, kept-world}
use Rattle.fb_net.proofs.lemmas.values.Sampling.{ports-of_kind, taken_line}
use Rattle.fb_types.specs.declared.run.Emission.{Emission}
use Rattle.fb_ecc.specs.Indexes.{IsWellFormed}
use Rattle.fb_system.specs.Lines.{IsEmission}
use Rattle.fb_net.proofs.taking.Taking.arrive_basic.Goals as goal

pub sampled_values-requires-clause-with : goal.sampled_values-requires-clause-with
sampled_values-requires-clause-with c = c.row_of-row.ensures.with

pub react_at-end-requires-clause-sound : goal.react_at-end-requires-clause-sound
react_at-end-requires-clause-sound c =
    let stands = c.requires.arrives.stands in
    is_sound c.args.self.now.system.now c.args.self.now.forest.now c.args.at.instance c.args.block.now c.requires.of_kind c.requires.arrives.port.instance (stands.whole.0, stands.whole.1, stands.here)

pub react_at-end-requires-clause-ready : goal.react_at-end-requires-clause-ready
react_at-end-requires-clause-ready c =
    let stands = c.requires.arrives.stands in
    subst (λ (way : List ℕ). IsReadyAt c.args.block.now c.args.self.now.forest.now.blocks way) (sym c.way-first.ensures)
    (is_ready c.args.self.now.system.now c.args.self.now.forest.now c.args.at.instance c.args.block.now c.requires.of_kind c.requires.arrives.port.instance (stands.whole.0, stands.whole.1, stands.here))

pub emit_all-requires-clause-index : goal.emit_all-requires-clause-index
emit_all-requires-clause-index c =
    let i = c.args.self.now.system.now in
    let f = c.args.self.now.forest.now in
    let at = c.args.at in
    let t = c.args.block.now in
    let left = c.args.meter.now.left in
    let arrives = c.requires.arrives in
    let end = c.react_at-end in
    let values = c.as_slice.result.now in
    let emitted = c.clear.new.self in
    let changed = subst (λ (way : List ℕ). Changed (HasCharted t at.event values left emitted end.new.meter.left end.new.emits) f.blocks way end.result end.new.blocks) c.way-first.ensures end.ensures.reacted in
    let whole = whole_from i c.facts.ensures.numbered f at t values left end.new.meter.left emitted end.new.emits end.result c.requires.of_kind arrives.port.instance end.new.blocks changed
    (arrives.stands.whole.0, arrives.stands.whole.1, arrives.stands.here) in
    let g : Forest = record f { blocks = end.new.blocks } in
    record {
      number = arrives.port.instance;
      stands = record { here = arrives.stands.here; whole = whole };
      resource = arrives.ready.resource;
    }

pub emit_all-requires-clause-emissions : goal.emit_all-requires-clause-emissions
emit_all-requires-clause-emissions c =
    let sys = system_of c.args.self.now.system.now in
    let t = c.args.block.now in
    let emits = c.react_at-end.new.emits in
    let none : All (IsWellFormed t) c.clear.new.self = subst (λ (es : List Emission). All (IsWellFormed t) es) (sym c.clear.ensures) (All-nil (IsWellFormed t)) in
    let fit = c.react_at-end.ensures.well_formed none in
    let ports = ports-of_kind sys (path_at sys c.args.at.instance) (Basic t) c.requires.of_kind in
    λ k d h.
    let e = fit k d h in
    subst (λ (its : Ports). IsEmission its (get_or emits k d)) (sym ports) (record { event = e.0; values = e.1 })

pub returns-clause-arrived : goal.returns-clause-arrived
returns-clause-arrived c =
    let i = c.args.self.now.system.now in
    let f = c.args.self.now.forest.now in
    let at = c.args.at in
    let t = c.args.block.now in
    let left = c.args.meter.now.left in
    let arrives = c.requires.arrives in
    let end = c.react_at-end in
    let values = c.as_slice.result.now in
    let emitted = c.clear.new.self in
    let changed = subst (λ (way : List ℕ). Changed (HasCharted t at.event values left emitted end.new.meter.left end.new.emits) f.blocks way end.result end.new.blocks) c.way-first.ensures end.ensures.reacted in
    let whole = whole_from i c.facts.ensures.numbered f at t values left end.new.meter.left emitted end.new.emits end.result c.requires.of_kind arrives.port.instance end.new.blocks changed
    (arrives.stands.whole.0, arrives.stands.whole.1, arrives.stands.here) in
    let g : Forest = record f { blocks = end.new.blocks } in
    let k = c.args.self.now.key.now in
    let x = c.args.self.now.outbox.now in
    let y = c.write_taken.new.outbox in
    let z = c.emit_all.new.self in
    let came = ended_from i c.facts.ensures.numbered f at t values left end.new.meter.left emitted end.new.emits end.result c.requires.of_kind arrives.port.instance end.new.blocks changed c.clear.ensures in
    let ended = subst (λ (vs : List Value). ChartEnded i f at t vs left end.result g end.new.meter.left end.new.emits) c.as_slice.ensures came in
    let well = c.in_ok-emit_all.ensures.emitted in
    let wrote = wrote-so i k at.instance (line_of (system_of i) (taken_line k at c.in_ok-values.values))
    (map (emission_of (ports_at (system_of i) (path_at (system_of i) at.instance))) end.new.emits)
    g z.forest.now x y z.outbox.now
    c.in_ok-write_taken.ensures.written c.write_taken.ensures.outs c.write_taken.ensures.timer well.emitted in
    record {
      reacted = chart-reacts i k at t c.requires.of_kind c.requires.input f g z.forest.now
          x z.outbox.now arrives.ready arrives.stands.here c.in_ok-values.values c.in_ok-values.ensures.sampled left end.new.meter.left end.new.emits
          wrote end.result ended;
      outs = remembered-always (StillAreOuts i f x z.forest.now z.outbox.now) end.result
          (λ were. well.outs (lines-put i g g x y refl c.write_taken.ensures.outs c.in_ok-write_taken.ensures.lines (blocks-changed i f g x refl were)));
      fewer = end.ensures.fewer;
    }

-- ---- What is kept

pub returns-in_err-values-clause-whole : goal.returns-in_err-values-clause-whole
returns-in_err-values-clause-whole c = record { same = record { system = refl; key = refl; forest = refl; outbox = refl }; kept = kept-same c.args.self.now.system.now c.args.self.now.forest.now }

pub returns-in_err-write_taken-clause-whole : goal.returns-in_err-write_taken-clause-whole
returns-in_err-write_taken-clause-whole c =
    let i = c.args.self.now.system.now in
    let f = c.args.self.now.forest.now in
    let at = c.args.at in
    let t = c.args.block.now in
    let left = c.args.meter.now.left in
    let arrives = c.requires.arrives in
    let end = c.react_at-end in
    let values = c.as_slice.result.now in
    let emitted = c.clear.new.self in
    let changed = subst (λ (way : List ℕ). Changed (HasCharted t at.event values left emitted end.new.meter.left end.new.emits) f.blocks way end.result end.new.blocks) c.way-first.ensures end.ensures.reacted in
    let whole = whole_from i c.facts.ensures.numbered f at t values left end.new.meter.left emitted end.new.emits end.result c.requires.of_kind arrives.port.instance end.new.blocks changed
    (arrives.stands.whole.0, arrives.stands.whole.1, arrives.stands.here) in
    let g : Forest = record f { blocks = end.new.blocks } in
    record {
      same = record { system = refl; key = refl; forest = refl; outbox = refl };
      kept = kept-world i f g refl whole;
    }

pub returns-in_err-emit_all-clause-whole : goal.returns-in_err-emit_all-clause-whole
returns-in_err-emit_all-clause-whole c =
    let i = c.args.self.now.system.now in
    let f = c.args.self.now.forest.now in
    let at = c.args.at in
    let t = c.args.block.now in
    let left = c.args.meter.now.left in
    let arrives = c.requires.arrives in
    let end = c.react_at-end in
    let values = c.as_slice.result.now in
    let emitted = c.clear.new.self in
    let changed = subst (λ (way : List ℕ). Changed (HasCharted t at.event values left emitted end.new.meter.left end.new.emits) f.blocks way end.result end.new.blocks) c.way-first.ensures end.ensures.reacted in
    let whole = whole_from i c.facts.ensures.numbered f at t values left end.new.meter.left emitted end.new.emits end.result c.requires.of_kind arrives.port.instance end.new.blocks changed
    (arrives.stands.whole.0, arrives.stands.whole.1, arrives.stands.here) in
    let g : Forest = record f { blocks = end.new.blocks } in
    let stays = c.emit_all.ensures.whole in
    record {
      same = record { system = stays.same.system; key = stays.same.key; forest = stays.same.forest; outbox = stays.same.outbox };
      kept = kept-then i f g c.emit_all.new.self.forest.now (kept-world i f g refl whole) stays.kept;
    }

pub returns-clause-whole : goal.returns-clause-whole
returns-clause-whole c =
    let i = c.args.self.now.system.now in
    let f = c.args.self.now.forest.now in
    let at = c.args.at in
    let t = c.args.block.now in
    let left = c.args.meter.now.left in
    let arrives = c.requires.arrives in
    let end = c.react_at-end in
    let values = c.as_slice.result.now in
    let emitted = c.clear.new.self in
    let changed = subst (λ (way : List ℕ). Changed (HasCharted t at.event values left emitted end.new.meter.left end.new.emits) f.blocks way end.result end.new.blocks) c.way-first.ensures end.ensures.reacted in
    let whole = whole_from i c.facts.ensures.numbered f at t values left end.new.meter.left emitted end.new.emits end.result c.requires.of_kind arrives.port.instance end.new.blocks changed
    (arrives.stands.whole.0, arrives.stands.whole.1, arrives.stands.here) in
    let g : Forest = record f { blocks = end.new.blocks } in
    let stays = c.emit_all.ensures.whole in
    record {
      same = record { system = stays.same.system; key = stays.same.key; forest = stays.same.forest; outbox = stays.same.outbox };
      kept = kept-then i f g c.emit_all.new.self.forest.now (kept-world i f g refl whole) stays.kept;
    }
