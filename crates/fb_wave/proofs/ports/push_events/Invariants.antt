use Rattle.fb_wave.proofs.lemmas.Common.{◌≡◌, ◌<◌, length, Contains, All, Twice, System, IsPortOf, side, Port}
use Rattle.fb_wave.specs.Ports.{HasNone}
use Rattle.fb_wave.proofs.lemmas.Porting.{AddsUpTo, HasUpTo}
use Rattle.fb_wave.proofs.ports.push_events.Given as goal

abbrev pub invariant-loop-event : goal.invariant-loop-event
invariant-loop-event l = record {
  are : (sys : System) → l.instance < length sys.paths → l.count ≡ length (side sys l.instance l.taken) → All (IsPortOf sys) l.initial.all.items
      → All (IsPortOf sys) l.all.items;
  kept : (p : Port) → Contains l.initial.all.items p → Contains l.all.items p;
  pushed : HasUpTo l.all.items l.instance l.taken l.event;
  adds : AddsUpTo l.initial.all.items l.all.items l.instance l.taken l.event;
  once : ¬ (Twice l.initial.all.items) → HasNone l.initial.all.items l.instance l.taken → ¬ (Twice l.all.items);
}
