use Rattle.fb_types.proofs.Common.{◌≡◌, Contains, IfSome, map, option_map, take, line_of, system_of}
use Rattle.fb_types.specs.declared.run.Line as run
use Rattle.fb_session.specs.Hitting.{IsHitBy}
use Rattle.fb_session.proofs.breaks.Breaks.first_for.Given as goal

abbrev pub invariant-loop-line : goal.invariant-loop-line
invariant-loop-line l = record {
  set : l.self.set.items ≡ l.fn.self.set.items;
  count : l.self.count ≡ l.fn.self.count;
  hit : IfSome l.least (λ h. (x : run.Line) × Contains l.lines x × (x.key.tick ≡ h.1));
  least : IsHitBy (system_of l.system) l.fn.self.set.items (map (line_of (system_of l.system)) (take l.line-index l.lines)) (option_map (λ h. h.0) l.least);
}
