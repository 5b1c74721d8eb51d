use Rattle.fb_types.proofs.Common.{◌≡◌, length, system_of}
use Rattle.fb_window.proofs.lemmas.bounds.Bounding.{AreCut}
use Rattle.fb_window.proofs.lemmas.phases.Passes.{clock_of, stop_of, Rests}
use Rattle.fb_window.proofs.bounds.arrivals.Given as goal

abbrev pub invariant-loop-link : goal.invariant-loop-link
invariant-loop-link l = record {
  long : length l.all ≡ 256;
  cut : AreCut clock_of stop_of Rests (system_of l.system) l.resources l.least l.top l.link-index l.all;
}
