use Rattle.fb_wave.proofs.lemmas.Common.{[], system_of, AreLevels, first_signal}
use Rattle.fb_wave.proofs.lemmas.Numbering.{AreFirstsBefore}
use Rattle.fb_wave.proofs.system_signals.firsts_of.Given as goal

abbrev pub invariant-loop-instance : goal.invariant-loop-instance
invariant-loop-instance l = record {
  levels : AreLevels (first_signal (system_of l.system) l.instance) [] [] [] l.levels;
  before : AreFirstsBefore (system_of l.system) l.instance l.firsts.items;
}
