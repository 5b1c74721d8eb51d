use Rattle.fb_expect.proofs.lemmas.Common.{◌≡◌, ◌+◌, List, [], ◌∷◌, ◌++◌, length, Event, event_of, AllFollow, rules_of, AreBelow}
use Rattle.fb_expect.proofs.lemmas.rules.Following.{AreAt}
use Rattle.fb_expect.proofs.judging.take_line.Given as goal

abbrev pub invariant-loop-watcher : goal.invariant-loop-watcher
invariant-loop-watcher l = record {
  rules : rules_of l.watchers ≡ rules_of l.fn.watchers;
  moves :
      (es : List Event) → l.number ≡ length es + 1 → AreBelow es l.entry.tick → AllFollow es l.fn.watchers
      → AreAt es (es ++ event_of l.entry ∷ []) l.watcher-index l.watchers;
}
