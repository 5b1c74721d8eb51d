use Rattle.fb_expect.proofs.lemmas.Common.{◌≡◌, ◌+◌, List, length, take, Event, AllFollow, AreJudged, rules_of, AreBelow, tick_of}
use Rattle.fb_expect.proofs.judging.conclude.Given as goal

abbrev pub invariant-loop-watcher : goal.invariant-loop-watcher
invariant-loop-watcher l = record {
  judged :
      (es : List Event) → l.number ≡ length es + 1 → AreBelow es (tick_of l.end) → AllFollow es l.watchers
      → AreJudged es l.end (rules_of (take l.watcher-index l.watchers)) l.all.items;
  counted : length l.all.items ≡ l.watcher-index;
}
