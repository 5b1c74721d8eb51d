-- The names that most proofs of this crate cite, passed on from one place. Declares nothing.
pub use Rattle.fb_expect.specs.Drafts.{text_of}
pub use Rattle.fb_expect.specs.Events.{Event, event_of}
pub use Rattle.fb_expect.specs.Hits.{hit_at, tick_at}
pub use Rattle.fb_expect.specs.Judging.{AllFollow, AreJudged, rules_of}
unfoldable pub use Rattle.fb_expect.specs.Lists.{each}
unfoldable pub use Rattle.fb_expect.specs.Patterns.{is_at}
pub use Rattle.fb_expect.specs.Reports.{joined}
pub use Rattle.fb_expect.specs.Rules.{IsOver, count_in}
pub use Rattle.fb_expect.specs.Traces.{AreBelow, tick_of}
pub use Rattle.fb_expect.specs.Watching.{Concludes, IsBelow, IsClean, IsPast, KnowsCount, KnowsLast, KnowsSee, Lacks, Steps}
pub use Rattle.fb_expect.specs.Words.{Text}
pub use Rattle.fb_expect.specs.Written.{words_of}
pub use Rattle.fb_expect.specs.declared.ending.End.{End}
pub use Rattle.fb_expect.specs.declared.hit.Hit.{Hit}
pub use Rattle.fb_expect.specs.declared.judging.Judged.{Judged}
pub use Rattle.fb_expect.specs.declared.judging.Watcher.{Watcher}
pub use Rattle.fb_expect.specs.declared.pairs.Waiting.{Waiting}
pub use Rattle.fb_expect.specs.declared.pattern.Pattern.{Pattern}
pub use Rattle.fb_expect.specs.declared.rule.Need.{Need}
pub use Rattle.fb_expect.specs.declared.rule.Pairing.{Pairing}
pub use Rattle.fb_expect.specs.declared.rule.Rule.{Rule}
pub use Rattle.fb_expect.specs.declared.verdict.Breach.{Breach}
pub use Rattle.fb_expect.specs.declared.verdict.Fault.TheVariants.{Fewer, Unanswered}
pub use Rattle.fb_expect.specs.declared.verdict.Verdict.TheVariants.{Broken, Holds}
pub use Rattle.fb_expect.specs.declared.watch.Mark.{Mark}
pub use Rattle.fb_expect.specs.declared.watch.Watch.{Watch}
pub use Rattle.fb_types.proofs.Common.{Bool, Bor, Err, IfOk, IfSome, List, Name, None, Ok, OnOk, Option, Result, Some, [], ap, append-nil, append_assoc, ap₂, arith, both_ways, cases_lt, codes, cond, drop, eq-eqb, false, get_or, get_or_past, if◌then◌else◌, inl, inr, is_some, length, length-drop, length-map, length_push, list_all, list_any, lt-ltb, ltb-true, map, map-append, nat_eq, not, option_map, refl, slice_split, subst, suc, sym, take, take_all, true, true≢false, zero, ℕ, ◌&&◌, ◌++◌, ◌+◌, ◌-◌, ◌<◌, ◌==◌, ◌^◌, ◌||◌, ◌∙◌, ◌∷◌, ◌≡◌, ◌≤◌, ◌⊎◌}
