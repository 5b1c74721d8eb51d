use Rattle.std.proofs.Common.{◌≡◌, ℕ, ◌≤◌, Some, List, slice_get, subst}
use Rattle.fb_window.proofs.lemmas.bounds.NextTicks.{low_since, there_since}
use Rattle.fb_window.proofs.nexts.Nexts.least.Goals as goal

pub returns-clause-low : goal.returns-clause-low
returns-clause-low c = λ xs h.
    low_since c.args.self.now.horizon xs c.args.self.now.ticks.items c.first_least.result.1
    (subst (λ (ts : List ℕ). (r tick : ℕ) → slice_get ts r ≡ Some tick → c.first_least.result.1 ≤ tick) c.deref.ensures.value c.first_least.ensures.low) h

pub returns-clause-there : goal.returns-clause-there
returns-clause-there c = λ xs h b.
    there_since c.args.self.now.horizon xs c.args.self.now.ticks.items c.first_least.result.0 c.first_least.result.1
    (subst (λ (ts : List ℕ). slice_get ts c.first_least.result.0 ≡ Some c.first_least.result.1) c.deref.ensures.value (c.first_least.ensures.there b)) h b
