use Rattle.fb_window.proofs.lemmas.Common.{◌≡◌, ◌+◌, ◌^◌, ◌<◌, ◌≤◌, ℕ, List, min, max, length, set, Some, slice_get, slice_index, refl, sym, ap, subst, ◌∙◌, arith, is_some, slice_get_read, slice_get_within, Inputs, system_of, count_of, System, AreGood, Resource, IsCut, IsReached, CoreState}
use Rattle.fb_laws.specs.Cuts.{LinkAllows, StopAllows}
use Rattle.fb_types.proofs.lemmas.lists.Options.{some_from_is_some, none_from_is_some}
use Rattle.fb_window.proofs.lemmas.bounds.Bounding.{AreComputed, stop_live, stop_taken}
use Rattle.fb_window.proofs.lemmas.bounds.BoundsAre.{are_greatest, are_legal}
use Rattle.fb_window.proofs.lemmas.phases.Passes.{clock_of, stop_of, Rests, few_resources, IsLeastOf, least_of, least_cut, AreRaised, raised_more}
use Rattle.fb_window.proofs.cores.Core.bounds.Goals as goal
use Rattle.fb_window.proofs.cores.Core.bounds.Goals.{then-is_some, else-is_some}

-- there are as many resources as the system has
counted_of : (s t : CoreState) → s ≡ t → IsReached s → length t.resources.items ≡ count_of (system_of t.system)
counted_of s t e h = subst (λ (z : CoreState). length z.resources.items ≡ count_of (system_of z.system)) e h.way.at.counted

pub arrivals-all-requires-clause-counted : goal.arrivals-all-requires-clause-counted
arrivals-all-requires-clause-counted c = ap (λ (ys : List Resource). length ys) c.deref-2.ensures.value ∙ c.self.invariant.way.at.counted

pub loop-resource-preserved : goal.loop-resource-preserved
loop-resource-preserved c =
    let xs = c.as_slice-resources.result.now in
    let i = c.loop-resource.resource-index in
    let x = c.resource-item.result in
    let last = c.loop-resource.last in
    let at : slice_get xs i ≡ Some x = slice_get_read xs _ i x refl c.loop-resource-test.true c.resource-item.is in
    elim c.if-is_some.branch [
      | then-is_some w ↦
          let stop = some_from_is_some x.stopped (sym (ap is_some c.stopped.ensures) ∙ sym c.is_some.ensures ∙ w.if-is_some.true) in
          let fits = c.loop-resource.auto in
          stop_taken clock_of stop_of Rests xs c.args.horizon i last c.if-is_some.last x stop.0 c.loop-resource.invariant at stop.1
          (omega (arith, w.last-is, w.min-last.ensures, w.saturating_add.ensures, w.clock.ensures, w.min-last.type_inv))
      | else-is_some w ↦
          subst (IsCut (StopAllows clock_of stop_of xs) c.args.horizon (i + 1)) (sym w.last-is)
          (stop_live clock_of stop_of Rests xs c.args.horizon i last x c.loop-resource.invariant at
          (none_from_is_some x.stopped (sym (ap is_some c.stopped.ensures) ∙ sym c.is_some.ensures ∙ w.if-is_some.false)))
    ]

pub bounds-all-number : goal.bounds-all-number
bounds-all-number c =
    let few = few_resources c.args.self.now.system (subst AreGood (ap (λ (z : CoreState). z.system) c.self.view_is) (record { accepted = c.facts.ensures.accepted; limits = c.facts.ensures.limits })) in
    let same = ap (λ (ys : List Resource). length ys) (c.deref-resource-items.ensures.value ∙ ap (λ (z : CoreState). z.resources.items) c.self.view_is) in
    omega (arith, same, few, c.loop-number-test.true, (counted_of c.self.inside.state c.args.self.now c.self.view_is c.self.invariant))

pub bounds-all-number-in-loop-number : goal.bounds-all-number-in-loop-number
bounds-all-number-in-loop-number c =
    let few = few_resources c.args.self.now.system (subst AreGood (ap (λ (z : CoreState). z.system) c.self.view_is) (record { accepted = c.facts.ensures.accepted; limits = c.facts.ensures.limits })) in
    let same = ap (λ (ys : List Resource). length ys) (c.deref-resource-items.ensures.value ∙ ap (λ (z : CoreState). z.resources.items) c.self.view_is) in
    omega (arith, same, few, c.loop-number-test.true, (counted_of c.self.inside.state c.args.self.now c.self.view_is c.self.invariant))

pub loop-number-preserved : goal.loop-number-preserved
loop-number-preserved c =
    let few = few_resources c.args.self.now.system (subst AreGood (ap (λ (z : CoreState). z.system) c.self.view_is) (record { accepted = c.facts.ensures.accepted; limits = c.facts.ensures.limits })) in
    let xs = c.args.self.now.resources.items in
    let n = c.loop-number.number in
    let x = c.resource-item-in-loop-number.result in
    let all = c.loop-number.all in
    let before = c.arrivals-all.result in
    let same = (c.deref-resource-items.ensures.value ∙ ap (λ (z : CoreState). z.resources.items) c.self.view_is) in
    let at : slice_get xs n ≡ Some x =
    subst (λ (ys : List Resource). slice_get ys n ≡ Some x) same (slice_get_read c.deref-resource-items.result.now _ n x refl c.loop-number-test.true c.resource-item-in-loop-number.is) in
    let inside = slice_get_within xs n x at in
    let full : length before ≡ 256 = c.arrivals-all.ensures.long in
    let long : length all ≡ length before = c.loop-number.invariant.long in
    let is : c.max.result ≡ max (slice_index all n) x.clock = c.max.ensures ∙ ap (λ t. max (slice_index all n) t) c.clock-in-loop-number.ensures in
    subst (λ (v : ℕ). AreRaised xs (n + 1) before (set all n v)) (sym is)
    (raised_more xs n before all x at (omega (arith, (counted_of c.self.inside.state c.args.self.now c.self.view_is c.self.invariant))) c.loop-number.invariant)

pub returns : goal.returns
returns c =
    let i = c.args.self.now.system in
    let sys : System = system_of i in
    let good : AreGood i = subst AreGood (ap (λ (z : CoreState). z.system) c.self.view_is) (record { accepted = c.facts.ensures.accepted; limits = c.facts.ensures.limits }) in
    let few = few_resources i good in
    let xs = c.args.self.now.resources.items in
    let limit = c.args.self.now.steps in
    let horizon = c.args.horizon in
    let m = c.least_next-least.result in
    let last = c.loop-resource.last in
    let top = c.min-top.result in
    let before = c.arrivals-all.result in
    let least : IsLeastOf xs (length xs) horizon m =
    subst (λ (ys : List Resource). IsLeastOf ys (length ys) horizon m) (c.deref.ensures.value ∙ ap (λ (z : CoreState). z.resources.items) c.self.view_is)
    (least_of c.deref.result.now horizon m c.least_next-least.ensures.cap c.least_next-least.ensures.low c.least_next-least.ensures.there) in
    let found = c.as_slice-resources.result.now in
    let end : c.loop-resource.resource-index ≡ length found = omega (arith, c.loop-resource-test.false, c.loop-resource.auto.resource-index-end) in
    let stops_found : IsCut (StopAllows clock_of stop_of found) horizon (length found) last =
    subst (λ n. IsCut (StopAllows clock_of stop_of found) horizon n last) end c.loop-resource.invariant in
    let stops : IsCut (StopAllows clock_of stop_of xs) horizon (length xs) last =
    subst (λ (ys : List Resource). IsCut (StopAllows clock_of stop_of ys) horizon (length ys) last) (c.as_slice-resources.ensures.value ∙ ap (λ (z : CoreState). z.resources.items) c.self.view_is) stops_found in
    let far : last ≤ horizon = stops.within in
    let early : horizon ≤ 10 ^ 12 = c.requires.early in
    let is : top ≡ min last (m + c.args.cap) = omega (arith, c.min-top.ensures, c.saturating_add-2.ensures) in
    let cuts_found : (r : ℕ) → r < 256 → IsCut (LinkAllows clock_of stop_of sys c.deref-2.result.now m r) top sys.links (slice_index before r) =
    subst (λ (j : Inputs). (r : ℕ) → r < 256 → IsCut (LinkAllows clock_of stop_of (system_of j) c.deref-2.result.now m r) top (system_of j).links (slice_index before r))
    (ap (λ (z : CoreState). z.system) c.self.view_is) c.arrivals-all.ensures.cut in
    let cuts : (r : ℕ) → r < 256 → IsCut (LinkAllows clock_of stop_of sys xs m r) (min last (m + c.args.cap)) sys.links (slice_index before r) =
    subst (λ (t : ℕ). (r : ℕ) → r < 256 → IsCut (LinkAllows clock_of stop_of sys xs m r) t sys.links (slice_index before r)) is
    (subst (λ (ys : List Resource). (r : ℕ) → r < 256 → IsCut (LinkAllows clock_of stop_of sys ys m r) top sys.links (slice_index before r)) (c.deref-2.ensures.value ∙ ap (λ (z : CoreState). z.resources.items) c.self.view_is) cuts_found) in
    let count : length xs ≡ count_of sys = (counted_of c.self.inside.state c.args.self.now c.self.view_is c.self.invariant) in
    let passed : length xs ≤ c.loop-number.number = omega (arith, c.loop-number-test.false, ap (λ (ys : List Resource). length ys) (c.deref-resource-items.ensures.value ∙ ap (λ (z : CoreState). z.resources.items) c.self.view_is)) in
    let computed : AreComputed clock_of stop_of Rests sys horizon c.args.cap xs c.loop-number.all =
    record {
      last = last;
      m = m;
      stops = stops;
      events = least_cut xs horizon m least;
      each = λ r x s.
          let b = slice_get_within xs r x s in
          record { tick = slice_index before r; links = cuts r (omega arith); is = c.loop-number.invariant.raised r x (omega arith) s };
    } in
    record {
      horizon = refl;
      bounds = λ range es sc at. are_greatest i good limit range es sc xs at horizon c.args.cap c.requires.cap c.loop-number.all computed;
      legal = λ range es sc at.
          are_legal i good limit range es sc xs at horizon c.args.cap c.loop-number.all c.requires.clocks
          (are_greatest i good limit range es sc xs at horizon c.args.cap c.requires.cap c.loop-number.all computed);
    }
