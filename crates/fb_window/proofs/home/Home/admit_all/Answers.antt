use Rattle.fb_window.proofs.lemmas.Common.{◌≡◌, ◌++◌, ℕ, List, Option, None, [], ◌∷◌, length, refl, sym, ap, ◌∙◌, subst, append_assoc, arith, slice_get, into_iter_items, Resource, AreAwaited, IsHomeTo, resting_of}
use Rattle.fb_types.proofs.Common.{length-map}
use Rattle.fb_types.proofs.lemmas.lists.ByIndex.{all_at}
use Rattle.fb_window.proofs.lemmas.phases.JobsGiven.{given_all, given_none}
use Rattle.fb_window.proofs.lemmas.phases.HomeIs.{home_all}
use Rattle.fb_window.proofs.lemmas.phases.Leaves.{length_join}
use Rattle.fb_window.proofs.lemmas.lines.FoundLines.{no_length}
use Rattle.fb_laws.proofs.lemmas.lists.Indexes.{map_has, middle_at, push_counted}
use Rattle.fb_window.proofs.home.Home.admit_all.Goals as goal

pub admit-requires : goal.admit-requires
admit-requires c = (
  into_iter_items c.next.new.self,
  subst (λ (rs : List (Option Resource)). AreAwaited rs (into_iter_items c.loop-rested.pending) (into_iter_items c.loop-rested.dones)) c.in-Some.ensures.steps.0 c.loop-rested.invariant.awaited,
)

pub loop-rested-preserved : goal.loop-rested-preserved
loop-rested-preserved c =
    let inv = c.loop-rested.invariant in
    let done = c.loop-rested.yielded in
    let n = length done in
    let step = c.in-Some.ensures.steps in
    let rest = ap (λ z. done ++ z) (sym step.0) ∙ inv.rest in
    let at = middle_at done (into_iter_items c.next.new.self) c.args.resting.items c.in-Some.rested rest in
    record {
      home = λ i limit bounds xs lists same first.
          let x = map_has resting_of xs n c.in-Some.rested (sym (ap (λ z. slice_get z n) same) ∙ at) in
          subst (λ (k : ℕ). IsHomeTo i limit bounds xs lists k (into_iter_items c.admit.new.pending) (into_iter_items c.admit.new.dones) c.admit.new.self) (sym (push_counted done c.in-Some.rested n refl))
          (c.in_ok-admit.ensures.home i limit bounds xs lists n x.0 x.1 x.2 (inv.home i limit bounds xs lists same first));
      given = λ none all first.
          c.in_ok-admit.ensures.given (all_at (λ (o : Option Resource). o ≡ None) c.args.resting.items n c.in-Some.rested none at) all (inv.given none all first);
      awaited = c.in_ok-admit.ensures.awaited (into_iter_items c.next.new.self)
          (subst (λ (rs : List (Option Resource)). AreAwaited rs (into_iter_items c.loop-rested.pending) (into_iter_items c.loop-rested.dones)) step.0 inv.awaited);
      rest = append_assoc done (c.in-Some.rested ∷ []) (into_iter_items c.next.new.self) ∙ rest;
      len = let same = ap length step.0 in omega (arith, inv.len, step.1, same);
    }

pub returns-clause-home : goal.returns-clause-home
returns-clause-home c = λ i limit bounds xs lists same first.
    let inv = c.loop-rested.invariant in
    let done = c.loop-rested.yielded in
    let end = c.in-None.ensures.steps in
    let whole = ap length inv.rest in
    let joined = length_join done (into_iter_items c.loop-rested.rested-iterator) in
    let mapped : length c.args.resting.items ≡ length xs = ap length same ∙ length-map xs resting_of in
    home_all i limit bounds xs lists (length done) (into_iter_items c.loop-rested.pending) (into_iter_items c.loop-rested.dones) c.loop-rested.self (inv.home i limit bounds xs lists same first)
    (omega (arith, inv.len, end.0, whole, joined, mapped))

pub returns-clause-lines : goal.returns-clause-lines
returns-clause-lines c = λ none empty kept.
    let inv = c.loop-rested.invariant in
    let end = c.in-None.ensures.steps in
    let all = into_iter_items c.args.dones.now in
    let over = no_length (into_iter_items c.loop-rested.rested-iterator) (omega (arith, inv.len, end.0)) in
    given_all all (into_iter_items c.loop-rested.pending) (into_iter_items c.loop-rested.dones) c.loop-rested.self
    (inv.given none all (given_none (into_iter_items c.args.pending.now) all c.args.self.now kept empty))
    (subst (λ (rs : List (Option Resource)). AreAwaited rs (into_iter_items c.loop-rested.pending) (into_iter_items c.loop-rested.dones)) over inv.awaited)
