use Rattle.fb_window.proofs.lemmas.Common.{◌≡◌, [], All, List, sym, subst, Vec, AllZip, into_iter_items, Line, WindowDone, AreAwaited, IsHomeTo, Does, jobs_of, Home}
use Rattle.fb_window.specs.Texts.{HasLines}
use Rattle.fb_window.proofs.lemmas.phases.HomeIs.{home_none}
use Rattle.fb_window.proofs.home.come_home.Goals as goal

pub admit_all-admitted-requires : goal.admit_all-admitted-requires
admit_all-admitted-requires c =
    subst (λ (ks : List (Vec Line)). AreAwaited c.args.resting.items ks (into_iter_items c.into_iter-2.result)) (sym c.into_iter.ensures.rest)
    (subst (λ (ds : List WindowDone). AreAwaited c.args.resting.items c.args.pending.items ds) (sym c.into_iter-2.ensures.rest) c.requires)

pub returns-clause-home : goal.returns-clause-home
returns-clause-home c = λ i limit bounds xs same jobs.
    let lists = c.args.pending.items in
    let home : Home = record { resources = c.new.result; pending = c.new-2.result; outboxes = c.new-3.result } in
    let done = subst (λ (ds : List WindowDone). AllZip Does (jobs_of i limit bounds 0 xs) ds) (sym c.into_iter-2.ensures.rest) jobs in
    c.in_ok-admitted.ensures.home i limit bounds xs lists same
    (subst (λ (ks : List (Vec Line)). IsHomeTo i limit bounds xs lists 0 ks (into_iter_items c.into_iter-2.result) home) (sym c.into_iter.ensures.rest)
    (home_none i limit bounds xs lists (into_iter_items c.into_iter-2.result) home done c.new.ensures.items c.new-2.ensures.items c.new-3.ensures.items))

pub returns-clause-lines : goal.returns-clause-lines
returns-clause-lines c = λ none kept.
    subst (λ (ds : List WindowDone). AllZip HasLines c.admit_all-admitted.new.self.pending.items ds) c.into_iter-2.ensures.rest
    (c.in_ok-admitted.ensures.lines none c.new-2.ensures.items (subst (λ (ks : List (Vec Line)). All (λ p. p.items ≡ []) ks) (sym c.into_iter.ensures.rest) kept))
