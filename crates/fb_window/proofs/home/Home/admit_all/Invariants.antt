use Rattle.fb_window.proofs.lemmas.Common.{◌≡◌, ◌++◌, ℕ, All, List, None, length, map, Vec, into_iter_items, into_iter_len, Inputs, Line, Resource, WindowDone, AreAwaited, IsHomeTo, resting_of}
use Rattle.fb_window.specs.Homes.{HasGiven}
use Rattle.fb_window.proofs.home.Home.admit_all.Given as goal

abbrev pub invariant-loop-rested : goal.invariant-loop-rested
invariant-loop-rested l = record {
  home : (i : Inputs) (limit : ℕ) (bounds : List ℕ) (xs : List Resource) (lists : List (Vec Line)) → l.fn.resting.items ≡ map resting_of xs
      → IsHomeTo i limit bounds xs lists 0 (into_iter_items l.initial.pending) (into_iter_items l.initial.dones) l.initial.self
      → IsHomeTo i limit bounds xs lists (length l.yielded) (into_iter_items l.pending) (into_iter_items l.dones) l.self;
  given : All (λ x. x ≡ None) l.fn.resting.items → (all : List WindowDone)
      → HasGiven all (into_iter_items l.initial.pending) (into_iter_items l.initial.dones) l.initial.self → HasGiven all (into_iter_items l.pending) (into_iter_items l.dones) l.self;
  awaited : AreAwaited (into_iter_items l.rested-iterator) (into_iter_items l.pending) (into_iter_items l.dones);
  rest : l.yielded ++ into_iter_items l.rested-iterator ≡ l.fn.resting.items;
  len : into_iter_len l.rested-iterator ≡ length (into_iter_items l.rested-iterator);
}
