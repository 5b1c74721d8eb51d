-- The texts of signals, one after another.
use Rattle.fb_types.proofs.Common.{◌≡◌, ℕ, zero, suc, ◌-◌, ◌<◌, List, ◌++◌, codes, refl, arith, Name}
use Rattle.fb_types.specs.declared.library.EventPort.{EventPort}
use Rattle.fb_types.specs.declared.value.Ty.{Ty}
use Rattle.fb_wave.specs.Scopes.{closed, event_declarations, carried_declarations, variable_declarations}
use Rattle.fb_wave.proofs.lemmas.Listing.{Goes}

pub events_go : (event : ℕ → Name → List ℕ) → Goes (event_declarations event) (λ s (e : EventPort). event s e.name)
events_go event = record { none = λ s. refl; more = λ s x xs. refl }

pub variables_go : (variable : ℕ → Name → Ty → List ℕ) (es : List EventPort) → Goes (variable_declarations variable es) (carried_declarations variable es)
variables_go variable es = record { none = λ s. refl; more = λ s x xs. refl }

pub closing : (k : ℕ) → 0 < k → codes "$upscope $end\n" ++ closed (k - 1) ≡ closed k
closing zero some = absurd (omega arith)
closing (suc k) some = let e : suc k - 1 ≡ k = omega arith in rw e refl
