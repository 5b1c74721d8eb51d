-- One step of the opening, on the agendas of all resources.
use Rattle.fb_resource.proofs.lemmas.Common.{◌≡◌, ℕ, ◌+◌, ◌<◌, List, length, refl, sym, ◌∙◌, Some, slice_get, eq-eqb, length-set, Inputs, system_of, path_at, Key, Contents, HasRestarts, HasStimuli, IsPut, IsInOrder, MayWait}
use Rattle.fb_types.proofs.Common.{slice_set, ne_eqb, stimulus_key}
use Rattle.fb_types.specs.declared.run.Event.TheVariants as kinds
use Rattle.fb_resource.specs.Openings.{HasTimersBelow, IsStimulusKey, OneEach}
use Rattle.fb_resource.proofs.lemmas.Lists.{set_each}
use Rattle.fb_resource.proofs.lemmas.OpenIs.{IsStartedIn, restarts_put, restarts_skip, stimuli_put, stimuli_skip}

pub stimulus_apart : (i : Inputs) (row : ℕ) (k : Key) (old new : Contents) (agendas : List Contents) → k.resource < length agendas → slice_get agendas k.resource ≡ Some old
    → IsStimulusKey i row k → MayWait i 0 k (kinds.Stimulus row) → IsPut old new (stimulus_key k.tick k.resource row) (kinds.Stimulus row) → new.due ≡ old.due
    → OneEach i (λ r. HasStimuli i (Some r) row) agendas → OneEach i (λ r. HasStimuli i (Some r) (row + 1)) (slice_set agendas k.resource new)
stimulus_apart i row k old new agendas within was is may put due before = record {
  counted = length-set agendas k.resource new ∙ before.counted;
  each = set_each (λ r. HasStimuli i (Some r) (row + 1)) agendas k.resource new within
      (stimuli_put i (Some k.resource) row k old new is may (eq-eqb k.resource k.resource refl) put due (before.each k.resource old was))
      (λ r a other had. stimuli_skip i (Some r) row k a is (ne_eqb k.resource r (λ same. other (sym same))) (before.each r a had));
}

pub restart_apart : (i : Inputs) (n r : ℕ) (old new : Contents) (agendas : List Contents) → n < length (system_of i).paths → r ≡ (system_of i).resource (path_at (system_of i) n)
    → r < length agendas → slice_get agendas r ≡ Some old
    → IsStartedIn i n old new → IsInOrder i 0 new → HasTimersBelow (n + 1) new → length new.due ≡ length old.due
    → OneEach i (λ r. HasRestarts i (Some r) n) agendas → OneEach i (λ r. HasRestarts i (Some r) (n + 1)) (slice_set agendas r new)
restart_apart i n r old new agendas numbered here within was put order timers due before = record {
  counted = length-set agendas r new ∙ before.counted;
  each = set_each (λ q. HasRestarts i (Some q) (n + 1)) agendas r new within
      (restarts_put i (Some r) n old new numbered (eq-eqb _ r (sym here)) put order timers due (before.each r old was))
      (λ q a other had. restarts_skip i (Some q) n a numbered (ne_eqb _ q (λ same. other (sym same ∙ sym here))) (before.each q a had));
}

pub each_more : (i : Inputs) (P Q : ℕ → Contents → Type 0) (agendas : List Contents) → ((r : ℕ) (a : Contents) → P r a → Q r a) → OneEach i P agendas → OneEach i Q agendas
each_more i P Q agendas more each = record { counted = each.counted; each = λ r a had. more r a (each.each r a had) }
