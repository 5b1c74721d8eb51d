-- What warnings are about, by a name (this project's own).
use Rattle.std.specs.Prelude.{ℕ, List, Bool, false, ◌||◌, Option, Some, None, slice_get, option_and_then}
use Rattle.fb_types.specs.Names.{Name, same_name}
use Rattle.fb_types.specs.Flat.{type_name}
use Rattle.fb_types.specs.declared.deploy.Stimulus.{Stimulus}
use Rattle.fb_types.specs.declared.library.Instance.{Instance}
use Rattle.fb_types.specs.declared.library.Library.{Library}
use Rattle.fb_read_positions.specs.FindingPositions.{network_at}
use Rattle.fb_check_names.specs.declared.location.Site.{Site}
use Rattle.fb_check_names.specs.declared.location.Site.TheVariants.{Application, Inside}
use Rattle.fb_lint.specs.Charts.{is_named}
use Rattle.fb_lint.specs.declared.warning.Warning.{Warning}
use Rattle.fb_lint.specs.declared.warning.Warning.TheVariants.{UnsampledInput, UnfedInput, UnsampledInGuard, UnsampledInAlgorithm, UnreachedState, FinalState, ShadowedTransition, UnnamedEvent, UnusedAlgorithm, UnusedType, UnusedPort, UnassignedEvent, UnusedLink, UnsentOutput, UnreachedInstance, UnreachedEvent, UnheldConstant, ZeroDivisor, ZeroDivisorInGuard, EndlessState, SilentSource, RepeatedLabel, UnreadInternal, EarlyStimulus}

-- a test of what may be there
abbrev pub holds_of : {A : Type 0} → (A → Bool) → Option A → Bool
holds_of test None = false
holds_of test (Some x) = test x

abbrev pub is_block : Library → (block : ℕ) → Name → Bool
is_block lib b n = holds_of (λ t. same_name n (type_name t)) (slice_get lib.blocks b)

-- the network is inside the block type with the name
abbrev pub is_inside : Library → Site → Name → Bool
is_inside lib Application n = false
is_inside lib (Inside b) n = is_block lib b n

abbrev pub has_name : Name → Instance → Bool
has_name n i = same_name n i.name || same_name n i.block_type

-- the instance or its type has the name
abbrev pub is_instance : Library → Site → ℕ → Name → Bool
is_instance lib s i n = holds_of (has_name n) (option_and_then (λ net. slice_get net.instances i) (network_at lib s))

-- the event connection comes from the instance with the name
abbrev pub is_source : Library → Site → ℕ → Name → Bool
is_source lib s c n = holds_of (λ x. is_named n x.from.component) (option_and_then (λ net. slice_get net.event_connections c) (network_at lib s))

abbrev pub is_stimulated : List Stimulus → ℕ → Name → Bool
is_stimulated ss k n = holds_of (λ s. same_name n s.instance) (slice_get ss k)

abbrev pub is_about : Library → List Stimulus → Warning → Name → Bool
is_about lib ss (UnsampledInput b v) n = is_block lib b n
is_about lib ss (UnfedInput s i v) n = is_inside lib s n || is_instance lib s i n
is_about lib ss (UnsampledInGuard b x v) n = is_block lib b n
is_about lib ss (UnsampledInAlgorithm b a v) n = is_block lib b n
is_about lib ss (UnreachedState b k) n = is_block lib b n
is_about lib ss (FinalState b k) n = is_block lib b n
is_about lib ss (ShadowedTransition b x) n = is_block lib b n
is_about lib ss (UnnamedEvent b e) n = is_block lib b n
is_about lib ss (UnusedAlgorithm b a) n = is_block lib b n
is_about lib ss (UnusedType b) n = is_block lib b n
is_about lib ss (UnusedPort b p k) n = is_block lib b n
is_about lib ss (UnassignedEvent b e) n = is_block lib b n
is_about lib ss (UnusedLink k) n = false
is_about lib ss (UnsentOutput b v) n = is_block lib b n
is_about lib ss (UnreachedInstance s i) n = is_inside lib s n || is_instance lib s i n
is_about lib ss (UnreachedEvent s i e) n = is_inside lib s n || is_instance lib s i n
is_about lib ss (UnheldConstant b a k) n = is_block lib b n
is_about lib ss (ZeroDivisor b a k) n = is_block lib b n
is_about lib ss (ZeroDivisorInGuard b x) n = is_block lib b n
is_about lib ss (EndlessState b k) n = is_block lib b n
is_about lib ss (SilentSource s c) n = is_inside lib s n || is_source lib s c n
is_about lib ss (RepeatedLabel b a k) n = is_block lib b n
is_about lib ss (UnreadInternal b v) n = is_block lib b n
is_about lib ss (EarlyStimulus k) n = is_stimulated ss k n
