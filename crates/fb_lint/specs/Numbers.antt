-- The numbers of warnings.
use Rattle.std.specs.Prelude.{ℕ}
use Rattle.fb_lint.specs.declared.warning.Warning.{Warning}
use Rattle.fb_lint.specs.declared.warning.Warning.TheVariants.{UnsampledInput, UnfedInput, UnsampledInGuard, UnsampledInAlgorithm, UnreachedState, FinalState, ShadowedTransition, UnnamedEvent, UnusedAlgorithm, UnusedType, UnusedPort, UnassignedEvent, UnusedLink, UnsentOutput, UnreachedInstance, UnreachedEvent, UnheldConstant, ZeroDivisor, ZeroDivisorInGuard, EndlessState, SilentSource, RepeatedLabel, UnreadInternal, EarlyStimulus}

abbrev pub number_of : Warning → ℕ
number_of (UnsampledInput b i) = 1
number_of (UnfedInput s i v) = 2
number_of (UnsampledInGuard b x i) = 3
number_of (UnsampledInAlgorithm b a i) = 4
number_of (UnreachedState b s) = 5
number_of (FinalState b s) = 6
number_of (ShadowedTransition b x) = 7
number_of (UnnamedEvent b e) = 8
number_of (UnusedAlgorithm b a) = 9
number_of (UnusedType b) = 10
number_of (UnusedPort b k p) = 11
number_of (UnassignedEvent b e) = 12
number_of (UnusedLink l) = 13
number_of (UnsentOutput b v) = 14
number_of (UnreachedInstance s i) = 15
number_of (UnreachedEvent s i e) = 16
number_of (UnheldConstant b a k) = 17
number_of (ZeroDivisor b a k) = 18
number_of (ZeroDivisorInGuard b x) = 18
number_of (EndlessState b s) = 19
number_of (SilentSource s c) = 20
number_of (RepeatedLabel b a k) = 21
number_of (UnreadInternal b v) = 22
number_of (EarlyStimulus s) = 23
