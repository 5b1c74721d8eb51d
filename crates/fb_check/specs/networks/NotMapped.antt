-- Where an instance of the application is not mapped to one resource (E26; IEC 61499-1, 7).
use Rattle.std.specs.Prelude.{◌≡◌, ℕ, List, ◌++◌, map, Some, Contains, slice_get}
use Rattle.fb_types.specs.Blocks.{among}
use Rattle.fb_types.specs.Names.{Name, same_name}
use Rattle.fb_types.specs.Mapped.{mapped}
use Rattle.fb_types.specs.declared.library.Instance.{Instance}
use Rattle.fb_types.specs.declared.library.Library.{Library}
use Rattle.fb_types.specs.declared.deploy.Plan.{Plan}
use Rattle.fb_check_names.specs.Listed.{each_at, unless}
use Rattle.fb_check_names.specs.Repeats.{IsPair, repeats}
use Rattle.fb_check_names.specs.declared.location.NotMappedAt.{NotMappedAt}
use Rattle.fb_check_names.specs.declared.location.NotMappedAt.TheVariants.{Unlisted, Again}

-- The instance is at the index, and has none of the names.
pub record IsUnlisted (ns : List Name) (is : List Instance) (location : ℕ) : Type 0 where
  pub instance : Instance
  pub at_index : slice_get is location ≡ Some instance
  pub unlisted : ¬ (Contains ns instance.name)

abbrev pub IsNotMappedAmong : List Name → List Instance → NotMappedAt → Type 0
IsNotMappedAmong ns is (Unlisted k) = IsUnlisted ns is k
IsNotMappedAmong ns is (Again r) = IsPair ns r

-- An instance of the application is not mapped there, or a name is mapped twice.
abbrev pub IsNotMappedAt : Library → Plan → NotMappedAt → Type 0
IsNotMappedAt lib plan u = IsNotMappedAmong (mapped lib plan) lib.application.network.instances u

-- all of them: the instances without a resource, and the names that are listed before
abbrev pub unlisted_at : List Name → ℕ → Instance → List NotMappedAt
unlisted_at ns k i = unless (among ns i.name) (Unlisted k)

abbrev pub not_mapped_among : List Name → List Instance → List NotMappedAt
not_mapped_among ns is = each_at (unlisted_at ns) is ++ map (λ r. Again r) (repeats same_name ns)

abbrev pub not_mapped_all : Library → Plan → List NotMappedAt
not_mapped_all lib plan = not_mapped_among (mapped lib plan) lib.application.network.instances
