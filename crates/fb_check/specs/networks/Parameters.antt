-- Parameters that are not values of their inputs' types (IEC 61499-1, 5.3; IEC 61131-3, 6.4.2).
use Rattle.std.specs.Prelude.{ℕ, List, [], Bool, false, not, Some, None}
use Rattle.fb_types.specs.Blocks.{ports_of}
use Rattle.fb_types.specs.Flat.{kind_of_instance}
use Rattle.fb_types.specs.Kinds.{parameter_right}
use Rattle.fb_types.specs.Values.{fits}
use Rattle.fb_types.specs.declared.library.Instance.{Instance}
use Rattle.fb_types.specs.declared.library.Library.{Library}
use Rattle.fb_types.specs.declared.library.Parameter.{Parameter}
use Rattle.fb_check_names.specs.declared.numbers.TypeNumber.{TypeNumber}
use Rattle.fb_check_names.specs.Listed.{each_at, unless}
use Rattle.fb_check_names.specs.declared.location.KindWrongAt.{KindWrongAt}
use Rattle.fb_check_names.specs.declared.location.KindWrongAt.TheVariants as kind_wrong
use Rattle.fb_check_names.specs.declared.location.Site.{Site}
use Rattle.fb_check.specs.networks.Variables.{input_type}

-- ---- All, in the order of the declaration

abbrev pub kind_wrong_parameters : Library → Site → ℕ → Instance → List KindWrongAt
kind_wrong_parameters lib s i x =
    elim (kind_of_instance lib x) [
      | None ↦ []
      | Some k ↦ each_at (λ p v. unless (parameter_right (ports_of k) v) (kind_wrong.Parameter s i p)) x.parameters
    ]

abbrev pub kinds_wrong_in_network : Library → Site → List Instance → List KindWrongAt
kinds_wrong_in_network lib s is = each_at (kind_wrong_parameters lib s) is

-- ---- By number

-- a parameter, with the index of its input
abbrev pub is_wrong : Library → TypeNumber → Parameter → ℕ → Bool
is_wrong lib t x k = elim (input_type lib t k) [ None ↦ false | Some s ↦ not (fits s x.value) ]
