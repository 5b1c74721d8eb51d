-- What the parts of block types name and which kinds they have, except for networks (IEC 61499-1, 5.2; IEC 61131-3, 7.3).
use Rattle.std.specs.Prelude.{◌≡◌, ◌⊎◌, List, ◌++◌, flat_map, true, false, Contains}
use Rattle.fb_types.specs.Flat.{kind_of, variables_in}
use Rattle.fb_types.specs.Repeated.{basics, interfaces}
use Rattle.fb_types.specs.Unknown.{Required, Mention, required_withs, required_chart, mentioned, is_known}
use Rattle.fb_types.specs.Kinds.{ChartWrong, declared_right}
use Rattle.fb_types.specs.declared.library.Library.{Library}
use Rattle.fb_types.specs.declared.library.BlockType.{BlockType}
use Rattle.fb_types.specs.declared.library.BasicType.{BasicType}
use Rattle.fb_types.specs.declared.library.Variable as declared

-- the names in WITH lists and in charts
abbrev pub required_parts : Library → List Required
required_parts lib = flat_map required_withs (interfaces lib) ++ flat_map required_chart (basics lib)

-- Each name in a WITH list, a chart, a guard or a body is known.
pub record ArePartsKnown (lib : Library) : Type 0 where
  pub names : (w : Required) → Contains (required_parts lib) w → Contains w.1 w.0
  pub mentions : (t : BasicType) (m : Mention) → Contains (basics lib) t → Contains (mentioned t) m → is_known t m ≡ true

-- A guard, a body or a declared value has the wrong kind.
abbrev pub PartWrong : Library → Type 0
PartWrong lib =
    ((t : BasicType) × Contains (basics lib) t × ChartWrong t)
    ⊎ ((t : BlockType) × (v : declared.Variable) × Contains lib.blocks t × Contains (variables_in (kind_of t)) v × (declared_right v ≡ false))
