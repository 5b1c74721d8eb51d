-- Which parts of a library keep the limit of nesting (this project's profile).
use Rattle.std.specs.Prelude.{Bool, true, ◌&&◌, Option, Some, None}
use Rattle.std.specs.List.{list_all}
use Rattle.fb_types.specs.declared.text.Expr.{Expr}
use Rattle.fb_types.specs.declared.library.Transition.{Transition}
use Rattle.fb_types.specs.declared.library.Algorithm.{Algorithm}
use Rattle.fb_types.specs.declared.library.BlockType.{BlockType}
use Rattle.fb_types.specs.declared.library.BlockType.TheVariants as block_type
use Rattle.fb_types.specs.declared.library.Library.{Library}
use Rattle.fb_read.specs.Nesting.{fits_expression, fits_body}

abbrev pub fits_guard : Option Expr → Bool
fits_guard None = true
fits_guard (Some x) = fits_expression x

abbrev pub fits_transition : Transition → Bool
fits_transition t = fits_guard t.condition.guard

abbrev pub fits_algorithm : Algorithm → Bool
fits_algorithm a = fits_body a.body

abbrev pub fits_block : BlockType → Bool
fits_block (block_type.Basic b) = list_all fits_transition b.transitions && list_all fits_algorithm b.algorithms
fits_block (block_type.Composite c) = true

-- No guard, no statement and no expression in a statement nests too deep.
abbrev pub fits_library : Library → Bool
fits_library x = list_all fits_block x.blocks
