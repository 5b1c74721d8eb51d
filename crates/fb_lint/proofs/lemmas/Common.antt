-- The names that most proofs of this crate cite, passed on from one place. Declares nothing.
pub use Rattle.fb_check.specs.types.Checks.{guard_mentions}
pub use Rattle.fb_check.specs.types.Mentions.{meant_all}
pub use Rattle.fb_check.specs.types.Statements.{all_standing, standing_of}
pub use Rattle.fb_check.specs.types.Trees.{choices_of}
pub use Rattle.fb_lint.specs.Findings.{each_from, names_are, when}
pub use Rattle.fb_lint.specs.Reached.{edges_are}
pub use Rattle.fb_lint.specs.declared.warning.Warning.{Warning}
pub use Rattle.fb_lint.specs.declared.warning.Warning.TheVariants.{UnusedPort}
pub use Rattle.fb_types.proofs.Common.{Bool, Contains, List, Name, [], among, ap, arith, drop, false, filter, flat_map, inl, inr, length, list_any, map, not, refl, subst, sym, take, true, true≢false, ℕ, ◌++◌, ◌+◌, ◌<◌, ◌∙◌, ◌∷◌, ◌≡◌}
pub use Rattle.fb_types.specs.declared.library.Algorithm.{Algorithm}
