-- The names that most proofs of this crate cite, passed on from one place. Declares nothing.
pub use Rattle.fb_inputs.specs.Counts.{at}
unfoldable pub use Rattle.fb_inputs.specs.Counts.{count_below}
pub use Rattle.fb_inputs.specs.DeployLocations.{element_at, location_of, shape_in}
pub use Rattle.fb_inputs.specs.Deployments.{entries_of_link, entry, has_latency, latency_of_link, start_of_link}
unfoldable pub use Rattle.fb_inputs.specs.Deployments.{among_links, first_failing, out_of_order}
pub use Rattle.fb_inputs.specs.Documents.{count_of, of_table}
pub use Rattle.fb_inputs.specs.Lists.{all_after, placed}
unfoldable pub use Rattle.fb_inputs.specs.Lists.{each_at, each_in}
pub use Rattle.fb_inputs.specs.Readers.{IsAt, rows_from}
pub use Rattle.fb_inputs.specs.Records.{is_quote}
pub use Rattle.fb_inputs.specs.Refusals.{and_then, or_refuse}
pub use Rattle.fb_inputs.specs.Rows.{Row, setting}
unfoldable pub use Rattle.fb_inputs.specs.Stimuli.{stimuli_from, stimulus}
pub use Rattle.fb_inputs.specs.StimuliLocations.{fault_of, value_at}
pub use Rattle.fb_inputs.specs.Words.{Text}
pub use Rattle.fb_inputs.specs.declared.deploy_location.DeployLocation.{DeployLocation}
pub use Rattle.fb_inputs.specs.declared.document.LatencyDraft.{LatencyDraft}
pub use Rattle.fb_inputs.specs.declared.document.LinkDraft.{LinkDraft}
pub use Rattle.fb_inputs.specs.declared.location.RowFault.{RowFault}
pub use Rattle.fb_types.proofs.Common.{Bool, Bor, Err, List, None, Ok, Option, Result, Some, [], ap, arith, cond, drop, err_from_is_err_and, false, get_or, inl, inr, le-leb, length, length_push, lt-ltb, ltb, map, nat_eq, nat_le, ne_eqb, not, option_map, pos, refl, slice_get, subst, suc, sym, true, zero, ℕ, ◌&&◌, ◌++◌, ◌+◌, ◌-◌, ◌<◌, ◌==◌, ◌^◌, ◌||◌, ◌∙◌, ◌∷◌, ◌≡◌, ◌≤◌}
pub use Rattle.std.proofs.Common.{below_more}
pub use Rattle.std.specs.Option.{IfSome}
