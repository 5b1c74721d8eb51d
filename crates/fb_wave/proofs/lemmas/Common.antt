-- The names that most proofs of this crate cite, passed on from one place. Declares nothing.
pub use Rattle.fb_system.specs.IndexLists.{AreIndexes}
pub use Rattle.fb_trace.specs.End.{ending_of}
pub use Rattle.fb_trace.specs.declared.last.Outcome.{Outcome}
pub use Rattle.fb_types.proofs.Common.{All, All-head, All-tail, Bool, Consumes, Contains, Contains-append_left, Ending, IfSome, Inputs, List, MatchOption, Name, None, Option, Path, Some, System, Twice, [], and_from, and_parts, ap, append-nil, append_assoc, arith, codes, cond, decimal, drop, eq-eqb, event_at, event_names, false, false≢true, get_or, get_or_append_left, get_or_default, if◌then◌else◌, inl, inputs_with, inr, last_line, leb-true, length, length-append, length-map, line_of, lines_text, list_all, list_all-append, ltb-true, map, ne_eqb, not, not-true, not_from_false, option_map, outputs_with, pair_up, path_at, path_text, ports_at, refl, set, slice_get, slice_get-map, subst, suc, sym, system_of, take, take-append_seam, take_all, take_through, true, unwrap_or, unwrap_or-slice_get, values_text, variable_names, zero, ℕ, ◌++◌, ◌+◌, ◌-◌, ◌<◌, ◌==◌, ◌^◌, ◌||◌, ◌∙◌, ◌∷◌, ◌≡◌, ◌≤◌, ◌⊎◌}
pub use Rattle.fb_types.specs.declared.library.EventPort.{EventPort}
pub use Rattle.fb_types.specs.declared.run.Form.{Form}
pub use Rattle.fb_types.specs.declared.run.Line.{Line}
pub use Rattle.fb_types.specs.declared.run.Form.TheVariants.{One, Two}
pub use Rattle.fb_types.specs.declared.library.Ports.{Ports}
pub use Rattle.fb_types.specs.declared.value.Value.{Value}
pub use Rattle.fb_types.specs.declared.library.Variable.{Variable}
pub use Rattle.fb_wave.specs.Copying.{IsAfter, IsCopied, RefusesLine}
pub use Rattle.fb_wave.specs.CurrentLines.{IsRefusedLine}
pub use Rattle.fb_wave.specs.Dumps.{last_tick}
pub use Rattle.fb_wave.specs.Levels.{AreLevels}
pub use Rattle.fb_wave.specs.LineSignals.{fires_of, has_signal, pairs, touches_of}
pub use Rattle.fb_wave.specs.Lines.{AreValuesOf, IsLast, IsLineOf, IsTextOf}
pub use Rattle.fb_wave.specs.Named.{AreNames, HasNames, is_digit, is_name}
pub use Rattle.fb_wave.specs.Ports.{IsPortOf, holder_name, port_text, side}
pub use Rattle.fb_wave.specs.Reading.{AreRead, number_text}
pub use Rattle.fb_wave.specs.Scopes.{closed, instances_declared, own_name}
pub use Rattle.fb_wave.specs.Signals.{first_signal, size_of, sizes_of}
pub use Rattle.fb_wave.specs.Words.{IsCut, is_end, is_ended, is_word}
pub use Rattle.fb_wave.specs.declared.copy.Progress.{Progress}
pub use Rattle.fb_wave.specs.declared.error.WaveError.{WaveError}
pub use Rattle.fb_wave.specs.declared.error.WaveError.TheVariants.{Memory, Names, Read, Refused, Write}
pub use Rattle.fb_wave.specs.declared.levels.Cell.{Cell}
pub use Rattle.fb_wave.specs.declared.ports.Port.{Port}
