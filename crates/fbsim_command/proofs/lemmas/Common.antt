-- The names that most proofs of this crate cite, passed on from one place. Declares nothing.
pub use Rattle.fb_inspect.specs.Refusals.{OfRefusal}
pub use Rattle.fb_read.specs.declared.error.ReadError.{ReadError}
pub use Rattle.fb_read_positions.specs.declared.places.Place.{Place}
pub use Rattle.fb_sim.specs.Given.{Given}
pub use Rattle.fb_sim.specs.Reports.{Hears}
pub use Rattle.fb_sim.specs.Serial.{Declares, IsRefusal, IsRightly}
pub use Rattle.fb_sim.specs.declared.outcome.RunError.{RunError}
pub use Rattle.fb_types.proofs.Common.{AllZip, Appends, Bool, Bor, Err, IfErr, IfOk, IfSome, Inputs, IsTrue, List, None, Ok, OnErr, OnOk, Option, Result, Some, String, Vec, [], ap, append-nil, append_assoc, arith, codes, drop, drop_more, false, get_or, if◌then◌else◌, inl, inr, length, length-map, map, map-append, nat_lt, option_map, refl, rules, string_bytes, subst, suc, sym, system_of, take, take-append-drop, take_all, take_more, true, zero, ℕ, ◌&&◌, ◌++◌, ◌+◌, ◌<◌, ◌||◌, ◌∙◌, ◌∷◌, ◌≡◌, ◌≤◌, ◌⊎◌}
pub use Rattle.fb_types.specs.declared.library.Library.{Library}
pub use Rattle.fb_wave.specs.declared.truncation.Cut.{Cut}
pub use Rattle.fbsim_command.specs.Expecting.{AreUnheld, Holds, IsUnheld, types_of}
pub use Rattle.fbsim_command.specs.Failures.{WritesPart, failure_of, failure_of_source, numbered_input}
pub use Rattle.fbsim_command.specs.InputNotes.{names_of}
pub use Rattle.fbsim_command.specs.Notes.{IsFirstOf, Noted, Notes, NotesInput, NotesOf, SaysUnread, noted_of}
pub use Rattle.fbsim_command.specs.Outcomes.{End, Held}
pub use Rattle.fbsim_command.specs.OwnLines.{EndsIn}
pub use Rattle.fbsim_command.specs.Reading.{AreRead, IsUnread, Reading}
pub use Rattle.fbsim_command.specs.Showing.{Opening}
pub use Rattle.fbsim_command.specs.Texts.{given_of, lines_of, texts_of}
pub use Rattle.fbsim_command.specs.WarningLines.{naming_of}
pub use Rattle.fbsim_command.specs.WrongLines.{IsWrongIn}
pub use Rattle.fbsim_command.specs.declared.failure.Failure.{Failure}
pub use Rattle.fbsim_command.specs.declared.failure.Failure.TheVariants.{BadOption, File, Line, Memory, Refused, RefusedTrace, Write}
pub use Rattle.fbsim_command.specs.declared.sources.SourceFault.{SourceFault}
pub use Rattle.fbsim_command.specs.declared.texts.Part.{Part}
pub use Rattle.fbsim_line.specs.declared.bench_line.Expect.{Expect}
pub use Rattle.fbsim_line.specs.declared.line.Task.{Task}
pub use Rattle.std.specs.Prelude.{IsErrAnd}
