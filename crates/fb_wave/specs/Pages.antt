-- Text that waits to be written (this project's profile).
use Rattle.std.specs.Prelude.{◌≡◌, ℕ, ◌+◌, List, [], ◌++◌, length, Option}
use Rattle.std.specs.Io.KnownBytes.{Appends}
use Rattle.fb_trace.specs.Progress.{Fails, bounded}
use Rattle.fb_wave.specs.declared.page.Page.{Page}
use Rattle.fb_wave.specs.declared.page.PageFault.{PageFault}

-- Of the text that waited a front was sent to the writer, and counted, and the rest waits.
pub record IsFlushed (old new : Option (List ℕ)) (before after : Page) : Type 0 where
  pub sent : List ℕ
  pub got : Appends old new sent
  pub parts : before.text.items ≡ sent ++ after.text.items
  pub counted : bounded after.written ≡ bounded (before.written + length sent)

-- the writer failed before it got all that waited, and the fault counts what it got then and before
abbrev pub IsCutShort : (old new : Option (List ℕ)) → Page → PageFault → Type 0
IsCutShort old new before fault = Fails old new (record { waiting = []; written = before.written }) before.text.items fault.written
