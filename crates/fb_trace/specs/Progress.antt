-- How text gets to a writer, whole or in part (this project's profile).
use Rattle.std.specs.Prelude.{◌≡◌, ℕ, ◌+◌, ◌-◌, ◌^◌, ◌<◌, min, List, ◌++◌, length, take, Option, Result, OnOk, IfErr}
use Rattle.std.specs.Io.KnownBytes.{Appends}
use Rattle.fb_trace.specs.declared.fault.WriteFault.{WriteFault}
use Rattle.fb_trace.specs.Page.{Page}

-- a count of bytes, which stops at `u128::MAX`
abbrev pub bounded : ℕ → ℕ
bounded n = min n (2 ^ 128 - 1)

-- The writer got the first bytes of a text, but not all, and `written` is how many.
pub record IsPartWritten (old new : Option (List ℕ)) (text : List ℕ) (written : ℕ) : Type 0 where
  pub count : ℕ
  pub short : count < length text
  pub got : Appends old new (take count text)
  pub counted : written ≡ bounded count

-- ---- Through a page

-- The text was appended to what waited. A beginning of both was written, and the rest waits now.
pub record Puts (old new : Option (List ℕ)) (before after : Page) (text : List ℕ) : Type 0 where
  pub sent : List ℕ
  pub got : Appends old new sent
  pub parts : before.waiting ++ text ≡ sent ++ after.waiting
  pub counted : bounded after.written ≡ bounded (before.written + length sent)

-- The writer failed before it got all of both.
pub record Fails (old new : Option (List ℕ)) (before : Page) (text : List ℕ) (written : ℕ) : Type 0 where
  pub sent : List ℕ
  pub missing : List ℕ
  pub got : Appends old new sent
  pub parts : before.waiting ++ text ≡ sent ++ missing
  pub short : 0 < length missing
  pub counted : written ≡ bounded (before.written + length sent)

-- the result of putting a text: it is put whole, or the writer has failed
pub record Gathers (old new : Option (List ℕ)) (before after : Page) (text : List ℕ) (r : Result (Unit {0}) WriteFault) : Type 0 where
  pub whole : OnOk r (Puts old new before after text)
  pub part : IfErr r (λ fault. Fails old new before text fault.written)
