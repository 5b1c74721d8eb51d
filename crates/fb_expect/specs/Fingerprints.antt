-- Prints of texts, by which most are distinguished (this project's own).
use Rattle.std.specs.Prelude.{ℕ, ◌+◌, ◌*◌, ◌%◌, ◌^◌, fold}
use Rattle.fb_expect.specs.Words.{Text}

abbrev pub fingerprint_on : ℕ → ℕ → ℕ
fingerprint_on fingerprint b = (fingerprint * 31 % 2 ^ 64 + b) % 2 ^ 64

abbrev pub fingerprint : Text → ℕ
fingerprint z = fold fingerprint_on 0 z
