use Rattle.fb_types.proofs.Common.{◌≡◌, ◌||◌, drop, list_all}
use Rattle.fb_wave.specs.Named.{is_digit, is_letter}
use Rattle.fb_wave.proofs.names.are_parts.Given as goal

abbrev pub invariant-loop-byte : goal.invariant-loop-byte
invariant-loop-byte l = list_all (λ b. is_letter b || is_digit b) l.bytes ≡ list_all (λ b. is_letter b || is_digit b) (drop l.byte-index l.bytes)
