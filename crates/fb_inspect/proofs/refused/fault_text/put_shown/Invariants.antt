use Rattle.fb_inspect.proofs.lemmas.Common.{◌≡◌, ◌++◌, drop}
use Rattle.std.specs.Prelude.{string_bytes}
use Rattle.fb_inspect.specs.refused.Messages.{shown}
use Rattle.fb_inspect.proofs.refused.fault_text.put_shown.Given as goal

-- with what the rest adds, all is there
abbrev pub invariant-loop-byte : goal.invariant-loop-byte
invariant-loop-byte l = string_bytes l.text ++ shown (drop l.byte-index l.bytes) ≡ string_bytes l.fn.text ++ shown l.bytes
