use Rattle.std.proofs.Common.{◌≡◌, ◌++◌, drop}
use Rattle.fb_expect.specs.Suites.{xml_bytes}
use Rattle.fb_expect.proofs.junit.xml_bytes.Given as goal

abbrev pub invariant-loop-byte : goal.invariant-loop-byte
invariant-loop-byte l = l.text.items ++ xml_bytes (drop l.byte-index l.part) ≡ xml_bytes l.part
