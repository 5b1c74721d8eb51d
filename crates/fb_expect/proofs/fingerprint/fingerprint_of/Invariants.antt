use Rattle.fb_types.proofs.Common.{◌≡◌, take, fold}
use Rattle.fb_expect.specs.Fingerprints.{fingerprint_on}
use Rattle.fb_expect.proofs.fingerprint.fingerprint_of.Given as goal

abbrev pub invariant-loop-byte : goal.invariant-loop-byte
invariant-loop-byte l = l.fingerprint ≡ fold fingerprint_on 0 (take l.byte-index l.text)
