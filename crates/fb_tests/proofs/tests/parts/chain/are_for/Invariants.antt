use Rattle.std.proofs.Common.{All, take}
use Rattle.fb_resource.specs.Resources.{IsFor}
use Rattle.fb_tests.proofs.tests.parts.chain.are_for.Given as goal

abbrev pub invariant-loop-message : goal.invariant-loop-message
invariant-loop-message l = All (IsFor l.system l.resource) (take l.message-index l.messages)
