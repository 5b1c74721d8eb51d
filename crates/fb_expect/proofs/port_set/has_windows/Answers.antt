use Rattle.std.proofs.lemmas.Bool.{true≢false}
use Rattle.fb_expect.proofs.port_set.has_windows.Goals as goal

pub returns-in-Count-default-default-Some : goal.returns-in-Count-default-default-Some
returns-in-Count-default-default-Some c = λ no. absurd (true≢false no)
