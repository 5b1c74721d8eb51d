use Rattle.fb_wave.proofs.lemmas.Nesting.{scopes_are}
use Rattle.fb_wave.proofs.laws.scopes_are_nested.Goals as goal

pub returns : goal.returns
returns c = λ i numbered resource. scopes_are i numbered resource
