use Rattle.std.proofs.Common.{◌≡◌, map}
use Rattle.toml.specs.View.{members_view, table_view}
use Rattle.fb_why.specs.FurtherKeys.{first_further}
use Rattle.fb_why.proofs.further.further_key.Given as goal

abbrev pub invariant-loop-key : goal.invariant-loop-key
invariant-loop-key l = first_further (map (λ k. k.now) l.known) (table_view l.keys) ≡ first_further (map (λ k. k.now) l.known) (members_view l.key-iterator)
