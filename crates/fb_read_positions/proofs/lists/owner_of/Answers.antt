use Rattle.std.proofs.Common.{Some, sym, ap, ◌∙◌}
use Rattle.fb_read_positions.specs.Lists.{owner_of}
use Rattle.fb_read_positions.specs.declared.lists.Item.{Item}
use Rattle.fb_read_positions.proofs.lists.owner_of.Goals as goal

pub returns-in-Clauses : goal.returns-in-Clauses
returns-in-Clauses c = ap (λ (x : Item). Some x) c.inner.ensures ∙ sym (ap owner_of c.in-Clauses.is)
