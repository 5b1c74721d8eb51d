use Rattle.std.proofs.Common.{◌≡◌, ◌++◌, drop}
use Rattle.std.specs.List.{flat_map}
use Rattle.fb_draw.specs.Resources as spec
use Rattle.fb_draw.proofs.resource.put_entries.Given as goal

-- with what the rest adds, all is there
abbrev pub invariant-loop-entry : goal.invariant-loop-entry
invariant-loop-entry l = l.text.items ++ flat_map spec.entry_text (drop l.entry-index l.entries) ≡ l.fn.text.items ++ flat_map spec.entry_text l.entries
