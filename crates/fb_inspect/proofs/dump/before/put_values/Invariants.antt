use Rattle.fb_inspect.proofs.lemmas.Common.{◌≡◌, ◌++◌, drop, Name, values_of, listed, Seen}
use Rattle.fb_inspect.specs.dump.Inner.{hidden_begun}
use Rattle.fb_inspect.proofs.dump.before.put_values.Given as goal

-- with what the rest adds, all is there
abbrev pub invariant-loop-index : goal.invariant-loop-index
invariant-loop-index l =
    (s : Seen) → ((n : Name) → s.variables n ≡ values_of l.frame n)
    → l.text.items ++ listed (hidden_begun l.instance s) l.index (drop l.index l.variables) ≡ l.fn.text.items ++ listed (hidden_begun l.instance s) 0 l.variables
