use Rattle.fb_inspect.proofs.lemmas.Common.{◌≡◌, ◌++◌, drop, map, Name, values_of, listed, Seen, hidden_change}
use Rattle.fb_inspect.proofs.dump.before.put_value_changes.Given as goal

-- with what the rest adds, all is there
abbrev pub invariant-loop-index : goal.invariant-loop-index
invariant-loop-index l =
    (a b : Seen) → l.before ≡ map a.variables l.variables → ((n : Name) → b.variables n ≡ values_of l.frame n)
    → l.text.items ++ listed (hidden_change l.instance a b) l.index (drop l.index l.variables) ≡ l.fn.text.items ++ listed (hidden_change l.instance a b) 0 l.variables
