use Rattle.std.proofs.Common.{◌≡◌, ◌++◌, ℕ, Bor, drop}
use Rattle.fb_types.specs.declared.library.Variable.{Variable}
use Rattle.fb_coverage.specs.Listed.{listed}
use Rattle.fb_inspect.specs.dump.Inner.{hidden_declared}
use Rattle.fb_inspect.proofs.dump.inner.put_all_hidden.Given as goal

-- with what the rest adds, all is there
abbrev pub invariant-loop-index : goal.invariant-loop-index
invariant-loop-index l =
    let declared = λ (k : ℕ) (v : Bor Variable). hidden_declared l.instance k v.now in
    l.text.items ++ listed declared l.index (drop l.index l.variables) ≡ l.fn.text.items ++ listed declared 0 l.variables
