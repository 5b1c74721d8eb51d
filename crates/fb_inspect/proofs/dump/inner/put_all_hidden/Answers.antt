use Rattle.std.proofs.Common.{ℕ, Bor, arith}
use Rattle.fb_types.specs.declared.library.Variable.{Variable}
use Rattle.fb_coverage.proofs.lemmas.Listed.{listed_done, listed_next}
use Rattle.fb_inspect.specs.dump.Inner.{hidden_declared}
use Rattle.fb_inspect.proofs.dump.inner.put_all_hidden.Goals as goal

pub loop-index-preserved : goal.loop-index-preserved
loop-index-preserved c =
    listed_next (λ (k : ℕ) (v : Bor Variable). hidden_declared c.args.instance k v.now) c.args.variables.now c.loop-index.index c.index-variables-index.result c.loop-index.text.items c.put_hidden.new.text.items _ (omega arith)
    c.index-variables-index.is c.in_ok-put_hidden.ensures c.loop-index.invariant

pub returns : goal.returns
returns c =
    listed_done (λ (k : ℕ) (v : Bor Variable). hidden_declared c.args.instance k v.now) c.args.variables.now c.loop-index.index c.loop-index.text.items _ (omega arith) c.loop-index.invariant
