use Rattle.fb_types.proofs.Common.{ℕ, List, length, ap, subst, arith, Consumes}
use Rattle.std.specs.Io.{appended_bytes}
use Rattle.fb_wave.proofs.copy.next_line.Goals as goal

pub returns-clause-read : goal.returns-clause-read
returns-clause-read g c =
    subst (λ (l : List ℕ). Consumes (g.R.Read.remaining c.args.input.now) (g.R.Read.remaining c.read_until.new.self) (appended_bytes l c.read_until.new.buf.items)) c.clear.ensures.items
    c.in_ok-read_until.ensures.none_lost

pub returns-clause-end : goal.returns-clause-end
returns-clause-end g c none =
    c.in_ok-read_until.ensures.end (omega (arith, c.in_ok-read_until.ensures.ok, ap length none, c.read_until.new.buf.ok.0))
