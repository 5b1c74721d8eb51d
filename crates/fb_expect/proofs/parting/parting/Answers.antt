use Rattle.std.proofs.Common.{rules, ◌≡◌, ℕ, ◌+◌, ◌-◌, length, ap₂, subst, sym, ◌∙◌, arith}
use Rattle.std.proofs.lemmas.Result.{err_from_is_err_and}
use Rattle.fb_expect.specs.Parting.{AreAlike, HasPassed, are_alike}
use Rattle.fb_expect.proofs.lemmas.texts.LinesOfTwo.{alike, counted-all, ended, nothing, parted, passed-one, unlike, unread-first, unread-second}
use Rattle.fb_expect.proofs.parting.parting.Goals as goal

pub returns-then-not-are_alike-clause-found : goal.returns-then-not-are_alike-clause-found
returns-then-not-are_alike-clause-found g c =
    let w = c.args.is_without_ticks in
    parted w (c.loop-number.number - 1) c.loop-number.number (g.R.Read.remaining c.args.first.now) (g.S.Read.remaining c.args.second.now) (g.R.Read.remaining c.loop-number.first)
    (g.S.Read.remaining c.loop-number.second) (g.R.Read.remaining c.read_line.new.input) (g.S.Read.remaining c.read_line-in-loop-number.new.input) c.read_line.new.line.items
    c.read_line-in-loop-number.new.line.items (let low = c.loop-number.auto.number in omega (arith, low)) c.loop-number.invariant
    (record { line_is = c.in_ok-read_line.ensures.line; rest_is = c.in_ok-read_line.ensures.rest })
    (record { line_is = c.in_ok-read_line-2.ensures.line; rest_is = c.in_ok-read_line-2.ensures.rest })
    (unlike w c.read_line.new.line.items c.read_line-in-loop-number.new.line.items
    (sym (ap₂ (are_alike w) c.as_slice.ensures.value c.as_slice-in-loop-number.ensures.value) ∙ sym c.are_alike.ensures ∙ c.if-not-are_alike.true))

pub loop-number-preserved : goal.loop-number-preserved
loop-number-preserved g c =
    let w = c.args.is_without_ticks in
    let a = g.R.Read.remaining c.args.first.now in
    let b = g.S.Read.remaining c.args.second.now in
    let a-new = g.R.Read.remaining c.read_line.new.input in
    let b-new = g.S.Read.remaining c.read_line-in-loop-number.new.input in
    let n = c.loop-number.number - 1 in
    let same : AreAlike w c.read_line.new.line.items c.read_line-in-loop-number.new.line.items =
    alike w c.read_line.new.line.items c.read_line-in-loop-number.new.line.items
    (sym (ap₂ (are_alike w) c.as_slice.ensures.value c.as_slice-in-loop-number.ensures.value) ∙ sym c.are_alike.ensures ∙ c.if-not-are_alike.false)
    in
    let more : c.loop-number.number - 1 + 1 ≡ c.loop-number.number + 1 - 1 = (let low = c.loop-number.auto.number in omega (arith, low)) in
    subst (λ (k : ℕ). HasPassed w k a b a-new b-new) more
    (passed-one w n a b (g.R.Read.remaining c.loop-number.first) (g.S.Read.remaining c.loop-number.second) a-new b-new c.read_line.new.line.items
    c.read_line-in-loop-number.new.line.items c.loop-number.invariant (record { line_is = c.in_ok-read_line.ensures.line; rest_is = c.in_ok-read_line.ensures.rest })
    (record { line_is = c.in_ok-read_line-2.ensures.line; rest_is = c.in_ok-read_line-2.ensures.rest }) same)

pub returns-then-is_empty-2-clause-found : goal.returns-then-is_empty-2-clause-found
returns-then-is_empty-2-clause-found g c =
    let left : length c.read_line.new.line.items ≡ 0 = search rules in
    let right : length c.read_line-in-loop-number.new.line.items ≡ 0 = search rules in
    ended c.args.is_without_ticks (c.loop-number.number - 1) (g.R.Read.remaining c.args.first.now) (g.S.Read.remaining c.args.second.now) (g.R.Read.remaining c.loop-number.first)
    (g.S.Read.remaining c.loop-number.second) c.read_line.new.line.items c.read_line-in-loop-number.new.line.items c.loop-number.invariant
    (c.in_ok-read_line.ensures.end (nothing c.read_line.new.line.items left)) (c.in_ok-read_line-2.ensures.end (nothing c.read_line-in-loop-number.new.line.items right))

pub returns-in_err-read_line-clause-unread : goal.returns-in_err-read_line-clause-unread
returns-in_err-read_line-clause-unread g c =
    let fault = c.in_err-read_line.ensures.fault in
    let p = err_from_is_err_and c.from_residual.result c.from_residual.ensures.1 in
    rw (p.1, p.2)
    (unread-first c.args.is_without_ticks (c.loop-number.number - 1) (g.R.Read.remaining c.args.first.now) (g.S.Read.remaining c.args.second.now)
    (g.R.Read.remaining c.loop-number.first) (g.S.Read.remaining c.loop-number.second) (g.R.Read.remaining c.read_line.new.input) c.read_line.new.line.items fault.0
    c.in_err-read_line.field-0.0 c.loop-number.invariant c.in_err-read_line.ensures.part fault.1)

pub returns-in_err-read_line-2-clause-unread : goal.returns-in_err-read_line-2-clause-unread
returns-in_err-read_line-2-clause-unread g c =
    let fault = c.in_err-read_line-2.ensures.fault in
    let p = err_from_is_err_and c.from_residual-in_err-read_line-2.result c.from_residual-in_err-read_line-2.ensures.1 in
    rw (p.1, p.2)
    (unread-second c.args.is_without_ticks (c.loop-number.number - 1) (g.R.Read.remaining c.args.first.now) (g.S.Read.remaining c.args.second.now)
    (g.R.Read.remaining c.loop-number.first) (g.S.Read.remaining c.loop-number.second) (g.R.Read.remaining c.read_line.new.input)
    (g.S.Read.remaining c.read_line-in-loop-number.new.input) c.read_line.new.line.items c.read_line-in-loop-number.new.line.items fault.0 c.in_err-read_line-2.field-0.0 c.loop-number.invariant
    (record { line_is = c.in_ok-read_line.ensures.line; rest_is = c.in_ok-read_line.ensures.rest }) c.in_err-read_line-2.ensures.part fault.1)

pub returns-clause-unread : goal.returns-clause-unread
returns-clause-unread g c =
    counted-all c.args.is_without_ticks (c.loop-number.number - 1) (g.R.Read.remaining c.args.first.now) (g.S.Read.remaining c.args.second.now)
    (g.R.Read.remaining c.loop-number.first) (g.S.Read.remaining c.loop-number.second) c.loop-number.invariant
