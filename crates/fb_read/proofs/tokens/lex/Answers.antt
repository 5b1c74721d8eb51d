use Rattle.fb_read.proofs.lemmas.Common.{rules, ◌≡◌, ◌<◌, Some, None, length, arith, common_steps, err_from_is_err_and, skip, start}
use Rattle.fb_read.proofs.lemmas.tokens.TextEnds.{end-at, end-drop, end-end, end-length, skip-end}
use Rattle.fb_read.proofs.lemmas.tokens.TokenLaws.{begun, ended, one_more, unclosed, faulty}
use Rattle.fb_read.proofs.tokens.lex.Goals as goal

pub tokens-init : goal.tokens-init
tokens-init c = record { reading = begun _ _ _ c.new-found.ensures c.after_mark-rest.ensures.value; end = c.after_mark-rest.ensures.end; within = end-length _ c.args.text.now c.after_mark-rest.ensures.end; few = let short = end-length _ c.args.text.now c.after_mark-rest.ensures.end in grind (arith, common_steps) }

pub unclosed-requires : goal.unclosed-requires
unclosed-requires c = record { end = c.tokens.invariant.end; none = search rules }

pub returns-in_default-clause-fault : goal.returns-in_default-clause-fault
returns-in_default-clause-fault c =
    let h : skip start c.tokens.rest.now ≡ None = search rules in
    unclosed _ c.args.text.now c.tokens.rest.now _ c.requires c.tokens.invariant.reading h c.unclosed.ensures

pub returns-then-is_empty-clause-found : goal.returns-then-is_empty-clause-found
returns-then-is_empty-clause-found c =
    let h : skip start c.tokens.rest.now ≡ Some c.in-Some.here.now = search rules in
    let none : length c.in-Some.here.now ≡ 0 = grind (arith, common_steps) in
    ended _ c.args.text.now c.tokens.rest.now c.in-Some.here.now c.tokens.invariant.reading h none

pub overflow_sub-index : goal.overflow_sub-index
overflow_sub-index c =
    let h : skip start c.tokens.rest.now ≡ Some c.in-Some.here.now = search rules in
    let e = skip-end start c.tokens.rest.now c.in-Some.here.now h in
    end-length c.in-Some.here.now c.args.text.now (end-end c.in-Some.here.now c.tokens.rest.now c.args.text.now e c.tokens.invariant.end)

pub token_at-requires : goal.token_at-requires
token_at-requires c =
    let h : skip start c.tokens.rest.now ≡ Some c.in-Some.here.now = search rules in
    let e = skip-end start c.tokens.rest.now c.in-Some.here.now h in
    let l = end-length c.in-Some.here.now c.args.text.now (end-end c.in-Some.here.now c.tokens.rest.now c.args.text.now e c.tokens.invariant.end) in
    let some : 0 < length c.in-Some.here.now = grind (arith, common_steps) in
    omega arith

pub returns-in_err-token-clause-fault : goal.returns-in_err-token-clause-fault
returns-in_err-token-clause-fault c =
    let h : skip start c.tokens.rest.now ≡ Some c.in-Some.here.now = search rules in
    let e = end-end c.in-Some.here.now c.tokens.rest.now c.args.text.now (skip-end start c.tokens.rest.now c.in-Some.here.now h) c.tokens.invariant.end in
    let l = end-length c.in-Some.here.now c.args.text.now e in
    let some : 0 < length c.in-Some.here.now = grind (arith, common_steps) in
    let p = err_from_is_err_and c.from_residual.result c.from_residual.ensures.1 in
    rw (p.1, p.2) (faulty _ c.args.text.now c.tokens.rest.now c.in-Some.here.now _ _ c.requires c.tokens.invariant.reading h some (end-at c.in-Some.here.now c.args.text.now e) (omega arith) c.in_err-token.ensures.fault)

pub tokens-preserved : goal.tokens-preserved
tokens-preserved c =
    let h : skip start c.tokens.rest.now ≡ Some c.in-Some.here.now = search rules in
    let e = end-end c.in-Some.here.now c.tokens.rest.now c.args.text.now (skip-end start c.tokens.rest.now c.in-Some.here.now h) c.tokens.invariant.end in
    record {
      reading = one_more c.tokens.found c.push.new.self _ c.args.text.now c.tokens.rest.now c.in-Some.here.now c.split_at.result.1.now c.in_ok-token.len c.in_ok-push.ensures.ok c.split_at.ensures.back
          c.tokens.invariant.reading h c.in_ok-token.ensures.value (end-at c.in-Some.here.now c.args.text.now e);
      end = rw c.split_at.ensures.back (end-end _ c.in-Some.here.now c.args.text.now (end-drop c.in_ok-token.len c.in-Some.here.now) e);
      within = grind (arith, common_steps);
      few = grind (arith, common_steps);
    }
