use Rattle.fb_types.proofs.Common.{◌≡◌, ◌<◌, ◌+◌, length, vec_len, sym, ◌∙◌, eqb-false, eqb-true, nil_from_length, IfSome}
use Rattle.fb_inspect.specs.Refusals.{IsRefusalAfter}
use Rattle.fb_inspect.specs.walk.Walking.{unread}
use Rattle.fb_inspect.proofs.lemmas.dump.Ending.{end_left, more_left, some_left}
use Rattle.fb_inspect.proofs.lemmas.results.Refused.{none_passed, refused_then}
use Rattle.fb_inspect.proofs.walk.reading.Reading.finish.Goals as goal

pub returns-then-not-is_empty-clause-refused : goal.returns-then-not-is_empty-clause-refused
returns-then-not-is_empty-clause-refused g c =
    let text = c.args.ahead.now.text in
    let r = unread c.args.ahead.now (g.R.Read.remaining c.args.input.now) in
    let some = some_left text.items (g.R.Read.remaining c.args.input.now) (λ none. eqb-false (vec_len text) 0 (sym c.is_empty.ensures ∙ c.if-not-is_empty.true) (text.ok.0 ∙ none)) in
    refused_then c.refusal_after.result (IsRefusalAfter c.args.self.now.number) (λ n. IsRefusalAfter c.args.self.now.number n × IfSome r (λ rest. 0 < length rest)) c.refusal_after.ensures (λ n is. (is, some))

pub returns-in_err-is_all_read-clause-refused : goal.returns-in_err-is_all_read-clause-refused
returns-in_err-is_all_read-clause-refused g c =
    none_passed _ _ _ c.from_residual.ensures.1 c.in_err-is_all_read.ensures.fault

pub returns-then-branch-clause-over : goal.returns-then-branch-clause-over
returns-then-branch-clause-over g c =
    let text = c.args.ahead.now.text in
    end_left text.items (g.R.Read.remaining c.args.input.now)
    (nil_from_length text.items (sym text.ok.0 ∙ eqb-true (vec_len text) 0 (sym c.is_empty.ensures ∙ c.if-not-is_empty.false))) (c.in_ok-is_all_read.ensures.over c.if-branch.true)

pub returns-else-branch-clause-refused : goal.returns-else-branch-clause-refused
returns-else-branch-clause-refused g c =
    let text = c.args.ahead.now.text in
    let r = unread c.args.ahead.now (g.R.Read.remaining c.args.input.now) in
    let more = more_left text.items (g.R.Read.remaining c.args.input.now)
    (nil_from_length text.items (sym text.ok.0 ∙ eqb-true (vec_len text) 0 (sym c.is_empty.ensures ∙ c.if-not-is_empty.false))) (c.in_ok-is_all_read.ensures.more c.if-branch.false) in
    refused_then c.refusal_after-else-branch.result (IsRefusalAfter c.args.self.now.number) (λ n. IsRefusalAfter c.args.self.now.number n × IfSome r (λ rest. 0 < length rest)) c.refusal_after-else-branch.ensures (λ n is. (is, more))
