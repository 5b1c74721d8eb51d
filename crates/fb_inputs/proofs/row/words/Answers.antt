use Rattle.fb_inputs.proofs.lemmas.Common.{◌≡◌, not, ◌==◌, true, false, List, [], length, nat_eq, drop, sym, ap, ◌∙◌, arith, refl, length_push, err_from_is_err_and, all_after, each_at, fault_of, Text, RowFault}
use Rattle.fb_types.proofs.Common.{rules, filter, slice_split, drop_all}
use Rattle.std.proofs.Common.{tests}
use Rattle.std.proofs.lemmas.Iterator.Splits.{YieldsList-from_slice_split}
use Rattle.std.proofs.lemmas.Iterator.Consumers.{YieldsList-turn, YieldsList-end}
use Rattle.fb_inputs.specs.StimuliLocations.{word_at}
use Rattle.fb_inputs.specs.Rows.{word, words}
use Rattle.fb_inputs.proofs.lemmas.Each.{nothing_before, more_at, fails_at, not_refused, done_at, filter_skips, filter_takes}
use Rattle.fb_inputs.proofs.lemmas.deployments.TableResults.{if-some}
use Rattle.fb_inputs.proofs.row.words.Goals as goal

pub loop-part-init : goal.loop-part-init
unfolding words
loop-part-init c = rw c.new-found.ensures (search (rules, nothing_before))

pub loop-part-preserved-then-is_empty : goal.loop-part-preserved-then-is_empty
loop-part-preserved-then-is_empty c =
    let start = c.into_iter-part-iterator.ensures.into_iter_gives in
    let split = c.split-part-items.ensures in
    let all = YieldsList-from_slice_split _ (nat_eq 32) c.args.text.now (rw start split.rest) (rw start split.done) refl (λ x r q k. search (rules, tests)) in
    let t = YieldsList-turn all c.loop-part.yielded _ c.loop-part.yielded_by _ _ c.in-Some.part c.in-Some.is c.next.ensures.steps in
    let none : not (length c.in-Some.part.now == 0) ≡ false = ap not (sym c.is_empty.ensures ∙ c.if-is_empty.true) in
    let skips = filter_skips (λ w. not (length w == 0)) (slice_split (nat_eq 32) c.args.text.now) (length c.loop-part.yielded) c.in-Some.part.now t none in
    rw (length_push c.loop-part.yielded c.in-Some.part) (c.loop-part.invariant ∙ ap (λ (rest : List Text). all_after c.loop-part.found (each_at word_at word (length c.loop-part.found) rest)) skips)

pub returns-in_err-word : goal.returns-in_err-word
returns-in_err-word c =
    let start = c.into_iter-part-iterator.ensures.into_iter_gives in
    let split = c.split-part-items.ensures in
    let all = YieldsList-from_slice_split _ (nat_eq 32) c.args.text.now (rw start split.rest) (rw start split.done) refl (λ x r q k. search (rules, tests)) in
    let t = YieldsList-turn all c.loop-part.yielded _ c.loop-part.yielded_by _ _ c.in-Some.part c.in-Some.is c.next.ensures.steps in
    let some : not (length c.in-Some.part.now == 0) ≡ true = ap not (sym c.is_empty.ensures ∙ c.if-is_empty.false) in
    let takes = filter_takes (λ w. not (length w == 0)) (slice_split (nat_eq 32) c.args.text.now) (length c.loop-part.yielded) c.in-Some.part.now t some in
    let p = err_from_is_err_and c.from_residual.result c.from_residual.ensures.1 in
    let f = c.in_err-word.field-0.0 in
    rw (p.1, p.2) (if-some (fault_of f) _ _ (λ (why : RowFault) e. fails_at word_at word c.loop-part.found c.in-Some.part.now _ _ why _ takes e c.loop-part.invariant)
    (rw c.len.ensures at c.in_err-word.ensures))

pub loop-part-preserved : goal.loop-part-preserved
loop-part-preserved c =
    let start = c.into_iter-part-iterator.ensures.into_iter_gives in
    let split = c.split-part-items.ensures in
    let all = YieldsList-from_slice_split _ (nat_eq 32) c.args.text.now (rw start split.rest) (rw start split.done) refl (λ x r q k. search (rules, tests)) in
    let t = YieldsList-turn all c.loop-part.yielded _ c.loop-part.yielded_by _ _ c.in-Some.part c.in-Some.is c.next.ensures.steps in
    let some : not (length c.in-Some.part.now == 0) ≡ true = ap not (sym c.is_empty.ensures ∙ c.if-is_empty.false) in
    let takes = filter_takes (λ w. not (length w == 0)) (slice_split (nat_eq 32) c.args.text.now) (length c.loop-part.yielded) c.in-Some.part.now t some in
    rw (c.in_ok-push.ensures.ok, length_push c.loop-part.yielded c.in-Some.part) (more_at word_at word c.loop-part.found c.in-Some.part.now _ _ _ _ takes (not_refused _ _ _ (rw c.len.ensures at c.in_ok-word.ensures)) c.loop-part.invariant)

pub returns : goal.returns
returns c =
    let start = c.into_iter-part-iterator.ensures.into_iter_gives in
    let split = c.split-part-items.ensures in
    let all = YieldsList-from_slice_split _ (nat_eq 32) c.args.text.now (rw start split.rest) (rw start split.done) refl (λ x r q k. search (rules, tests)) in
    let t = YieldsList-end all c.loop-part.yielded _ c.loop-part.yielded_by _ _ c.in-None.is c.next.ensures.steps in
    let last : drop (length c.loop-part.yielded) (slice_split (nat_eq 32) c.args.text.now) ≡ [] = drop_all (length c.loop-part.yielded) (slice_split (nat_eq 32) c.args.text.now) (omega (arith, t.1)) in
    done_at word_at word c.loop-part.found (filter (λ w. not (length w == 0)) (drop (length c.loop-part.yielded) (slice_split (nat_eq 32) c.args.text.now))) _ (rw last (omega arith)) c.loop-part.invariant
