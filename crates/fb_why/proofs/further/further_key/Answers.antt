use Rattle.std.proofs.Common.{◌∙◌, Bor, List, map, Some, ap, sym}
use Rattle.std.specs.Map.Iter.{deref_pair}
use Rattle.std.proofs.lemmas.Map.Iter.{rest_all, rest_more}
use Rattle.fb_deploy_positions.specs.Values.{Text}
use Rattle.fb_why.specs.FurtherKeys.{is_among}
use Rattle.fb_why.proofs.lemmas.FurtherKeys.{is_further, none_further, passed}
use Rattle.fb_why.proofs.further.further_key.Goals as goal

abbrev names : List (Bor Text) → List Text
names known = map (λ (k : Bor Text). k.now) known

pub returns-then-not-is_among : goal.returns-then-not-is_among
returns-then-not-is_among c =
    let known = names c.args.known.now in
    let step = rest_more deref_pair c.loop-key.key-iterator c.next.new.self c.next.result (c.in-Some.key, c.in-Some.field-0-1) c.in-Some.is c.next.ensures.steps in
    let other = ap (is_among known) (sym c.as_str.ensures.value) ∙ sym c.is_among.ensures ∙ c.if-not-is_among.true in
    ap (λ (t : Text). Some t) c.as_str-then-not-is_among.ensures.value
    ∙ sym (c.loop-key.invariant ∙ is_further known c.loop-key.key-iterator c.next.new.self c.in-Some.key.now c.in-Some.field-0-1.now step other)

pub loop-key-preserved : goal.loop-key-preserved
loop-key-preserved c =
    let known = names c.args.known.now in
    let step = rest_more deref_pair c.loop-key.key-iterator c.next.new.self c.next.result (c.in-Some.key, c.in-Some.field-0-1) c.in-Some.is c.next.ensures.steps in
    let among = ap (is_among known) (sym c.as_str.ensures.value) ∙ sym c.is_among.ensures ∙ c.if-not-is_among.false in
    c.loop-key.invariant ∙ passed known c.loop-key.key-iterator c.next.new.self c.in-Some.key.now c.in-Some.field-0-1.now step among

pub returns : goal.returns
returns c =
    sym (c.loop-key.invariant ∙ none_further (names c.args.known.now) c.loop-key.key-iterator (rest_all deref_pair c.loop-key.key-iterator c.next.new.self c.next.result c.in-None.is c.next.ensures.steps))
