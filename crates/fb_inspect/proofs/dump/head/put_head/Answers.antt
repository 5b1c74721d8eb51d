use Rattle.fb_inspect.proofs.lemmas.Common.{◌≡◌, ◌<◌, ℕ, List, ◌++◌, ap, arith, codes, length, ◌∙◌, append_assoc, true, system_of, line, insides_begun, resources_opened}
use Rattle.fb_wave.specs.Scopes.{instances_begun}
use Rattle.fb_wave.proofs.lemmas.Handing.{on_ok, on_put}
use Rattle.fb_inspect.proofs.lemmas.dump.Heading.{resources_done, resources_on}
use Rattle.fb_inspect.proofs.lemmas.results.Joined.{both_put}
use Rattle.fb_inspect.proofs.dump.head.put_head.Goals as goal

regroup : (t s r d z v g i e : List ℕ) → (((((t ++ s) ++ r) ++ (d ++ (z ++ v))) ++ g) ++ i) ++ e ≡ t ++ (((((((s ++ r) ++ d) ++ z) ++ v) ++ g) ++ i) ++ e)
regroup t s r d z v g i e = simp append_assoc

pub loop-resource-preserved : goal.loop-resource-preserved
loop-resource-preserved c =
    let sys = system_of c.args.system.now in
    let r = c.loop-resource.resource in
    let within : r < length sys.resource_names = omega arith in
    resources_on sys r c.resource_name.result.now c.loop-resource.text.items c.put_opened.new.text.items c.put_instances.new.text.items c.put_closed.new.text.items _ within
    c.resource_name.ensures c.in_ok-put_opened.ensures c.in_ok-put_instances.ensures c.in_ok-put_closed.ensures c.loop-resource.invariant

pub returns : goal.returns
returns c =
    let sys = system_of c.args.system.now in
    let text = c.args.text.now.items in
    let scopes : List ℕ = resources_opened true sys 0 sys.resource_names in
    let begun : List ℕ = instances_begun sys 0 sys.paths in
    let insides : List ℕ = insides_begun true sys sys.paths in
    let second = on_put c.extend_from_slice-2.result _ _ _ _ c.extend_from_slice-2.ensures.items (λ e. e) in
    let third = on_put c.extend_from_slice-3.result _ _ _ _ c.extend_from_slice-3.ensures.items (λ e. e) in
    let counted = c.resources-resource-end.ensures in
    let past = c.loop-resource-test.false in
    let first = c.in_ok-extend_from_slice.ensures.items in
    let opened =
    resources_done sys c.loop-resource.resource c.loop-resource.text.items _ (omega (arith, counted, past)) c.loop-resource.invariant ∙ ap (λ (l : List ℕ). l ++ scopes) first in
    let middle : List ℕ = line (codes "$enddefinitions $end") ++ (line (codes "#0") ++ line (codes "$dumpvars")) in
    on_ok c.and-3.result _ _
    (both_put c.and-3.result c.and-2.result c.extend_from_slice-3.result _ _ _ _ c.and-3.ensures
    (both_put c.and-2.result c.and.result c.put_insides_begun.result _ _ _ insides c.and-2.ensures
    (both_put c.and.result c.extend_from_slice-2.result c.put_begun.result _ _ _ begun c.and.ensures second c.put_begun.ensures) c.put_insides_begun.ensures)
    third)
    (λ e. e ∙ ap (λ (l : List ℕ). (((l ++ middle) ++ begun) ++ insides) ++ line (codes "$end")) opened
    ∙ regroup text (line (codes "$timescale 1 ms $end")) scopes (line (codes "$enddefinitions $end")) (line (codes "#0")) (line (codes "$dumpvars")) begun insides (line (codes "$end")))
