use Rattle.fb_types.proofs.Common.{◌<◌, ◌++◌, ℕ, List, [], sym, ap, ◌∙◌, subst, append-nil, system_of, path_at}
use Rattle.fb_coverage.specs.Connected.{is_in}
use Rattle.fb_coverage.specs.Reports.{ports_text, unconnected_ports, word_of}
use Rattle.fb_coverage.specs.declared.group.Group.TheVariants.{Unconnected}
use Rattle.fb_coverage.proofs.lemmas.Basics.{none_unless, some_unless}
use Rattle.fb_coverage.proofs.lemmas.Listed.{here_is, listed_next}
use Rattle.fb_coverage.proofs.port_report.put_all_unconnected.Goals as goal

pub loop-index-preserved-then-is_some : goal.loop-index-preserved-then-is_some
loop-index-preserved-then-is_some c =
    let lib = c.args.system.now.library in
    let sys = system_of c.args.system.now in
    let m = c.args.marks.now in
    let i = c.loop-index.index in
    let text = c.loop-index.text.items in
    let within = subst (λ (n : ℕ). i < n) c.count-index-end.ensures c.loop-index-test.true in
    let nothing = none_unless c.basic_of.result _ c.basic_of.ensures (sym c.is_some.ensures ∙ c.if-is_some.true) _ in
    listed_next (unconnected_ports lib sys m) sys.paths i (path_at sys i) text text _ within (here_is sys.paths i [] within)
    (sym (append-nil text) ∙ ap (λ (t : List ℕ). text ++ t) (sym nothing)) c.loop-index.invariant

pub loop-index-preserved : goal.loop-index-preserved
loop-index-preserved c =
    let lib = c.args.system.now.library in
    let sys = system_of c.args.system.now in
    let m = c.args.marks.now in
    let i = c.loop-index.index in
    let p = path_at sys i in
    let counts = is_in Unconnected lib sys p in
    let text = c.loop-index.text.items in
    let within = subst (λ (n : ℕ). i < n) c.count-index-end.ensures c.loop-index-test.true in
    listed_next (unconnected_ports lib sys m) sys.paths i p text c.put_ports.new.text.items _ within (here_is sys.paths i [] within)
    (c.in_ok-put_ports.ensures
    ∙ ap (λ (w : List ℕ). text ++ ports_text counts w m i c.ports.result.now) (c.as_slice.ensures.value ∙ c.in_ok-word.ensures)
    ∙ ap (λ its. text ++ ports_text counts (word_of p) m i its) c.ports.ensures
    ∙ ap (λ (t : List ℕ). text ++ t) (sym (some_unless c.basic_of.result _ c.basic_of.ensures (sym c.is_some.ensures ∙ c.if-is_some.false) _)))
    c.loop-index.invariant
