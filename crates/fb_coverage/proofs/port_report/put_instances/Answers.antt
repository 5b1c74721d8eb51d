use Rattle.fb_types.proofs.Common.{◌≡◌, ◌<◌, ◌++◌, ℕ, List, [], codes, sym, ap, ◌∙◌, subst, append-nil, system_of, path_at, ports_at, path_text}
use Rattle.fb_coverage.specs.Connected.{is_in}
use Rattle.fb_coverage.specs.Reports.{instance_text, ports_text, titled}
use Rattle.fb_coverage.specs.declared.group.Group.TheVariants.{Connected}
use Rattle.fb_coverage.proofs.lemmas.Basics.{none_unless, some_unless}
use Rattle.fb_coverage.proofs.lemmas.Listed.{here_is, listed_next}
use Rattle.fb_coverage.proofs.port_report.put_instances.Goals as goal

pub loop-index-preserved-then-is_some : goal.loop-index-preserved-then-is_some
loop-index-preserved-then-is_some c =
    let lib = c.args.system.now.library in
    let sys = system_of c.args.system.now in
    let m = c.args.marks.now in
    let i = c.loop-index.index in
    let text = c.loop-index.text.items in
    let within = subst (λ (n : ℕ). i < n) c.count-index-end.ensures c.loop-index-test.true in
    let nothing = none_unless c.basic_of.result _ c.basic_of.ensures (sym c.is_some.ensures ∙ c.if-is_some.true) _ in
    listed_next (instance_text lib sys m) sys.paths i (path_at sys i) text text _ within (here_is sys.paths i [] within)
    (sym (append-nil text) ∙ ap (λ (t : List ℕ). text ++ t) (sym nothing)) c.loop-index.invariant

pub loop-index-preserved : goal.loop-index-preserved
loop-index-preserved c =
    let lib = c.args.system.now.library in
    let sys = system_of c.args.system.now in
    let m = c.args.marks.now in
    let i = c.loop-index.index in
    let p = path_at sys i in
    let counts = is_in Connected lib sys p in
    let text = c.loop-index.text.items in
    let within = subst (λ (n : ℕ). i < n) c.count-index-end.ensures c.loop-index-test.true in
    let part : c.as_slice.result.now ≡ ports_text counts (codes "  event ") m i (ports_at sys p) =
    c.as_slice.ensures.value ∙ c.in_ok-put_ports.ensures ∙ ap (λ (t : List ℕ). t ++ ports_text counts (codes "  event ") m i c.ports.result.now) c.new-part.ensures.items
    ∙ ap (ports_text counts (codes "  event ") m i) c.ports.ensures
    in
    listed_next (instance_text lib sys m) sys.paths i p text c.put_titled.new.text.items _ within (here_is sys.paths i [] within)
    (c.in_ok-put_titled.ensures
    ∙ ap (λ (n : List ℕ). text ++ titled (codes "instance ") n c.as_slice.result.now) c.path.ensures
    ∙ ap (λ (t : List ℕ). text ++ titled (codes "instance ") (path_text p) t) part
    ∙ ap (λ (t : List ℕ). text ++ t) (sym (some_unless c.basic_of.result _ c.basic_of.ensures (sym c.is_some.ensures ∙ c.if-is_some.false) _)))
    c.loop-index.invariant
