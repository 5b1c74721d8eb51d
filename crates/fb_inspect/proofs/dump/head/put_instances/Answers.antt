use Rattle.fb_inspect.proofs.lemmas.Common.{◌≡◌, ◌<◌, ℕ, ◌+◌, ◌-◌, List, ◌++◌, drop, length, sym, ap, ◌∙◌, append-nil, append_assoc, arith, true, system_of, path_at, ports_at, instances_opened}
use Rattle.fb_wave.specs.Scopes.{closed, opened, own_name, ports_declared}
use Rattle.fb_wave.specs.Signals.{first_signal}
use Rattle.fb_inspect.specs.dump.Inner.{chart_declared, inner_declared}
use Rattle.fb_inspect.proofs.lemmas.dump.Changing.{chart_text, no_chart_text}
use Rattle.fb_inspect.proofs.lemmas.dump.Heading.{opened_on, opened_past, whole_declared}
use Rattle.fb_inspect.proofs.dump.head.put_instances.Goals as goal
use Rattle.fb_inspect.proofs.dump.head.put_instances.Goals.{then-resource+in_ok-depth+in-Some+in_ok-put_chart, then-resource+in_ok-depth+in_default, else-resource}

pub loop-index-preserved : goal.loop-index-preserved
loop-index-preserved c =
    let sys = system_of c.args.system.now in
    let i = c.loop-index.index in
    let p = path_at sys i in
    let r = c.args.resource in
    let depth = c.loop-index.depth in
    let text = c.loop-index.text.items in
    let within : i < length sys.paths = omega arith in
    let ports : List ℕ = closed (depth + 1 - length p) ++ opened (own_name p) ++ ports_declared (first_signal sys i) (ports_at sys p) in
    let inside : List ℕ = inner_declared sys p in
    -- what is put of an instance, after its ports
    let whole : (put all : List ℕ) → put ≡ text ++ ports → all ≡ put ++ inside → all ≡ text ++ whole_declared sys depth (first_signal sys i) p =
    λ put all first last. last ∙ ap (λ (t : List ℕ). t ++ inside) first ∙ append_assoc text ports inside in
    elim c.if-resource.branch [
      | then-resource+in_ok-depth+in-Some+in_ok-put_chart w ↦
          let put = w.put_instance.new.text.items in
          let all = w.put_chart.new.text.items in
          rw (w.text-is, w.depth-is)
          (ap (λ (k : ℕ). all ++ instances_opened true sys r k (first_signal sys (i + 1)) (drop (i + 1) sys.paths)) w.in_ok-depth.ensures.height
          ∙ opened_on sys r depth i text all _ within (sym c.resource.ensures ∙ w.if-resource.true)
          (whole put all w.in_ok-depth.ensures.text
          (w.in_ok-put_chart.ensures ∙ ap (λ (k : ℕ). put ++ chart_declared k w.in-Some.block.now) (sym (c.facts.ensures.numbered i within))
          ∙ ap (λ (t : List ℕ). put ++ t) (sym (chart_text (chart_declared (sys.number p)) (sys.kind p) w.in-Some.block.now w.in-Some.ensures.basic))))
          c.loop-index.invariant)
      | then-resource+in_ok-depth+in_default w ↦
          let put = w.put_instance.new.text.items in
          rw (w.text-is, w.depth-is)
          (ap (λ (k : ℕ). put ++ instances_opened true sys r k (first_signal sys (i + 1)) (drop (i + 1) sys.paths)) w.in_ok-depth.ensures.height
          ∙ opened_on sys r depth i text put _ within (sym c.resource.ensures ∙ w.if-resource.true)
          (whole put put w.in_ok-depth.ensures.text
          (sym (append-nil put) ∙ ap (λ (t : List ℕ). put ++ t) (sym (no_chart_text (chart_declared (sys.number p)) (sys.kind p) w.in_default.ensures.other))))
          c.loop-index.invariant)
      | else-resource w ↦
          rw (w.text-is, w.depth-is)
          (opened_past sys r depth i text _ within (λ e. w.if-resource.false (c.resource.ensures ∙ e)) c.loop-index.invariant)
    ]
