use Rattle.fb_inspect.proofs.lemmas.Common.{ℕ, ◌<◌, List, ◌++◌, length, sym, ap, ◌∙◌, append-nil, arith, system_of, path_at, opening_look}
use Rattle.fb_inspect.specs.dump.Inner.{chart_begun}
use Rattle.fb_inspect.proofs.lemmas.dump.Changing.{chart_text, no_chart_text}
use Rattle.fb_inspect.proofs.lemmas.dump.Heading.{insides_on}
use Rattle.fb_inspect.proofs.dump.head.put_insides_begun.Goals as goal
use Rattle.fb_inspect.proofs.dump.head.put_insides_begun.Goals.{in-Some+in_ok-put_inside, in_default}

pub put_inside-requires : goal.put_inside-requires
put_inside-requires c = (c.in-Some.ensures.some (opening_look (system_of c.args.system.now)) c.requires).1.chart.hidden

pub loop-index-preserved : goal.loop-index-preserved
loop-index-preserved c =
    let sys = system_of c.args.system.now in
    let i = c.loop-index.index in
    let p = path_at sys i in
    let old = c.loop-index.text.items in
    let s = (opening_look sys).blocks p in
    let within : i < length sys.paths = omega arith in
    elim c.match-inside_of.branch [
      | in-Some+in_ok-put_inside w ↦
          let x = w.in-Some.inside in
          let one = w.in-Some.ensures.some (opening_look sys) c.requires in
          rw w.text-is
          (insides_on sys i old w.put_inside.new.text.items _ within
          (w.in_ok-put_inside.ensures s one.1
          ∙ ap (λ (k : ℕ). old ++ chart_begun k s x.block.now) (sym (c.facts.ensures.numbered i within))
          ∙ ap (λ (t : List ℕ). old ++ t) (sym (chart_text (chart_begun (sys.number p) s) (sys.kind p) x.block.now one.0)))
          c.loop-index.invariant)
      | in_default w ↦
          rw w.text-is
          (insides_on sys i old old _ within
          (sym (append-nil old) ∙ ap (λ (t : List ℕ). old ++ t) (sym (no_chart_text (chart_begun (sys.number p) s) (sys.kind p) (w.in_default.ensures.none (opening_look sys) c.requires))))
          c.loop-index.invariant)
    ]
