use Rattle.fb_types.proofs.Common.{◌<◌, ℕ, ◌++◌, length, ap, ◌∙◌, arith, system_of, path_at, ports_at}
use Rattle.fb_wave.specs.Scopes.{initial_in, ports_begun}
use Rattle.fb_wave.proofs.lemmas.Heading.{begun_on}
use Rattle.fb_wave.proofs.lemmas.Numbering.{signals_fit}
use Rattle.fb_wave.proofs.head.put_begun.Goals as goal

pub put_instance-requires-clause-first : goal.put_instance-requires-clause-first
put_instance-requires-clause-first c =
    let sys = system_of c.args.system.now in
    let within : c.loop-index.index < length sys.paths = omega arith in
    signals_fit sys c.args.firsts.now c.loop-index.index within c.requires

pub loop-index-preserved : goal.loop-index-preserved
loop-index-preserved c =
    let sys = system_of c.args.system.now in
    let i = c.loop-index.index in
    let p = path_at sys i in
    let text = c.loop-index.text.items in
    let within : i < length sys.paths = omega arith in
    begun_on sys i text c.put_instance.new.text.items _ within
    (c.in_ok-put_instance.ensures ∙ ap (λ (s : ℕ). text ++ ports_begun (initial_in sys p) s (ports_at sys p)) (c.requires.each i (omega (arith, within))))
    c.loop-index.invariant
