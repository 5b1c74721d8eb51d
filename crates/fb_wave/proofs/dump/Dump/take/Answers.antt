use Rattle.fb_wave.proofs.lemmas.Common.{◌++◌, ◌∙◌, system_of, sizes_of, fires_of, has_signal, touches_of}
use Rattle.fb_wave.proofs.lemmas.Showing.{sets_more}
use Rattle.fb_wave.proofs.lemmas.Handing.{on_any, on_ok}
use Rattle.fb_wave.proofs.dump.Dump.take.Goals as goal

pub show-requires-clause-signals : goal.show-requires-clause-signals
show-requires-clause-signals c = record { firsts = c.requires.dump.firsts; counted = c.in_ok-move_to.ensures.counted ∙ c.requires.dump.counted }

pub returns-clause-numbers : goal.returns-clause-numbers
returns-clause-numbers c = on_any c.show.result _ c.show.ensures.signals

pub returns-clause-shown : goal.returns-clause-shown
returns-clause-shown c ls sent t =
    let sys = system_of c.args.system.now in
    let u = c.in_ok-move_to.ensures.turned sys ls sent t in
    on_ok c.show.result _ _ (c.show.ensures.levels (sizes_of sys sys.paths) (fires_of sys ls) (has_signal sys ls) (touches_of sys u.now) u.levels)
    (λ shown. sets_more sys ls (sent ++ c.move_to.new.text.items) c.args.line.now c.move_to.new.levels c.show.new.self.levels u shown)
