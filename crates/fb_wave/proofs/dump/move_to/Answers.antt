use Rattle.fb_wave.proofs.lemmas.Common.{◌++◌, sizes_of, fires_of, has_signal, touches_of}
use Rattle.fb_wave.proofs.lemmas.Showing.{turn_next, turn_same}
use Rattle.fb_wave.proofs.lemmas.Handing.{on_ok}
use Rattle.fb_wave.proofs.dump.move_to.Goals as goal

pub returns-then-tick-shown-clause-turned : goal.returns-then-tick-shown-clause-turned
returns-then-tick-shown-clause-turned c sys ls sent t =
    turn_same sys ls (sent ++ c.args.text.now.items) c.args.shown c.args.tick c.args.levels.now c.if-tick-shown.true t

pub returns-clause-turned : goal.returns-clause-turned
returns-clause-turned c sys ls sent t =
    on_ok c.put_time.result _ _ c.put_time.ensures
    (λ e.
    turn_next sys ls sent c.args.text.now.items c.put_changes.new.text.items c.put_time.new.text.items c.args.shown c.args.tick c.args.levels.now c.put_changes.new.levels
    c.if-tick-shown.false t
    (c.in_ok-put_changes.ensures.text (sizes_of sys sys.paths) (fires_of sys ls) (has_signal sys ls) (touches_of sys t.now) t.levels)
    e
    (c.in_ok-put_changes.ensures.levels (sizes_of sys sys.paths) (fires_of sys ls) (has_signal sys ls) (touches_of sys t.now) t.levels))
