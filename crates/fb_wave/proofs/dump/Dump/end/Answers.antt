use Rattle.fb_wave.proofs.lemmas.Common.{system_of, ending_of, sizes_of, fires_of, has_signal, touches_of}
use Rattle.fb_wave.proofs.lemmas.Showing.{sets_all}
use Rattle.fb_wave.proofs.lemmas.Handing.{on_ok}
use Rattle.fb_wave.proofs.dump.Dump.end.Goals as goal

pub returns : goal.returns
returns c ls sent t =
    let sys = system_of c.args.system.now in
    on_ok c.put_end.result _ _ c.put_end.ensures
    (sets_all sys ls sent c.args.text.now.items c.put_changes.new.text.items c.put_end.new.text.items c.args.self.now.tick (ending_of c.args.end) c.args.self.now.signals.levels t
    (c.in_ok-put_changes.ensures.text (sizes_of sys sys.paths) (fires_of sys ls) (has_signal sys ls) (touches_of sys t.now) t.levels))
