use Rattle.fb_inspect.proofs.lemmas.Common.{system_of, ending_of, sizes_of, fires_of, has_signal, touches_of, lines_of}
use Rattle.fb_wave.proofs.lemmas.Handing.{on_ok}
use Rattle.fb_inspect.proofs.lemmas.dump.Growing.{shows_all}
use Rattle.fb_inspect.proofs.dump.port_dump.PortDump.end.Goals as goal

pub returns : goal.returns
returns c xs sent t =
    let sys = system_of c.args.system.now in
    let ls = lines_of xs in
    on_ok c.put_end.result _ _ c.put_end.ensures
    (shows_all sys xs sent c.args.text.now.items c.put_changes.new.text.items c.put_end.new.text.items (ending_of c.args.end) c.args.self.now t
    (c.in_ok-put_changes.ensures.text (sizes_of sys sys.paths) (fires_of sys ls) (has_signal sys ls) (touches_of sys t.now) t.levels))
