use Rattle.fb_inspect.proofs.lemmas.Common.{◌++◌, sizes_of, fires_of, has_signal, touches_of, lines_of}
use Rattle.fb_wave.proofs.lemmas.Handing.{on_put}
use Rattle.fb_inspect.proofs.lemmas.dump.Growing.{shows_cut}
use Rattle.fb_inspect.proofs.dump.port_dump.PortDump.cut_off.Goals as goal

pub returns : goal.returns
returns c sys xs us sent t =
    let ls = lines_of xs ++ us in
    on_put c.extend_from_slice.result _ _ _ _ c.extend_from_slice.ensures.items
    (shows_cut sys xs us sent c.args.text.now.items c.put_changes.new.text.items c.extend_from_slice.new.self.items c.args.self.now t
    (c.in_ok-put_changes.ensures.text (sizes_of sys sys.paths) (fires_of sys ls) (has_signal sys ls) (touches_of sys t.now) t.levels))
