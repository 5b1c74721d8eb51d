use Rattle.fb_wave.specs.CutOff.{cut_comment}
use Rattle.fb_wave.proofs.lemmas.Common.{sizes_of, fires_of, has_signal, touches_of}
use Rattle.fb_wave.proofs.lemmas.Showing.{sets_cut}
use Rattle.fb_wave.proofs.lemmas.Handing.{on_put}
use Rattle.fb_wave.proofs.dump.Dump.cut_off.Goals as goal

pub returns : goal.returns
returns c sys ls sent t =
    on_put c.extend_from_slice.result _ _ _ _ c.extend_from_slice.ensures.items
    (sets_cut sys ls sent c.args.text.now.items c.put_changes.new.text.items _ cut_comment c.args.self.now.tick c.args.self.now.signals.levels t
    (c.in_ok-put_changes.ensures.text (sizes_of sys sys.paths) (fires_of sys ls) (has_signal sys ls) (touches_of sys t.now) t.levels))
