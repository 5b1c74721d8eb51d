use Rattle.fb_inspect.proofs.lemmas.Common.{◌++◌, refl, sizes_of, fires_of, has_signal, touches_of, lines_of, [], List, ℕ, ap, append-nil, append_assoc, sym, ◌∙◌}
use Rattle.fb_inspect.proofs.lemmas.dump.Growing.{up_to_next, up_to_same}
use Rattle.fb_wave.specs.Changes.{time_text}
use Rattle.fb_inspect.proofs.dump.port_dump.PortDump.go_to.Goals as goal

pub returns-then-tick-self-clause-shown : goal.returns-then-tick-self-clause-shown
returns-then-tick-self-clause-shown c sys xs sent t =
    up_to_same sys xs (sent ++ c.args.text.now.items) c.args.tick c.args.self.now c.if-tick-self.true t

pub returns-clause-shown : goal.returns-clause-shown
returns-clause-shown c sys xs sent t =
    let ls = lines_of xs in
    up_to_next sys xs sent c.args.text.now.items c.put_changes.new.text.items c.put_time.new.text.items c.args.tick c.args.self.now _ c.if-tick-self.false t
    (c.in_ok-put_changes.ensures.text (sizes_of sys sys.paths) (fires_of sys ls) (has_signal sys ls) (touches_of sys t.now) t.levels)
    c.in_ok-put_time.ensures
    (c.in_ok-put_changes.ensures.levels (sizes_of sys sys.paths) (fires_of sys ls) (has_signal sys ls) (touches_of sys t.now) t.levels) refl

pub returns-then-tick-self-clause-grows : goal.returns-then-tick-self-clause-grows
returns-then-tick-self-clause-grows c sys xs sent t = ([], sym (append-nil c.args.text.now.items))

pub returns-clause-grows : goal.returns-clause-grows
returns-clause-grows c sys xs sent t =
    let ls = lines_of xs in
    let first = c.in_ok-put_changes.ensures.text (sizes_of sys sys.paths) (fires_of sys ls) (has_signal sys ls) (touches_of sys t.now) t.levels in
    (_, c.in_ok-put_time.ensures ∙ ap (λ (u : List ℕ). u ++ time_text c.args.self.now.tick c.args.tick) first ∙ append_assoc c.args.text.now.items _ (time_text c.args.self.now.tick c.args.tick))
