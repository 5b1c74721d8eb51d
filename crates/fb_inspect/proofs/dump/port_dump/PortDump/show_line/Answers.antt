use Rattle.fb_inspect.proofs.lemmas.Common.{List, [], ◌∷◌, ◌++◌, refl, system_of, Line, sizes_of, fires_of, has_signal, touches_of}
use Rattle.fb_wave.specs.Levels.{AreLevels}
use Rattle.fb_wave.specs.LineSignals.{fired, set_by, touched}
use Rattle.fb_wave.proofs.lemmas.Handing.{on_any, on_ok}
use Rattle.fb_inspect.specs.declared.dump.port_dump.PortDump.{PortDump}
use Rattle.fb_inspect.proofs.lemmas.dump.Growing.{line_one, on_lines}
use Rattle.fb_inspect.proofs.dump.port_dump.PortDump.show_line.Goals as goal

pub returns-clause-shown : goal.returns-clause-shown
returns-clause-shown c =
    let sys = system_of c.args.system.now in
    let l = c.args.line.now in
    let n = sizes_of sys sys.paths in
    let x : PortDump = c.args.self.now in
    let y : PortDump = record x { signals = c.show.new.self } in
    let Q : List Line → List Line → Type 0 = λ all now. AreLevels n (fires_of sys all) (has_signal sys all) (touches_of sys now) x.signals.levels in
    let P : List Line → List Line → Type 0 =
    λ all now. AreLevels n (fires_of sys all ++ fired sys l ∷ []) (has_signal sys all ++ set_by sys l) (touches_of sys now ++ touched sys l) y.signals.levels in
    on_ok c.show.result _ _
    (on_lines c.show.result Q P (λ all now are. c.show.ensures.levels n (fires_of sys all) (has_signal sys all) (touches_of sys now) are))
    (λ goes. line_one sys l x y refl goes)

pub returns-clause-numbers : goal.returns-clause-numbers
returns-clause-numbers c = on_any c.show.result _ c.show.ensures.signals
