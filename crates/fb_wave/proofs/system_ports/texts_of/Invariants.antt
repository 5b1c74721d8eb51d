use Rattle.fb_wave.proofs.lemmas.Common.{◌≡◌, map, take, system_of, port_text}
use Rattle.fb_wave.proofs.system_ports.texts_of.Given as goal

abbrev pub invariant-loop-port : goal.invariant-loop-port
invariant-loop-port l = l.texts.items ≡ map (port_text (system_of l.system)) (take l.port-index l.ports)
