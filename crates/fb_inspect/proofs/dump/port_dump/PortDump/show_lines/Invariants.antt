use Rattle.fb_types.proofs.Common.{take, system_of}
use Rattle.fb_inspect.specs.dump.Dumping.{IsPortDump, ShowsLines}
use Rattle.fb_inspect.proofs.dump.port_dump.PortDump.show_lines.Given as goal

-- the lines up to here were shown
abbrev pub invariant-loop-line : goal.invariant-loop-line
invariant-loop-line l = record {
  numbers : IsPortDump (system_of l.system) l.self;
  shown : ShowsLines (system_of l.system) (take l.line-index l.lines) l.fn.self l.self;
}
