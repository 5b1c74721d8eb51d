use Rattle.fb_types.proofs.Common.{◌<◌, ◌++◌, [], ◌∷◌, List, length, take, sym, ap, subst, ◌∙◌, arith, take_all, take_more, system_of}
use Rattle.fb_types.specs.declared.run.Line.{Line}
use Rattle.fb_inspect.specs.dump.Dumping.{ShowsLines}
use Rattle.fb_inspect.proofs.lemmas.dump.Growing.{lines_then}
use Rattle.fb_inspect.proofs.dump.port_dump.PortDump.show_lines.Goals as goal

pub loop-line-preserved : goal.loop-line-preserved
loop-line-preserved c =
    let sys = system_of c.args.system.now in
    let i = c.loop-line.line-index in
    let ls : List Line = c.args.lines.now in
    let l : Line = c.line-item.result in
    let within : i < length ls = omega arith in
    record {
      numbers = c.in_ok-show_line.ensures.numbers;
      shown = subst (λ (ks : List Line). ShowsLines sys ks c.args.self.now c.show_line.new.self) (sym (take_more ls i l within ∙ ap (λ (k : Line). take i ls ++ k ∷ []) (sym c.line-item.is)))
          (lines_then sys (take i ls) (l ∷ []) c.args.self.now c.loop-line.self c.show_line.new.self c.loop-line.invariant.shown c.in_ok-show_line.ensures.shown);
    }

pub returns-clause-shown : goal.returns-clause-shown
returns-clause-shown c =
    subst (λ (ks : List Line). ShowsLines (system_of c.args.system.now) ks c.args.self.now c.loop-line.self) (take_all c.loop-line.line-index c.args.lines.now (omega arith)) c.loop-line.invariant.shown
