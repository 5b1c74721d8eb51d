use Rattle.std.proofs.Common.{refl, subst, sym}
use Rattle.fbsim_line.specs.Line.{IsFault, IsHelp}
use Rattle.fbsim_line.specs.declared.line.LineFault.{LineFault}
use Rattle.fbsim_command.proofs.lemmas.calls.Reporting.{helped}
use Rattle.fbsim_command.proofs.program.end_without_call.Goals as goal

pub returns-in-Help : goal.returns-in-Help
returns-in-Help g c = λ words help none.
    helped words (g.W.Write.contents c.args.out.now) (g.W.Write.contents c.help_to.new.out) c.as_str.result.now (help (subst (λ (x : LineFault). IsHelp x) (sym c.in-Help.is) tt)) c.help_to.result
    c.help_to.ensures.whole c.help_to.ensures.part

pub returns-in-Fault : goal.returns-in-Fault
returns-in-Fault g c = λ words help none. (none (subst (λ (x : LineFault). IsFault x) (sym c.in-Fault.is) tt), refl)

pub returns-in-Memory : goal.returns-in-Memory
returns-in-Memory g c = λ words help none. refl
