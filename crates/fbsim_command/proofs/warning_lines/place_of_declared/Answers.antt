use Rattle.std.specs.Option.{IfNone}
use Rattle.fbsim_command.proofs.lemmas.Common.{IfOk, IfSome, Option, string_bytes, subst, sym, ◌≡◌, [], Place, naming_of}
use Rattle.fbsim_command.specs.WarningLines.{IsPlaceText}
use Rattle.fbsim_command.proofs.warning_lines.place_of_declared.Goals as goal

pub returns-in-Some : goal.returns-in-Some
returns-in-Some c = record {
  some = subst (λ (o : Option Place). IfSome o (λ at. IfOk c.place_in_files.result (λ text. IsPlaceText (naming_of c.args.naming.now) at.line at.column (string_bytes text)))) (sym c.in-Some.is)
      c.place_in_files.ensures;
  none = subst (λ (o : Option Place). IfNone o (IfOk c.place_in_files.result (λ text. string_bytes text ≡ []))) (sym c.in-Some.is) tt;
}

pub returns-in-None : goal.returns-in-None
returns-in-None c = record {
  some = subst (λ (o : Option Place). IfSome o (λ at. IsPlaceText (naming_of c.args.naming.now) at.line at.column (string_bytes c.new.result))) (sym c.in-None.is) tt;
  none = subst (λ (o : Option Place). IfNone o (string_bytes c.new.result ≡ [])) (sym c.in-None.is) c.new.ensures.bytes;
}
