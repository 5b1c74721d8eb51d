use Rattle.std.proofs.Common.{◌++◌, ◌∙◌, [], Bool, ap, append-nil, if◌then◌else◌, sym}
use Rattle.fb_expect.specs.Suites.{suites_tail}
use Rattle.fbsim_command.proofs.lemmas.rules.HeldRules.{tail-put}
use Rattle.fbsim_command.proofs.expect.put_tail.Goals as goal

pub returns-then-expect : goal.returns-then-expect
returns-then-expect c = tail-put c.args.expect.now c.extend_from_slice.result c.args.text.now.items c.extend_from_slice.new.self.items c.if-expect.true c.extend_from_slice.ensures.items

pub returns : goal.returns
returns c = sym (append-nil c.args.text.now.items) ∙ ap (λ (b : Bool). c.args.text.now.items ++ (if b then suites_tail else [])) (sym c.if-expect.false)
