use Rattle.std.proofs.Common.{◌%◌, List, Bool, true, set, sym, ap, ◌∙◌, subst}
use Rattle.fb_expect.specs.Passing.{Adds}
use Rattle.fb_expect.specs.Fingerprints.{fingerprint}
use Rattle.fb_expect.specs.Words.{Text}
use Rattle.fb_expect.proofs.lemmas.patterns.Marked.{adds-all, adds-one}
use Rattle.fb_expect.proofs.port_set.with_pattern.Goals as goal

pub returns-in-Whole : goal.returns-in-Whole
returns-in-Whole c =
    let marks = c.args.marks in
    let p = c.args.pattern.now in
    subst (λ (ms : List Bool). Adds marks p ms) (sym (c.with_port.ensures ∙ ap (λ (z : Text). set marks (fingerprint z % 64) true) c.as_slice.ensures)) (adds-one marks p c.in-Whole.is)

pub returns-in-Open : goal.returns-in-Open
returns-in-Open c = adds-all c.args.marks c.args.pattern.now c.everything.result c.everything.ensures
