use Rattle.fb_types.proofs.Common.{◌≡◌, ◌++◌, sym, ◌∙◌, ap, type_name, Name}
use Rattle.fb_lint.specs.Warnings as spec
use Rattle.fb_lint.proofs.lemmas.WarningLists.{two_found}
use Rattle.fb_lint.proofs.lint.push_of_block.Goals as goal

pub returns-in-Basic : goal.returns-in-Basic
returns-in-Basic c =
    let lib = c.args.types.now.library.now in
    let b = c.args.block in
    let e = c.args.entry.now in
    let t = c.in-Basic.basic in
    let old = c.args.all.now.items in
    let interface : c.push_of_interface.new.all.items ≡ old ++ spec.of_interface lib (type_name e) b e =
    c.in_ok-push_of_interface.ensures ∙ ap (λ (n : Name). old ++ spec.of_interface lib n b e) c.type_name.ensures in
    let inside : spec.of_basic lib c.type_name.result.now b t ≡ spec.of_type lib b e =
    ap (λ (n : Name). spec.of_basic lib n b t) (c.type_name.ensures ∙ ap type_name c.in-Basic.is) ∙ sym (ap (spec.of_type lib b) c.in-Basic.is) in
    two_found c.push_of_basic.result old c.push_of_interface.new.all.items _ (spec.of_interface lib (type_name e) b e) (spec.of_type lib b e) _ interface inside c.push_of_basic.ensures
