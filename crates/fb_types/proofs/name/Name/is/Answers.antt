use Rattle.fb_types.proofs.Common.{◌≡◌, true, sym, ◌∙◌, ap, arith, nat_tests, same_name}
use Rattle.fb_types.specs.Spelt.{spelt}
use Rattle.fb_types.proofs.lemmas.names.NameLaws.{same_name-itself}
use Rattle.fb_types.proofs.lemmas.names.NameNumbers.{is_the_name}
use Rattle.fb_types.proofs.name.Name.is.Goals as goal

pub returns-then-self-ne0 : goal.returns-then-self-ne0
returns-then-self-ne0 c =
    let one = is_the_name (spelt c.self.inside.spelling) (spelt c.other.inside.spelling) c.self.inside.short_number c.other.inside.short_number c.self.invariant c.other.invariant c.if-self-ne0.true c.if-self-other.false in
    let same : c.args.self.now ≡ c.args.other.now = sym c.self.view_is ∙ one ∙ c.other.view_is in
    let shown : same_name c.args.self.now c.args.other.now ≡ true = ap (λ n. same_name n c.args.other.now) same ∙ same_name-itself c.args.other.now in
    rw shown (grind (arith, nat_tests, c.if-self-ne0.true))

pub returns-else-self-ne0 : goal.returns-else-self-ne0
returns-else-self-ne0 c = c.is_spelt_as.ensures
