use Rattle.fb_types.proofs.Common.{◌≡◌, sym, ap, ◌∙◌, false≢true, Name, same_name}
use Rattle.fb_types.proofs.lemmas.names.NameLaws.{same_from_same_name, same_name-itself}
use Rattle.fb_read.specs.declared.token.Token.{Token}
use Rattle.fb_read.specs.declared.token.Token.TheVariants as variant
use Rattle.fb_read_positions.proofs.find.is_name.Goals as goal

name_is : (n m : Name) (t : Token) → t ≡ variant.Name n → t ≡ variant.Name m → n ≡ m
name_is n m t h k = cc

pub returns-in-Name : goal.returns-in-Name
returns-in-Name c = (
  λ yes. c.in-Name.is ∙ ap (λ (n : Name). variant.Name n) (same_from_same_name c.in-Name.found c.args.name.now (sym c.is.ensures ∙ yes)),
  λ same.
      c.is.ensures ∙ ap (λ (n : Name). same_name n c.args.name.now) (name_is c.in-Name.found c.args.name.now c.args.token.now c.in-Name.is same) ∙ same_name-itself c.args.name.now,
)

pub returns-in_default : goal.returns-in_default
returns-in_default c = (λ yes. absurd (false≢true yes), λ same. absurd (c.in_default.not-Name c.args.name.now same))
