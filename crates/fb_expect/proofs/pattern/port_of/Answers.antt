use Rattle.fb_types.proofs.Common.{◌≡◌, Bor, List, ℕ, Option, Some, true, sym, ap, ◌∙◌, if◌then◌else◌, option_map}
use Rattle.fb_expect.specs.Written.{closed_port_of, is_front, port_by, port_of}
use Rattle.fb_expect.specs.declared.port_pattern.PortForm.TheVariants.{Open}
use Rattle.fb_expect.proofs.pattern.port_of.Goals as goal

pub returns-then-is_front : goal.returns-then-is_front
unfolding port_of
returns-then-is_front c =
    let front = c.in-Some.front.now in
    let good : true ≡ is_front front = sym c.if-is_front.true ∙ c.is_front.ensures in
    (λ i. if good i then Some (front, Open) else closed_port_of c.args.word.now)
    ∙ ap (port_by c.args.word.now) (ap (λ (o : Option (Bor (List ℕ))). option_map (λ (b : Bor (List ℕ)). b.now) o) (sym c.in-Some.is) ∙ c.before-2.ensures.exact)
