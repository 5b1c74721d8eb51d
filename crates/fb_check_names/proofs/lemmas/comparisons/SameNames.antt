-- When names, connections and links are the same.
use Rattle.fb_types.proofs.Common.{◌≡◌, ◌&&◌, Bool, ap, Decides, and_parts, Name, Port, same_name, same_port}
use Rattle.fb_types.proofs.lemmas.names.NameLaws.{same_name-Decides}
use Rattle.fb_check_names.proofs.lemmas.comparisons.DecidedSame.{link_cmp, link_cmp-exact}
use Rattle.fb_check_names.proofs.lemmas.twice.Repeating.{IsSame, agrees, port_Decides}
use Rattle.fb_check_names.specs.Pairs.{link_names, same_ends, same_sides}

both_Decides : {A : Type 0} (same : A → A → Bool) → ((x y : A) → Decides (same x y) (x ≡ y)) → (c d : A × A) → Decides (same c.0 d.0 && same c.1 d.1) (c ≡ d)
both_Decides {A} same each c d = (
  λ h. let parts = and_parts (same c.0 d.0) (same c.1 d.1) h in
      let first : c.0 ≡ d.0 = (each c.0 d.0).0 parts.0 in
      let last : c.1 ≡ d.1 = (each c.1 d.1).0 parts.1 in
      λ i. (first i, last i),
  λ e. λ i. (each c.0 d.0).1 (ap (λ (p : A × A). p.0) e) i && (each c.1 d.1).1 (ap (λ (p : A × A). p.1) e) i,
)

pub ends_Decides : (c d : Port × Port) → Decides (same_ends c d) (c ≡ d)
ends_Decides c d = both_Decides same_port port_Decides c d

pub sides_Decides : (c d : Name × Name) → Decides (same_sides c d) (c ≡ d)
sides_Decides c d = both_Decides same_name same_name-Decides c d

pub sides_agree : IsSame link_cmp link_names same_sides
sides_agree = agrees link_cmp link_names same_sides link_cmp-exact sides_Decides
