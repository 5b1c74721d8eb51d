-- The opening core of a world.
use Rattle.fb_laws.proofs.lemmas.Common.{None, [], Machine, Core, World, view}

module _ (M : Machine) where
  abbrev pub opening : World M → Core M
  opening w = λ r. record { state = view M w r; clock = 0; out = None; outbox = []; lines = [] }
