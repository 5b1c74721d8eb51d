-- What emissions add to the outcome of a reaction, and what they leave.
use Rattle.fb_types.proofs.Common.{◌≡◌, Bool, true, false, cond, List, [], ◌∷◌, ◌++◌, map, refl, sym, ap, ◌∙◌, append_assoc, append-nil, Path, same_path, Emission, System, Block, World, Outcome, emitted, emitted_all, Key}
use Rattle.fb_types.specs.Posted.{emission_line}
use Rattle.fb_types.proofs.lemmas.names.PathLaws.{same_path_is}

-- ---- A world in which only outputs are published

pub record OnlyPublishes (v w : World) : Type 0 where
  pub memory : (q : Path) → (w.blocks q).memory ≡ (v.blocks q).memory
  pub variables : (q : Path) → (w.blocks q).variables ≡ (v.blocks q).variables
  pub slots : (q : Path) → (w.blocks q).slots ≡ (v.blocks q).slots
  pub held : w.held ≡ v.held

pub publishes_nothing : (w : World) → OnlyPublishes w w
publishes_nothing w = record { memory = λ q. refl; variables = λ q. refl; slots = λ q. refl; held = refl }

pub publishes_more : (u v w : World) → OnlyPublishes u v → OnlyPublishes v w → OnlyPublishes u w
publishes_more u v w a b = record {
  memory = λ q. b.memory q ∙ a.memory q;
  variables = λ q. b.variables q ∙ a.variables q;
  slots = λ q. b.slots q ∙ a.slots q;
  held = b.held ∙ a.held;
}

-- a part of a block that the change at p keeps
pub kept_at : {X : Type 0} (part : Block → X) (p : Path) (b : Block) (blocks : Path → Block) → part b ≡ part (blocks p)
    → (q : Path) → part (cond (same_path q p) b (blocks q)) ≡ part (blocks q)
kept_at part p b blocks same q = go (same_path q p) refl
  where
    go : (t : Bool) → same_path q p ≡ t → part (cond t b (blocks q)) ≡ part (blocks q)
    go true e = same ∙ ap (λ (z : Path). part (blocks z)) (sym (same_path_is q p e))
    go false e = refl

emitted-publishes : (sys : System) (k : Key) (p : Path) (e : Emission) (o : Outcome) → OnlyPublishes o.world (emitted sys k p e o).world
emitted-publishes sys k p e o = record {
  memory = kept_at (λ b. b.memory) p _ o.world.blocks refl;
  variables = kept_at (λ b. b.variables) p _ o.world.blocks refl;
  slots = kept_at (λ b. b.slots) p _ o.world.blocks refl;
  held = refl;
}

pub emitted_all-publishes : (sys : System) (k : Key) (p : Path) (es : List Emission) (o : Outcome) → OnlyPublishes o.world (emitted_all sys k p es o).world
emitted_all-publishes sys k p [] o = publishes_nothing o.world
emitted_all-publishes sys k p (e ∷ es) o =
    publishes_more o.world (emitted sys k p e o).world (emitted_all sys k p es (emitted sys k p e o)).world
    (emitted-publishes sys k p e o) (emitted_all-publishes sys k p es (emitted sys k p e o))

-- ---- Lines and what goes out

pub emitted_all-lines : (sys : System) (k : Key) (p : Path) (es : List Emission) (o : Outcome)
    → (emitted_all sys k p es o).lines ≡ o.lines ++ map (emission_line k p) es
emitted_all-lines sys k p [] o = sym (append-nil o.lines)
emitted_all-lines sys k p (e ∷ es) o =
    emitted_all-lines sys k p es (emitted sys k p e o) ∙ append_assoc o.lines (emission_line k p e ∷ []) (map (emission_line k p) es)

pub emitted_all-timer : (sys : System) (k : Key) (p : Path) (es : List Emission) (o : Outcome) → (emitted_all sys k p es o).timer ≡ o.timer
emitted_all-timer sys k p [] o = refl
emitted_all-timer sys k p (e ∷ es) o = emitted_all-timer sys k p es (emitted sys k p e o)

pub emitted_all-left : (sys : System) (k : Key) (p : Path) (es : List Emission) (o : Outcome) → (emitted_all sys k p es o).left ≡ o.left
emitted_all-left sys k p [] o = refl
emitted_all-left sys k p (e ∷ es) o = emitted_all-left sys k p es (emitted sys k p e o)

pub emitted_all-stop : (sys : System) (k : Key) (p : Path) (es : List Emission) (o : Outcome) → (emitted_all sys k p es o).stop ≡ o.stop
emitted_all-stop sys k p [] o = refl
emitted_all-stop sys k p (e ∷ es) o = emitted_all-stop sys k p es (emitted sys k p e o)
