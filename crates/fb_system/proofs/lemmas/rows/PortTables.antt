-- What the tables say of an event port.
use Rattle.fb_system.proofs.lemmas.Common.{◌≡◌, ◌<◌, ℕ, List, [], ◌∷◌, length, get_or, arith, Name, Variable, AreIndexes}

-- no index
pub no_index : (vs : List Variable) (names : List Name) (indexes : List ℕ) → length indexes < 1 → AreIndexes vs names indexes → AreIndexes vs names []
no_index vs names [] none stand = stand
no_index vs names (index ∷ indexes) none stand = absurd (omega arith)

-- the index that is alone
pub only_index : (vs : List Variable) (names : List Name) (indexes : List ℕ) → length indexes ≡ 1 → AreIndexes vs names indexes → AreIndexes vs names (get_or indexes 0 0 ∷ [])
only_index vs names [] one stand = absurd (omega arith)
only_index vs names (index ∷ []) one stand = stand
only_index vs names (index ∷ other ∷ indexes) one stand = absurd (omega arith)
