-- Tables of the ends of wires, one wire at a time.
use Rattle.fb_system.proofs.lemmas.Common.{◌≡◌, ℕ, ◌<◌, ◌+◌, Bool, true, false, cond, List, [], ◌∷◌, ◌++◌, length, map, take, get_or, refl, sym, ◌∙◌, ap, filter, map-append, append-nil, ConnectionEnd, same_end}
use Rattle.std.proofs.lemmas.List.Elements.{filter_more}
use Rattle.fb_check_names.specs.declared.numbers.NumberedConnection.{NumberedConnection}
use Rattle.fb_system.specs.NetworkTables.{ends_at}
use Rattle.fb_system.specs.declared.connection_table.ConnectionTable.{ConnectionTable}

-- the results of a function for the elements that pass a test, with one element more
picked_more :
    {A B : Type 0} (f : A → B) (p : A → Bool) (xs : List A) (i : ℕ) (d : A) → i < length xs
    → map f (filter p (take (i + 1) xs)) ≡ cond (p (get_or xs i d)) (map f (filter p (take i xs)) ++ f (get_or xs i d) ∷ []) (map f (filter p (take i xs)))
picked_more {A} {B} f p xs i d h =
    let before : List B = map f (filter p (take i xs)) in
    let x : A = get_or xs i d in
    ap (map f) (filter_more p xs i d h)
    ∙ map-append f (filter p (take i xs)) (cond (p x) (x ∷ []) [])
    ∙ (elim (p x) as (λ b. before ++ map f (cond b (x ∷ []) []) ≡ cond b (before ++ f x ∷ []) before) [
      | true ↦ refl
      | false ↦ append-nil before
    ])

-- the table after one wire more, found by one end of the wires and listing the other
pub table_more :
    (key other : NumberedConnection → ConnectionEnd) (ws : List NumberedConnection) (i : ℕ) (d : NumberedConnection) (old new : ConnectionTable) → i < length ws
    → ((e : ConnectionEnd) → ends_at old e ≡ map other (filter (λ w. same_end (key w) e) (take i ws)))
    → ((e : ConnectionEnd) → ends_at new e ≡ cond (same_end (key (get_or ws i d)) e) (ends_at old e ++ other (get_or ws i d) ∷ []) (ends_at old e))
    → (e : ConnectionEnd) → ends_at new e ≡ map other (filter (λ w. same_end (key w) e) (take (i + 1) ws))
table_more key other ws i d old new h before pushed e =
    pushed e
    ∙ ap (λ ends. cond (same_end (key (get_or ws i d)) e) (ends ++ other (get_or ws i d) ∷ []) ends) (before e)
    ∙ sym (picked_more other (λ w. same_end (key w) e) ws i d h)
