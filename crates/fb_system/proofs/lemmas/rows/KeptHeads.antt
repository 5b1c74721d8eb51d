-- Rows with the heads of lines: what is read from them, and what they are made of.
use Rattle.fb_types.proofs.Common.{◌≡◌, ℕ, ◌^◌, ◌<◌, List, [], ◌∷◌, ◌++◌, length, get_or, Option, Some, None, Bor, refl, sym, ◌∙◌, ap, subst, append-nil, append_assoc, codes, slice_get, IfNone, IfSome, same_Some, slice_get-get_or, slice_get-map, slice_get_within, Name, System}
use Rattle.fb_types.specs.declared.library.Variable.{Variable}
use Rattle.fb_system.specs.Heads.{IsHead, IsRowAt, first_text}
use Rattle.fb_system.specs.IndexLists.{AreIndexes, variable_at}
use Rattle.fb_system.specs.declared.heads.Head.{Head}
use Rattle.fb_system.specs.declared.heads.HeadOf.{HeadOf}

-- ---- Reading

-- a row has the head that is looked up, if it names the same resource
pub row_found : (sys : System) (x : HeadOf) (h : Head) → IsRowAt sys x.instance x.taken x.event h → x.resource < 2 ^ 32 → h.resource ≡ x.resource → IsHead sys x h
row_found sys x h own number same =
    subst (λ (r : ℕ). IsHead sys (record { resource = r; instance = x.instance; event = x.event; taken = x.taken }) h) same
    (own (subst (λ (r : ℕ). r < 2 ^ 32) (sym same) number))

-- ---- What a head is made of

-- the name of the first variable after what is before it
pub first_added :
    (o : Option (Bor Name)) (old new f : List ℕ) → IfNone o (f ≡ []) → IfSome o (λ n. f ≡ codes " " ++ n.now ++ codes "=") → IfNone o (new ≡ old)
    → IfSome o (λ n. new ≡ old ++ codes " " ++ n.now ++ codes "=") → new ≡ old ++ f
first_added None old new f none some kept added = kept ∙ sym (append-nil old) ∙ ap (λ (t : List ℕ). old ++ t) (sym none)
first_added (Some n) old new f none some kept added =
    added
    ∙ ap (λ (t : List ℕ). t ++ codes "=") (append_assoc old (codes " ") n.now)
    ∙ append_assoc old (codes " " ++ n.now) (codes "=")
    ∙ ap (λ (t : List ℕ). old ++ t) (sym some)

-- the index of the first variable, and its name
pub first_within : (vs : List Variable) (names : List Name) (indexes : List ℕ) (k : ℕ) → AreIndexes vs names indexes → slice_get indexes 0 ≡ Some k → k < length vs
first_within vs names [] k are there = absurd (cc)
first_within vs names (p ∷ ps) k are there =
    subst (λ (n : ℕ). n < length vs) (same_Some p k there) (are.within 0 k (slice_get_within (p ∷ ps) 0 k there))

variable_read : (vs : List Variable) (k : ℕ) (d : Variable) → k < length vs → variable_at vs k ≡ (get_or vs k d).name
variable_read vs k d within = rw (slice_get-map (λ (x : Variable). x.name) vs k, slice_get-get_or vs k d within) refl

pub first_named :
    (vs : List Variable) (names : List Name) (indexes : List ℕ) (k : ℕ) (d : Variable) → AreIndexes vs names indexes → slice_get indexes 0 ≡ Some k
    → first_text names ≡ codes " " ++ (get_or vs k d).name ++ codes "="
first_named vs names [] k d are there = absurd (cc)
first_named vs names (p ∷ ps) k d are there =
    let same : p ≡ k = same_Some p k there in
    ap first_text (sym are.named)
    ∙ ap (λ (n : Name). codes " " ++ n ++ codes "=")
    (ap (variable_at vs) same ∙ variable_read vs k d (first_within vs names (p ∷ ps) k are there))
