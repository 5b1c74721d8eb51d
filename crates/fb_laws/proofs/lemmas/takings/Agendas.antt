-- Facts of all events that wait on an agenda.
use Rattle.fb_laws.proofs.lemmas.Common.{◌≡◌, subst, Bool, true, false, cond, List, [], ◌∷◌, Option, Some, None, All, All-head, All-tail, or_else, found, same_key, changed_to, without, put_of, Key, same_Some, Event}
use Rattle.fb_types.specs.Keys.{Map}

-- holds of what is there, if anything is
abbrev pub Holds : {X : Type 0} → (X → Type 0) → Option X → Type 0
Holds {X} P o = (x : X) → o ≡ Some x → P x

pub holds_none : {X : Type 0} (P : X → Type 0) → Holds P None
holds_none P x e = absurd cc

pub holds_some : {X : Type 0} (P : X → Type 0) (y : X) → P y → Holds P (Some y)
holds_some P y p x e = subst P (same_Some y x e) p

pub holds_if : {X : Type 0} (P : X → Type 0) (b : Bool) (o p : Option X) → Holds P o → Holds P p → Holds P (cond b o p)
holds_if P true o p f g = f
holds_if P false o p f g = g

pub holds_or_else : {X : Type 0} (P : X → Type 0) (o p : Option X) → Holds P o → Holds P p → Holds P (or_else o p)
holds_or_else P (Some y) p f g = f
holds_or_else P None p f g = g

pub holds_found : {X : Type 0} (P : X → Type 0) (k : Key) (es : List (Key × X)) → All (λ (e : Key × X). P e.1) es → Holds P (found k es)
holds_found P k [] h = holds_none P
holds_found {X} P k (e ∷ es) h =
    holds_or_else P (found k es) (cond (same_key e.0 k) (Some e.1) None) (holds_found P k es (All-tail (λ (e : Key × X). P e.1) e es h))
    (holds_if P (same_key e.0 k) (Some e.1) None (holds_some P e.1 (All-head (λ (e : Key × X). P e.1) e es h)) (holds_none P))

pub holds_put : (P : Event → Type 0) (o : Option Event) → Holds P o → Holds (Holds P) (put_of o)
holds_put P None h = holds_none (Holds P)
holds_put P (Some e) h = holds_some (Holds P) (Some e) h

pub holds_changed : {X : Type 0} (P : X → Type 0) (o : Option (Option X)) (old : Option X) → Holds (Holds P) o → Holds P old → Holds P (changed_to o old)
holds_changed P None old f g = g
holds_changed P (Some new) old f g = f new cc

pub holds_without : {X : Type 0} (P : X → Type 0) (k : Key) (m : Map X) (j : Key) → Holds P (m j) → Holds P (without k m j)
holds_without P k m j h = holds_if P (same_key k j) None (m j) (holds_none P) h
