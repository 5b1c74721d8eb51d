-- The blocks of a resource grow, one instance after the other, each with its components.
use Rattle.fb_net.proofs.lemmas.Common.{◌≡◌, ℕ, ◌<◌, ◌≤◌, ◌+◌, ◌-◌, zero, suc, List, [], ◌∷◌, ◌++◌, length, take, get_or, Option, Some, None, refl, sym, ◌∙◌, ap, subst, inl, inr, arith, option_map, option_and_then, slice_get, slice_get-get_or, slice_get_within, slice_get-map, same_Some, none-some, Path, Kind, Basic, Event, Composite, instance_at, inside, network_at, AreAccepted, Inputs, system_of, path_at, opening_block, CompositeType, Instance, Library, Network, components_of, own_of, Represents, Block, AreGrown}
use Rattle.fb_types.proofs.Common.{◌⊎◌, kind_of_instance, network_of}
use Rattle.fb_system.specs.Layouts.{AreComponents, AreNumbers, path_of}
use Rattle.fb_types.proofs.lemmas.lists.Options.{and_then_parts}
use Rattle.fb_net.specs.Opening.{AreDeep, Grown, IsDeep}
use Rattle.fb_types.proofs.lemmas.lists.ByIndex.{slice_get-append_left, slice_get-append_here, all_at}
use Rattle.fb_net.proofs.lemmas.values.Acceptance.{stood}

-- ---- Elements of lists

-- the elements of the first k, and the one after them
pub data Nearer {A : Type 0} (xs : List A) (k index : ℕ) (x : A) : Type 0 where
  Before : slice_get (take k xs) index ≡ Some x → Nearer xs k index x
  Last : index ≡ k → slice_get xs k ≡ Some x → Nearer xs k index x

pub nearer : {A : Type 0} (xs : List A) (k index : ℕ) (x : A) → slice_get (take (suc k) xs) index ≡ Some x → Nearer xs k index x
nearer [] k index x h = absurd (cc)
nearer (y ∷ xs) zero zero x h = Last refl h
nearer (y ∷ xs) zero (suc index) x h = absurd (cc)
nearer (y ∷ xs) (suc k) zero x h = Before h
nearer (y ∷ xs) (suc k) (suc index) x h =
    elim (nearer xs k index x h) [
      | Before b ↦ Before b
      | Last e g ↦ Last (ap suc e) g
    ]

-- ---- Numbers of instances

-- the number at an index represents the instance there
pub number_is :
    (i : Inputs) (p : Path) (instances : List Instance) (numbers : List ℕ) (index k : ℕ) → AreNumbers i.library p instances numbers → slice_get numbers index ≡ Some k
    → (x : Instance) × (slice_get instances index ≡ Some x) × (path_at (system_of i) k ≡ x.name ∷ p) × (k < length (system_of i).paths)
number_is i p instances numbers index k are h =
    let at : option_map (λ (x : Instance). x.name ∷ p) (slice_get instances index) ≡ Some (path_of i.library k) =
    sym (slice_get-map (λ (x : Instance). x.name ∷ p) instances index) ∙ ap (λ (ps : List Path). slice_get ps index) (sym are.paths)
    ∙ slice_get-map (path_of i.library) numbers index ∙ ap (option_map (path_of i.library)) h in
    of (slice_get instances index) refl at
  where
    of : (o : Option Instance) → slice_get instances index ≡ o → option_map (λ (x : Instance). x.name ∷ p) o ≡ Some (path_of i.library k)
        → (x : Instance) × (slice_get instances index ≡ Some x) × (path_at (system_of i) k ≡ x.name ∷ p) × (k < length (system_of i).paths)
    of None e at = absurd (none-some (path_of i.library k) at)
    of (Some x) e at = (x, e, sym (same_Some (x.name ∷ p) (path_of i.library k) at), all_at (λ k. k < length (system_of i).paths) numbers index k are.within h)

-- each instance has a number
pub instance_is :
    (i : Inputs) (p : Path) (instances : List Instance) (numbers : List ℕ) (index : ℕ) (x : Instance) → AreNumbers i.library p instances numbers
    → slice_get instances index ≡ Some x → (k : ℕ) × (slice_get numbers index ≡ Some k) × (path_at (system_of i) k ≡ x.name ∷ p)
instance_is i p instances numbers index x are h =
    let at : option_map (path_of i.library) (slice_get numbers index) ≡ Some (x.name ∷ p) =
    sym (slice_get-map (path_of i.library) numbers index) ∙ ap (λ (ps : List Path). slice_get ps index) are.paths
    ∙ slice_get-map (λ (x : Instance). x.name ∷ p) instances index ∙ ap (option_map (λ (x : Instance). x.name ∷ p)) h in
    of (slice_get numbers index) refl at
  where
    of : (o : Option ℕ) → slice_get numbers index ≡ o → option_map (path_of i.library) o ≡ Some (x.name ∷ p)
        → (k : ℕ) × (slice_get numbers index ≡ Some k) × (path_at (system_of i) k ≡ x.name ∷ p)
    of None e at = absurd (none-some (x.name ∷ p) at)
    of (Some k) e at = (k, e, same_Some (path_of i.library k) (x.name ∷ p) at)

-- the numbers of what is inside an instance
abbrev Inner : Library → Path → List ℕ → Option Network → Type 0
Inner lib p numbers None = numbers ≡ []
Inner lib p numbers (Some net) = AreNumbers lib p net.instances numbers

-- ---- Depth

pub room : (i : Inputs) (depth k : ℕ) → AreAccepted i → IsDeep i depth k → 1 ≤ depth
room i depth k accepted d =
    let s = stood i k accepted d.number in
    let short : length (path_at (system_of i) k) ≤ 17 = s.short in
    let deep : length (path_at (system_of i) k) + depth ≡ 18 = d.deep in omega (arith, short, deep)

pub deeper :
    (i : Inputs) (depth k : ℕ) (inner : List ℕ) → AreAccepted i → IsDeep i depth k → AreComponents i.library (path_at (system_of i) k) inner → AreDeep i (depth - 1) inner
deeper i depth k inner accepted d are index j h = of (network_at i.library (path_at (system_of i) k)) are
  where
    of : (o : Option Network) → Inner i.library (path_at (system_of i) k) inner o → IsDeep i (depth - 1) j
    of None e = absurd (none-some j (ap (λ (ks : List ℕ). slice_get ks index) (sym e) ∙ h))
    of (Some net) e =
        let x = number_is i (path_at (system_of i) k) net.instances inner index j e h in
        let long : length (path_at (system_of i) j) ≡ suc (length (path_at (system_of i) k)) = ap (λ (p : Path). length p) x.2 in
        let enough : 1 ≤ depth = room i depth k accepted d in
        let deep : length (path_at (system_of i) k) + depth ≡ 18 = d.deep in
        record { number = x.3; deep = omega (arith, long, enough, deep) }

-- ---- One instance more

-- what has a network inside it is a composite
composite_there : (i : Inputs) (p : Path) (net : Network) → network_at i.library p ≡ Some net → (length p ≡ 0) ⊎ ((c : CompositeType) × ((system_of i).kind p ≡ Some (Composite c)))
composite_there i [] net h = inl refl
composite_there i (n ∷ p) net h =
    let x = and_then_parts (inside i.library) (instance_at i.library (n ∷ p)) net h in
    let k = and_then_parts network_of (kind_of_instance i.library x.0) net x.2 in
    let c = of k.0 net k.2 in
    inr (c.0, ap (option_and_then (kind_of_instance i.library)) x.1 ∙ k.1 ∙ ap (λ (k : Kind). Some k) c.1)
  where
    of : (k : Kind) (net : Network) → network_of k ≡ Some net → (c : CompositeType) × (k ≡ Composite c)
    of (Basic t) net h = absurd (none-some net h)
    of (Event k) net h = absurd (none-some net h)
    of (Composite c) net h = (c, refl)

pub grown_one :
    (i : Inputs) (d k : ℕ) (inner : List ℕ) (components : List Block) (b : Block) → AreAccepted i → k < length (system_of i).paths
    → AreComponents i.library (path_at (system_of i) k) inner → AreGrown i d inner components
    → Represents (system_of i) (path_at (system_of i) k) (own_of b) (opening_block (system_of i) (path_at (system_of i) k))
    → ((c : CompositeType) → (system_of i).kind (path_at (system_of i) k) ≡ Some (Composite c) → components_of b ≡ components)
    → Grown i (suc d) (path_at (system_of i) k) b
grown_one i d k inner components b accepted h are grown represents holds = (
  represents,
  λ net is index x at.
      let p = path_at (system_of i) k in
      let numbers : AreNumbers i.library p net.instances inner =
      subst (λ (o : Option Network). Inner i.library p inner o) is are in
      let j = instance_is i p net.instances inner index x numbers at in
      let c = grown.grown index j.0 j.1 in
      let same : components_of b ≡ components = elim (composite_there i p net is) [
        | inl e ↦ absurd (let s = stood i k accepted h in no_path p s.instance e s.is_instance)
        | inr t ↦ holds t.0 t.1
      ] in
      (c.0, ap (λ (bs : List Block). slice_get bs index) same ∙ c.1, subst (λ (q : Path). Grown i d q c.0) j.2 c.2),
)
  where
    no_path : (q : Path) (x : Instance) → length q ≡ 0 → instance_at i.library q ≡ Some x → ⊥
    no_path [] x e g = none-some x g
    no_path (n ∷ q) x e g = absurd (omega (arith, e))

pub grown_more :
    (i : Inputs) (depth : ℕ) (numbers : List ℕ) (index k : ℕ) (blocks : List Block) (b : Block) → AreGrown i depth (take index numbers) blocks
    → slice_get numbers index ≡ Some k → Grown i depth (path_at (system_of i) k) b → AreGrown i depth (take (index + 1) numbers) (blocks ++ b ∷ [])
grown_more i depth numbers index k blocks b grown at one =
    let next : index + 1 ≡ suc index = omega arith in
    let within = slice_get_within numbers index k at in
    let shorter : length (take index numbers) ≡ index = Rattle.std.proofs.lemmas.List.length-take-le index numbers (omega (arith, within)) in
    let longer : length (take (suc index) numbers) ≡ suc index = Rattle.std.proofs.lemmas.List.length-take-le (suc index) numbers (omega (arith, within)) in
    let last : length blocks ≡ index = grown.each ∙ shorter in
    rw next (record {
      each = Rattle.std.proofs.Common.length-append blocks (b ∷ []) ∙ (let e : length blocks + 1 ≡ suc index = omega (arith, last) in e) ∙ sym longer;
      grown = λ other j h.
          elim (nearer numbers index other j h) [
            | Before g ↦ (let c = grown.grown other j g in (c.0, slice_get-append_left blocks (b ∷ []) other c.0 c.1, c.2))
            | Last e g ↦ (
              b,
              ap (slice_get (blocks ++ b ∷ [])) (e ∙ sym last) ∙ slice_get-append_here blocks b,
              subst (λ (n : ℕ). Grown i depth (path_at (system_of i) n) b) (same_Some k j (sym at ∙ g)) one,
            )
          ];
    })

pub grown_none : (i : Inputs) (depth : ℕ) (numbers : List ℕ) → AreGrown i depth (take 0 numbers) []
grown_none i depth [] = record { each = refl; grown = λ index k h. absurd (none-some k h) }
grown_none i depth (n ∷ ns) = record { each = refl; grown = λ index k h. absurd (none-some k h) }

pub grown_step :
    (i : Inputs) (depth index : ℕ) (numbers inner : List ℕ) (blocks components more : List Block) (b : Block) → AreAccepted i → AreDeep i depth numbers
    → index < length numbers → AreComponents i.library (path_at (system_of i) (get_or numbers index 0)) inner → AreGrown i (depth - 1) inner components
    → Represents (system_of i) (path_at (system_of i) (get_or numbers index 0)) (own_of b) (opening_block (system_of i) (path_at (system_of i) (get_or numbers index 0)))
    → ((c : CompositeType) → (system_of i).kind (path_at (system_of i) (get_or numbers index 0)) ≡ Some (Composite c) → components_of b ≡ components)
    → more ≡ blocks ++ b ∷ [] → AreGrown i depth (take index numbers) blocks → AreGrown i depth (take (index + 1) numbers) more
grown_step i depth index numbers inner blocks components more b accepted deep within are inside represents holds pushed soFar =
    let at : slice_get numbers index ≡ Some (get_or numbers index 0) = slice_get-get_or numbers index 0 within in
    let enough : 1 ≤ depth = room i depth (get_or numbers index 0) accepted (deep index (get_or numbers index 0) at) in
    let same : suc (depth - 1) ≡ depth = omega (arith, enough) in
    let one : Grown i (suc (depth - 1)) (path_at (system_of i) (get_or numbers index 0)) b =
    grown_one i (depth - 1) (get_or numbers index 0) inner components b accepted (deep index (get_or numbers index 0) at).number are inside represents holds in
    subst (λ (bs : List Block). AreGrown i depth (take (index + 1) numbers) bs) (sym pushed)
    (grown_more i depth numbers index (get_or numbers index 0) blocks b soFar at
    (subst (λ (d : ℕ). Grown i d (path_at (system_of i) (get_or numbers index 0)) b) same one))
