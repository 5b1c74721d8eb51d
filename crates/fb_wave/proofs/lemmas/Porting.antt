-- The list of all event ports of a system.
use Rattle.fb_types.proofs.Common.{◌≡◌, ◌⊎◌, ℕ, ◌+◌, ◌<◌, ◌^◌, Bool, true, false, List, [], ◌∷◌, ◌++◌, length, Contains, refl, sym, ap, subst, ◌∙◌, inl, inr, arith, cases_lt, true≢false, Contains-append_left, Contains-append_right, Contains-push_cases, Twice, System}
use Rattle.fb_types.proofs.lemmas.lists.Elements.{Contains-here}
use Rattle.fb_types.proofs.lemmas.lists.TwiceLaws.{once_push}
use Rattle.fb_wave.specs.Ports.{AreAdded, HasNone, IsPortOf, side}
use Rattle.fb_wave.specs.declared.ports.Port.{Port}
use Rattle.fb_wave.proofs.lemmas.Gluing.{port_at}

-- The ports of an instance's event inputs, or outputs, are in the list, up to a number.
abbrev pub HasUpTo : List Port → (instance : ℕ) → (taken : Bool) → (count : ℕ) → Type 0
HasUpTo ports i taken n = (p : Port) → p.instance ≡ i → p.taken ≡ taken → p.event < n → Contains ports p

-- The same, of the ports whose events have numbers for which lines have room.
abbrev pub HasThose : List Port → (instance : ℕ) → (taken : Bool) → (count : ℕ) → Type 0
HasThose ports i taken n = (p : Port) → p.instance ≡ i → p.taken ≡ taken → p.event < n → p.event < 2 ^ 32 → Contains ports p

-- The ports of the instances below a number are in the list.
abbrev pub HasBelow : System → List Port → ℕ → Type 0
HasBelow sys ports n = (p : Port) → IsPortOf sys p → p.instance < n → Contains ports p

-- The ports are those of instances below a number.
abbrev pub AreBelow : List Port → ℕ → Type 0
AreBelow ports n = (p : Port) → Contains ports p → p.instance < n

-- What a list has more than another one are ports of an instance's event inputs, or outputs, up to a number.
abbrev pub AddsUpTo : (old new : List Port) → (instance : ℕ) → (taken : Bool) → (count : ℕ) → Type 0
AddsUpTo old new i taken n = (p : Port) → Contains new p → Contains old p ⊎ ((p.instance ≡ i) × (p.taken ≡ taken) × (p.event < n))

pub port_is : (p : Port) (i e : ℕ) (taken : Bool) → p.instance ≡ i → p.event ≡ e → p.taken ≡ taken → port_at i e taken ≡ p
port_is p i e taken one two last =
    ap (λ (k : ℕ). port_at k e taken) (sym one) ∙ ap (λ (k : ℕ). port_at p.instance k taken) (sym two) ∙ ap (λ (b : Bool). port_at p.instance p.event b) (sym last)

pub up_to_more : (ports : List Port) (i : ℕ) (taken : Bool) (n : ℕ) → HasUpTo ports i taken n → HasUpTo (ports ++ port_at i n taken ∷ []) i taken (n + 1)
up_to_more ports i taken n has p one two low =
    elim (cases_lt p.event n) [
      | inl below ↦ Contains-append_left ports (port_at i n taken ∷ []) p (has p one two below)
      | inr last ↦
          Contains-append_right ports (port_at i n taken ∷ []) p
          (subst (λ (q : Port). Contains (port_at i n taken ∷ []) q) (port_is p i n taken one (omega (arith, low, last)) two) (Contains-here (port_at i n taken) []))
    ]

pub adds_more :
    (old ports : List Port) (i : ℕ) (taken : Bool) (n : ℕ) → AddsUpTo old ports i taken n → AddsUpTo old (ports ++ port_at i n taken ∷ []) i taken (n + 1)
adds_more old ports i taken n adds p there =
    elim (Contains-push_cases ports (port_at i n taken) p there) [
      | inl before ↦ elim (adds p before) [
        | inl first ↦ inl first
        | inr new ↦ (let low = new.2 in inr (new.0, new.1, omega (arith, low)))
      ]
      | inr same ↦
          (let event : n ≡ p.event = ap (λ (q : Port). q.event) same in
          inr (sym (ap (λ (q : Port). q.instance) same), sym (ap (λ (q : Port). q.taken) same), omega (arith, event)))
    ]

pub once_more :
    (old ports : List Port) (i : ℕ) (taken : Bool) (n : ℕ) → AddsUpTo old ports i taken n → HasNone old i taken → ¬ (Twice ports) → ¬ (Twice (ports ++ port_at i n taken ∷ []))
once_more old ports i taken n adds none once =
    once_push ports (port_at i n taken) once
    (λ there. elim (adds (port_at i n taken) there) [ inl first ↦ none (port_at i n taken) first refl refl | inr new ↦ (let low = new.2 in omega (arith, low)) ])

pub below_more :
    (sys : System) (a b d : List Port) (n : ℕ) → HasBelow sys a n → ((p : Port) → Contains a p → Contains b p) → ((p : Port) → Contains b p → Contains d p)
    → HasThose b n true (length (side sys n true)) → HasThose d n false (length (side sys n false)) → HasBelow sys d (n + 1)
below_more sys a b d n has first second ins outs p is low =
    elim (cases_lt p.instance n) [
      | inl below ↦ second p (first p (has p is below))
      | inr last ↦ (let same : p.instance ≡ n = omega (arith, low, last) in
          by p.taken refl (subst (λ (k : ℕ). p.event < length (side sys k p.taken)) same is.event) same)
    ]
  where
    by : (t : Bool) → p.taken ≡ t → p.event < length (side sys n t) → p.instance ≡ n → Contains d p
    by true taken within same = second p (ins p same taken within is.small)
    by false taken within same = outs p same taken within is.small

-- ---- Each port is there once

pub none_yet : (a : List Port) (n : ℕ) (taken : Bool) → AreBelow a n → HasNone a n taken
none_yet a n taken below p there same sign = let low = below p there in omega (arith, low, same)

pub no_outputs_yet : (a b : List Port) (n : ℕ) → AreBelow a n → AreAdded a b n true → HasNone b n false
no_outputs_yet a b n below added p there same sign =
    elim (added p there) [ inl first ↦ none_yet a n false below p first same sign | inr new ↦ true≢false (sym new.1 ∙ sign) ]

pub still_below : (a b d : List Port) (n : ℕ) → AreBelow a n → AreAdded a b n true → AreAdded b d n false → AreBelow d (n + 1)
still_below a b d n below first second p there =
    elim (second p there) [
      | inl before ↦ elim (first p before) [
        | inl one ↦ (let low = below p one in omega (arith, low))
        | inr new ↦ (let same = new.0 in omega (arith, same))
      ]
      | inr new ↦ (let same = new.0 in omega (arith, same))
    ]
