-- What an event block remembers gives its data outputs values of their types.
use Rattle.fb_types.proofs.Common.{◌≡◌, ◌≤◌, ◌<◌, ◌+◌, ℕ, refl, subst, ltb, leb, nat_le, Bool, true, false, cond, List, [], ◌∷◌, Some, codes, arith, ltb-true, lt-ltb, le-leb, and_from, Name, same_name, Values, fits, whole, Event, ports_of_event_block, Memory, Idle, Marks, Flag, Count, Reaction, counted, reaction, expiry, is, memory_of, same_Some}
use Rattle.fb_types.specs.declared.event_kind.EventKind.{EventKind}
use Rattle.fb_types.specs.declared.event_kind.EventKind.TheVariants.{Delay, Cycle, SetReset, DataLatch, CountUp}
use Rattle.fb_types.specs.declared.library.Variable.{Variable}
use Rattle.fb_types.specs.Blocks.{variable}
use Rattle.fb_types.specs.EventBlocks.{Running, output_of, emits, stays, memory_at_start, natural}
use Rattle.fb_types.specs.States as states
use Rattle.fb_types.specs.declared.value.Ty.TheVariants.{Uint, Bool as Boolean}
use Rattle.fb_types.proofs.lemmas.names.NameLaws.{same_from_same_name}
use Rattle.fb_laws.specs.Typed.{variable_named, AllFit, IsTypedMemory}

-- ---- Outputs

none-fits : (all : Values) → AllFit [] all
none-fits all n x h = absurd cc

one_more-fits : (v : Variable) (vs : List Variable) (all : Values) → fits v.ty (all v.name) ≡ true → AllFit vs all → AllFit (v ∷ vs) all
one_more-fits v vs all f g n x h = go (same_name v.name n) refl h
  where
    go : (b : Bool) → same_name v.name n ≡ b → cond b (Some v) (variable_named n vs) ≡ Some x → fits x.ty (all n) ≡ true
    go true e h =
        subst (λ (z : Variable). fits z.ty (all n) ≡ true) (same_Some v x h)
        (subst (λ (z : Name). fits v.ty (all z) ≡ true) (same_from_same_name v.name n e) f)
    go false e h = g n x h

flag-fits : (m : Memory) → fits Boolean (output_of m (codes "Q")) ≡ true
flag-fits Idle = refl
flag-fits (Marks first second) = refl
flag-fits (Flag q) = refl
flag-fits (Running time) = refl
flag-fits (Count cv q) = refl

-- the data outputs of E_SR, E_D_FF and E_CTU
abbrev q : List Variable
q = variable (codes "Q") Boolean ∷ []

abbrev q_and_cv : List Variable
q_and_cv = variable (codes "Q") Boolean ∷ variable (codes "CV") Uint ∷ []

q-fits : (m : Memory) → AllFit q (output_of m)
q-fits m = one_more-fits (variable (codes "Q") Boolean) [] (output_of m) (flag-fits m) (none-fits (output_of m))

count-fits : (cv : ℕ) (reached : Bool) → cv ≤ 65535 → AllFit q_and_cv (output_of (Count cv reached))
count-fits cv reached most =
    one_more-fits (variable (codes "Q") Boolean) (variable (codes "CV") Uint ∷ []) (output_of (Count cv reached)) refl
    (one_more-fits (variable (codes "CV") Uint) [] (output_of (Count cv reached))
    (and_from (leb 0 cv) (ltb cv 65536) (le-leb 0 cv (omega arith)) (lt-ltb cv 65536 (omega arith)))
    (none-fits (output_of (Count cv reached))))

pub outputs-fit : (kind : EventKind) (m : Memory) → IsTypedMemory (Event kind) (states.Remembers m) → AllFit (ports_of_event_block kind).outputs (output_of m)
outputs-fit kind m t = t

-- ---- Memories

counted-fits : (m : Memory) (pv : ℕ) → AllFit q_and_cv (output_of m) → AllFit q_and_cv (output_of (counted m pv).memory)
counted-fits (Count cv reached) pv t = go (ltb cv 65535) refl
  where
    go : (b : Bool) → ltb cv 65535 ≡ b
        → AllFit q_and_cv (output_of (cond {A = Reaction} b (emits (Count (cv + 1) (nat_le pv (cv + 1))) (codes "CUO" ∷ [])) (stays (Count cv reached))).memory)
    go true e = let below : cv < 65535 = ltb-true cv 65535 e in count-fits (cv + 1) (nat_le pv (cv + 1)) (omega arith)
    go false e = t
counted-fits Idle pv t = t
counted-fits (Marks first second) pv t = t
counted-fits (Flag f) pv t = t
counted-fits (Running time) pv t = t

-- a reset, or one more
counter-fits : (m : Memory) (pv : ℕ) → AllFit q_and_cv (output_of m) → (reset : Bool)
    → AllFit q_and_cv (output_of (cond {A = Reaction} reset (emits (Count 0 false) (codes "RO" ∷ [])) (counted m pv)).memory)
counter-fits m pv t true = count-fits 0 false (omega arith)
counter-fits m pv t false = counted-fits m pv t

pub reaction-typed : (kind : EventKind) (m : states.Memory) (e : Name) (tick : ℕ) (vars : Values) → IsTypedMemory (Event kind) m
    → IsTypedMemory (Event kind) (states.Remembers (reaction kind (memory_of m) e tick vars).memory)
reaction-typed SetReset m e tick vars t = q-fits (reaction SetReset (memory_of m) e tick vars).memory
reaction-typed DataLatch m e tick vars t = q-fits (reaction DataLatch (memory_of m) e tick vars).memory
reaction-typed CountUp m e tick vars t = counter-fits (memory_of m) (natural (whole (vars (codes "PV")))) t (is e (codes "R"))
reaction-typed kind m e tick vars t = none-fits (output_of (reaction kind (memory_of m) e tick vars).memory)

pub expiry-typed : (kind : EventKind) (m : states.Memory) (tick : ℕ) → IsTypedMemory (Event kind) m
    → IsTypedMemory (Event kind) (states.Remembers (expiry kind (memory_of m) tick).memory)
expiry-typed Delay m tick t = none-fits (output_of (expiry Delay (memory_of m) tick).memory)
expiry-typed Cycle m tick t = none-fits (output_of (expiry Cycle (memory_of m) tick).memory)
expiry-typed _ m tick t = t

pub start-typed : (kind : EventKind) → IsTypedMemory (Event kind) (states.Remembers (memory_at_start kind))
start-typed SetReset = q-fits (Flag false)
start-typed DataLatch = q-fits (Flag false)
start-typed CountUp = count-fits 0 false (omega arith)
start-typed kind = none-fits (output_of (memory_at_start kind))
