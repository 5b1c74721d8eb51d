-- Ports that are marked by the remainders of their prints.
use Rattle.fb_expect.proofs.lemmas.Common.{◌≡◌, ℕ, Bool, true, false, List, length, get_or, refl, sym, ap, ◌∙◌, arith, inl, inr, ◌&&◌, cases_lt, get_or_past, Event, is_at, Text, Pattern, Rule}
use Rattle.fb_types.proofs.Common.{◌≢◌, ◌%◌, replicate, set, bytes_eq, cases_Bool, cases_eq, false≢true, get_or-set_other, get_or-set_same, bytes_eq-Decides}
use Rattle.std.proofs.Math.ListN.{length-set}
use Rattle.std.proofs.lemmas.List.{get_or-replicate}
use Rattle.fb_expect.specs.Passing.{Adds, AddsOptional, Covers, IsElsewhere, IsTimeless, is_marked}
use Rattle.fb_expect.specs.Patterns.{is_in, is_of, is_of_form, is_way}
use Rattle.fb_expect.specs.Fingerprints.{fingerprint}
use Rattle.fb_expect.specs.declared.port_pattern.PortForm.{PortForm}
use Rattle.fb_expect.specs.declared.port_pattern.PortForm.TheVariants.{Whole}

both-off : (a b c : Bool) → b ≡ false → (a && (b && c)) ≡ false
both-off true true c e = absurd (false≢true (sym e))
both-off true false c e = refl
both-off false b c e = refl

pub elsewhere : (p : Pattern) (e : Event) → is_of p.port e.port ≡ false → IsElsewhere p e
unfolding is_at
elsewhere p e none = both-off (is_way p.way e.taken) (is_of p.port e.port) (is_in p.resource e.resource) none

-- where all are marked
pub all-marked : (marks : List Bool) → marks ≡ replicate 64 true → (z : Text) → is_marked marks z ≡ true
all-marked marks is z =
    ap (λ (ms : List Bool). get_or ms (fingerprint z % 64) true) is ∙ get_or-replicate 64 (fingerprint z % 64) true true (omega arith)

-- a pattern of one port is not of another
not-of : (p : Pattern) (e : Event) → p.port.form ≡ Whole → (fingerprint e.port % 64 ≡ fingerprint p.port.text % 64 → ⊥) → is_of p.port e.port ≡ false
not-of p e closed other =
    ap (λ (f : PortForm). is_of_form f p.port.text e.port) closed
    ∙ elim (cases_Bool (bytes_eq e.port p.port.text)) [
      | inl same ↦ absurd (other (ap (λ (z : Text). fingerprint z % 64) ((bytes_eq-Decides e.port p.port.text).0 same)))
      | inr off ↦ off
    ]

-- a mark that is set is on, and so is one after all
set-on : (marks : List Bool) (i : ℕ) → get_or (set marks i true) i true ≡ true
set-on marks i =
    elim (cases_lt i (length marks)) [
      | inl lt ↦ get_or-set_same marks i true true lt
      | inr le ↦ get_or_past (set marks i true) i true (let long = length-set marks i true in omega arith)
    ]

-- one port is marked
pub adds-one : (marks : List Bool) (p : Pattern) → p.port.form ≡ Whole → Adds marks p (set marks (fingerprint p.port.text % 64) true)
adds-one marks p closed e off =
    elim (cases_eq (fingerprint e.port % 64) (fingerprint p.port.text % 64)) [
      | inl same ↦
          (let on : is_marked (set marks (fingerprint p.port.text % 64) true) e.port ≡ true =
          ap (λ (k : ℕ). get_or (set marks (fingerprint p.port.text % 64) true) k true) same ∙ set-on marks (fingerprint p.port.text % 64) in
          absurd (false≢true (sym off ∙ on)))
      | inr other ↦
          (sym (get_or-set_other marks (fingerprint p.port.text % 64) (fingerprint e.port % 64) true true other) ∙ off, elsewhere p e (not-of p e closed other))
    ]

-- all ports are marked
never-off : {P : Type 0} (marks : List Bool) (z : Text) → marks ≡ replicate 64 true → is_marked marks z ≡ false → P
never-off marks z is off = absurd (false≢true (sym off ∙ all-marked marks is z))

pub adds-all : (old : List Bool) (p : Pattern) (marks : List Bool) → marks ≡ replicate 64 true → Adds old p marks
adds-all old p marks is e off = never-off marks e.port is off

pub covers-all : (r : Rule) (marks : List Bool) → marks ≡ replicate 64 true → Covers marks r
covers-all r marks is e off = never-off marks e.port is off

-- the ports of all patterns are marked
pub covers : (r : Rule) (m n o q : List Bool) → Adds m r.first n → AddsOptional n r.second o → AddsOptional o r.third q → IsTimeless r.need → Covers q r
covers r m n o q first second third free e off =
    let c = third e off in
    let b = second e c.0 in
    let a = first e b.0 in
    record { timeless = free; first = a.1; second = b.1; third = c.1 }
