use Rattle.fb_types.proofs.Common.{◌≡◌, Bor, List, ℕ, Bool, Option, Some, option_map, refl, true, false, sym, subst, ap, ◌∙◌, Decides, Decides-eqb, slice_eq-Decides}
use Rattle.std.proofs.lemmas.Bool.{false≢true}
use Rattle.std.proofs.lemmas.Option.{same_Some}
use Rattle.std.specs.Bool.{MatchBool}
use Rattle.std.specs.Prelude.{IsSomeAnd}
use Rattle.csv.specs.Records.{field_at, fields_of}
use Rattle.csv.specs.declared.record.ByteRecord.{ByteRecord}
use Rattle.fb_inputs.proofs.row_positions.is_field.Goals as goal

abbrev Says : Bool → ℕ → List ℕ → Option ByteRecord → Type 0
Says b field value o = MatchBool b (IsSomeAnd o (λ r. field_at (fields_of r) field ≡ Some value)) (IsSomeAnd o (λ r. field_at (fields_of r) field ≡ Some value) → ⊥)

same_field : (b : Bool) (found : Option (List ℕ)) (read value : List ℕ) → found ≡ Some read → Decides b (read ≡ value) → MatchBool b (found ≡ Some value) (found ≡ Some value → ⊥)
same_field true found read value is decides = is ∙ ap (λ (f : List ℕ). Some f) (decides.0 refl)
same_field false found read value is decides = λ e. false≢true (decides.1 (same_Some read value (sym is ∙ e)))

pub returns-in-Some-get : goal.returns-in-Some-get
returns-in-Some-get c =
    let read = c.in-Some-get.read.now in
    let there : Some read ≡ field_at (fields_of c.in-Some.row) c.args.field = ap (λ (o : Option (Bor (List ℕ))). option_map (λ (b : Bor (List ℕ)). b.now) o) (sym c.in-Some-get.is) ∙ c.get.ensures.value in
    subst (λ (o : Option ByteRecord). Says c.eq.result c.args.field c.args.value.now o) (sym c.in-Some.is)
    (same_field c.eq.result _ read c.args.value.now (sym there) (slice_eq-Decides Decides-eqb read c.args.value.now c.eq.result c.eq.ensures))
