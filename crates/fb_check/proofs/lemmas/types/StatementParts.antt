-- A statement that is right by itself is right in each of its parts.
use Rattle.fb_types.proofs.Common.{◌≡◌, ℕ, zero, suc, Bool, true, false, not, ◌&&◌, refl, sym, ◌∙◌, and_parts, true≢false, is_condition, Name, Stmt, Empty, Exit, Return, Assign, If, Case, For, While, Repeat, no_stmt, Choices, no_choice, then_choices}
use Rattle.fb_types.specs.Kinds.{Context, is_value_kind, is_whole, same_value_kind, value_kind_of, value_kind_of_type}
use Rattle.fb_types.specs.Syntax.{Expr}
use Rattle.fb_types.specs.declared.value_kind.ValueKind.TheVariants.{WholeNumber}
use Rattle.fb_check_names.specs.declared.location.StatementPart.{StatementPart}
use Rattle.fb_check_names.specs.declared.location.StatementPart.TheVariants as part
use Rattle.fb_check.specs.types.Statements.{choice_right, conditions_right, own_right, part_right}

first : (a b : Bool) → (a && b) ≡ true → a ≡ true
first a b h = (and_parts a b h).0

last : (a b : Bool) → (a && b) ≡ true → b ≡ true
last a b h = (and_parts a b h).1

choice_passes : (p : Context) (cs : Choices) (k : ℕ) → conditions_right p cs ≡ true → choice_right p cs k ≡ true
choice_passes p no_choice k h = refl
choice_passes p (then_choices c body rest) zero h = first (is_condition p c) (conditions_right p rest) h
choice_passes p (then_choices c body rest) (suc k) h = choice_passes p rest k (last (is_condition p c) (conditions_right p rest) h)

record ForParts (p : Context) (n : Name) (a b c : Expr) : Type 0 where
  assigned : not (p.fixed n) ≡ true
  control : same_value_kind WholeNumber (value_kind_of_type (p.types n)) ≡ true
  start : is_whole p a ≡ true
  end : is_whole p b ≡ true
  step : is_whole p c ≡ true

parts_of_for : (p : Context) (n : Name) (a b c : Expr) → own_right p (For n a b c no_stmt) ≡ true → ForParts p n a b c
parts_of_for p n a b c h =
    let free : Bool = not (p.fixed n) in
    let number : Bool = same_value_kind WholeNumber (value_kind_of_type (p.types n)) in
    let four = and_parts (((free && number) && is_whole p a) && is_whole p b) (is_whole p c) h in
    let three = and_parts ((free && number) && is_whole p a) (is_whole p b) four.0 in
    let two = and_parts (free && number) (is_whole p a) three.0 in
    let one = and_parts free number two.0 in
    record { assigned = one.0; control = one.1; start = two.1; end = three.1; step = four.1 }

part_passes : (p : Context) (s : Stmt) (o : StatementPart) → own_right p s ≡ true → part_right p s o ≡ true
part_passes p Empty part.Exit h = refl
part_passes p Empty part.Assigned h = refl
part_passes p Empty part.Value h = refl
part_passes p Empty (part.Choice k) h = refl
part_passes p Empty part.Selector h = refl
part_passes p Empty part.Control h = refl
part_passes p Empty part.Start h = refl
part_passes p Empty part.End h = refl
part_passes p Empty part.Step h = refl
part_passes p Empty part.Condition h = refl
part_passes p Empty part.Until h = refl
part_passes p Exit part.Exit h = h
part_passes p Exit part.Assigned h = refl
part_passes p Exit part.Value h = refl
part_passes p Exit (part.Choice k) h = refl
part_passes p Exit part.Selector h = refl
part_passes p Exit part.Control h = refl
part_passes p Exit part.Start h = refl
part_passes p Exit part.End h = refl
part_passes p Exit part.Step h = refl
part_passes p Exit part.Condition h = refl
part_passes p Exit part.Until h = refl
part_passes p Return part.Exit h = refl
part_passes p Return part.Assigned h = refl
part_passes p Return part.Value h = refl
part_passes p Return (part.Choice k) h = refl
part_passes p Return part.Selector h = refl
part_passes p Return part.Control h = refl
part_passes p Return part.Start h = refl
part_passes p Return part.End h = refl
part_passes p Return part.Step h = refl
part_passes p Return part.Condition h = refl
part_passes p Return part.Until h = refl
part_passes p (Assign n e) part.Exit h = refl
part_passes p (Assign n e) part.Assigned h = first (not (p.fixed n)) (is_value_kind (value_kind_of_type (p.types n)) (value_kind_of p.types e)) h
part_passes p (Assign n e) part.Value h = last (not (p.fixed n)) (is_value_kind (value_kind_of_type (p.types n)) (value_kind_of p.types e)) h
part_passes p (Assign n e) (part.Choice k) h = refl
part_passes p (Assign n e) part.Selector h = refl
part_passes p (Assign n e) part.Control h = refl
part_passes p (Assign n e) part.Start h = refl
part_passes p (Assign n e) part.End h = refl
part_passes p (Assign n e) part.Step h = refl
part_passes p (Assign n e) part.Condition h = refl
part_passes p (Assign n e) part.Until h = refl
part_passes p (If cs others) part.Exit h = refl
part_passes p (If cs others) part.Assigned h = refl
part_passes p (If cs others) part.Value h = refl
part_passes p (If cs others) (part.Choice k) h = choice_passes p cs k h
part_passes p (If cs others) part.Selector h = refl
part_passes p (If cs others) part.Control h = refl
part_passes p (If cs others) part.Start h = refl
part_passes p (If cs others) part.End h = refl
part_passes p (If cs others) part.Step h = refl
part_passes p (If cs others) part.Condition h = refl
part_passes p (If cs others) part.Until h = refl
part_passes p (Case e bs others) part.Exit h = refl
part_passes p (Case e bs others) part.Assigned h = refl
part_passes p (Case e bs others) part.Value h = refl
part_passes p (Case e bs others) (part.Choice k) h = refl
part_passes p (Case e bs others) part.Selector h = h
part_passes p (Case e bs others) part.Control h = refl
part_passes p (Case e bs others) part.Start h = refl
part_passes p (Case e bs others) part.End h = refl
part_passes p (Case e bs others) part.Step h = refl
part_passes p (Case e bs others) part.Condition h = refl
part_passes p (Case e bs others) part.Until h = refl
part_passes p (For n a b c body) part.Exit h = refl
part_passes p (For n a b c body) part.Assigned h = (parts_of_for p n a b c h).assigned
part_passes p (For n a b c body) part.Value h = refl
part_passes p (For n a b c body) (part.Choice k) h = refl
part_passes p (For n a b c body) part.Selector h = refl
part_passes p (For n a b c body) part.Control h = (parts_of_for p n a b c h).control
part_passes p (For n a b c body) part.Start h = (parts_of_for p n a b c h).start
part_passes p (For n a b c body) part.End h = (parts_of_for p n a b c h).end
part_passes p (For n a b c body) part.Step h = (parts_of_for p n a b c h).step
part_passes p (For n a b c body) part.Condition h = refl
part_passes p (For n a b c body) part.Until h = refl
part_passes p (While c body) part.Exit h = refl
part_passes p (While c body) part.Assigned h = refl
part_passes p (While c body) part.Value h = refl
part_passes p (While c body) (part.Choice k) h = refl
part_passes p (While c body) part.Selector h = refl
part_passes p (While c body) part.Control h = refl
part_passes p (While c body) part.Start h = refl
part_passes p (While c body) part.End h = refl
part_passes p (While c body) part.Step h = refl
part_passes p (While c body) part.Condition h = h
part_passes p (While c body) part.Until h = refl
part_passes p (Repeat body c) part.Exit h = refl
part_passes p (Repeat body c) part.Assigned h = refl
part_passes p (Repeat body c) part.Value h = refl
part_passes p (Repeat body c) (part.Choice k) h = refl
part_passes p (Repeat body c) part.Selector h = refl
part_passes p (Repeat body c) part.Control h = refl
part_passes p (Repeat body c) part.Start h = refl
part_passes p (Repeat body c) part.End h = refl
part_passes p (Repeat body c) part.Step h = refl
part_passes p (Repeat body c) part.Condition h = refl
part_passes p (Repeat body c) part.Until h = h

pub part_fails : (p : Context) (s : Stmt) (o : StatementPart) → part_right p s o ≡ false → own_right p s ≡ false
part_fails p s o h =
    elim (own_right p s) as (λ b. own_right p s ≡ b → b ≡ false) [
      | true ↦ λ e. absurd (true≢false (sym (part_passes p s o e) ∙ h))
      | false ↦ λ e. refl
    ] refl
