-- What is reported of two lines that differ.
use Rattle.std.proofs.Common.{◌≡◌, ℕ, Bool, List, [], ◌∷◌, length, Result, Ok, Err, sym, ap, ◌∙◌}
use Rattle.std.specs.Prelude.{IfNone, IfOk, IfSome, Option, Some, None, is_some, option_map}
use Rattle.std.proofs.lemmas.Bool.{true≢false}
use Rattle.fb_types.specs.declared.run.Form.{Form}
use Rattle.fb_types.specs.declared.run.Form.TheVariants.{One, Two}
use Rattle.fb_expect.specs.Events.{Event, IsLine, event_of}
use Rattle.fb_expect.specs.Reports.{joined}
use Rattle.fb_expect.specs.Traces.{IsEndOf}
use Rattle.fb_expect.specs.Words.{Text}
use Rattle.fb_expect.specs.declared.ending.End.{End}
use Rattle.fb_expect.specs.declared.entry.Entry.{Entry}
use Rattle.fb_expect.specs.declared.difference_report.LineKind.TheVariants.{Other}
use Rattle.fb_expect.specs.declared.difference_report.LineKind.TheVariants.{Event as EventLine}
use Rattle.std.specs.Global.{Vec}
use Rattle.fb_expect.specs.DifferenceReport.{IsKind, ShowsDifference, difference_line, difference_text, shown_line}
use Rattle.fb_expect.specs.declared.parting.Difference.{Difference}
use Rattle.fb_expect.specs.declared.difference_report.LineKind.{LineKind}

pub shown_difference :
    {E : Type 0} (first second : Text) (w : Bool) (d : Difference) (left right : LineKind) (line one two : Text) (r : Result (Vec ℕ) E) → IsKind d.left.items left
    → IsKind d.right.items right → line ≡ difference_line w d.number left right → one ≡ shown_line first d.left.items left → two ≡ shown_line second d.right.items right
    → IfOk r (λ t. t.items ≡ joined (line ∷ one ∷ two ∷ [])) → IfOk r (λ t. ShowsDifference first second w d t.items)
unfolding difference_text
shown_difference first second w d left right line one two (Err e) is-left is-right is-line is-one is-two is = tt
shown_difference first second w d left right line one two (Ok t) is-left is-right is-line is-one is-two is =
    record {
      left = left;
      right = right;
      is_left = is-left;
      is_right = is-right;
      is = is ∙ (λ i. joined (is-line i ∷ is-one i ∷ is-two i ∷ []));
    }

-- ---- Lines of events, in either form

none-some : {A : Type 0} {P : Type 0} (x : A) → ◌≡◌ {A = Option A} None (Some x) → P
none-some {A} x is = absurd (true≢false (sym (ap (λ (o : Option A). is_some o) is)))

pub two-form : (line : Text) (r : Option Entry) → IfSome r (λ e. IsLine Two line (event_of e)) → IfSome r (λ e. IsKind line (EventLine e))
two-form line (Some e) is = (Two, is)
two-form line None is = tt

pub no-form :
    (line : Text) (r : Option Entry) → ((e : Event) → IsLine One line e → ◌≡◌ {A = Option Event} None (Some e))
    → ((e : Event) → IsLine Two line e → option_map event_of r ≡ Some e) → IfNone r ((form : Form) (e : Event) → IsLine form line e → ⊥)
no-form line (Some x) one two = tt
no-form line None one two = λ form e is. by form e is
  where
    by : (form : Form) (e : Event) → IsLine form line e → ⊥
    by One e is = none-some e (one e is)
    by Two e is = none-some e (two e is)

pub other-line :
    (line : Text) → (length line ≡ 0 → ⊥) → ((end : End) → IsEndOf line end → ◌≡◌ {A = Option End} None (Some end))
    → ((form : Form) (e : Event) → IsLine form line e → ⊥) → IsKind line Other
other-line line some last event = (λ is. some (ap length is), λ end is. none-some end (last end is), event)
