-- An agenda on which no event waits up to a moment.
use Rattle.fb_agenda.proofs.lemmas.Common.{◌≡◌, Bool, true, false, List, [], refl, sym, ap, subst, ◌∙◌, None, arith, OnTrue, lookup, Precedes, or_else, same_key, Key, Event, Contents, waiting, IsPast, Moment}
use Rattle.fb_agenda.specs.Agendas.{IsClear}
use Rattle.fb_agenda.proofs.lemmas.Orders.{precedes_tick}
use Rattle.fb_agenda.proofs.lemmas.Moments.{either_tick, precedes_resource}

only_later : (c : Contents) (j : Key) → c.running ≡ [] → lookup (same_key j) c.later ≡ None → waiting c j ≡ None
only_later c j empty none = ap (λ es. or_else (lookup (same_key j) es) (lookup (same_key j) c.later)) empty ∙ none

pub is_clear : (b : Bool) (c : Contents) (m : Moment) → c.running ≡ [] → OnTrue b (IsPast m c.later) → OnTrue b (IsClear m.tick m.resource c)
is_clear true c m empty past = record {
  below = λ j less. only_later c j empty (past.below j less);
  up_to = λ j same le. only_later c j empty (past.up_to j same le);
}
is_clear false c m empty past = tt

-- nothing waits under a key of the moment, or before it
pub clear_itself : (c : Contents) (k : Key) → IsClear k.tick k.resource c → waiting c k ≡ None
clear_itself c k clear = clear.up_to k refl (omega arith)

pub clear_before : (c : Contents) (k : Key) → IsClear k.tick k.resource c → (j : Key) → Precedes j k → waiting c j ≡ None
clear_before c k clear j before = either_tick j.tick k.tick (precedes_tick j k before) (clear.below j) (λ same. clear.up_to j same (precedes_resource j k before same))

-- where no event waits at all
pub past_none : (m : Moment) (es : List (Key × Event)) → es ≡ [] → IsPast m es
past_none m es none = subst (IsPast m) (sym none) (record { below = λ j less. refl; up_to = λ j same le. refl })
