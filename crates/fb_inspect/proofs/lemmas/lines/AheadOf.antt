-- What is ahead of a line once lines were read ahead.
use Rattle.fb_inspect.proofs.lemmas.Common.{◌≡◌, ◌⊎◌, ℕ, List, [], ◌++◌, Option, Some, None, refl, sym, ap, ◌∙◌, inl, inr, arith, IfSome, take_through, system_of, System, Form, Line, ending_of, IsTextOf, HasNames, PortTable, IsNext, AreAhead, IsLeft, Next}
use Rattle.fb_wave.proofs.lemmas.Lining.{line_not_last}
use Rattle.fb_inspect.specs.walk.Standing.{MayBeAhead}
use Rattle.fb_inspect.specs.walk.Walking.{AreGathered, IsOwnRow}
use Rattle.fb_inspect.specs.declared.walk.reading.Next.TheVariants as next
use Rattle.fb_inspect.proofs.lemmas.lines.OneLine.{line_once}

-- the last line that was read ahead is that of no emission of the block
pub last_other :
    (t : PortTable) (form : Form) → HasNames (system_of t.system.now) → (first : Line) (last : List ℕ) (n : Next) → IsNext (system_of t.system.now) form first.key.tick last n
    → ((l : Line) → n ≡ next.Event l → IsOwnRow l first → ⊥) → (m : Line) → IsTextOf (system_of t.system.now) form m last → IsOwnRow m first → ⊥
last_other t form names first last (next.Event l) is none m text own =
    let once = line_once t names form l m last is.0 text in
    none l refl (record { taken = once.taken ∙ own.taken; instance = once.instance ∙ own.instance; tick = once.tick ∙ own.tick })
last_other t form names first last (next.End end) is none m text own = line_not_last (system_of t.system.now) form m (ending_of end) text.line (sym text.is ∙ is.0.is)
last_other t form names first last next.Bad is none m text own = let tick = own.tick in (is names).0 m text (omega (arith, tick))

pub gathered_ahead :
    (sys : System) (form : Form) (first : Line) (rows : List Line) (text last whole : List ℕ) (input remaining : Option (List ℕ)) → AreGathered sys form first rows text last input remaining
    → ((m : Line) → IsTextOf sys form m last → IsOwnRow m first → ⊥) → whole ≡ text ++ last
    → IfSome input (λ before. IsLeft remaining (λ rest. (before ≡ whole ++ rest) × AreAhead sys form first rows whole last rest))
gathered_ahead sys form first rows text last whole None remaining are other is = tt
gathered_ahead sys form first rows text last whole (Some before) None are other is = absurd are.read
gathered_ahead sys form first rows text last whole (Some before) (Some rest) are other is = (
  rest,
  refl,
  (
    are.read ∙ ap (λ (u : List ℕ). u ++ rest) (sym is),
    record { each = are.each; is = is ∙ ap (λ (u : List ℕ). u ++ last) are.is; alone = by are.alone; other = other },
  ),
)
  where
    by : (Some before ≡ None) ⊎ (last ≡ take_through 10 (last ++ rest)) → last ≡ take_through 10 (last ++ rest)
    by (inl none) = absurd (cc)
    by (inr alone) = alone

-- nothing more was read
pub look_stays :
    (sys : System) (form : Form) (first : Line) (text last : List ℕ) (input : Option (List ℕ)) → (text ≡ [] → ⊥)
    → IfSome input (λ before. MayBeAhead sys form first text last before → IsLeft input (λ rest. (text ++ before ≡ text ++ rest) × ((rows : List Line) × AreAhead sys form first rows text last rest)))
look_stays sys form first text last None some = tt
look_stays sys form first text last (Some before) some = λ may. (before, refl, (refl, by may))
  where
    by : MayBeAhead sys form first text last before → (rows : List Line) × AreAhead sys form first rows text last before
    by (inl none) = absurd (some none)
    by (inr there) = there

pub look_filled :
    (sys : System) (form : Form) (first : Line) (text last : List ℕ) (rows : List Line) (whole new : List ℕ) (input remaining : Option (List ℕ)) → text ≡ []
    → IfSome input (λ before. IsLeft remaining (λ rest. (before ≡ whole ++ rest) × AreAhead sys form first rows whole new rest))
    → IfSome input (λ before. MayBeAhead sys form first text last before → IsLeft remaining (λ rest. (text ++ before ≡ whole ++ rest) × ((more : List Line) × AreAhead sys form first more whole new rest)))
look_filled sys form first text last rows whole new None remaining none ahead = tt
look_filled sys form first text last rows whole new (Some before) remaining none ahead =
    λ may. (ahead.0, ahead.1, (ap (λ (u : List ℕ). u ++ before) none ∙ ahead.2.0, (rows, ahead.2.1)))
