-- A text has a fault, or it is a pattern.
use Rattle.fb_expect.proofs.lemmas.Common.{◌≡◌, ◌∙◌, ◌≤◌, refl, sym, ap, option_map, true≢false, Bool, true, false, not, if◌then◌else◌, is_some, List, [], ◌∷◌, length, map, Option, Some, None, Result, Ok, Err, IfOk, Text, Pattern, words_of, arith}
use Rattle.fb_expect.specs.Contradictions.{impossible}
use Rattle.fb_expect.specs.Lists.{◌>>=◌, each}
use Rattle.fb_expect.specs.PatternFaults.{condition_fault, fault_among, fault_at, or_variable, words_fault, pattern_fault}
use Rattle.fb_expect.specs.Written.{condition_of, is_resource, pattern_in, pattern_of, pattern_with, port_of, resource_of, upper, way_of}
use Rattle.fb_expect.specs.declared.pattern.Condition.{Condition}
use Rattle.fb_expect.specs.declared.pattern.PatternFault.{PatternFault}
use Rattle.fb_expect.specs.declared.pattern.PatternPart.TheVariants as part
use Rattle.fb_expect.specs.declared.pattern.Way.{Way}
use Rattle.fb_expect.specs.declared.port_pattern.PortForm.{PortForm}

-- one of the words is no condition, or all are
conditions : (cs : List Text) → is_some (condition_fault cs) ≡ not (is_some (each condition_of cs))
unfolding each
conditions [] = refl
conditions (w ∷ ws) = by (condition_of w) (each condition_of ws) (conditions ws)
  where
    by :
        (o : Option Condition) (m : Option (List Condition)) → is_some (condition_fault ws) ≡ not (is_some m)
        → is_some (if is_some o then condition_fault ws else Some (fault_at part.Condition w)) ≡ not (is_some (o >>= λ y. m >>= λ ys. Some (y ∷ ys)))
    by None m so = refl
    by (Some y) None so = so
    by (Some y) (Some ys) so = so

-- the pattern of these parts
abbrev plain : (r u : Text) → Way → Text × PortForm → List Condition → Pattern
plain r u w q cs = record { resource = resource_of r; way = w; port = record { text = q.0; form = q.1 }; conditions = cs; text = u }

abbrev made : (r u : Text) → Way → Text × PortForm → List Condition → Option Pattern
made r u w q cs = if is_some (impossible cs) then None else Some (plain r u w q cs)

-- one of the parts is wrong, or they make a pattern
among : (r s p : Text) (cs : List Text) (u : Text) → is_some (fault_among r s p cs) ≡ not (is_some (pattern_with r s p cs u))
unfolding fault_among pattern_with
among r s p cs u = by (is_resource r) (way_of s) (port_of p) (condition_fault cs) (each condition_of cs) (conditions cs)
  where
    last : (f : Option PatternFault) (m : Option (List Condition)) (w : Way) (q : Text × PortForm) → is_some f ≡ not (is_some m) → is_some (or_variable f m) ≡ not (is_some (m >>= λ xs. made r u w q xs))
    last (Some f) None w q so = refl
    last None None w q so = absurd (true≢false (sym so))
    last (Some f) (Some xs) w q so = absurd (true≢false so)
    last None (Some xs) w q so = found (impossible xs)
      where
        found : (o : Option Condition) → is_some (option_map (λ c. fault_at part.Variable c.variable) o) ≡ not (is_some (if is_some o then None else Some (plain r u w q xs)))
        found None = refl
        found (Some c) = refl

    by :
        (b : Bool) (way : Option Way) (port : Option (Text × PortForm)) (f : Option PatternFault) (m : Option (List Condition)) → is_some f ≡ not (is_some m)
        → is_some
        (if b
        then (if is_some way then (if is_some port then or_variable f m else Some (fault_at part.Port p)) else Some (fault_at part.Sign s))
        else Some (fault_at part.Resource r))
        ≡ not (is_some (way >>= λ w. port >>= λ q.
        if b
        then (m >>= λ xs. made r u w q xs)
        else None))
    by true (Some w) (Some q) f m so = last f m w q so
    by true (Some w) None f m so = refl
    by true None port f m so = refl
    by false (Some w) (Some q) f m so = refl
    by false (Some w) None f m so = refl
    by false None port f m so = refl

faulty : (ws : List Text) (u : Text) → is_some (words_fault ws) ≡ not (is_some (pattern_in ws u))
faulty [] u = refl
faulty (r ∷ []) u = refl
faulty (r ∷ s ∷ []) u = refl
faulty (r ∷ s ∷ p ∷ cs) u = among r s p cs u

faulty-text : (z : Text) → is_some (pattern_fault z) ≡ not (is_some (pattern_of z))
unfolding pattern_of
faulty-text z = faulty (words_of (map upper z)) (map upper z)

-- so what is found is exact
pub exact : {E : Type 0} (r : Result (Option PatternFault) E) (z : Text) → IfOk r (λ o. o ≡ pattern_fault z) → IfOk r (λ o. is_some o ≡ not (is_some (pattern_of z)))
exact (Ok o) z is = ap (λ (q : Option PatternFault). is_some q) is ∙ faulty-text z
exact (Err e) z is = tt

-- ---- a loop over the words

-- a word that is a condition
pub passes : (w : Text) (ws rest : List Text) (total : Option PatternFault) → rest ≡ w ∷ ws → is_some (condition_of w) ≡ true → total ≡ condition_fault rest → total ≡ condition_fault ws
passes w ws rest total split is so =
    so ∙ ap condition_fault split ∙ ap (λ (b : Bool). if b then condition_fault ws else Some (fault_at part.Condition w)) is

-- one that is not
pub stops : (w : Text) (ws rest : List Text) (total : Option PatternFault) → rest ≡ w ∷ ws → condition_of w ≡ None → total ≡ condition_fault rest → total ≡ Some (fault_at part.Condition w)
stops w ws rest total split is so =
    so ∙ ap condition_fault split ∙ ap (λ (o : Option Condition). if is_some o then condition_fault ws else Some (fault_at part.Condition w)) is

-- no more words
pub none-left : (rest : List Text) (total : Option PatternFault) → length rest ≤ 0 → total ≡ condition_fault rest → total ≡ None
none-left [] total le so = so
none-left (w ∷ ws) total le so = absurd (omega arith)
