-- The last line of a trace where a resource stops says of that stop alone.
use Rattle.fb_inspect.proofs.lemmas.Common.{◌≡◌, ◌<◌, ◌≤◌, ℕ, zero, suc, List, [], ◌∷◌, ◌++◌, length, get_or, codes, decimal, map, refl, sym, ap, subst, ◌∙◌, inl, inr, arith, append_assoc, Contains, flat_map, slice_get, unwrap_or, append_cancel_left, Contains-append_right, AreAccepted, Inputs, system_of, Name, Twice, algorithm_names, basics, interfaces, networks, AtStop, System, last_line, Library, StopMark, Reason, Divide, Range, Steps, Form, ending_of, Outcome, Stop, IsEndOf, HasNames, IsNext, Next}
use Rattle.fb_types.proofs.Common.{resource_names_of, block_type_names, instance_names, name_spaces, parameter_lists, port_names, state_names, with_lists, reason_text}
use Rattle.fb_types.specs.declared.deploy.Plan.{Plan}
use Rattle.fb_types.proofs.lemmas.lists.ByIndex.{element_of_index}
use Rattle.fb_trace.specs.declared.last.Outcome.TheVariants.{End}
use Rattle.fb_wave.specs.Reading.{number_text}
use Rattle.fb_wave.proofs.lemmas.Cutting.{word_once}
use Rattle.fb_wave.proofs.lemmas.Known.{there}
use Rattle.fb_wave.proofs.lemmas.Numerals.{number_once}
use Rattle.fb_wave.proofs.lemmas.Plain.{name_word}
use Rattle.fb_wave.proofs.lemmas.Lining.{line_not_last}
use Rattle.fb_inspect.specs.walk.Standing.{AreApart}
use Rattle.fb_inspect.specs.declared.walk.reading.Next.TheVariants as next

-- ---- Resources

abbrev name_in : List Name → ℕ → Name
name_in names r = unwrap_or (slice_get names r) []

apart_in : (names : List Name) → (Twice names → ⊥) → (i j : ℕ) → i < length names → j < length names → name_in names i ≡ name_in names j → i ≡ j
apart_in [] once i j here other same = absurd (omega arith)
apart_in (x ∷ xs) once zero zero here other same = refl
apart_in (x ∷ xs) once zero (suc j) here other same = absurd (once (inl (subst (Contains xs) (sym same) (there xs j [] (omega arith)))))
apart_in (x ∷ xs) once (suc i) zero here other same = absurd (once (inl (subst (Contains xs) same (there xs i [] (omega arith)))))
apart_in (x ∷ xs) once (suc i) (suc j) here other same = ap suc (apart_in xs (λ t. once (inr t)) i j (omega arith) (omega arith) same)

last_contained : {X : Type 0} (xs : List X) (x : X) → Contains (xs ++ x ∷ []) x
last_contained xs x = Contains-append_right xs (x ∷ []) x (element_of_index (x ∷ []) 0 x refl)

names_spaced : (lib : Library) (plan : Plan) → Contains (name_spaces lib plan) (resource_names_of plan)
names_spaced lib plan =
    last_contained
    (block_type_names lib ∷ map port_names lib.blocks ++ map algorithm_names (basics lib) ++ map state_names (basics lib)
    ++ map (λ n. instance_names n.1) (networks lib) ++ flat_map with_lists (interfaces lib) ++ flat_map (λ n. parameter_lists n.1) (networks lib))
    (resource_names_of plan)

-- in a system that was accepted
pub names_apart : (i : Inputs) → AreAccepted i → AreApart (system_of i)
names_apart i accepted = apart_in (system_of i).resource_names (λ h. accepted 20 (inl (refl, inl (resource_names_of i.plan, names_spaced i.library i.plan, h))))

-- ---- Texts

abbrev after_name : Reason → List ℕ
after_name reason = codes " " ++ (reason_text reason ++ 10 ∷ [])

abbrev after_stop : System → (tick resource : ℕ) → Reason → List ℕ
after_stop sys k r reason = number_text k ++ (name_in sys.resource_names r ++ after_name reason)

regroup : (s n h b r l : List ℕ) → (((s ++ (n ++ h)) ++ b) ++ r) ++ l ≡ s ++ (n ++ (h ++ (b ++ (r ++ l))))
regroup s n h b r l = simp append_assoc

stop_is : (sys : System) (k r : ℕ) (reason : Reason) → last_line sys (AtStop k r reason) ≡ codes "stop " ++ after_stop sys k r reason
stop_is sys k r reason = regroup (codes "stop ") (number_text k) (name_in sys.resource_names r) (codes " ") (reason_text reason) (10 ∷ [])

horizon_is : (sys : System) (h : ℕ) → (codes "end " ++ decimal h) ++ 10 ∷ [] ≡ codes "end " ++ (decimal h ++ 10 ∷ [])
horizon_is sys h = append_assoc (codes "end ") (decimal h) (10 ∷ [])

no_end : (t u : List ℕ) → codes "end " ++ t ≡ codes "stop " ++ u → ⊥
no_end t u e = let first : 101 ≡ 115 = ap (λ (l : List ℕ). get_or l 0 0) e in omega (arith, first)

differ : (r q : Reason) (m n : ℕ) → get_or (after_name r) 1 0 ≡ m → get_or (after_name q) 1 0 ≡ n → after_name r ≡ after_name q → m ≡ n
differ r q m n one two e = sym one ∙ ap (λ (l : List ℕ). get_or l 1 0) e ∙ two

reason_once : (r q : Reason) → after_name r ≡ after_name q → r ≡ q
reason_once Steps Steps e = refl
reason_once Steps Divide e = let h = differ Steps Divide 115 100 refl refl e in absurd (omega (arith, h))
reason_once Steps Range e = let h = differ Steps Range 115 114 refl refl e in absurd (omega (arith, h))
reason_once Divide Steps e = let h = differ Divide Steps 100 115 refl refl e in absurd (omega (arith, h))
reason_once Divide Divide e = refl
reason_once Divide Range e = let h = differ Divide Range 100 114 refl refl e in absurd (omega (arith, h))
reason_once Range Steps e = let h = differ Range Steps 114 115 refl refl e in absurd (omega (arith, h))
reason_once Range Divide e = let h = differ Range Divide 114 100 refl refl e in absurd (omega (arith, h))
reason_once Range Range e = refl

abbrev mark_of : ℕ → ℕ → Reason → StopMark
mark_of k r reason = record { tick = k; resource = r; reason = reason }

stop_once :
    (sys : System) → HasNames sys → AreApart sys → (m : StopMark) (k r : ℕ) (reason : Reason) → IsEndOf sys (AtStop m.tick m.resource m.reason) → IsEndOf sys (AtStop k r reason)
    → last_line sys (AtStop m.tick m.resource m.reason) ≡ last_line sys (AtStop k r reason) → m ≡ record { tick = k; resource = r; reason = reason }
stop_once sys names apart m k r reason can also e =
    let small = can.0 in
    let little = also.0 in
    let texts = append_cancel_left (codes "stop ") (after_stop sys m.tick m.resource m.reason) (after_stop sys k r reason) (sym (stop_is sys m.tick m.resource m.reason) ∙ e ∙ stop_is sys k r reason) in
    let ticks = number_once m.tick k _ _ (omega (arith, small)) (omega (arith, little)) texts in
    let word : (i : ℕ) → i < length sys.resource_names → _ = λ i within. name_word (name_in sys.resource_names i) (names.resources (name_in sys.resource_names i) (there sys.resource_names i [] within)) in
    let both = word_once (name_in sys.resource_names m.resource) (name_in sys.resource_names r) (after_name m.reason) (after_name reason) (word m.resource can.1) (word r also.1) refl refl ticks.1 in
    let tick : m.tick ≡ k = ticks.0 in
    let resource : m.resource ≡ r = apart m.resource r can.1 also.1 both.0 in
    let why : m.reason ≡ reason = reason_once m.reason reason both.1 in
    ap (λ (t : ℕ). mark_of t m.resource m.reason) tick ∙ ap (λ (q : ℕ). mark_of k q m.reason) resource ∙ ap (mark_of k r) why

-- an end with the text of a stop is that stop
pub end_once :
    (sys : System) → HasNames sys → AreApart sys → (end : Outcome) (k r : ℕ) (reason : Reason) → IsEndOf sys (ending_of end) → IsEndOf sys (AtStop k r reason)
    → last_line sys (ending_of end) ≡ last_line sys (AtStop k r reason) → end ≡ Stop (record { tick = k; resource = r; reason = reason })
end_once sys names apart (End h) k r reason can also e = absurd (no_end _ _ (sym (horizon_is sys h) ∙ e ∙ stop_is sys k r reason))
end_once sys names apart (Stop m) k r reason can also e = ap Stop (stop_once sys names apart m k r reason can also e)

-- the next line is not that stop, so its text says something else
pub no_stop_text :
    (sys : System) (form : Form) → HasNames sys → AreApart sys → (tick : ℕ) (text : List ℕ) (n : Next) (k r : ℕ) (reason : Reason) → IsNext sys form tick text n → tick ≤ k
    → IsEndOf sys (AtStop k r reason) → (n ≡ next.End (Stop (record { tick = k; resource = r; reason = reason })) → ⊥) → text ≡ last_line sys (AtStop k r reason) → ⊥
no_stop_text sys form names apart tick text (next.Event l) k r reason is later can other e = line_not_last sys form l (AtStop k r reason) is.0.line (sym is.0.is ∙ e)
no_stop_text sys form names apart tick text (next.End end) k r reason is later can other e = other (ap next.End (end_once sys names apart end k r reason is.0.can can (sym is.0.is ∙ e)))
no_stop_text sys form names apart tick text next.Bad k r reason is later can other e = (is names).1 (AtStop k r reason) can later e
