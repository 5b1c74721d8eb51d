-- Takings do not depend on what form One leaves out of their keys.
use Rattle.fb_inspect.proofs.lemmas.Common.{◌≡◌, ℕ, zero, suc, List, [], ◌∷◌, ◌++◌, map, Option, Some, None, refl, sym, ap, subst, ◌∙◌, inl, inr, map-append, Basic, Composite, Emission, Event, Kind, AtHorizon, AtStop, Ending, System, line_text, lines_text, Form, One, Two, Reason, Steps, Divide, Range, AreTakings, EndsBySteps, EndsSo, IsOneOf, KeepSteps, KeepsLimit, NoneStops, NothingAfter, RunsOut, all_lines, last_look, limited, stop_of, IsTaking, IsTakingAt, IsTakingWith, Look, Taking, emission_line, left_at, most, opening_look, taking_lines}
use Rattle.fb_types.specs.States.{Line}
use Rattle.fb_inspect.specs.walk.RunLines.{bare_key}

abbrev pub bare : Line → Line
bare l = record l { key = bare_key l.key }

-- a line as a form shows it
abbrev pub shown : Form → Line → Line
shown One l = bare l
shown Two l = l

abbrev pub bare_taking : Taking → Taking
bare_taking x = record x { first = bare x.first }

-- ---- Texts

pub bare_text : (sys : System) (ls : List Line) → lines_text One sys (map bare ls) ≡ lines_text One sys ls
bare_text sys [] = refl
bare_text sys (l ∷ ls) = ap (λ (t : List ℕ). line_text One sys l ++ t) (bare_text sys ls)

-- ---- Lines

emissions_bare : (l : Line) (es : List Emission) → map (emission_line (bare l)) es ≡ map bare (map (emission_line l) es)
emissions_bare l [] = refl
emissions_bare l (e ∷ es) = ap (λ (ls : List Line). bare (emission_line l e) ∷ ls) (emissions_bare l es)

pub taking_bare : (x : Taking) → taking_lines (bare_taking x) ≡ map bare (taking_lines x)
taking_bare x = ap (λ (ls : List Line). bare x.first ∷ ls) (emissions_bare x.first x.emits)

pub lines_bare : (xs : List Taking) → all_lines (map bare_taking xs) ≡ map bare (all_lines xs)
lines_bare [] = refl
lines_bare (x ∷ xs) =
    ap (λ (ls : List Line). (bare x.first ∷ ls) ++ all_lines (map bare_taking xs)) (emissions_bare x.first x.emits)
    ∙ ap (λ (ls : List Line). map bare (taking_lines x) ++ ls) (lines_bare xs)
    ∙ sym (map-append bare (taking_lines x) (all_lines xs))

-- ---- Takings

at_bare : (left : ℕ) (look : Look) (kind : Option Kind) (x : Taking) → IsTakingAt left look kind x → IsTakingAt left look kind (bare_taking x)
at_bare left look None x h = h
at_bare left look (Some (Basic t)) x h = record { taken = h.taken; end = h.end; shown = h.shown; emitted = h.emitted; is = h.is }
at_bare left look (Some (Event kind)) x (inl h) = inl (record { taken = h.taken; goes_on = h.goes_on; is = h.is })
at_bare left look (Some (Event kind)) x (inr h) = inr (record { emitted = h.emitted; due = h.due; goes_on = h.goes_on; is = h.is })
at_bare left look (Some (Composite t)) x h = record { none = h.none; silent = h.silent; goes_on = h.goes_on; is = h.is }

with_bare : (sys : System) (look : Look) (left : ℕ) (x : Taking) → IsTakingWith sys look left x → IsTakingWith sys look left (bare_taking x)
with_bare sys look zero x h = h
with_bare sys look (suc left) x h = (h.0, at_bare left look (sys.kind x.first.at) x h.1)

pub takings_bare : (sys : System) (limit : ℕ) (look : Look) (x : Taking) → IsTaking sys limit look x → IsTaking sys limit look (bare_taking x)
takings_bare sys limit look x h = with_bare sys look (left_at limit x.first.key.tick (look.steps x.first.key.resource)) x h

nothing_bare : (stop : Option Reason) (xs : List Taking) → NothingAfter stop xs → NothingAfter stop (map bare_taking xs)
nothing_bare None xs h = h
nothing_bare (Some r) xs h = ap (map bare_taking) h

pub are_bare : (sys : System) (limit : ℕ) (look : Look) (xs : List Taking) → AreTakings sys limit look xs → AreTakings sys limit look (map bare_taking xs)
are_bare sys limit look [] h = h
are_bare sys limit look (x ∷ xs) h = (takings_bare sys limit look x h.0, nothing_bare x.stop xs h.1, are_bare sys limit x.after xs h.2)

pub none_bare : (xs : List Taking) → NoneStops xs → NoneStops (map bare_taking xs)
none_bare [] h = h
none_bare (x ∷ xs) h = (h.0, none_bare xs h.1)

pub look_bare : (look : Look) (xs : List Taking) → last_look look (map bare_taking xs) ≡ last_look look xs
look_bare look [] = refl
look_bare look (x ∷ xs) = look_bare x.after xs

-- ---- Ends

pub stop_bare : (xs : List Taking) → stop_of (map bare_taking xs) ≡ stop_of xs
stop_bare [] = refl
stop_bare (x ∷ []) = refl
stop_bare (x ∷ y ∷ xs) = stop_bare (y ∷ xs)

pub one_bare : (t r : ℕ) (xs : List Taking) → IsOneOf t r xs → IsOneOf t r (map bare_taking xs)
one_bare t r [] h = h
one_bare t r (x ∷ []) h = h
one_bare t r (x ∷ y ∷ xs) h = h

pub out_bare : (steps t r : ℕ) (look : Look) (xs : List Taking) → RunsOut steps t r look xs → RunsOut steps t r look (map bare_taking xs)
out_bare steps t r look [] h = h
out_bare steps t r look (x ∷ xs) h = h

abbrev pub steps_bare : (sys : System) (steps t r : ℕ) (xs : List Taking) → EndsBySteps sys steps t r xs → EndsBySteps sys steps t r (map bare_taking xs)
steps_bare sys steps t r xs h =
    let l = h.limited_so in
    let same : last_look (opening_look sys) l.before ≡ last_look (opening_look sys) (map bare_taking l.before) = sym (look_bare (opening_look sys) l.before) in
    record {
      limited_so = record {
        before = map bare_taking l.before;
        last = map bare_taking l.last;
        parts = ap (map bare_taking) l.parts ∙ map-append bare_taking l.before l.last;
        chain = are_bare sys most (opening_look sys) l.before l.chain;
        goes_on = none_bare l.before l.goes_on;
        one = one_bare t r l.last l.one;
        kept = subst (KeepSteps sys steps) same l.kept;
        within = subst (KeepsLimit steps t r) same l.within;
        judged = subst (λ (look : Look). AreTakings sys steps (limited steps t r look) (map bare_taking l.last)) same (are_bare sys steps (limited steps t r (last_look (opening_look sys) l.before)) l.last l.judged);
      };
      runs_out = subst (λ (look : Look). RunsOut steps t r (limited steps t r look) (map bare_taking l.last)) same (out_bare steps t r (limited steps t r (last_look (opening_look sys) l.before)) l.last h.runs_out);
    }

abbrev pub ends_bare : (sys : System) (steps : ℕ) (xs : List Taking) (end : Ending) → EndsSo sys steps xs end → EndsSo sys steps (map bare_taking xs) end
ends_bare sys steps xs (AtHorizon h) e = (are_bare sys most (opening_look sys) xs e.0, none_bare xs e.1)
ends_bare sys steps xs (AtStop t r Steps) e = steps_bare sys steps t r xs e
ends_bare sys steps xs (AtStop t r Divide) e = (are_bare sys most (opening_look sys) xs e.0, stop_bare xs ∙ e.1)
ends_bare sys steps xs (AtStop t r Range) e = (are_bare sys most (opening_look sys) xs e.0, stop_bare xs ∙ e.1)
