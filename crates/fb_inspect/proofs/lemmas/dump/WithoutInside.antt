-- Without what is shown of the inside of blocks, a dump is that of the lines of its takings.
use Rattle.fb_inspect.proofs.lemmas.Common.{◌≡◌, ℕ, ◌+◌, ◌-◌, Bool, false, cond, List, [], ◌∷◌, ◌++◌, length, map, codes, refl, sym, ap, subst, inl, inr, ◌∙◌, append_assoc, append-nil, ◌==◌, ◌⊎◌, cases_eq, eq-eqb, ne_eqb, Emission, Name, Path, line_of, ports_at, System, Line, line, last_tick, Look, emission_line, opening_look, taking_lines, insides_begun, instances_opened, resources_opened, Taken, lines_of}
use Rattle.fb_types.specs.States as model
use Rattle.fb_wave.specs.Changes.{time_text}
use Rattle.fb_wave.specs.CutOff.{cut_comment}
use Rattle.fb_wave.specs.Dumps.{end_text, tick_changes, ticks_text}
use Rattle.fb_wave.specs.Scopes.{closed, head_text, instances_begun, instances_declared, opened, own_name, ports_declared, resources_declared}
use Rattle.fb_wave.specs.Signals.{size_of}
use Rattle.fb_inspect.specs.dump.Heads.{state_head}
use Rattle.fb_inspect.specs.dump.StateLaws.{AddsOnlyStates}
use Rattle.fb_inspect.specs.dump.StateDumps.{HaveLines, takings_text, tick_of}

-- ---- The head

instances_same : (sys : System) (r d s : ℕ) (ps : List Path) → instances_opened false sys r d s ps ≡ instances_declared sys r d s ps
instances_same sys r d s [] = refl
instances_same sys r d s (p ∷ ps) =
    let its = ports_at sys p in
    let here : List ℕ = closed (d + 1 - length p) ++ opened (own_name p) ++ ports_declared s its in
    let later : List ℕ = instances_opened false sys r d (s + size_of its) ps in
    let inside : List ℕ = instances_opened false sys r (length p) (s + size_of its) ps in
    let inside_too : List ℕ = instances_declared sys r (length p) (s + size_of its) ps in
    let b : Bool = sys.resource p == r in
    ap (λ (l : List ℕ). cond b (l ++ inside) later) (append-nil here)
    ∙ ap (λ (l : List ℕ). cond b (here ++ l) later) (instances_same sys r (length p) (s + size_of its) ps)
    ∙ ap (λ (l : List ℕ). cond b (here ++ inside_too) l) (instances_same sys r d (s + size_of its) ps)

resources_same : (sys : System) (r : ℕ) (ns : List Name) → resources_opened false sys r ns ≡ resources_declared sys r ns
resources_same sys r [] = refl
resources_same sys r (n ∷ ns) =
    ap (λ (l : List ℕ). ((opened n ++ l) ++ closed 1) ++ resources_opened false sys (r + 1) ns) (instances_same sys r 0 0 sys.paths)
    ∙ ap (λ (l : List ℕ). ((opened n ++ instances_declared sys r 0 0 sys.paths) ++ closed 1) ++ l) (resources_same sys (r + 1) ns)

insides_none : (sys : System) (ps : List Path) → insides_begun false sys ps ≡ []
insides_none sys [] = refl
insides_none sys (p ∷ ps) = insides_none sys ps

head_same : (sys : System) → state_head false sys ≡ head_text sys
head_same sys =
    let stamp : List ℕ = line (codes "$timescale 1 ms $end") in
    let closes : List ℕ = line (codes "$enddefinitions $end") in
    let begins : List ℕ = line (codes "#0") in
    let dumps : List ℕ = line (codes "$dumpvars") in
    let all : List ℕ = instances_begun sys 0 sys.paths in
    let ends : List ℕ = line (codes "$end") in
    ap (λ (l : List ℕ). ((((((stamp ++ l) ++ closes) ++ begins) ++ dumps) ++ all) ++ insides_begun false sys sys.paths) ++ ends) (resources_same sys 0 sys.resource_names)
    ∙ ap (λ (l : List ℕ). ((((((stamp ++ resources_declared sys 0 sys.resource_names) ++ closes) ++ begins) ++ dumps) ++ all) ++ l) ++ ends) (insides_none sys sys.paths)
    ∙ ap (λ (l : List ℕ). l ++ ends) (append-nil (((((stamp ++ resources_declared sys 0 sys.resource_names) ++ closes) ++ begins) ++ dumps) ++ all))

-- ---- The lines of a taking

-- all lines are of this tick
abbrev AreAt : ℕ → List Line → Type 0
AreAt t [] = Unit {0}
AreAt t (l ∷ ls) = (l.key.tick ≡ t) × AreAt t ls

first_at : (sys : System) (l : Line) (ls : List Line) (x : model.Line) (rest : List model.Line) → map (line_of sys) (l ∷ ls) ≡ x ∷ rest → l.key.tick ≡ x.key.tick
first_at sys l ls x rest are = ap (λ (m : model.Line). m.key.tick) (heads sys l ls x rest are)
  where
    heads : (sys : System) (l : Line) (ls : List Line) (x : model.Line) (rest : List model.Line) → map (line_of sys) (l ∷ ls) ≡ x ∷ rest → line_of sys l ≡ x
    heads sys l ls x rest are = cc

rest_at : (sys : System) (x : model.Line) (ls : List Line) (es : List Emission) → map (line_of sys) ls ≡ map (emission_line x) es → AreAt x.key.tick ls
rest_at sys x [] es are = tt
rest_at sys x (l ∷ ls) [] are = absurd (cc)
rest_at sys x (l ∷ ls) (e ∷ es) are =
    (first_at sys l ls (emission_line x e) (map (emission_line x) es) are, rest_at sys x ls es (tails are))
  where
    tails : map (line_of sys) (l ∷ ls) ≡ emission_line x e ∷ map (emission_line x) es → map (line_of sys) ls ≡ map (emission_line x) es
    tails h = cc

all_at : (sys : System) (ls : List Line) (x : model.Line) (es : List Emission) → map (line_of sys) ls ≡ x ∷ map (emission_line x) es → AreAt x.key.tick ls
all_at sys [] x es are = absurd (cc)
all_at sys (l ∷ ls) x es are = (first_at sys l ls x (map (emission_line x) es) are, rest_at sys x ls es (tails are))
  where
    tails : map (line_of sys) (l ∷ ls) ≡ x ∷ map (emission_line x) es → map (line_of sys) ls ≡ map (emission_line x) es
    tails h = cc

last_all : (t u : ℕ) (l : Line) (ls : List Line) → AreAt u (l ∷ ls) → last_tick t (l ∷ ls) ≡ u
last_all t u l [] at = at.0
last_all t u l (m ∷ ls) at = last_all l.key.tick u m ls at.1

-- the last line of a taking is of its tick
pub last_lines :
    (sys : System) (t : ℕ) (ks ls : List Line) (x : model.Line) (es : List Emission) → map (line_of sys) ls ≡ x ∷ map (emission_line x) es → last_tick t (ks ++ ls) ≡ x.key.tick
last_lines sys t [] [] x es are = absurd (cc)
last_lines sys t [] (l ∷ ls) x es are = last_all t x.key.tick l ls (all_at sys (l ∷ ls) x es are)
last_lines sys t (k ∷ ks) ls x es are = last_lines sys k.key.tick ks ls x es are

-- ---- Ticks

abbrev step_text : System → (t : ℕ) → (before now : List Line) → Line → (rest : List Line) → Bool → List ℕ
step_text sys t before now l rest b =
    cond b (ticks_text sys t before (now ++ l ∷ []) rest) (tick_changes sys before now ++ time_text t l.key.tick ++ ticks_text sys l.key.tick (before ++ now) (l ∷ []) rest)

-- lines of the same tick come
ticks_same : (sys : System) (t : ℕ) (before now ls rest : List Line) → AreAt t ls → ticks_text sys t before now (ls ++ rest) ≡ ticks_text sys t before (now ++ ls) rest
ticks_same sys t before now [] rest at = ap (λ (l : List Line). ticks_text sys t before l rest) (sym (append-nil now))
ticks_same sys t before now (l ∷ ls) rest at =
    ap (step_text sys t before now l (ls ++ rest)) (eq-eqb l.key.tick t at.0)
    ∙ ticks_same sys t before (now ++ l ∷ []) ls rest at.1
    ∙ ap (λ (k : List Line). ticks_text sys t before k rest) (append_assoc now (l ∷ []) ls)

-- the next line is of another tick
ticks_next :
    (sys : System) (t : ℕ) (before now ls rest : List Line) (x : model.Line) (es : List Emission) → map (line_of sys) ls ≡ x ∷ map (emission_line x) es → (x.key.tick ≡ t → ⊥)
    → ticks_text sys t before now (ls ++ rest) ≡ (tick_changes sys before now ++ time_text t x.key.tick) ++ ticks_text sys x.key.tick (before ++ now) ls rest
ticks_next sys t before now [] rest x es are other = absurd (cc)
ticks_next sys t before now (l ∷ ls) rest x es are other =
    let all = all_at sys (l ∷ ls) x es are in
    ap (step_text sys t before now l (ls ++ rest)) (ne_eqb l.key.tick t (λ e. other (sym all.0 ∙ e)))
    ∙ ap (λ (k : ℕ). (tick_changes sys before now ++ time_text t k) ++ ticks_text sys k (before ++ now) (l ∷ []) (ls ++ rest)) all.0
    ∙ ap (λ (s : List ℕ). (tick_changes sys before now ++ time_text t x.key.tick) ++ s) (ticks_same sys x.key.tick (before ++ now) (l ∷ []) ls rest all.1)

abbrev take_text : System → (us : List Line) → (t : ℕ) → (before now : List Line) → Taken → (rest : List Taken) → Bool → List ℕ
take_text sys us t before now x xs b =
    cond b (takings_text false sys us t before (now ++ x.lines) x.taking.after xs)
    (((tick_changes sys before now ++ time_text t (tick_of x)) ++ []) ++ takings_text false sys us (tick_of x) (before ++ now) x.lines x.taking.after xs)

taking_same :
    (sys : System) (us : List Line) (t : ℕ) (before now : List Line) (x : Taken) (xs : List Taken) → map (line_of sys) x.lines ≡ taking_lines x.taking → ((tick_of x ≡ t) ⊎ (tick_of x ≡ t → ⊥))
    → takings_text false sys us t before (now ++ x.lines) x.taking.after xs ≡ ticks_text sys t before (now ++ x.lines) (lines_of xs ++ us)
    → takings_text false sys us (tick_of x) (before ++ now) x.lines x.taking.after xs ≡ ticks_text sys (tick_of x) (before ++ now) x.lines (lines_of xs ++ us)
    → take_text sys us t before now x xs (tick_of x == t) ≡ ticks_text sys t before now (x.lines ++ (lines_of xs ++ us))
taking_same sys us t before now x xs have (inl same) here other =
    ap (take_text sys us t before now x xs) (eq-eqb (tick_of x) t same) ∙ here
    ∙ sym (ticks_same sys t before now x.lines (lines_of xs ++ us) (subst (λ (k : ℕ). AreAt k x.lines) same (all_at sys x.lines x.taking.first x.taking.emits have)))
taking_same sys us t before now x xs have (inr differs) here other =
    ap (take_text sys us t before now x xs) (ne_eqb (tick_of x) t differs)
    ∙ ap (λ (l : List ℕ). l ++ takings_text false sys us (tick_of x) (before ++ now) x.lines x.taking.after xs) (append-nil (tick_changes sys before now ++ time_text t (tick_of x)))
    ∙ ap (λ (l : List ℕ). (tick_changes sys before now ++ time_text t (tick_of x)) ++ l) other
    ∙ sym (ticks_next sys t before now x.lines (lines_of xs ++ us) x.taking.first x.taking.emits have differs)

takings_same :
    (sys : System) (us : List Line) (t : ℕ) (before now : List Line) (look : Look) (xs : List Taken) → HaveLines sys xs
    → takings_text false sys us t before now look xs ≡ ticks_text sys t before now (lines_of xs ++ us)
takings_same sys us t before now look [] have = refl
takings_same sys us t before now look (x ∷ xs) have =
    taking_same sys us t before now x xs have.0 (cases_eq (tick_of x) t) (takings_same sys us t before (now ++ x.lines) x.taking.after xs have.1)
    (takings_same sys us (tick_of x) (before ++ now) x.lines x.taking.after xs have.1)
    ∙ ap (ticks_text sys t before now) (sym (append_assoc x.lines (lines_of xs) us))

all_same : (sys : System) (us : List Line) (xs : List Taken) (ends : List ℕ) → HaveLines sys xs
    → (state_head false sys ++ takings_text false sys us 0 [] [] (opening_look sys) xs) ++ ends ≡ (head_text sys ++ ticks_text sys 0 [] [] (lines_of xs ++ us)) ++ ends
all_same sys us xs ends have =
    ap (λ (l : List ℕ). (l ++ takings_text false sys us 0 [] [] (opening_look sys) xs) ++ ends) (head_same sys)
    ∙ ap (λ (l : List ℕ). (head_text sys ++ l) ++ ends) (takings_same sys us 0 [] [] (opening_look sys) xs have)

pub adds_only : AddsOnlyStates
adds_only = record {
  whole = λ sys xs end have.
      all_same sys [] xs (end_text sys (last_tick 0 (lines_of xs)) end) have
      ∙ ap (λ (ls : List Line). (head_text sys ++ ticks_text sys 0 [] [] ls) ++ end_text sys (last_tick 0 (lines_of xs)) end) (append-nil (lines_of xs));
  cut = λ sys xs us have. all_same sys us xs cut_comment have;
}
