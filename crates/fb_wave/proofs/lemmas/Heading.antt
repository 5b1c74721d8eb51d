-- The head of a dump, instance by instance and resource by resource.
use Rattle.fb_types.proofs.Common.{◌≡◌, ℕ, ◌+◌, ◌-◌, ◌<◌, ◌≤◌, Bool, cond, List, [], ◌∷◌, ◌++◌, length, drop, get_or, codes, refl, sym, ap, ◌∙◌, arith, append_assoc, eq-eqb, ne_eqb, drop_more, length-append, parent, Name, Path, System, path_at, ports_at, path_text}
use Rattle.fb_types.specs.declared.library.Library.{Library}
use Rattle.std.proofs.lemmas.List.{drop_at}
use Rattle.fb_system.specs.Layouts.{route_to, index_at}
use Rattle.fb_wave.specs.Scopes.{closed, opened, own_name, ports_declared, ports_begun, initial_in, instances_declared, instances_begun, resources_declared}
use Rattle.fb_wave.specs.Signals.{size_of, first_signal}
use Rattle.fb_wave.proofs.lemmas.Numbering.{first_signal-next, paths_from}

-- ---- Names and heights of instances

pub route_length : (lib : Library) (p : Path) → length (route_to lib p) ≡ length p
route_length lib [] = refl
route_length lib (n ∷ p) = let e = route_length lib p in omega (arith, e, length-append (route_to lib p) (index_at lib p n ∷ []))

pub own_inner : (p q : Path) → q ≡ parent p → 0 < length q → drop (length (path_text q) + 1) (path_text p) ≡ own_name p
own_inner [] q e some = absurd (omega (arith, some, ap length e))
own_inner (n ∷ []) q e some = absurd (omega (arith, some, ap length e))
own_inner (n ∷ m ∷ p) q e some =
    ap (λ (r : Path). drop (length (path_text r) + 1) (path_text (m ∷ p) ++ codes "." ++ n)) e
    ∙ drop_at (path_text (m ∷ p) ++ codes ".") n (length (path_text (m ∷ p)) + 1) (length-append (path_text (m ∷ p)) (codes "."))

pub own_fits : (p q : Path) → q ≡ parent p → 0 < length q → length (path_text q) + 1 ≤ length (path_text p)
own_fits [] q e some = absurd (omega (arith, some, ap length e))
own_fits (n ∷ []) q e some = absurd (omega (arith, some, ap length e))
own_fits (n ∷ m ∷ p) q e some =
    let same : length (path_text q) ≡ length (path_text (m ∷ p)) = ap (λ (r : Path). length (path_text r)) e in
    omega (arith, same, length-append (path_text (m ∷ p) ++ codes ".") n, length-append (path_text (m ∷ p)) (codes "."))

-- ---- Instances

-- what the scope of an instance begins with
abbrev pub instance_declared : System → (depth first : ℕ) → Path → List ℕ
instance_declared sys depth s p = closed (depth + 1 - length p) ++ opened (own_name p) ++ ports_declared s (ports_at sys p)

pub declared_on :
    (sys : System) (r depth i : ℕ) (text new all : List ℕ) → i < length sys.paths → sys.resource (path_at sys i) ≡ r
    → new ≡ text ++ instance_declared sys depth (first_signal sys i) (path_at sys i)
    → text ++ instances_declared sys r depth (first_signal sys i) (drop i sys.paths) ≡ all
    → new ++ instances_declared sys r (length (path_at sys i)) (first_signal sys (i + 1)) (drop (i + 1) sys.paths) ≡ all
declared_on sys r depth i text new all within held put soFar =
    let p : Path = path_at sys i in
    let s : ℕ = first_signal sys i in
    let its = ports_at sys p in
    let here : List ℕ = instance_declared sys depth s p in
    let rest : List ℕ = instances_declared sys r (length p) (s + size_of its) (drop (i + 1) sys.paths) in
    let split : instances_declared sys r depth s (drop i sys.paths) ≡ here ++ rest =
    ap (instances_declared sys r depth s) (paths_from sys i within)
    ∙ ap (λ (b : Bool). cond b (here ++ rest) (instances_declared sys r depth (s + size_of its) (drop (i + 1) sys.paths))) (eq-eqb (sys.resource p) r held)
    in
    ap (λ (k : ℕ). new ++ instances_declared sys r (length p) k (drop (i + 1) sys.paths)) (first_signal-next sys i within)
    ∙ ap (λ (l : List ℕ). l ++ rest) put ∙ append_assoc text here rest ∙ ap (λ (l : List ℕ). text ++ l) (sym split) ∙ soFar

pub declared_past :
    (sys : System) (r depth i : ℕ) (text all : List ℕ) → i < length sys.paths → (sys.resource (path_at sys i) ≡ r → ⊥)
    → text ++ instances_declared sys r depth (first_signal sys i) (drop i sys.paths) ≡ all
    → text ++ instances_declared sys r depth (first_signal sys (i + 1)) (drop (i + 1) sys.paths) ≡ all
declared_past sys r depth i text all within other soFar =
    let p : Path = path_at sys i in
    let s : ℕ = first_signal sys i in
    let its = ports_at sys p in
    let rest : List ℕ = instances_declared sys r depth (s + size_of its) (drop (i + 1) sys.paths) in
    let split : instances_declared sys r depth s (drop i sys.paths) ≡ rest =
    ap (instances_declared sys r depth s) (paths_from sys i within)
    ∙ ap (λ (b : Bool). cond b (instance_declared sys depth s p ++ instances_declared sys r (length p) (s + size_of its) (drop (i + 1) sys.paths)) rest) (ne_eqb (sys.resource p) r other)
    in
    ap (λ (k : ℕ). text ++ instances_declared sys r depth k (drop (i + 1) sys.paths)) (first_signal-next sys i within)
    ∙ ap (λ (l : List ℕ). text ++ l) (sym split) ∙ soFar

-- ---- Beginnings

pub begun_on :
    (sys : System) (i : ℕ) (text new all : List ℕ) → i < length sys.paths
    → new ≡ text ++ ports_begun (initial_in sys (path_at sys i)) (first_signal sys i) (ports_at sys (path_at sys i))
    → text ++ instances_begun sys (first_signal sys i) (drop i sys.paths) ≡ all
    → new ++ instances_begun sys (first_signal sys (i + 1)) (drop (i + 1) sys.paths) ≡ all
begun_on sys i text new all within put soFar =
    let s : ℕ = first_signal sys i in
    let its = ports_at sys (path_at sys i) in
    let rest : List ℕ = instances_begun sys (s + size_of its) (drop (i + 1) sys.paths) in
    ap (λ (k : ℕ). new ++ instances_begun sys k (drop (i + 1) sys.paths)) (first_signal-next sys i within)
    ∙ ap (λ (l : List ℕ). l ++ rest) put ∙ append_assoc text (ports_begun (initial_in sys (path_at sys i)) s its) rest
    ∙ ap (λ (l : List ℕ). text ++ l) (sym (ap (instances_begun sys s) (paths_from sys i within))) ∙ soFar

-- ---- Resources

pub resources_on :
    (sys : System) (r : ℕ) (n : Name) (a b c d all : List ℕ) → r < length sys.resource_names → n ≡ get_or sys.resource_names r []
    → b ≡ a ++ opened n → c ≡ b ++ instances_declared sys r 0 0 sys.paths → d ≡ c ++ closed 1
    → a ++ resources_declared sys r (drop r sys.resource_names) ≡ all
    → d ++ resources_declared sys (r + 1) (drop (r + 1) sys.resource_names) ≡ all
resources_on sys r n a b c d all within at one two three soFar =
    let inner : List ℕ = instances_declared sys r 0 0 sys.paths in
    let rest : List ℕ = resources_declared sys (r + 1) (drop (r + 1) sys.resource_names) in
    let next : drop r sys.resource_names ≡ n ∷ drop (r + 1) sys.resource_names =
    drop_more sys.resource_names r [] within ∙ ap (λ (m : Name). m ∷ drop (r + 1) sys.resource_names) (sym at)
    in
    ap (λ (l : List ℕ). l ++ rest) (three ∙ ap (λ (l : List ℕ). l ++ closed 1) (two ∙ ap (λ (l : List ℕ). l ++ inner) one))
    ∙ regroup a (opened n) inner (closed 1) rest
    ∙ ap (λ (l : List ℕ). a ++ l) (sym (ap (resources_declared sys r) next)) ∙ soFar
  where
    regroup : (a o i k r : List ℕ) → (((a ++ o) ++ i) ++ k) ++ r ≡ a ++ (((o ++ i) ++ k) ++ r)
    regroup a o i k r = simp append_assoc
