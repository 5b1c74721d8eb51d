-- The head of a dump with the inside of blocks, instance by instance and resource by resource.
use Rattle.fb_types.proofs.Common.{◌≡◌, ℕ, ◌+◌, ◌-◌, ◌<◌, ◌≤◌, Bool, cond, true, List, [], ◌∷◌, ◌++◌, length, drop, get_or, sym, ap, ◌∙◌, append-nil, append_assoc, eq-eqb, ne_eqb, drop_all, drop_more, Name, Path, path_at, ports_at, System}
use Rattle.fb_wave.specs.Scopes.{closed, opened, own_name, ports_declared}
use Rattle.fb_wave.specs.Signals.{first_signal, size_of}
use Rattle.fb_wave.proofs.lemmas.Numbering.{first_signal-next, paths_from}
use Rattle.fb_inspect.specs.dump.Heads.{insides_begun, instances_opened, resources_opened}
use Rattle.fb_inspect.specs.dump.Inner.{inner_begun, inner_declared}

-- what the scope of an instance begins with
abbrev pub whole_declared : System → (depth first : ℕ) → Path → List ℕ
whole_declared sys depth s p = closed (depth + 1 - length p) ++ opened (own_name p) ++ ports_declared s (ports_at sys p) ++ inner_declared sys p

pub opened_on :
    (sys : System) (r depth i : ℕ) (text new all : List ℕ) → i < length sys.paths → sys.resource (path_at sys i) ≡ r
    → new ≡ text ++ whole_declared sys depth (first_signal sys i) (path_at sys i)
    → text ++ instances_opened true sys r depth (first_signal sys i) (drop i sys.paths) ≡ all
    → new ++ instances_opened true sys r (length (path_at sys i)) (first_signal sys (i + 1)) (drop (i + 1) sys.paths) ≡ all
opened_on sys r depth i text new all within held put soFar =
    let p : Path = path_at sys i in
    let s : ℕ = first_signal sys i in
    let its = ports_at sys p in
    let own : List ℕ = whole_declared sys depth s p in
    let rest : List ℕ = instances_opened true sys r (length p) (s + size_of its) (drop (i + 1) sys.paths) in
    let split : instances_opened true sys r depth s (drop i sys.paths) ≡ own ++ rest =
    ap (instances_opened true sys r depth s) (paths_from sys i within)
    ∙ ap (λ (b : Bool). cond b (own ++ rest) (instances_opened true sys r depth (s + size_of its) (drop (i + 1) sys.paths))) (eq-eqb (sys.resource p) r held)
    in
    ap (λ (k : ℕ). new ++ instances_opened true sys r (length p) k (drop (i + 1) sys.paths)) (first_signal-next sys i within)
    ∙ ap (λ (l : List ℕ). l ++ rest) put ∙ append_assoc text own rest ∙ ap (λ (l : List ℕ). text ++ l) (sym split) ∙ soFar

pub opened_past :
    (sys : System) (r depth i : ℕ) (text all : List ℕ) → i < length sys.paths → (sys.resource (path_at sys i) ≡ r → ⊥)
    → text ++ instances_opened true sys r depth (first_signal sys i) (drop i sys.paths) ≡ all
    → text ++ instances_opened true sys r depth (first_signal sys (i + 1)) (drop (i + 1) sys.paths) ≡ all
opened_past sys r depth i text all within other soFar =
    let p : Path = path_at sys i in
    let s : ℕ = first_signal sys i in
    let its = ports_at sys p in
    let rest : List ℕ = instances_opened true sys r depth (s + size_of its) (drop (i + 1) sys.paths) in
    let split : instances_opened true sys r depth s (drop i sys.paths) ≡ rest =
    ap (instances_opened true sys r depth s) (paths_from sys i within)
    ∙ ap (λ (b : Bool). cond b (whole_declared sys depth s p ++ instances_opened true sys r (length p) (s + size_of its) (drop (i + 1) sys.paths)) rest) (ne_eqb (sys.resource p) r other)
    in
    ap (λ (k : ℕ). text ++ instances_opened true sys r depth k (drop (i + 1) sys.paths)) (first_signal-next sys i within)
    ∙ ap (λ (l : List ℕ). text ++ l) (sym split) ∙ soFar

-- ---- Beginnings

pub insides_on :
    (sys : System) (i : ℕ) (text new all : List ℕ) → i < length sys.paths → new ≡ text ++ inner_begun sys (path_at sys i)
    → text ++ insides_begun true sys (drop i sys.paths) ≡ all → new ++ insides_begun true sys (drop (i + 1) sys.paths) ≡ all
insides_on sys i text new all within put soFar =
    let own : List ℕ = inner_begun sys (path_at sys i) in
    let rest : List ℕ = insides_begun true sys (drop (i + 1) sys.paths) in
    ap (λ (l : List ℕ). l ++ rest) put ∙ append_assoc text own rest
    ∙ ap (λ (l : List ℕ). text ++ l) (sym (ap (insides_begun true sys) (paths_from sys i within))) ∙ soFar

-- ---- Resources

pub resources_on :
    (sys : System) (r : ℕ) (n : Name) (a b c d all : List ℕ) → r < length sys.resource_names → n ≡ get_or sys.resource_names r []
    → b ≡ a ++ opened n → c ≡ b ++ instances_opened true sys r 0 0 sys.paths → d ≡ c ++ closed 1
    → a ++ resources_opened true sys r (drop r sys.resource_names) ≡ all
    → d ++ resources_opened true sys (r + 1) (drop (r + 1) sys.resource_names) ≡ all
resources_on sys r n a b c d all within at one two three soFar =
    let inside : List ℕ = instances_opened true sys r 0 0 sys.paths in
    let rest : List ℕ = resources_opened true sys (r + 1) (drop (r + 1) sys.resource_names) in
    let next : drop r sys.resource_names ≡ n ∷ drop (r + 1) sys.resource_names =
    drop_more sys.resource_names r [] within ∙ ap (λ (m : Name). m ∷ drop (r + 1) sys.resource_names) (sym at)
    in
    ap (λ (l : List ℕ). l ++ rest) (three ∙ ap (λ (l : List ℕ). l ++ closed 1) (two ∙ ap (λ (l : List ℕ). l ++ inside) one))
    ∙ regroup a (opened n) inside (closed 1) rest
    ∙ ap (λ (l : List ℕ). a ++ l) (sym (ap (resources_opened true sys r) next)) ∙ soFar
  where
    regroup : (a o i k r : List ℕ) → (((a ++ o) ++ i) ++ k) ++ r ≡ a ++ (((o ++ i) ++ k) ++ r)
    regroup a o i k r = simp append_assoc

pub resources_done : (sys : System) (r : ℕ) (a all : List ℕ) → length sys.resource_names ≤ r → a ++ resources_opened true sys r (drop r sys.resource_names) ≡ all → a ≡ all
resources_done sys r a all past soFar = sym (append-nil a) ∙ ap (λ (ns : List Name). a ++ resources_opened true sys r ns) (sym (drop_all r sys.resource_names past)) ∙ soFar
