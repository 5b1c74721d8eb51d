-- The numbers of signals, instance by instance.
use Rattle.fb_types.proofs.Common.{◌≡◌, ℕ, ◌+◌, ◌^◌, ◌<◌, ◌≤◌, List, [], ◌∷◌, ◌++◌, length, take, drop, get_or, sym, ap, subst, ◌∙◌, arith, inl, inr, take-append-drop, cases_lt, take_at_read, unwrap_or-slice_get, drop_more, get_or_append_left, length_push, take_all, Path, System, path_at, ports_at}
use Rattle.std.proofs.lemmas.List.{get_or_push}
use Rattle.fb_wave.specs.Signals.{size_of, sizes_of, first_signal}
use Rattle.fb_wave.specs.Writing.{AreFirsts}

pub sizes_of-append : (sys : System) (ps qs : List Path) → sizes_of sys (ps ++ qs) ≡ sizes_of sys ps + sizes_of sys qs
sizes_of-append sys [] qs = omega arith
sizes_of-append sys (p ∷ ps) qs = let e = sizes_of-append sys ps qs in omega arith

-- the instance after one begins after its signals
pub first_signal-next : (sys : System) (i : ℕ) → i < length sys.paths → first_signal sys (i + 1) ≡ first_signal sys i + size_of (ports_at sys (path_at sys i))
first_signal-next sys i within =
    let one : take (i + 1) sys.paths ≡ take i sys.paths ++ path_at sys i ∷ [] =
    (take_at_read sys.paths i [] within).1 ∙ ap (λ (p : Path). take i sys.paths ++ p ∷ []) (sym (unwrap_or-slice_get sys.paths i []))
    in
    ap (sizes_of sys) one ∙ sizes_of-append sys (take i sys.paths) (path_at sys i ∷ []) ∙ omega arith

pub first_signal-all : (sys : System) (n : ℕ) → length sys.paths ≤ n → first_signal sys n ≡ sizes_of sys sys.paths
first_signal-all sys n past = ap (sizes_of sys) (take_all n sys.paths past)

-- all signals of an instance are among those of the system
pub signals_within : (sys : System) (i : ℕ) → i < length sys.paths → first_signal sys i + size_of (ports_at sys (path_at sys i)) ≤ sizes_of sys sys.paths
signals_within sys i within =
    let next = first_signal-next sys i within in
    let all : sizes_of sys sys.paths ≡ first_signal sys (i + 1) + sizes_of sys (drop (i + 1) sys.paths) =
    ap (sizes_of sys) (sym (take-append-drop (i + 1) sys.paths)) ∙ sizes_of-append sys (take (i + 1) sys.paths) (drop (i + 1) sys.paths)
    in
    omega arith

-- the instances from one on
pub paths_from : (sys : System) (i : ℕ) → i < length sys.paths → drop i sys.paths ≡ path_at sys i ∷ drop (i + 1) sys.paths
paths_from sys i within = drop_more sys.paths i [] within ∙ ap (λ (p : Path). p ∷ drop (i + 1) sys.paths) (sym (unwrap_or-slice_get sys.paths i []))

-- ---- The table of the first ones

-- The numbers of the first signals of the instances before one.
pub record AreFirstsBefore (sys : System) (n : ℕ) (firsts : List ℕ) : Type 0 where
  pub counted : length firsts ≡ n
  pub each : (i : ℕ) → i < n → get_or firsts i 0 ≡ first_signal sys i

pub firsts-more : (sys : System) (n f : ℕ) (firsts more : List ℕ) → AreFirstsBefore sys n firsts → f ≡ first_signal sys n → more ≡ firsts ++ f ∷ [] → AreFirstsBefore sys (n + 1) more
firsts-more sys n f firsts more are is grown =
    let counted = are.counted in
    subst (AreFirstsBefore sys (n + 1)) (sym grown) (record {
      counted = length_push firsts f ∙ ap (λ (k : ℕ). k + 1) counted;
      each = λ i h.
          elim (cases_lt i n) as (λ _. get_or (firsts ++ f ∷ []) i 0 ≡ first_signal sys i) [
            | inl less ↦ get_or_append_left firsts (f ∷ []) 0 i (omega (arith, less, counted)) ∙ are.each i less
            | inr past ↦
                (let same : n ≡ i = omega (arith, h, past) in
                get_or_push firsts f 0 i (counted ∙ same) ∙ is ∙ ap (first_signal sys) same)
          ];
    })

pub firsts-all :
    (sys : System) (n f : ℕ) (firsts more : List ℕ) → AreFirstsBefore sys n firsts → f ≡ first_signal sys n → f < 2 ^ 64 → more ≡ firsts ++ f ∷ []
    → n ≡ length sys.paths → AreFirsts sys more
firsts-all sys n f firsts more are is small grown end =
    let all = firsts-more sys n f firsts more are is grown in
    let size : sizes_of sys sys.paths ≡ f = sym (first_signal-all sys n (omega (arith, end))) ∙ sym is in
    record {
      counted = all.counted ∙ ap (λ (k : ℕ). k + 1) end;
      each = λ i h. all.each i (omega (arith, h, end));
      small = omega (arith, size, small);
    }

-- the numbers of the signals of an instance have 64 bits
pub signals_fit :
    (sys : System) (firsts : List ℕ) (i : ℕ) → i < length sys.paths → AreFirsts sys firsts → get_or firsts i 0 + size_of (ports_at sys (path_at sys i)) < 2 ^ 64
signals_fit sys firsts i within are =
    let all = signals_within sys i within in
    let first = are.each i (omega (arith, within)) in
    let small = are.small in
    omega (arith, all, first, small)
