-- The first of the nearest names, and the first of the paths that no instance has.
use Rattle.fbsim_command.proofs.lemmas.Common.{◌≡◌, ◌<◌, ◌≤◌, ◌+◌, ℕ, Bool, true, false, Bor, List, [], ◌∷◌, ◌++◌, drop, get_or, length, map, option_map, take, Option, Some, None, refl, sym, ◌∙◌, ap, subst, arith, drop_more, map-append, take-append-drop, take_all, take_more, IfSome, Inputs}
use Rattle.fb_types.proofs.Common.{All, All-push, IfNone, below_more, is_some}
use Rattle.fb_types.specs.OfSystem.{IsInstance, path_at}
use Rattle.fb_types.specs.Text.{path_text}
use Rattle.fb_inspect.specs.OfSystem.{IsNoInstance}
use Rattle.clap.specs.Words.{Text}
use Rattle.fbsim_command.specs.Inspecting.{HasPath, IsFirstLine, IsPathLine, SaysPath, upper}
use Rattle.fbsim_command.specs.Nearest.{IsBest, IsLeastAt}
use Rattle.fbsim_command.specs.declared.near.Candidate.{Candidate}

-- ---- The nearest

-- the best candidate so far is as near as the next one
pub stays : (f : ℕ → ℕ) (c next : Candidate) → IsBest f next.index (Some c) → next.far ≡ f next.index → c.far ≤ next.far → IsBest f (next.index + 1) (Some c)
stays f c next (is, at) far near = (
  record {
    within = let within = is.within in omega (arith, within);
    least = below_more (λ j. f c.index ≤ f j) next.index is.least (omega (arith, at, far, near));
    first = is.first;
  },
  at,
)

-- the next one is nearer
pub moves : (f : ℕ → ℕ) (c next : Candidate) → IsBest f next.index (Some c) → next.far ≡ f next.index → next.far < c.far → IsBest f (next.index + 1) (Some next)
moves f c next (is, at) far near = (
  record {
    within = omega arith;
    least = below_more (λ j. f next.index ≤ f j) next.index (λ j below. let least = is.least j below in omega (arith, least, at, far, near)) (omega arith);
    first = λ j below. let least = is.least j below in omega (arith, least, at, far, near);
  },
  far,
)

-- there was none before
pub opens : (f : ℕ → ℕ) (next : Candidate) → IsBest f next.index None → next.far ≡ f next.index → IsBest f (next.index + 1) (Some next)
opens f next none far = (
  record {
    within = omega arith;
    least = below_more (λ j. f next.index ≤ f j) next.index (λ j below. absurd (omega (arith, below, none))) (omega arith);
    first = λ j below. absurd (omega (arith, below, none));
  },
  far,
)

-- after the last
pub least_of : (f : ℕ → ℕ) (n m : ℕ) (c : Candidate) → IsBest f n (Some c) → n ≡ m → IsLeastAt f m c.index
least_of f n m c (is, at) all = subst (λ (k : ℕ). IsLeastAt f k c.index) all is

pub none_of : (f : ℕ → ℕ) (n m : ℕ) → IsBest f n None → n ≡ m → m ≡ 0
none_of f n m none all = sym all ∙ none

-- ---- Paths

abbrev now : Bor Text → Text
now t = t.now

-- an instance has the path where one is found, and none has it where none is
pub has-path :
    (i : Inputs) (text path : Text) (o : Option ℕ) (there : Bool) → upper text ≡ path → there ≡ is_some o → there ≡ true → IfSome o (IsInstance i) → IfSome o (λ k. path ≡ path_text (path_at i k))
    → HasPath i text
has-path i text path (Some k) there same is so within found = (k, within, same ∙ found)
has-path i text path None there same is so within found = absurd (let bad : true ≡ false = sym so ∙ is in cc)

pub no-path :
    (i : Inputs) (text path : Text) (o : Option ℕ) (there : Bool) → upper text ≡ path → there ≡ is_some o → there ≡ false → IfNone o (IsNoInstance i path) → IsNoInstance i (upper text)
no-path i text path None there same is so none = subst (IsNoInstance i) (sym same) none
no-path i text path (Some k) there same is so none = absurd (let bad : false ≡ true = sym so ∙ is in cc)

-- what is said of a path, by what came of it
pub says-when : {S : Type 0} (bytes : S → Text) (i : Inputs) (text : Text) (o p : Option S) → o ≡ p → SaysPath i text (option_map bytes o) → SaysPath i text (option_map bytes p)
says-when {S} bytes i text o p same says = subst (λ (q : Option S). SaysPath i text (option_map bytes q)) same says

-- one more path is that of an instance
pub known-more :
    (i : Inputs) (us : List (Bor Text)) (k : ℕ) (d : Bor Text) → k < length us → All (HasPath i) (map now (take k us)) → HasPath i (get_or us k d).now
    → All (HasPath i) (map now (take (k + 1) us))
known-more i us k d within known has =
    subst (All (HasPath i)) (sym (ap (map now) (take_more us k d within) ∙ map-append now (take k us) (get_or us k d ∷ []))) (All-push (HasPath i) (map now (take k us)) (get_or us k d).now known has)

-- all are
pub known-all : (i : Inputs) (us : List (Bor Text)) (k : ℕ) → length us ≤ k → All (HasPath i) (map now (take k us)) → All (HasPath i) (map now us)
known-all i us k past known = subst (λ (vs : List (Bor Text)). All (HasPath i) (map now vs)) (take_all k us past) known

-- one is not
pub first-unknown :
    (i : Inputs) (us : List (Bor Text)) (k : ℕ) (d : Bor Text) (line : Text) → k < length us → All (HasPath i) (map now (take k us)) → IsPathLine i (get_or us k d).now line
    → IsFirstLine i (map now us) line
first-unknown i us k d line within known says =
    record {
      before = map now (take k us);
      text = (get_or us k d).now;
      following = map now (drop (k + 1) us);
      parts =
          sym (ap (map now) (take-append-drop k us)) ∙ map-append now (take k us) (drop k us)
          ∙ ap (λ (zs : List Text). map now (take k us) ++ zs) (ap (map now) (drop_more us k d within));
      known = known;
      says = says;
    }
