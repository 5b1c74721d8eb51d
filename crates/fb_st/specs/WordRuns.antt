-- What running compiled statements does to the words of the variables, and to the steps that are left (this project's profile).
use Rattle.std.specs.Prelude.{◌≡◌, ◌≤◌, ℕ, suc, ℤ, List, map, length, Bool, true, slice_get}
use Rattle.fb_types.specs.Repeated.{Twice}
use Rattle.fb_types.specs.Values.{whole}
use Rattle.fb_types.specs.Syntax.{Assign, Expr}
use Rattle.fb_types.specs.Bodies.{Advances, End, Runs, passed}
use Rattle.fb_st.specs.Frames.{Declared, types_in}
use Rattle.fb_st.specs.Fitting.{is_within_type, name_at, values_at}
use Rattle.fb_st.specs.declared.compiled.CountExpr.{CountExpr}
use Rattle.fb_st.specs.declared.meter.Meter.{Meter}

-- The words are those of the variables of a layout, no two of which have one name.
pub record AreWords (ds : List Declared) (ws : List ℤ) : Type 0 where
  pub fit : length ws ≡ length ds
  pub once : ¬ (Twice (map (λ d. d.0) ds))

-- Each variable has its word still, and there are no more steps than before.
pub record AreKept (ws : List ℤ) (m : Meter) (vs : List ℤ) (n : Meter) : Type 0 where
  pub same_length : length vs ≡ length ws
  pub fewer : n.left ≤ m.left

-- An assignment whose step is begun has set a variable to the value of an expression, or it stopped.
abbrev pub Assigns : List Declared → (slot : ℕ) → Expr → List ℤ → End → List ℤ → Type 0
Assigns ds i e ws end vs =
    (left : ℕ) → Runs (types_in ds) (Assign (name_at ds i) e) (record { vars = values_at ds ws; left = suc left }) end (record { vars = values_at ds vs; left = left })

-- ---- FOR

-- The range of a variable that counts is that of its type.
abbrev pub IsCounter : List Declared → CountExpr → Type 0
IsCounter ds c = is_within_type c.least c.most (slice_get ds c.slot) ≡ true

-- The variable that counts has its next value, or the loop ends.
abbrev pub CountsOn : List Declared → CountExpr → (end step : ℤ) → List ℤ → End → List ℤ → Type 0
CountsOn ds c end step ws how vs =
    (left : ℕ) → Advances (types_in ds) (name_at ds c.slot) end step (record { vars = values_at ds ws; left = left }) how (record { vars = values_at ds vs; left = left })

-- whether the variable that counts has passed the end
abbrev pub has_passed : List Declared → CountExpr → (end step : ℤ) → List ℤ → Bool
has_passed ds c end step ws = passed end step (whole (values_at ds ws (name_at ds c.slot)))
