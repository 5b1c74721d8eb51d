-- The copies of the variables of other resources, by the numbers of their instances (held copies are this project's profile).
use Rattle.std.specs.Prelude.{◌≡◌, ◌≢◌, ◌+◌, ◌*◌, ℕ, List, [], Option, Some, if◌then◌else◌, slice_get, unwrap_or}
use Rattle.fb_types.specs.declared.run.InstanceVariable.{InstanceVariable}
use Rattle.fb_types.specs.declared.value.Value.{Value}
use Rattle.fb_net.specs.declared.held_copies.HeldCopies.{HeldCopies}

-- the index of the side of its instance on which a variable is
abbrev pub side_index_of : InstanceVariable → ℕ
side_index_of x = 2 * x.instance + (if x.is_output then 1 else 0)

-- the copies of a side; one without any has an empty list
abbrev pub side_in : List (List Value) → ℕ → List Value
side_in sides k = unwrap_or (slice_get sides k) []

-- the copy of a variable, if there is one
unfoldable pub held_at : HeldCopies → InstanceVariable → Option Value
held_at h x = slice_get (side_in h.sides (side_index_of x)) x.variable

-- The copy of a variable has another value, if there is one, and all others stay.
pub record IsSet (old : HeldCopies) (x : InstanceVariable) (v : Value) (new : HeldCopies) : Type 0 where
  pub here : (u : Value) → held_at old x ≡ Some u → held_at new x ≡ Some v
  pub elsewhere : (y : InstanceVariable) → y ≢ x → held_at new y ≡ held_at old y

-- The variables on a side of an instance have these copies, and those of others stay.
pub record IsAdded (old : HeldCopies) (x : InstanceVariable) (values : List Value) (new : HeldCopies) : Type 0 where
  pub here : (y : InstanceVariable) → side_index_of y ≡ side_index_of x → held_at new y ≡ slice_get values y.variable
  pub elsewhere : (y : InstanceVariable) → side_index_of y ≢ side_index_of x → (u : Value) → held_at old y ≡ Some u → held_at new y ≡ Some u
