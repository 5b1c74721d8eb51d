-- What follows a value, and where the parts of arrays and inline tables begin (TOML 1.1, as the reader of the kit has it).
use Rattle.std.specs.Prelude.{ℕ, zero, suc, ◌==◌, if◌then◌else◌, List, [], ◌∷◌, length, drop, Option, Some, None, option_map, option_and_then, unwrap_or}
use Rattle.toml_parser.specs.Lexical.{left_bracket, right_bracket, left_brace, right_brace, first, skip_blank}
use Rattle.toml.specs.Parse.{after_element, atom, key_equals}

abbrev pub Text : Type 0
Text = List ℕ

infixl 10 ◌>>=◌
abbrev pub ◌>>=◌ : {A B : Type 0} → Option A → (A → Option B) → Option B
o >>= f = option_and_then f o

-- ---- What follows

module _ (after : Text → Option Text) where
  -- the text after the rest of an array, of at most n elements
  unfoldable pub after_items : ℕ → Text → Option Text
  after_items zero text = None
  after_items (suc n) text =
      let start = skip_blank text in
      if first start == right_bracket then Some (drop 1 start)
      else after start >>= (λ rest. after_element right_bracket rest >>= after_items n)

  -- the text after the rest of an inline table, of at most n keys
  unfoldable pub after_members : ℕ → Text → Option Text
  after_members zero text = None
  after_members (suc n) text =
      let start = skip_blank text in
      if first start == right_brace then Some (drop 1 start)
      else key_equals start >>= (λ k. after k.1 >>= (λ rest. after_element right_brace rest >>= after_members n))

abbrev pub after_atom : Text → Option Text
after_atom text = option_map (λ a. a.1) (atom text)

-- The text after a value with arrays and inline tables at most this deep. An inline table may have a key twice.
unfoldable pub after_value : (depth : ℕ) → Text → Option Text
after_value zero text = after_atom text
after_value (suc depth) text =
    if first text == left_bracket then after_items (after_value depth) (length text) (drop 1 text)
    else if first text == left_brace then after_members (after_value depth) (length text) (drop 1 text)
    else after_atom text

-- ---- Parts

-- these texts, or none
abbrev pub all_of : Option (List Text) → List Text
all_of found = unwrap_or found []

module _ (after : Text → Option Text) where
  -- the texts that begin with the elements in the rest of an array, of at most n
  unfoldable pub items_from : ℕ → Text → List Text
  items_from zero text = []
  items_from (suc n) text =
      let start = skip_blank text in
      if first start == right_bracket then []
      else all_of (option_map (λ rest. start ∷ all_of (option_map (items_from n) (after_element right_bracket rest))) (after start))

  -- the texts that begin with the keys in the rest of an inline table, of at most n
  unfoldable pub members_from : ℕ → Text → List Text
  members_from zero text = []
  members_from (suc n) text =
      let start = skip_blank text in
      if first start == right_brace then []
      else all_of (key_equals start >>= (λ k. option_map (λ rest. start ∷ all_of (option_map (members_from n) (after_element right_brace rest))) (after k.1)))

-- The texts that begin with the elements of an array, if the text begins with one that is at most this deep.
unfoldable pub items_of : (depth : ℕ) → Text → List Text
items_of zero text = []
items_of (suc depth) text = if first text == left_bracket then items_from (after_value depth) (length text) (drop 1 text) else []

-- The texts that begin with the keys of an inline table, likewise.
unfoldable pub members_of : (depth : ℕ) → Text → List Text
members_of zero text = []
members_of (suc depth) text = if first text == left_brace then members_from (after_value depth) (length text) (drop 1 text) else []
