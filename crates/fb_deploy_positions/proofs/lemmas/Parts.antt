-- What the TOML reader reads in an array or an inline table is what it reads where the parts begin.
use Rattle.std.proofs.Common.{◌≡◌, ℕ, zero, suc, Bool, true, false, cond, ◌==◌, List, [], ◌∷◌, length, drop, Option, Some, None, option_map, option_and_then, unwrap_or, refl, sym, ap, ◌∙◌, subst}
use Rattle.std.specs.Prelude.{⊤}
use Rattle.toml_parser.specs.Lexical.{Read, first, skip_blank}
use Rattle.toml_parser.specs.Numbers.{unquoted}
use Rattle.toml_parser.specs.Strings.{Key, quoted, starts_string}
use Rattle.toml_parser.specs.declared.scalar.Scalar.{Scalar}
use Rattle.toml_parser.specs.declared.scalar.Scalar.TheVariants.{Boolean, Datetime, Float, Integer}
use Rattle.toml.specs.Data.{Data, Items, Members, array, no_items, push_item, string, table}
use Rattle.toml.specs.Parse.{after_element, atom, items, key_equals, keyval, members, read_map, scalar_data, val}
use Rattle.toml.specs.Tables.{Nodes, close, no_nodes, put}
use Rattle.fb_deploy_positions.specs.Laws.{put_members, read_items}
use Rattle.fb_deploy_positions.specs.Values.{Text, after_value, items_from, items_of, members_from, members_of}
use Rattle.fb_deploy_positions.proofs.lemmas.Follows.{Follows, value_follows}

-- ---- Elements

-- what the reader reads, if anything, is this
abbrev Gathers : Read Items → Option Items → Type 0
Gathers None other = ⊤
Gathers (Some p) other = other ≡ Some p.0

module _ (depth : ℕ) where
  end_gathers : (b : Bool) (found : Items) (rest : Text) (r : Read Items) (all : List Text) → Gathers r (read_items depth found all) → Gathers (cond b (Some (found, rest)) r) (read_items depth found (cond b [] all))
  unfolding read_items
  end_gathers true found rest r all h = refl
  end_gathers false found rest r all h = h

  next_gathers : (n : ℕ) → ((found : Items) (text : Text) → Gathers (items (val depth) n found text) (read_items depth found (items_from (after_value depth) n text)))
      → (found : Items) (o : Option Text) → Gathers (option_and_then (items (val depth) n found) o) (read_items depth found (unwrap_or (option_map (items_from (after_value depth) n) o) []))
  next_gathers n more found None = tt
  next_gathers n more found (Some next) = more found next

  element_gathers : (n : ℕ) → ((found : Items) (text : Text) → Gathers (items (val depth) n found text) (read_items depth found (items_from (after_value depth) n text)))
      → (found : Items) (start : Text) (r : Read Data) → val depth start ≡ r → Follows r (after_value depth start)
      → Gathers (option_and_then (λ v. option_and_then (items (val depth) n (push_item found v.0)) (after_element 93 v.1)) r)
      (read_items depth found (unwrap_or (option_map (λ rest. start ∷ unwrap_or (option_map (items_from (after_value depth) n) (after_element 93 rest)) []) (after_value depth start)) []))
  unfolding read_items
  element_gathers n more found start None read follows = tt
  element_gathers n more found start (Some v) read follows =
      let first_of = option_and_then (items (val depth) n (push_item found v.0)) (after_element 93 v.1) in
      let others = unwrap_or (option_map (items_from (after_value depth) n) (after_element 93 v.1)) [] in
      subst (λ o. Gathers first_of (read_items depth found (unwrap_or (option_map (λ rest. start ∷ unwrap_or (option_map (items_from (after_value depth) n) (after_element 93 rest)) []) o) []))) (sym follows)
      (subst (λ o. Gathers first_of (option_and_then (λ w. read_items depth (push_item found w.0) others) o)) (sym read) (next_gathers n more (push_item found v.0) (after_element 93 v.1)))

  items_gather : (n : ℕ) (found : Items) (text : Text) → Gathers (items (val depth) n found text) (read_items depth found (items_from (after_value depth) n text))
  unfolding items items_from
  items_gather zero found text = tt
  items_gather (suc n) found text =
      let start = skip_blank text in
      end_gathers (first start == 93) found (drop 1 start) _ _ (element_gathers n (items_gather n) found start (val depth start) refl (value_follows depth start))

-- ---- Keys with their values

abbrev Puts : Read Members → Option Nodes → Type 0
Puts None other = ⊤
Puts (Some p) other = option_map close other ≡ Some p.0

module _ (depth : ℕ) where
  end_puts : (b : Bool) (found : Nodes) (rest : Text) (r : Read Members) (all : List Text) → Puts r (put_members depth found all) → Puts (cond b (Some (close found, rest)) r) (put_members depth found (cond b [] all))
  unfolding put_members
  end_puts true found rest r all h = refl
  end_puts false found rest r all h = h

  next_puts : (n : ℕ) → ((found : Nodes) (text : Text) → Puts (members (val depth) n found text) (put_members depth found (members_from (after_value depth) n text)))
      → (found : Nodes) (o : Option Text) → Puts (option_and_then (members (val depth) n found) o) (put_members depth found (unwrap_or (option_map (members_from (after_value depth) n) o) []))
  next_puts n more found None = tt
  next_puts n more found (Some next) = more found next

  put_puts : (n : ℕ) → ((found : Nodes) (text : Text) → Puts (members (val depth) n found text) (put_members depth found (members_from (after_value depth) n text)))
      → (after : Option Text) (o : Option Nodes)
      → Puts (option_and_then (λ more. option_and_then (members (val depth) n more) after) o)
      (option_and_then (λ more. put_members depth more (unwrap_or (option_map (members_from (after_value depth) n) after) [])) o)
  put_puts n more after None = tt
  put_puts n more after (Some found) = next_puts n more found after

  value_puts : (n : ℕ) → ((found : Nodes) (text : Text) → Puts (members (val depth) n found text) (put_members depth found (members_from (after_value depth) n text)))
      → (found : Nodes) (start : Text) (k : Key × Text) → key_equals start ≡ Some k → (r : Read Data) → val depth k.1 ≡ r → Follows r (after_value depth k.1)
      → Puts (option_and_then (λ (e : (Key × Data) × Text). option_and_then (λ more. option_and_then (members (val depth) n more) (after_element 125 e.1)) (put e.0.0 e.0.1 found)) (read_map (λ d. (k.0, d)) r))
      (put_members depth found (unwrap_or (option_map (λ rest. start ∷ unwrap_or (option_map (members_from (after_value depth) n) (after_element 125 rest)) []) (after_value depth k.1)) []))
  unfolding put_members
  value_puts n more found start k key None read follows = tt
  value_puts n more found start k key (Some v) read follows =
      let first_of = option_and_then (λ more. option_and_then (members (val depth) n more) (after_element 125 v.1)) (put k.0 v.0 found) in
      let others = unwrap_or (option_map (members_from (after_value depth) n) (after_element 125 v.1)) [] in
      let pair : keyval (val depth) start ≡ Some ((k.0, v.0), v.1) = ap (option_and_then (λ k. read_map (λ d. (k.0, d)) (val depth k.1))) key ∙ ap (read_map (λ d. (k.0, d))) read in
      subst (λ o. Puts first_of (put_members depth found (unwrap_or (option_map (λ rest. start ∷ unwrap_or (option_map (members_from (after_value depth) n) (after_element 125 rest)) []) o) []))) (sym follows)
      (subst (λ o. Puts first_of (option_and_then (λ (e : (Key × Data) × Text). option_and_then (λ more. put_members depth more others) (put e.0.0 e.0.1 found)) o)) (sym pair) (put_puts n more (after_element 125 v.1) (put k.0 v.0 found)))

  key_puts : (n : ℕ) → ((found : Nodes) (text : Text) → Puts (members (val depth) n found text) (put_members depth found (members_from (after_value depth) n text)))
      → (found : Nodes) (start : Text) (k : Read Key) → key_equals start ≡ k
      → Puts (option_and_then (λ (e : (Key × Data) × Text). option_and_then (λ more. option_and_then (members (val depth) n more) (after_element 125 e.1)) (put e.0.0 e.0.1 found)) (option_and_then (λ k. read_map (λ d. (k.0, d)) (val depth k.1)) k))
      (put_members depth found (unwrap_or (option_and_then (λ k. option_map (λ rest. start ∷ unwrap_or (option_map (members_from (after_value depth) n) (after_element 125 rest)) []) (after_value depth k.1)) k) []))
  key_puts n more found start None key = tt
  key_puts n more found start (Some k) key = value_puts n more found start k key (val depth k.1) refl (value_follows depth k.1)

  members_put : (n : ℕ) (found : Nodes) (text : Text) → Puts (members (val depth) n found text) (put_members depth found (members_from (after_value depth) n text))
  unfolding members members_from
  members_put zero found text = tt
  members_put (suc n) found text =
      let start = skip_blank text in
      end_puts (first start == 125) found (drop 1 start) _ _ (key_puts n (members_put n) found start (key_equals start) refl)

-- ---- Arrays and inline tables

abbrev IsArray : Data → Option Items → Type 0
IsArray (array found) other = other ≡ Some found
IsArray _ other = ⊤

abbrev ArrayOf : Read Data → Option Items → Type 0
ArrayOf None other = ⊤
ArrayOf (Some v) other = IsArray v.0 other

abbrev IsTable : Data → Option Nodes → Type 0
IsTable (table found) other = option_map close other ≡ Some found
IsTable _ other = ⊤

abbrev TableOf : Read Data → Option Nodes → Type 0
TableOf None other = ⊤
TableOf (Some v) other = IsTable v.0 other

array_of_items : (r : Read Items) (other : Option Items) → Gathers r other → ArrayOf (read_map array r) other
array_of_items None other h = tt
array_of_items (Some p) other h = h

table_of_members : (r : Read Members) (other : Option Nodes) → Puts r other → TableOf (read_map table r) other
table_of_members None other h = tt
table_of_members (Some p) other h = h

table_no_array : (r : Read Members) (other : Option Items) → ArrayOf (read_map table r) other
table_no_array None other = tt
table_no_array (Some p) other = tt

array_no_table : (r : Read Items) (other : Option Nodes) → TableOf (read_map array r) other
array_no_table None other = tt
array_no_table (Some p) other = tt

string_no_array : (r : Read Text) (other : Option Items) → ArrayOf (read_map string r) other
string_no_array None other = tt
string_no_array (Some p) other = tt

string_no_table : (r : Read Text) (other : Option Nodes) → TableOf (read_map string r) other
string_no_table None other = tt
string_no_table (Some p) other = tt

data_no_array : (s : Scalar) (other : Option Items) → IsArray (scalar_data s) other
data_no_array (Boolean b) other = tt
data_no_array (Integer z) other = tt
data_no_array (Float x) other = tt
data_no_array (Datetime d) other = tt

data_no_table : (s : Scalar) (other : Option Nodes) → IsTable (scalar_data s) other
data_no_table (Boolean b) other = tt
data_no_table (Integer z) other = tt
data_no_table (Float x) other = tt
data_no_table (Datetime d) other = tt

scalar_no_array : (r : Read Scalar) (other : Option Items) → ArrayOf (read_map scalar_data r) other
scalar_no_array None other = tt
scalar_no_array (Some p) other = data_no_array p.0 other

scalar_no_table : (r : Read Scalar) (other : Option Nodes) → TableOf (read_map scalar_data r) other
scalar_no_table None other = tt
scalar_no_table (Some p) other = data_no_table p.0 other

either_array : (b : Bool) (r s : Read Data) (other : Option Items) → ArrayOf r other → ArrayOf s other → ArrayOf (cond b r s) other
either_array true r s other h k = h
either_array false r s other h k = k

either_table : (b : Bool) (r s : Read Data) (other : Option Nodes) → TableOf r other → TableOf s other → TableOf (cond b r s) other
either_table true r s other h k = h
either_table false r s other h k = k

atom_no_array : (text : Text) (other : Option Items) → ArrayOf (atom text) other
unfolding atom
atom_no_array text other = either_array (starts_string text) _ _ other (string_no_array (quoted text) other) (scalar_no_array (unquoted text) other)

atom_no_table : (text : Text) (other : Option Nodes) → TableOf (atom text) other
unfolding atom
atom_no_table text other = either_table (starts_string text) _ _ other (string_no_table (quoted text) other) (scalar_no_table (unquoted text) other)

array_or : (b : Bool) (r s : Read Data) (f : List Text → Option Items) (all : List Text) → ArrayOf r (f all) → ArrayOf s (f []) → ArrayOf (cond b r s) (f (cond b all []))
array_or true r s f all h k = h
array_or false r s f all h k = k

table_or : (a b : Bool) (r s t : Read Data) (f : List Text → Option Nodes) (all : List Text) → ((other : Option Nodes) → TableOf r other) → TableOf s (f all) → ((other : Option Nodes) → TableOf t other)
    → TableOf (cond a r (cond b s t)) (f (cond b all []))
table_or true b r s t f all h k m = h _
table_or false true r s t f all h k m = k
table_or false false r s t f all h k m = m _

array_elements : (depth : ℕ) (text : Text) → ArrayOf (val (suc depth) text) (read_items depth no_items (items_of (suc depth) text))
unfolding val items_of
array_elements depth text =
    array_or (first text == 91) _ _ (read_items depth no_items) _ (array_of_items _ _ (items_gather depth (length text) no_items (drop 1 text)))
    (either_array (first text == 123) _ _ _ (table_no_array _ _) (atom_no_array text _))

table_members : (depth : ℕ) (text : Text) → TableOf (val (suc depth) text) (put_members depth no_nodes (members_of (suc depth) text))
unfolding val members_of
table_members depth text =
    table_or (first text == 91) (first text == 123) _ _ _ (put_members depth no_nodes) _ (λ other. array_no_table _ other)
    (table_of_members _ _ (members_put depth (length text) no_nodes (drop 1 text))) (atom_no_table text)

pub reads_elements : (depth : ℕ) (text rest : Text) (found : Items) → val (suc depth) text ≡ Some (array found, rest) → read_items depth no_items (items_of (suc depth) text) ≡ Some found
reads_elements depth text rest found read = subst (λ r. ArrayOf r (read_items depth no_items (items_of (suc depth) text))) read (array_elements depth text)

pub reads_members : (depth : ℕ) (text rest : Text) (found : Members) → val (suc depth) text ≡ Some (table found, rest) → option_map close (put_members depth no_nodes (members_of (suc depth) text)) ≡ Some found
reads_members depth text rest found read = subst (λ r. TableOf r (put_members depth no_nodes (members_of (suc depth) text))) read (table_members depth text)
