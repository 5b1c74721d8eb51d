-- Where the entries of a deployment are in its text: its tables, their keys, and the elements of arrays (this project's own).
use Rattle.std.specs.Prelude.{◌≡◌, ℕ, ◌+◌, ◌-◌, Bool, true, false, ◌&&◌, ◌==◌, nat_le, if◌then◌else◌, List, [], ◌∷◌, ◌++◌, length, take, drop, reverse, slice_get, codes, Option, Some, None, option_map, unwrap_or}
use Rattle.std.specs.List.{prefix_len}
use Rattle.std.specs.Str.{bytes_eq}
use Rattle.toml_parser.specs.Lexical.{is_ws, skip_ws}
use Rattle.toml_parser.specs.Strings as toml
use Rattle.toml_parser.specs.Strings.{recursion_limit}
use Rattle.toml.specs.Parse.{key_equals}
use Rattle.fb_read.specs.declared.token.Span.{Span}
use Rattle.fb_inputs.specs.Counts.{mark_len}
use Rattle.fb_inputs.specs.DeployLocations.{text_of}
use Rattle.fb_inputs.specs.Positions.{around_deploy}
use Rattle.fb_inputs.specs.Searches.{IsNearest}
use Rattle.fb_inputs.specs.declared.deploy_location.DeployKey.{DeployKey}
use Rattle.fb_inputs.specs.declared.deploy_location.TableLocation.{TableLocation}
use Rattle.fb_inputs.specs.declared.deploy_location.TableLocation.TheVariants as table
use Rattle.fb_inputs.specs.declared.position.DeployPosition.{DeployPosition}
use Rattle.fb_inputs.specs.declared.position.DeployPosition.TheVariants as in_deploy
use Rattle.fb_deploy_positions.specs.Statements.{StatementAt, statements}
use Rattle.fb_deploy_positions.specs.Values.{Text, ◌>>=◌, items_of, members_of}
use Rattle.toml_parser.specs.Reading.{key_view}
use Rattle.fb_deploy_positions.specs.declared.values.Member as code
use Rattle.fb_deploy_positions.specs.declared.statement.Kind.{Kind}
use Rattle.fb_deploy_positions.specs.declared.statement.Kind.TheVariants as kind

-- ---- Keys

-- the first part of a key
abbrev pub first_of : List Text → Text → Text
first_of [] last = last
first_of (part ∷ parts) last = part

abbrev pub first_part : toml.Key → Text
first_part key = first_of key.0 key.1

-- the key has this name as its first part
abbrev pub begins_with : (name : Text) → toml.Key → Bool
begins_with name key = bytes_eq (first_part key) name

-- the key is this name alone
abbrev pub is_alone : (name : Text) → toml.Key → Bool
is_alone name key = length key.0 == 0 && bytes_eq key.1 name

-- the key begins with these two parts
abbrev pub has_second : (name : Text) → List Text → Text → Bool
has_second name [] last = false
has_second name (part ∷ parts) last = bytes_eq (first_of parts last) name

abbrev pub begins_with_both : (array name : Text) → toml.Key → Bool
begins_with_both array name key = begins_with array key && has_second name key.0 key.1

-- ---- Statements

abbrev pub is_key : Kind → Bool
is_key kind.Element = false
is_key kind.Table = false
is_key kind.Key = true

abbrev pub is_element : Kind → Bool
is_element kind.Element = true
is_element kind.Table = false
is_element kind.Key = false

-- it is the heading of an element of this array
abbrev pub heads_element : (array : Text) → StatementAt → Bool
heads_element array s = is_element s.kind && is_alone array s.key

-- how many elements of the array these statements begin
unfoldable pub elements_in : (array : Text) → List StatementAt → ℕ
elements_in array [] = 0
elements_in array (s ∷ rest) = if heads_element array s then elements_in array rest + 1 else elements_in array rest

-- the last heading among these statements heads an element of the array; `last` says so of those before them
unfoldable pub is_in_element : (array : Text) → (last : Bool) → List StatementAt → Bool
is_in_element array last [] = last
is_in_element array last (s ∷ rest) = is_in_element array (if is_key s.kind then last else heads_element array s) rest

-- none of these statements is a heading
unfoldable pub has_no_heading : List StatementAt → Bool
has_no_heading [] = true
has_no_heading (s ∷ rest) = is_key s.kind && has_no_heading rest

-- after these statements those of the element with this index of the array follow
abbrev pub is_in_nth : (array : Text) → (index : ℕ) → List StatementAt → Bool
is_in_nth array index before = is_in_element array false before && elements_in array before == index + 1

-- the first statement that passes a test, which knows those before it
unfoldable pub found : (List StatementAt → StatementAt → Bool) → (before rest : List StatementAt) → Option StatementAt
found test before [] = None
found test before (s ∷ rest) = if test before s then Some s else found test (before ++ s ∷ []) rest

-- ---- Tables

-- the key of the array that the table is in, and the table's index there
abbrev pub array_of : TableLocation → Option (Text × ℕ)
array_of table.Top = None
array_of (table.Resource i) = Some (codes "resource", i)
array_of (table.Link i) = Some (codes "link", i)

-- the statement is the heading of the element with this index of the array
abbrev pub is_nth_heading : (array : Text) → (index : ℕ) → (before : List StatementAt) → StatementAt → Bool
is_nth_heading array index before s = heads_element array s && elements_in array before == index

-- the statement gives the array as a value
abbrev pub is_array : (array : Text) → (before : List StatementAt) → StatementAt → Bool
is_array array before s = is_key s.kind && (has_no_heading before && is_alone array s.key)

-- the text that begins with the element with this index of the array, if the array is a value
abbrev pub inline_element : List StatementAt → (array : Text) → (index : ℕ) → Option Text
inline_element all array index = found (is_array array) [] all >>= (λ s. slice_get (items_of recursion_limit s.value) index)

-- ---- Keys of tables

-- The statement is a key of the document, or a heading of one.
abbrev pub is_top_entry : (name : Text) → (before : List StatementAt) → StatementAt → Bool
is_top_entry name before s = (if is_key s.kind then has_no_heading before else true) && begins_with name s.key

-- The statement is a key of the element with this index of the array, or a heading of one.
abbrev pub is_element_entry : (array : Text) → (index : ℕ) → (name : Text) → (before : List StatementAt) → StatementAt → Bool
is_element_entry array index name before s =
    if is_key s.kind then is_in_nth array index before && begins_with name s.key
    else elements_in array before == index + 1 && begins_with_both array name s.key

-- A key with its value: the text that begins with the heading or with the key, the text that begins with the key itself, its
-- parts, and the text that begins with the value, which has arrays at most this deep.
pub record Entry : Type 0 where
  pub begin : Text
  pub name : Text
  pub key : toml.Key
  pub value : Text
  pub depth : ℕ

-- the text that begins with the key of a statement
abbrev pub name_of : Kind → Text → Text
name_of kind.Element begin = skip_ws (drop 2 begin)
name_of kind.Table begin = skip_ws (drop 1 begin)
name_of kind.Key begin = begin

abbrev pub entry_of : StatementAt → Entry
entry_of s = record { begin = s.begin; name = name_of s.kind s.begin; key = s.key; value = s.value; depth = recursion_limit }

-- a key of an inline table as the code holds it
abbrev pub member_view : (depth : ℕ) → code.Member → Entry
member_view depth m = record { begin = m.begin.now; name = m.begin.now; key = key_view m.key; value = m.value.now; depth = depth }

-- the first of these keys of an inline table that begins with the name; values are at most this deep
unfoldable pub named_member : (depth : ℕ) → (name : Text) → List Text → Option Entry
named_member depth name [] = None
named_member depth name (m ∷ rest) =
    key_equals m >>= (λ k. if begins_with name k.0 then Some (record { begin = m; name = m; key = k.0; value = k.1; depth = depth }) else named_member depth name rest)

-- the key of the inline table with which a text begins, which is an element of an array of the document
abbrev pub inline_entry : (name : Text) → Text → Option Entry
inline_entry name element = named_member (recursion_limit - 2) name (members_of (recursion_limit - 1) element)

-- the first of two that is there
abbrev pub or_else : {A : Type 0} → Option A → Option A → Option A
or_else (Some x) other = Some x
or_else None other = other

abbrev pub array_entry : List StatementAt → (name : Text) → (array : Text × ℕ) → Option Entry
array_entry all name a =
    or_else (option_map entry_of (found (is_element_entry a.0 a.1 name) [] all)) (inline_element all a.0 a.1 >>= inline_entry name)

abbrev pub entry_in : List StatementAt → (name : Text) → Option (Text × ℕ) → Option Entry
entry_in all name None = option_map entry_of (found (is_top_entry name) [] all)
entry_in all name (Some array) = array_entry all name array

-- the key with this name in the table
abbrev pub entry : Text → TableLocation → (name : Text) → Option Entry
entry text t name = entry_in (statements text) name (array_of t)

-- ---- Spans

-- where a text begins that is an end of the whole
abbrev pub offset : (text end : Text) → ℕ
offset text end = length text - length end

-- the length without the blanks at the end
abbrev pub trimmed : Text → ℕ
trimmed text = length text - prefix_len is_ws (reverse text)

-- the length of the key with which a text begins
unfoldable pub key_len : Text → ℕ
key_len text = unwrap_or (option_map (λ k. trimmed (take (length text - length k.1) text)) (toml.key text)) 0

-- the first bytes of a text that is an end of the whole
abbrev pub bytes_at : (text end : Text) → (len : ℕ) → Span
bytes_at text end len = record { start = offset text end; end = offset text end + len }

-- the bytes of a key, or of a heading up to the end of its key
abbrev pub key_span : Text → Entry → Span
key_span text e = record { start = offset text e.begin; end = offset text e.name + key_len e.name }

-- the bytes of the key with this name in the table
abbrev pub named_key_span : Text → TableLocation → (name : Text) → Option Span
named_key_span text t name = option_map (key_span text) (entry text t name)

-- the two brackets of a heading, or the byte that begins an inline table
abbrev pub table_span_in : Text → List StatementAt → Option (Text × ℕ) → Option Span
table_span_in text all None = None
table_span_in text all (Some a) =
    or_else (option_map (λ s. bytes_at text s.begin 2) (found (is_nth_heading a.0 a.1) [] all))
    (option_map (λ element. bytes_at text element 1) (inline_element all a.0 a.1))

abbrev pub table_span : Text → TableLocation → Option Span
table_span text t = table_span_in text (statements text) (array_of t)

-- the byte that begins the element with this index of the array at a key; the parts of a dotted key are no arrays
abbrev pub element_of : Text → Entry → (index : ℕ) → Option Span
element_of text e index = if length e.key.0 == 0 then option_map (λ element. bytes_at text element 1) (slice_get (items_of e.depth e.value) index) else None

-- the beginning of the text, after its byte order mark
abbrev pub start_of : Text → Span
start_of text = record { start = mark_len text; end = mark_len text }

abbrev pub byte_span : Text → ℕ → Option Span
byte_span text at = if nat_le (mark_len text) at && nat_le at (length text) then Some (record { start = at; end = at }) else None

-- the byte that begins an element of the array at a key of a table
abbrev pub element_span : Text → TableLocation → DeployKey → (index : ℕ) → Option Span
element_span text t k index = entry text t (text_of k) >>= (λ e. element_of text e index)

-- The bytes at a position, if there are any.
abbrev pub span_at : Text → DeployPosition → Option Span
span_at text in_deploy.Start = Some (start_of text)
span_at text (in_deploy.Byte at) = byte_span text at
span_at text (in_deploy.Table t) = table_span text t
span_at text (in_deploy.Key t k) = named_key_span text t (text_of k)
span_at text (in_deploy.Element t k i) = element_span text t k i

-- The bytes are at the position.
abbrev pub IsAt : Text → DeployPosition → Span → Type 0
IsAt text position span = span_at text position ≡ Some span

-- The bytes are at the position, or at the first one around it at which there are any. The beginning of the text is around
-- all, and is the last one.
abbrev pub IsNear : Text → DeployPosition → Span → Type 0
IsNear text position span = IsNearest (IsAt text) around_deploy position span
