-- How the definitions of this crate stand to those of the TOML reader.
use Rattle.std.specs.Prelude.{◌≡◌, ℕ, suc, true, List, [], ◌∷◌, drop, Option, Some, IfSome, All, option_map, ⊤}
use Rattle.std.specs.Str.{is_utf8}
use Rattle.toml_parser.specs.Strings as toml
use Rattle.toml_parser.specs.Strings.{recursion_limit}
use Rattle.toml.specs.Data.{Data, Items, Members, array, no_items, push_item, table}
use Rattle.toml.specs.Parse.{key_equals, keyval, parse_document, val}
use Rattle.toml.specs.Tables.{Definition, Document, Expression, Nodes, array_table, close, define, key_value, no_nodes, put, std_table}
use Rattle.fb_inputs.specs.declared.deploy_location.TableLocation.{TableLocation}
use Rattle.fb_deploy_positions.specs.Entries.{Entry, entry, inline_element, name_of, offset}
use Rattle.fb_deploy_positions.specs.Statements.{StatementAt, statements}
use Rattle.fb_deploy_positions.specs.Values.{Text, ◌>>=◌, after_value, items_of, members_of}
use Rattle.fb_deploy_positions.specs.declared.statement.Kind.{Kind}
use Rattle.fb_deploy_positions.specs.declared.statement.Kind.TheVariants as kind

-- Where the TOML reader reads a value, the text after the value is the one that the reader leaves.
abbrev pub FollowsReader : Type 0
FollowsReader = (depth : ℕ) (text rest : Text) (d : Data) → val depth text ≡ Some (d, rest) → after_value depth text ≡ Some rest

-- what a statement of this kind defines, if the text with its value begins with one
abbrev pub definition_of : Kind → Text → Option Definition
definition_of kind.Element value = Some array_table
definition_of kind.Table value = Some std_table
definition_of kind.Key value = option_map (λ v. key_value v.0) (val recursion_limit value)

abbrev pub expression_of : StatementAt → Option Expression
expression_of s = option_map (λ d. (s.key, d)) (definition_of s.kind s.value)

-- the document after these statements, one after the other
unfoldable pub define_all : Document → List StatementAt → Option Document
define_all doc [] = Some doc
define_all doc (s ∷ rest) = expression_of s >>= (λ e. define doc e >>= (λ next. define_all next rest))

-- What the TOML reader reads in a document is what its statements define.
abbrev pub DefinesDocuments : Type 0
DefinesDocuments = (text : Text) (out : Members) → is_utf8 text ≡ true → parse_document text ≡ Some out
    → option_map (λ doc. close doc.0) (define_all (no_nodes, []) (statements text)) ≡ Some out

-- ---- Parts of values

-- the elements that the reader reads at these texts, at most this deep, after those found
unfoldable pub read_items : (depth : ℕ) → Items → List Text → Option Items
read_items depth found [] = Some found
read_items depth found (text ∷ rest) = val depth text >>= (λ v. read_items depth (push_item found v.0) rest)

-- the keys with their values that it reads at these texts, put into a table
unfoldable pub put_members : (depth : ℕ) → Nodes → List Text → Option Nodes
put_members depth found [] = Some found
put_members depth found (text ∷ rest) = keyval (val depth) text >>= (λ e. put e.0.0 e.0.1 found >>= (λ more. put_members depth more rest))

-- The array that the TOML reader reads has the elements that it reads at `items_of`, in this order.
abbrev pub ReadsElements : Type 0
ReadsElements = (depth : ℕ) (text rest : Text) (found : Items) → val (suc depth) text ≡ Some (array found, rest)
    → read_items depth no_items (items_of (suc depth) text) ≡ Some found

-- The inline table that it reads has the keys and values that it reads at `members_of`.
abbrev pub ReadsMembers : Type 0
ReadsMembers = (depth : ℕ) (text rest : Text) (found : Members) → val (suc depth) text ≡ Some (table found, rest)
    → option_map close (put_members depth no_nodes (members_of (suc depth) text)) ≡ Some found

-- ---- Keys

-- the key is the one that the reader reads at the name
abbrev pub KeyIsRead : (name : Text) → toml.Key → Type 0
KeyIsRead name key = option_map (λ k. k.0) (toml.key name) ≡ Some key

-- so is the value of a key, which is no heading
abbrev pub ValueIsRead : Kind → (begin : Text) → toml.Key → (value : Text) → Type 0
ValueIsRead kind.Element begin key value = ⊤
ValueIsRead kind.Table begin key value = ⊤
ValueIsRead kind.Key begin key value = key_equals begin ≡ Some (key, value)

pub record IsRead (s : StatementAt) : Type 0 where
  pub key : KeyIsRead (name_of s.kind s.begin) s.key
  pub value : ValueIsRead s.kind s.begin s.key s.value

abbrev pub StatementsAreRead : Type 0
StatementsAreRead = (text : Text) → All IsRead (statements text)

abbrev pub EntriesAreRead : Type 0
EntriesAreRead = (text : Text) (t : TableLocation) (name : Text) → IfSome (entry text t name) (λ e. KeyIsRead e.name e.key)

-- ---- Offsets

-- The text is an end of the whole: the whole goes on with it from its offset on.
abbrev pub IsEnd : (whole text : Text) → Type 0
IsEnd whole text = drop (offset whole text) whole ≡ text

-- what begins with the parts of a statement are ends of the whole
pub record HasEnds (whole : Text) (s : StatementAt) : Type 0 where
  pub begin : IsEnd whole s.begin
  pub name : IsEnd whole (name_of s.kind s.begin)
  pub value : IsEnd whole s.value
  pub items : All (IsEnd whole) (items_of recursion_limit s.value)

-- the same of an entry of a table
pub record EntryHasEnds (whole : Text) (e : Entry) : Type 0 where
  pub begin : IsEnd whole e.begin
  pub name : IsEnd whole e.name
  pub value : IsEnd whole e.value
  pub items : All (IsEnd whole) (items_of e.depth e.value)

abbrev pub StatementsHaveEnds : Type 0
StatementsHaveEnds = (text : Text) → All (HasEnds text) (statements text)

abbrev pub ElementsAreEnds : Type 0
ElementsAreEnds = (text array : Text) (index : ℕ) → IfSome (inline_element (statements text) array index) (IsEnd text)

abbrev pub EntriesHaveEnds : Type 0
EntriesHaveEnds = (text : Text) (t : TableLocation) (name : Text) → IfSome (entry text t name) (EntryHasEnds text)
