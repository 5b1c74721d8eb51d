-- The keys of statements and entries are those that the TOML reader reads.
use Rattle.std.proofs.Common.{◌≡◌, ℕ, zero, suc, ◌-◌, Bool, ◌&&◌, ◌==◌, List, [], ◌∷◌, length, drop, slice_index, Option, Some, None, option_map, option_and_then, refl, ap}
use Rattle.std.proofs.lemmas.List.Elements.{All-from_recursion}
use Rattle.std.specs.Prelude.{IfSome, All, ⊤}
use Rattle.std.specs.Str.{is_utf8}
use Rattle.toml_parser.specs.Lexical.{Read, first, skip_blank, skip_ws}
use Rattle.toml_parser.specs.Strings as toml
use Rattle.toml_parser.specs.Strings.{recursion_limit}
use Rattle.toml.specs.Parse.{after_byte, ends_line, header_key, key_equals, skip_bom}
use Rattle.fb_inputs.specs.declared.deploy_location.TableLocation.{TableLocation}
use Rattle.fb_deploy_positions.specs.Entries.{array_of, begins_with, entry, entry_in, entry_of, found, inline_element, is_element_entry, is_top_entry, named_member}
use Rattle.fb_deploy_positions.specs.Laws.{IsRead, KeyIsRead}
use Rattle.fb_deploy_positions.specs.Statements.{StatementAt, element_heading, line, statement, statements, statements_from, table_heading}
use Rattle.fb_deploy_positions.specs.Values.{Text, after_value, members_of}
use Rattle.fb_deploy_positions.specs.declared.statement.Kind.TheVariants as kind
use Rattle.fb_deploy_positions.proofs.lemmas.Offsets.{Each, cond_each, cond_if, found_of, if_map, map_each, map_if, or_else_if, then_if}

each_if : {A : Type 0} (P : A → Type 0) (o : Option A) → ((a : A) → P a) → IfSome o P
each_if P None h = tt
each_if P (Some a) h = h a

-- the key before this byte, at a text
key_before : (byte : ℕ) (f : Text → Text) (text : Text) (r : Read toml.Key) → toml.key text ≡ r
    → IfSome (option_and_then (λ (k : toml.Key × Text). option_map (λ (rest : Text). (k.0, f rest)) (after_byte byte k.1)) r) (λ (k : toml.Key × Text). KeyIsRead text k.0)
key_before byte f text None read = tt
key_before byte f text (Some k) read =
    map_if (λ (k : toml.Key × Text). KeyIsRead text k.0) (λ rest. (k.0, f rest)) (after_byte byte k.1) (each_if (λ rest. KeyIsRead text k.0) (after_byte byte k.1) (λ rest. ap (option_map (λ (k : toml.Key × Text). k.0)) read))

header_is : (text : Text) → IfSome (header_key text) (λ k. KeyIsRead (skip_ws text) k.0)
unfolding header_key
header_is text = key_before 93 (λ rest. rest) (skip_ws text) (toml.key (skip_ws text)) refl

equals_is : (text : Text) → IfSome (key_equals text) (λ k. KeyIsRead text k.0)
unfolding key_equals
equals_is text = key_before 61 skip_ws text (toml.key text) refl

abbrev Reads : Option (StatementAt × Text) → Type 0
Reads r = IfSome r (λ s. IsRead s.0)

element_reads : (text : Text) → Reads (element_heading text)
element_reads text =
    then_if (λ k. KeyIsRead (skip_ws (drop 2 text)) k.0) (λ s. IsRead s.0) (header_key (drop 2 text)) _ (header_is (drop 2 text)) (λ k h.
    map_if (λ s. IsRead s.0) _ (after_byte 93 k.1) (each_if _ (after_byte 93 k.1) (λ rest. record { key = h; value = tt })))

table_reads : (text : Text) → Reads (table_heading text)
table_reads text =
    map_if (λ s. IsRead s.0) _ (header_key (drop 1 text)) (if_map (λ k. KeyIsRead (skip_ws (drop 1 text)) k.0) _ (λ k h. record { key = h; value = tt }) (header_key (drop 1 text)) (header_is (drop 1 text)))

assignment_reads_at : (text : Text) (r : Read toml.Key) → key_equals text ≡ r → IfSome r (λ k. KeyIsRead text k.0)
    → Reads (option_and_then (λ (k : toml.Key × Text). option_map (λ (rest : Text). (record { kind = kind.Key; key = k.0; begin = text; value = k.1 }, rest)) (after_value recursion_limit k.1)) r)
assignment_reads_at text None read h = tt
assignment_reads_at text (Some k) read h =
    map_if (λ s. IsRead s.0) _ (after_value recursion_limit k.1) (each_if _ (after_value recursion_limit k.1) (λ rest. record { key = h; value = read }))

statement_reads : (text : Text) → Reads (statement text)
unfolding statement
statement_reads text =
    cond_if (λ s. IsRead s.0) (first text == 91 && slice_index text 1 == 91) (element_heading text) _ (element_reads text)
    (cond_if (λ s. IsRead s.0) (first text == 91) (table_heading text) _ (table_reads text) (assignment_reads_at text (key_equals text) refl (equals_is text)))

line_reads : (text : Text) → Reads (line text)
unfolding line
line_reads text = then_if (λ s. IsRead s.0) (λ s. IsRead s.0) (statement text) _ (statement_reads text) (λ s h. cond_if (λ s. IsRead s.0) (ends_line (skip_ws s.1)) (Some s) None h tt)

lines_read : (n : ℕ) (text : Text) → Each IsRead (statements_from n text)
unfolding statements_from
lines_read zero text = tt
lines_read (suc n) text =
    let start = skip_blank text in
    cond_each IsRead (length start == 0) [] _ tt (map_each (λ s. IsRead s.0) IsRead _ (line start) (line_reads start) (λ s h. (h, lines_read n s.1)))

read_all : (text : Text) → Each IsRead (statements text)
read_all text = cond_each IsRead (is_utf8 text) _ [] (lines_read (suc (length text)) (skip_bom text)) tt

pub statements_are_read : (text : Text) → All IsRead (statements text)
statements_are_read text = All-from_recursion IsRead (statements text) (read_all text)

member_reads : (depth : ℕ) (name : Text) (all : List Text) → IfSome (named_member depth name all) (λ e. KeyIsRead e.name e.key)
unfolding named_member
member_reads depth name [] = tt
member_reads depth name (m ∷ all) =
    then_if (λ k. KeyIsRead m k.0) (λ e. KeyIsRead e.name e.key) (key_equals m) _ (equals_is m) (λ k h.
    cond_if (λ e. KeyIsRead e.name e.key) (begins_with name k.0) _ (named_member depth name all) h (member_reads depth name all))

statement_entry : (text : Text) (test : List StatementAt → StatementAt → Bool) → IfSome (option_map entry_of (found test [] (statements text))) (λ e. KeyIsRead e.name e.key)
statement_entry text test =
    map_if (λ e. KeyIsRead e.name e.key) entry_of (found test [] (statements text)) (if_map IsRead _ (λ s h. h.key) _ (found_of IsRead test [] (statements text) (read_all text)))

entry_reads : (text name : Text) (a : Option (Text × ℕ)) → IfSome (entry_in (statements text) name a) (λ e. KeyIsRead e.name e.key)
entry_reads text name None = statement_entry text (is_top_entry name)
entry_reads text name (Some a) =
    or_else_if (λ e. KeyIsRead e.name e.key) (option_map entry_of (found (is_element_entry a.0 a.1 name) [] (statements text))) _ (statement_entry text (is_element_entry a.0 a.1 name))
    (then_if (λ element. ⊤) (λ e. KeyIsRead e.name e.key) (inline_element (statements text) a.0 a.1) _ (each_if (λ element. ⊤) (inline_element (statements text) a.0 a.1) (λ element. tt)) (λ element h.
    member_reads (recursion_limit - 2) name (members_of (recursion_limit - 1) element)))

pub entries_are_read : (text : Text) (t : TableLocation) (name : Text) → IfSome (entry text t name) (λ e. KeyIsRead e.name e.key)
entries_are_read text t name = entry_reads text name (array_of t)
