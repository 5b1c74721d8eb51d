-- What begins statements, entries and elements stands in the text at its offset.
use Rattle.std.proofs.Common.{ℕ, zero, suc, ◌-◌, Bool, true, false, cond, ◌&&◌, ◌==◌, List, [], ◌∷◌, ◌++◌, length, drop, slice_index, Option, Some, None, option_map, option_and_then, unwrap_or, refl, sym, arith}
use Rattle.std.proofs.lemmas.List.{drop_all}
use Rattle.std.proofs.lemmas.List.Elements.{All-from_recursion}
use Rattle.std.specs.Prelude.{IfSome, All, slice_get, ⊤}
use Rattle.std.specs.Str.{is_utf8}
use Rattle.toml_parser.specs.Lexical.{first, skip_blank, skip_ws}
use Rattle.toml_parser.specs.Strings.{recursion_limit}
use Rattle.toml.specs.Parse.{after_byte, after_element, ends_line, header_key, key_equals, skip_bom}
use Rattle.fb_inputs.specs.declared.deploy_location.TableLocation.{TableLocation}
use Rattle.fb_deploy_positions.specs.Entries.{array_of, begins_with, entry, entry_in, entry_of, found, inline_element, is_array, is_element_entry, is_top_entry, name_of, named_member, or_else}
use Rattle.fb_deploy_positions.specs.Laws.{EntryHasEnds, HasEnds, IsEnd}
use Rattle.fb_deploy_positions.specs.Statements.{StatementAt, assignment, element_heading, line, statement, statements, statements_from, table_heading}
use Rattle.fb_deploy_positions.specs.Values.{Text, after_value, items_from, items_of, members_from, members_of}
use Rattle.fb_deploy_positions.proofs.lemmas.Ends.{Left, at_offset, blank_left, bom_left, byte_left, dropped, element_left, equals_left, header_left, left_left, value_left, whole_left, ws_left}

-- all of these, one after the other
abbrev pub Each : {A : Type 0} → (A → Type 0) → List A → Type 0
Each P [] = ⊤
Each P (a ∷ all) = P a × Each P all

each_map : {A : Type 0} {P Q : A → Type 0} (f : (a : A) → P a → Q a) (all : List A) → Each P all → Each Q all
each_map f [] h = tt
each_map f (a ∷ all) (h, more) = (f a h, each_map f all more)

pub cond_each : {A : Type 0} (P : A → Type 0) (b : Bool) (all other : List A) → Each P all → Each P other → Each P (cond b all other)
cond_each P true all other h k = h
cond_each P false all other h k = k

pub cond_if : {A : Type 0} (P : A → Type 0) (b : Bool) (o p : Option A) → IfSome o P → IfSome p P → IfSome (cond b o p) P
cond_if P true o p h k = h
cond_if P false o p h k = k

pub map_if : {A B : Type 0} (P : B → Type 0) (f : A → B) (o : Option A) → IfSome o (λ a. P (f a)) → IfSome (option_map f o) P
map_if P f None h = tt
map_if P f (Some a) h = h

pub then_if : {A B : Type 0} (Q : A → Type 0) (P : B → Type 0) (o : Option A) (f : A → Option B) → IfSome o Q → ((a : A) → Q a → IfSome (f a) P) → IfSome (option_and_then f o) P
then_if Q P None f h more = tt
then_if Q P (Some a) f h more = more a h

pub map_each : {A X : Type 0} (Q : A → Type 0) (P : X → Type 0) (f : A → List X) (o : Option A) → IfSome o Q → ((a : A) → Q a → Each P (f a)) → Each P (unwrap_or (option_map f o) [])
map_each Q P f None h more = tt
map_each Q P f (Some a) h more = more a h

then_each : {A X : Type 0} (Q : A → Type 0) (P : X → Type 0) (f : A → Option (List X)) (o : Option A) → IfSome o Q → ((a : A) → Q a → Each P (unwrap_or (f a) []))
    → Each P (unwrap_or (option_and_then f o) [])
then_each Q P f None h more = tt
then_each Q P f (Some a) h more = more a h

pub if_map : {A : Type 0} (P Q : A → Type 0) (f : (a : A) → P a → Q a) (o : Option A) → IfSome o P → IfSome o Q
if_map P Q f None h = tt
if_map P Q f (Some a) h = f a h

further : (whole text : Text) → Left whole text → (all : List Text) → Each (Left text) all → Each (Left whole) all
further whole text left all h = each_map (λ more l. left_left whole text more left l) all h

-- ---- Parts of values

module _ (after : Text → Option Text) (left : (text : Text) → IfSome (after text) (Left text)) where
  items_left : (n : ℕ) (text : Text) → Each (Left text) (items_from after n text)
  unfolding items_from
  items_left zero text = tt
  items_left (suc n) text =
      let start = skip_blank text in
      cond_each (Left text) (first start == 93) [] _ tt
      (map_each (Left start) (Left text) _ (after start) (left start) (λ rest l. (
        blank_left text,
        map_each (Left rest) (Left text) (items_from after n) (after_element 93 rest) (element_left 93 rest) (λ next e.
            further text next (left_left text start next (blank_left text) (left_left start rest next l e)) (items_from after n next) (items_left n next)),
      )))

  members_left : (n : ℕ) (text : Text) → Each (Left text) (members_from after n text)
  unfolding members_from
  members_left zero text = tt
  members_left (suc n) text =
      let start = skip_blank text in
      cond_each (Left text) (first start == 125) [] _ tt
      (then_each (λ k. Left start k.1) (Left text) _ (key_equals start) (equals_left start) (λ k e.
      map_each (Left k.1) (Left text) _ (after k.1) (left k.1) (λ rest l. (
        blank_left text,
        map_each (Left rest) (Left text) (members_from after n) (after_element 125 rest) (element_left 125 rest) (λ next m.
            further text next (left_left text start next (blank_left text) (left_left start k.1 next e (left_left k.1 rest next l m))) (members_from after n next) (members_left n next)),
      ))))

pub items_of_left : (depth : ℕ) (text : Text) → Each (Left text) (items_of depth text)
unfolding items_of
items_of_left zero text = tt
items_of_left (suc depth) text =
    cond_each (Left text) (first text == 91) _ [] (further text (drop 1 text) (1, refl) _ (items_left (after_value depth) (value_left depth) (length text) (drop 1 text))) tt

pub members_of_left : (depth : ℕ) (text : Text) → Each (Left text) (members_of depth text)
unfolding members_of
members_of_left zero text = tt
members_of_left (suc depth) text =
    cond_each (Left text) (first text == 123) _ [] (further text (drop 1 text) (1, refl) _ (members_left (after_value depth) (value_left depth) (length text) (drop 1 text))) tt

-- ---- Statements

-- what begins with the parts of a statement is left of the whole
record Parts (whole : Text) (s : StatementAt) : Type 0 where
  begin : Left whole s.begin
  name : Left whole (name_of s.kind s.begin)
  value : Left whole s.value

abbrev IsRead : Text → StatementAt × Text → Type 0
IsRead text s = Parts text s.0 × Left text s.1

abbrev Reads : Text → Option (StatementAt × Text) → Type 0
Reads text r = IfSome r (IsRead text)

nothing_left : (text : Text) → Left text []
nothing_left text = (length text, sym (drop_all (length text) text (omega arith)))

parts_left : (whole text : Text) (s : StatementAt) → Left whole text → Parts text s → Parts whole s
parts_left whole text s left p = record { begin = left_left whole text _ left p.begin; name = left_left whole text _ left p.name; value = left_left whole text _ left p.value }

element_reads : (text : Text) → Reads text (element_heading text)
element_reads text =
    then_if (λ k. Left (drop 2 text) k.1) (IsRead text) (header_key (drop 2 text)) _ (header_left (drop 2 text)) (λ k left.
    map_if (IsRead text) _ (after_byte 93 k.1)
    (if_map (Left k.1) _ (λ rest l. (
      record { begin = whole_left text; name = left_left text (drop 2 text) _ (dropped 2 text) (ws_left (drop 2 text)); value = nothing_left text },
      left_left text (drop 2 text) rest (dropped 2 text) (left_left (drop 2 text) k.1 rest left l),
    )) (after_byte 93 k.1) (byte_left 93 k.1)))

table_reads : (text : Text) → Reads text (table_heading text)
table_reads text =
    map_if (IsRead text) _ (header_key (drop 1 text))
    (if_map (λ k. Left (drop 1 text) k.1) _ (λ k left. (
      record { begin = whole_left text; name = left_left text (drop 1 text) _ (dropped 1 text) (ws_left (drop 1 text)); value = nothing_left text },
      left_left text (drop 1 text) k.1 (dropped 1 text) left,
    )) (header_key (drop 1 text)) (header_left (drop 1 text)))

assignment_reads : (text : Text) → Reads text (assignment text)
assignment_reads text =
    then_if (λ k. Left text k.1) (IsRead text) (key_equals text) _ (equals_left text) (λ k left.
    map_if (IsRead text) _ (after_value recursion_limit k.1)
    (if_map (Left k.1) _ (λ rest l. (record { begin = whole_left text; name = whole_left text; value = left }, left_left text k.1 rest left l)) (after_value recursion_limit k.1) (value_left recursion_limit k.1)))

statement_reads : (text : Text) → Reads text (statement text)
unfolding statement
statement_reads text =
    cond_if (IsRead text) (first text == 91 && slice_index text 1 == 91) (element_heading text) _ (element_reads text)
    (cond_if (IsRead text) (first text == 91) (table_heading text) _ (table_reads text) (assignment_reads text))

line_reads : (text : Text) → Reads text (line text)
unfolding line
line_reads text = then_if (IsRead text) (IsRead text) (statement text) _ (statement_reads text) (λ s h. cond_if (IsRead text) (ends_line (skip_ws s.1)) (Some s) None h tt)

lines_read : (n : ℕ) (text : Text) → Each (Parts text) (statements_from n text)
unfolding statements_from
lines_read zero text = tt
lines_read (suc n) text =
    let start = skip_blank text in
    cond_each (Parts text) (length start == 0) [] _ tt
    (map_each (IsRead start) (Parts text) _ (line start) (line_reads start) (λ s h. (
      parts_left text start s.0 (blank_left text) h.0,
      each_map (λ more p. parts_left text s.1 more (left_left text start s.1 (blank_left text) h.1) p) (statements_from n s.1) (lines_read n s.1),
    )))

read_all : (text : Text) → Each (Parts text) (statements text)
read_all text =
    cond_each (Parts text) (is_utf8 text) _ [] (each_map (λ s p. parts_left text (skip_bom text) s (bom_left text) p) _ (lines_read (suc (length text)) (skip_bom text))) tt

ends_of : (whole text : Text) → Left whole text → (depth : ℕ) → All (IsEnd whole) (items_of depth text)
ends_of whole text left depth =
    All-from_recursion (IsEnd whole) (items_of depth text) (each_map (λ item l. at_offset whole item (left_left whole text item left l)) (items_of depth text) (items_of_left depth text))

has_ends : (whole : Text) (s : StatementAt) → Parts whole s → HasEnds whole s
has_ends whole s p = record {
  begin = at_offset whole s.begin p.begin;
  name = at_offset whole (name_of s.kind s.begin) p.name;
  value = at_offset whole s.value p.value;
  items = ends_of whole s.value p.value recursion_limit;
}

pub statements_have_ends : (text : Text) → All (HasEnds text) (statements text)
statements_have_ends text = All-from_recursion (HasEnds text) (statements text) (each_map (has_ends text) (statements text) (read_all text))

-- ---- Entries

pub found_of : (P : StatementAt → Type 0) (test : List StatementAt → StatementAt → Bool) (before rest : List StatementAt) → Each P rest → IfSome (found test before rest) P
unfolding found
found_of P test before [] h = tt
found_of P test before (s ∷ rest) (h, more) = cond_if P (test before s) (Some s) (found test (before ++ s ∷ []) rest) h (found_of P test (before ++ s ∷ []) rest more)

item_of : (P : Text → Type 0) (all : List Text) (index : ℕ) → Each P all → IfSome (slice_get all index) P
item_of P [] index h = tt
item_of P (text ∷ all) zero (h, more) = h
item_of P (text ∷ all) (suc index) (h, more) = item_of P all index more

element_left_of : (text array : Text) (index : ℕ) → IfSome (inline_element (statements text) array index) (Left text)
element_left_of text array index =
    then_if (Parts text) (Left text) (found (is_array array) [] (statements text)) _ (found_of (Parts text) (is_array array) [] (statements text) (read_all text)) (λ s p.
    item_of (Left text) (items_of recursion_limit s.value) index (further text s.value p.value _ (items_of_left recursion_limit s.value)))

pub elements_are_ends : (text array : Text) (index : ℕ) → IfSome (inline_element (statements text) array index) (IsEnd text)
elements_are_ends text array index = if_map (Left text) (IsEnd text) (at_offset text) (inline_element (statements text) array index) (element_left_of text array index)

member_ends : (whole : Text) (depth : ℕ) (name : Text) (all : List Text) → Each (Left whole) all → IfSome (named_member depth name all) (EntryHasEnds whole)
unfolding named_member
member_ends whole depth name [] h = tt
member_ends whole depth name (m ∷ all) (left, more) =
    then_if (λ k. Left m k.1) (EntryHasEnds whole) (key_equals m) _ (equals_left m) (λ k l.
    cond_if (EntryHasEnds whole) (begins_with name k.0) _ (named_member depth name all)
    (let value = left_left whole m k.1 left l in
    record { begin = at_offset whole m left; name = at_offset whole m left; value = at_offset whole k.1 value; items = ends_of whole k.1 value depth })
    (member_ends whole depth name all more))

pub or_else_if : {A : Type 0} (P : A → Type 0) (o other : Option A) → IfSome o P → IfSome other P → IfSome (or_else o other) P
or_else_if P None other h k = k
or_else_if P (Some a) other h k = h

statement_entry : (text : Text) (test : List StatementAt → StatementAt → Bool) → IfSome (option_map entry_of (found test [] (statements text))) (EntryHasEnds text)
statement_entry text test =
    map_if (EntryHasEnds text) entry_of (found test [] (statements text)) (if_map (Parts text) _ (λ s p. entry_ends s (has_ends text s p)) _ (found_of (Parts text) test [] (statements text) (read_all text)))
  where
    entry_ends : (s : StatementAt) → HasEnds text s → EntryHasEnds text (entry_of s)
    entry_ends s h = record { begin = h.begin; name = h.name; value = h.value; items = h.items }

entry_ends_in : (text name : Text) (a : Option (Text × ℕ)) → IfSome (entry_in (statements text) name a) (EntryHasEnds text)
entry_ends_in text name None = statement_entry text (is_top_entry name)
entry_ends_in text name (Some a) =
    or_else_if (EntryHasEnds text) (option_map entry_of (found (is_element_entry a.0 a.1 name) [] (statements text))) _ (statement_entry text (is_element_entry a.0 a.1 name))
    (then_if (Left text) (EntryHasEnds text) (inline_element (statements text) a.0 a.1) _ (element_left_of text a.0 a.1) (λ element left.
    member_ends text (recursion_limit - 2) name (members_of (recursion_limit - 1) element) (further text element left _ (members_of_left (recursion_limit - 1) element))))

pub entries_have_ends : (text : Text) (t : TableLocation) (name : Text) → IfSome (entry text t name) (EntryHasEnds text)
entries_have_ends text t name = entry_ends_in text name (array_of t)
