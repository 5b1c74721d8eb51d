-- What the grammar of TOML leaves after a token, and what begins statements and their parts, is an end of the text.
use Rattle.std.proofs.Common.{◌≡◌, ℕ, zero, suc, ◌+◌, ◌-◌, Bool, true, false, cond, ◌&&◌, ◌==◌, List, [], ◌∷◌, ◌++◌, length, take, drop, slice_index, drop-drop, length-drop, Option, Some, None, option_map, option_and_then, unwrap_or, refl, sym, ap, ◌∙◌, inl, inr, arith}
use Rattle.std.proofs.lemmas.Bool.{cases_lt}
use Rattle.std.proofs.lemmas.List.{drop_all}
use Rattle.std.specs.Prelude.{IfSome, encode_utf8, nat_lt}
use Rattle.std.specs.List.{prefix_len}
use Rattle.toml_parser.specs.Lexical.{Read, first, is_bare, is_ws, skip_blank, skip_from, skip_lines, skip_turn, skip_ws, split_while, starts_newline}
use Rattle.toml_parser.specs.Numbers.{unquoted, word_len, word_value}
use Rattle.toml_parser.specs.Strings.{after_piece, at_delims, body, escape, escape_char, hex_escape, hex_len, is_plain, key, key_after, one_line, prepend, quoted, recursion_limit, simple_escape, simple_key, special, starts_string, trim_newline}
use Rattle.toml.specs.Data.{string}
use Rattle.toml.specs.Parse.{after_byte, after_element, atom, header_key, key_equals, scalar_data, skip_bom}
use Rattle.fb_deploy_positions.specs.Entries.{offset}
use Rattle.fb_deploy_positions.specs.Values.{Text, after_items, after_members, after_value}

-- the text is what is left of the whole after some of its bytes
abbrev pub Left : (whole text : Text) → Type 0
Left whole text = (n : ℕ) × (text ≡ drop n whole)

pub at_offset : (whole text : Text) → Left whole text → drop (offset whole text) whole ≡ text
at_offset whole text (n, is) =
    elim (cases_lt n (length whole)) [
      | inl within ↦ (let same : offset whole text ≡ n = omega (arith, ap length is, length-drop n whole) in ap (λ k. drop k whole) same ∙ sym is)
      | inr past ↦ (let none : text ≡ [] = is ∙ drop_all n whole past in rw none (drop_all (length whole - 0) whole (omega arith)))
    ]

pub whole_left : (text : Text) → Left text text
whole_left text = (0, refl)

pub dropped : (n : ℕ) (text : Text) → Left text (drop n text)
dropped n text = (n, refl)

pub left_left : (whole text more : Text) → Left whole text → Left text more → Left whole more
left_left whole text more (n, is) (m, next) = (n + m, next ∙ ap (drop m) is ∙ drop-drop m n whole)

abbrev pub LeftIn : Text → Option Text → Type 0
LeftIn whole o = IfSome o (Left whole)

abbrev pub LeavesEnd : {A : Type 0} → Text → Read A → Type 0
LeavesEnd whole r = IfSome r (λ p. Left whole p.1)

-- ---- Ways to read

cond_ends : {A : Type 0} (whole : Text) (b : Bool) (r s : Read A) → LeavesEnd whole r → LeavesEnd whole s → LeavesEnd whole (cond b r s)
cond_ends whole true r s h k = h
cond_ends whole false r s h k = k

cond_in : (whole : Text) (b : Bool) (o p : Option Text) → LeftIn whole o → LeftIn whole p → LeftIn whole (cond b o p)
cond_in whole true o p h k = h
cond_in whole false o p h k = k

map_ends : {A B : Type 0} (whole : Text) (f : A → B) (r : Read A) → LeavesEnd whole r → LeavesEnd whole (option_map (λ p. (f p.0, p.1)) r)
map_ends whole f None h = tt
map_ends whole f (Some p) h = h

with_ends : {A : Type 0} (whole : Text) (a : A) (o : Option Text) → LeftIn whole o → LeavesEnd whole (option_map (λ rest. (a, rest)) o)
with_ends whole a None h = tt
with_ends whole a (Some rest) h = h

-- whatever is found, this is left
fixed_ends : {A B : Type 0} (whole rest : Text) (f : A → B) (o : Option A) → Left whole rest → LeavesEnd whole (option_map (λ a. (f a, rest)) o)
fixed_ends whole rest f None left = tt
fixed_ends whole rest f (Some a) left = left

then_ends : {A B : Type 0} (whole : Text) (r : Read A) (f : A × Text → Read B) → LeavesEnd whole r → ((p : A × Text) → Left whole p.1 → LeavesEnd whole (f p)) → LeavesEnd whole (option_and_then f r)
then_ends whole None f h more = tt
then_ends whole (Some p) f h more = more p h

read_in : {A : Type 0} (whole : Text) (r : Read A) (f : A × Text → Option Text) → LeavesEnd whole r → ((p : A × Text) → Left whole p.1 → LeftIn whole (f p)) → LeftIn whole (option_and_then f r)
read_in whole None f h more = tt
read_in whole (Some p) f h more = more p h

then_in : (whole : Text) (o : Option Text) (f : Text → Option Text) → LeftIn whole o → ((rest : Text) → Left whole rest → LeftIn whole (f rest)) → LeftIn whole (option_and_then f o)
then_in whole None f h more = tt
then_in whole (Some rest) f h more = more rest h

rest_in : {A : Type 0} (whole : Text) (r : Read A) → LeavesEnd whole r → LeftIn whole (option_map (λ p. p.1) r)
rest_in whole None h = tt
rest_in whole (Some p) h = h

pub ends_further : {A : Type 0} (whole text : Text) (r : Read A) → Left whole text → LeavesEnd text r → LeavesEnd whole r
ends_further whole text None left h = tt
ends_further whole text (Some p) left h = left_left whole text p.1 left h

pub in_further : (whole text : Text) (o : Option Text) → Left whole text → LeftIn text o → LeftIn whole o
in_further whole text None left h = tt
in_further whole text (Some rest) left h = left_left whole text rest left h

cond_left : (whole : Text) (b : Bool) (s t : Text) → Left whole s → Left whole t → Left whole (cond b s t)
cond_left whole true s t h k = h
cond_left whole false s t h k = k

if_left : {A : Type 0} (whole text : Text) (r : Read A) → Left whole text → LeavesEnd text r → LeavesEnd whole r
if_left whole text None left h = tt
if_left whole text (Some p) left h = left_left whole text p.1 left h

in_left : (whole text : Text) (o : Option Text) → Left whole text → LeftIn text o → LeftIn whole o
in_left whole text None left h = tt
in_left whole text (Some rest) left h = left_left whole text rest left h

-- ---- Blanks

pub ws_left : (text : Text) → Left text (skip_ws text)
unfolding skip_ws
ws_left text = (prefix_len is_ws text, refl)

one_less : (c : ℕ) (cs text : Text) → Left cs text → Left (c ∷ cs) text
one_less c cs text (n, is) = (suc n, is)

from_left : (comments inside : Bool) (text : Text) → Left text (skip_from comments inside text)
unfolding skip_from
from_left comments inside [] = whole_left []
from_left comments inside (c ∷ cs) = cond_left (c ∷ cs) _ _ (c ∷ cs) (one_less c cs _ (from_left comments (unwrap_or (skip_turn comments inside c (first cs)) false) cs)) (whole_left (c ∷ cs))

pub blank_left : (text : Text) → Left text (skip_blank text)
blank_left text = from_left true false text

-- ---- Strings, keys and atoms

hex_left : (n : ℕ) (text : Text) → LeavesEnd text (hex_escape n text)
unfolding hex_escape
hex_left n text = cond_ends text _ (Some (_, drop n text)) None (dropped n text) tt

char_left : (text : Text) → LeavesEnd text (escape_char text)
unfolding escape_char
char_left text =
    cond_ends text (nat_lt 0 (hex_len (first text))) (hex_escape (hex_len (first text)) (drop 1 text)) _
    (ends_further text (drop 1 text) _ (dropped 1 text) (hex_left (hex_len (first text)) (drop 1 text)))
    (fixed_ends text (drop 1 text) (λ c. c) (simple_escape (first text)) (dropped 1 text))

escape_left : (multi : Bool) (text : Text) → LeavesEnd text (escape multi text)
unfolding escape
escape_left multi text =
    cond_ends text (multi && starts_newline (skip_ws text)) (Some ([], skip_lines text)) _ (from_left false false text) (map_ends text encode_utf8 (escape_char text) (char_left text))

delims_left : (delim : ℕ) (text : Text) → LeavesEnd text (at_delims delim text)
delims_left delim text =
    let count = prefix_len (λ c. c == delim) text in
    cond_ends text (count == 3) (Some (None, drop 3 text)) _ (dropped 3 text)
    (cond_ends text (nat_lt count 6) (Some (Some (delim ∷ []), drop 1 text)) None (dropped 1 text) tt)

special_left : (delim : ℕ) (multi : Bool) (text : Text) → LeavesEnd text (special delim multi text)
unfolding special
special_left delim multi text =
    cond_ends text (first text == delim) _ _ (cond_ends text multi (at_delims delim text) (Some (None, drop 1 text)) (delims_left delim text) (dropped 1 text))
    (cond_ends text (first text == 92) _ _ (map_ends text Some (escape multi (drop 1 text)) (ends_further text (drop 1 text) _ (dropped 1 text) (escape_left multi (drop 1 text))))
    (cond_ends text (multi && starts_newline text) (Some (Some (first text ∷ []), drop 1 text)) None (dropped 1 text) tt))

piece_left : (whole rest : Text) (more : Text → Read Text) (piece : Option Text) → Left whole rest → LeavesEnd whole (more rest) → LeavesEnd whole (after_piece more piece rest)
piece_left whole rest more None left h = left
piece_left whole rest more (Some bytes) left h = map_ends whole (λ more. bytes ++ more) (more rest) h

body_left : (delim : ℕ) (multi : Bool) (n : ℕ) (text : Text) → LeavesEnd text (body delim multi n text)
unfolding body
body_left delim multi zero text = tt
body_left delim multi (suc n) text =
    cond_ends text (is_plain delim multi (first text)) (prepend (first text ∷ []) (body delim multi n (drop 1 text))) _
    (map_ends text (λ more. (first text ∷ []) ++ more) (body delim multi n (drop 1 text)) (ends_further text (drop 1 text) _ (dropped 1 text) (body_left delim multi n (drop 1 text))))
    (then_ends text (special delim multi text) _ (special_left delim multi text) (λ p left.
    piece_left text p.1 (body delim multi n) p.0 left (ends_further text p.1 _ left (body_left delim multi n p.1))))

line_left : (text : Text) → LeavesEnd text (one_line text)
unfolding one_line
line_left text = ends_further text (drop 1 text) _ (dropped 1 text) (body_left (first text) false (length text) (drop 1 text))

trim_left : (text : Text) → Left text (trim_newline text)
trim_left text = cond_left text _ (drop 1 text) _ (dropped 1 text) (cond_left text _ (drop 2 text) text (dropped 2 text) (whole_left text))

quoted_left : (text : Text) → LeavesEnd text (quoted text)
unfolding quoted
quoted_left text =
    let inside = trim_newline (drop 3 text) in
    cond_ends text (slice_index text 1 == first text && slice_index text 2 == first text) (body (first text) true (length text) inside) (one_line text)
    (ends_further text inside _ (left_left text (drop 3 text) inside (dropped 3 text) (trim_left (drop 3 text))) (body_left (first text) true (length text) inside))
    (line_left text)

part_left : (text : Text) → LeavesEnd text (simple_key text)
unfolding simple_key
part_left text =
    cond_ends text (starts_string text) (one_line text) _ (line_left text)
    (cond_ends text (is_bare (first text)) (Some (split_while is_bare text)) None (dropped (prefix_len is_bare text) text) tt)

key_after_left : (n : ℕ) (path : List Text) (text : Text) → LeavesEnd text (key_after n path text)
unfolding key_after
key_after_left zero path text = tt
key_after_left (suc n) path text =
    then_ends text (simple_key text) _ (part_left text) (λ part left.
    let rest = skip_ws part.1 in
    let next = skip_ws (drop 1 rest) in
    let after : Left text rest = left_left text part.1 rest left (ws_left part.1) in
    let more : Left text next = left_left text rest next after (left_left rest (drop 1 rest) next (dropped 1 rest) (ws_left (drop 1 rest))) in
    cond_ends text (first rest == 46) (key_after n (path ++ part.0 ∷ []) next) (Some ((path, part.0), rest)) (ends_further text next _ more (key_after_left n (path ++ part.0 ∷ []) next)) after)

key_left : (text : Text) → LeavesEnd text (key text)
key_left text = key_after_left recursion_limit [] text

unquoted_left : (text : Text) → LeavesEnd text (unquoted text)
unfolding unquoted
unquoted_left text =
    cond_ends text (word_len text == 0) None _ tt
    (fixed_ends text (drop (word_len text) text) (λ d. d) (word_value (take (word_len text) text)) (dropped (word_len text) text))

atom_left : (text : Text) → LeavesEnd text (atom text)
unfolding atom
atom_left text = cond_ends text (starts_string text) _ _ (map_ends text string (quoted text) (quoted_left text)) (map_ends text scalar_data (unquoted text) (unquoted_left text))

pub byte_left : (byte : ℕ) (text : Text) → LeftIn text (after_byte byte text)
byte_left byte text = cond_in text (first text == byte) (Some (drop 1 text)) None (dropped 1 text) tt

pub element_left : (closing : ℕ) (text : Text) → LeftIn text (after_element closing text)
unfolding after_element
element_left closing text =
    let rest = skip_blank text in
    cond_in text (first rest == 44) (Some (drop 1 rest)) _ (left_left text rest (drop 1 rest) (blank_left text) (dropped 1 rest))
    (cond_in text (first rest == closing) (Some rest) None (blank_left text) tt)

value_ends : {A : Type 0} (whole : Text) (a : A) (o : Option Text) → LeftIn whole o → LeavesEnd whole (option_map (λ rest. (a, skip_ws rest)) o)
value_ends whole a None h = tt
value_ends whole a (Some rest) h = left_left whole rest (skip_ws rest) h (ws_left rest)

pub equals_left : (text : Text) → LeavesEnd text (key_equals text)
unfolding key_equals
equals_left text =
    then_ends text (key text) _ (key_left text) (λ k left. value_ends text k.0 (after_byte 61 k.1) (in_further text k.1 _ left (byte_left 61 k.1)))

pub header_left : (text : Text) → LeavesEnd text (header_key text)
unfolding header_key
header_left text =
    then_ends text (key (skip_ws text)) _ (ends_further text (skip_ws text) _ (ws_left text) (key_left (skip_ws text))) (λ k left.
    with_ends text k.0 (after_byte 93 k.1) (in_further text k.1 _ left (byte_left 93 k.1)))

-- ---- Values

module _ (after : Text → Option Text) (left : (text : Text) → LeftIn text (after text)) where
  items_left : (n : ℕ) (text : Text) → LeftIn text (after_items after n text)
  unfolding after_items
  items_left zero text = tt
  items_left (suc n) text =
      let start = skip_blank text in
      in_further text start _ (blank_left text)
      (cond_in start (first start == 93) (Some (drop 1 start)) _ (dropped 1 start)
      (then_in start (after start) _ (left start) (λ rest l.
      then_in start (after_element 93 rest) _ (in_further start rest _ l (element_left 93 rest)) (λ next k. in_further start next _ k (items_left n next)))))

  members_left : (n : ℕ) (text : Text) → LeftIn text (after_members after n text)
  unfolding after_members
  members_left zero text = tt
  members_left (suc n) text =
      let start = skip_blank text in
      in_further text start _ (blank_left text)
      (cond_in start (first start == 125) (Some (drop 1 start)) _ (dropped 1 start)
      (read_in start (key_equals start) _ (equals_left start) (λ k e.
      then_in start (after k.1) _ (in_further start k.1 _ e (left k.1)) (λ rest l.
      then_in start (after_element 125 rest) _ (in_further start rest _ l (element_left 125 rest)) (λ next m. in_further start next _ m (members_left n next))))))

pub value_left : (depth : ℕ) (text : Text) → LeftIn text (after_value depth text)
unfolding after_value
value_left zero text = rest_in text (atom text) (atom_left text)
value_left (suc depth) text =
    cond_in text (first text == 91) _ _ (in_further text (drop 1 text) _ (dropped 1 text) (items_left (after_value depth) (value_left depth) (length text) (drop 1 text)))
    (cond_in text (first text == 123) _ _ (in_further text (drop 1 text) _ (dropped 1 text) (members_left (after_value depth) (value_left depth) (length text) (drop 1 text)))
    (rest_in text (atom text) (atom_left text)))

pub bom_left : (text : Text) → Left text (skip_bom text)
unfolding skip_bom
bom_left text = cond_left text _ (drop 3 text) text (dropped 3 text) (whole_left text)
