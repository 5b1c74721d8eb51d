-- What the TOML reader reads in a document is what its statements define.
use Rattle.std.proofs.Common.{◌≡◌, ℕ, zero, suc, Bool, true, false, cond, ◌&&◌, ◌==◌, List, [], ◌∷◌, length, drop, slice_index, Option, Some, None, option_map, option_and_then, unwrap_or, refl, sym, ap, ◌∙◌, subst}
use Rattle.std.proofs.lemmas.Option.{none-some}
use Rattle.std.specs.Prelude.{⊤}
use Rattle.std.specs.Str.{is_utf8}
use Rattle.toml_parser.specs.Lexical.{Read, first, skip_blank, skip_ws}
use Rattle.toml_parser.specs.Strings.{Key, recursion_limit}
use Rattle.toml.specs.Data.{Data, Members}
use Rattle.toml.specs.Parse.{after_byte, ends_line, expression, header_key, key_equals, line as read_line, lines, parse_document, read_map, skip_bom, val}
use Rattle.toml.specs.Tables.{Document, Expression, array_table, close, define, key_value, no_nodes, std_table}
use Rattle.fb_deploy_positions.specs.Laws.{define_all, expression_of}
use Rattle.fb_deploy_positions.specs.Statements.{StatementAt, line, statement, statements, statements_from}
use Rattle.fb_deploy_positions.specs.Values.{Text, after_value}
use Rattle.fb_deploy_positions.specs.declared.statement.Kind.TheVariants as kind
use Rattle.fb_deploy_positions.proofs.lemmas.Follows.{Follows, value_follows}

-- where the reader reads an expression, there is a statement that says so, with the same text after it
abbrev Says : Read Expression → Read StatementAt → Type 0
Says None s = ⊤
Says (Some e) s = (st : StatementAt) × (s ≡ Some (st, e.1)) × (expression_of st ≡ Some e.0)

cond_says : (b : Bool) (e f : Read Expression) (s t : Read StatementAt) → Says e s → Says f t → Says (cond b e f) (cond b s t)
cond_says true e f s t h k = h
cond_says false e f s t h k = k

element_byte : (text : Text) (key : Key) (after : Option Text)
    → Says (option_map (λ rest. ((key, array_table), rest)) after) (option_map (λ rest. (record { kind = kind.Element; key = key; begin = text; value = [] }, rest)) after)
element_byte text key None = tt
element_byte text key (Some rest) = (record { kind = kind.Element; key = key; begin = text; value = [] }, refl, refl)

element_says : (text : Text) (h : Read Key)
    → Says (option_and_then (λ k. option_map (λ rest. ((k.0, array_table), rest)) (after_byte 93 k.1)) h)
    (option_and_then (λ k. option_map (λ rest. (record { kind = kind.Element; key = k.0; begin = text; value = [] }, rest)) (after_byte 93 k.1)) h)
element_says text None = tt
element_says text (Some k) = element_byte text k.0 (after_byte 93 k.1)

table_says : (text : Text) (h : Read Key)
    → Says (read_map (λ k. (k, std_table)) h) (option_map (λ k. (record { kind = kind.Table; key = k.0; begin = text; value = [] }, k.1)) h)
table_says text None = tt
table_says text (Some k) = (record { kind = kind.Table; key = k.0; begin = text; value = [] }, refl, refl)

value_says : (text value : Text) (key : Key) (r : Read Data) → val recursion_limit value ≡ r → Follows r (after_value recursion_limit value)
    → Says (read_map (λ (p : Key × Data). (p.0, key_value p.1)) (read_map (λ d. (key, d)) r))
    (option_map (λ rest. (record { kind = kind.Key; key = key; begin = text; value = value }, rest)) (after_value recursion_limit value))
value_says text value key None read follows = tt
value_says text value key (Some v) read follows =
    let s : StatementAt = record { kind = kind.Key; key = key; begin = text; value = value } in
    (s, ap (option_map (λ rest. (s, rest))) follows, ap (λ r. option_map (λ d. (key, d)) (option_map (λ p. key_value p.0) r)) read)

key_says : (text : Text) (k : Read Key)
    → Says (read_map (λ (p : Key × Data). (p.0, key_value p.1)) (option_and_then (λ k. read_map (λ d. (k.0, d)) (val recursion_limit k.1)) k))
    (option_and_then (λ k. option_map (λ rest. (record { kind = kind.Key; key = k.0; begin = text; value = k.1 }, rest)) (after_value recursion_limit k.1)) k)
key_says text None = tt
key_says text (Some k) = value_says text k.1 k.0 _ refl (value_follows recursion_limit k.1)

statement_says : (text : Text) → Says (expression text) (statement text)
unfolding expression statement
statement_says text =
    cond_says (first text == 91 && slice_index text 1 == 91) _ _ _ _ (element_says text (header_key (drop 2 text)))
    (cond_says (first text == 91) _ _ _ _ (table_says text (header_key (drop 1 text))) (key_says text (key_equals text)))

ends_says : (b : Bool) (e : Expression × Text) (st : StatementAt) → expression_of st ≡ Some e.0 → Says (cond b (Some e) None) (cond b (Some (st, e.1)) None)
ends_says true e st says = (st, refl, says)
ends_says false e st says = tt

line_ends : (e : Read Expression) (s : Read StatementAt) → Says e s
    → Says (option_and_then (λ e. cond (ends_line (skip_ws e.1)) (Some e) None) e) (option_and_then (λ s. cond (ends_line (skip_ws s.1)) (Some s) None) s)
line_ends None s says = tt
line_ends (Some e) s (st, is, says) =
    subst (λ o. Says (cond (ends_line (skip_ws e.1)) (Some e) None) (option_and_then (λ s. cond (ends_line (skip_ws s.1)) (Some s) None) o)) (sym is)
    (ends_says (ends_line (skip_ws e.1)) e st says)

line_says : (text : Text) → Says (read_line text) (line text)
unfolding read_line line
line_says text = line_ends (expression text) (statement text) (statement_says text)

-- what the reader reads, if anything, is this
abbrev Agrees : Option Document → Option Document → Type 0
Agrees None other = ⊤
Agrees (Some doc) other = other ≡ Some doc

end_agrees : (b : Bool) (doc : Document) (r : Option Document) (all : List StatementAt) → Agrees r (define_all doc all) → Agrees (cond b (Some doc) r) (define_all doc (cond b [] all))
unfolding define_all
end_agrees true doc r all h = refl
end_agrees false doc r all h = h

defined_agrees : (more : Document → Option Document) (rest : List StatementAt) → ((next : Document) → Agrees (more next) (define_all next rest))
    → (defined : Option Document) → Agrees (option_and_then more defined) (option_and_then (λ next. define_all next rest) defined)
defined_agrees more rest h None = tt
defined_agrees more rest h (Some next) = h next

statement_agrees : (n : ℕ) → ((doc : Document) (text : Text) → Agrees (lines n doc text) (define_all doc (statements_from n text)))
    → (doc : Document) (e : Read Expression) (s : Read StatementAt) → Says e s
    → Agrees (option_and_then (λ e. option_and_then (λ next. lines n next e.1) (define doc e.0)) e)
    (define_all doc (unwrap_or (option_map (λ s. s.0 ∷ statements_from n s.1) s) []))
unfolding define_all
statement_agrees n more doc None s says = tt
statement_agrees n more doc (Some e) s (st, is, says) =
    let goes_on = defined_agrees (λ next. lines n next e.1) (statements_from n e.1) (λ next. more next e.1) (define doc e.0) in
    let first_of = option_and_then (λ next. lines n next e.1) (define doc e.0) in
    subst (λ o. Agrees first_of (define_all doc (unwrap_or (option_map (λ s. s.0 ∷ statements_from n s.1) o) []))) (sym is)
    (subst (λ o. Agrees first_of (option_and_then (λ e'. option_and_then (λ next. define_all next (statements_from n e.1)) (define doc e')) o)) (sym says) goes_on)

lines_agree : (n : ℕ) (doc : Document) (text : Text) → Agrees (lines n doc text) (define_all doc (statements_from n text))
unfolding lines statements_from
lines_agree zero doc text = tt
lines_agree (suc n) doc text =
    let start = skip_blank text in
    end_agrees (length start == 0) doc _ _ (statement_agrees n (lines_agree n) doc (read_line start) (line start) (line_says start))

closed : (out : Members) (doc other : Option Document) → Agrees doc other → option_map (λ d. close d.0) doc ≡ Some out → option_map (λ d. close d.0) other ≡ Some out
closed out None other h read = absurd (none-some _ read)
closed out (Some doc) other h read = ap (option_map (λ d. close d.0)) h ∙ read

pub defines_documents : (text : Text) (out : Members) → is_utf8 text ≡ true → parse_document text ≡ Some out
    → option_map (λ doc. close doc.0) (define_all (no_nodes, []) (statements text)) ≡ Some out
unfolding parse_document
defines_documents text out utf8 read =
    rw utf8 (closed out (lines (suc (length text)) (no_nodes, []) (skip_bom text)) _ (lines_agree (suc (length text)) (no_nodes, []) (skip_bom text)) read)
