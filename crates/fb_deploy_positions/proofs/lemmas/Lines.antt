-- The statements of a text, one after another.
use Rattle.std.proofs.Common.{◌≡◌, ℕ, Bool, true, zero, suc, ◌-◌, ◌<◌, ◌==◌, false, List, [], ◌∷◌, ◌++◌, length, Some, None, refl, ap, ◌∙◌, append-nil, arith}
use Rattle.std.specs.Str.{IsUtf8, is_utf8}
use Rattle.std.proofs.lemmas.Str.{IsUtf8-from_is_utf8, is_utf8-from_IsUtf8}
use Rattle.toml_parser.specs.Lexical.{skip_blank}
use Rattle.toml.specs.Parse.{skip_bom}
use Rattle.fb_deploy_positions.specs.Statements.{StatementAt, line, statements, statements_from}
use Rattle.fb_deploy_positions.specs.Values.{Text}
use Rattle.fb_deploy_positions.specs.Views.{statement_view, statements_view}
use Rattle.fb_deploy_positions.specs.declared.statement.Statement.{Statement}

lines_end : (m : ℕ) (text : Text) → 0 < m → length (skip_blank text) ≡ 0 → statements_from m text ≡ []
unfolding statements_from
lines_end zero text some none = absurd (omega arith)
lines_end (suc m) text some none = rw none

lines_bad : (m : ℕ) (text : Text) → 0 < m → (length (skip_blank text) == 0) ≡ false → line (skip_blank text) ≡ None → statements_from m text ≡ []
unfolding statements_from
lines_bad zero text some other read = absurd (omega arith)
lines_bad (suc m) text some other read = rw (other, read)

lines_more : (m : ℕ) (text : Text) (s : StatementAt) (after : Text) → 0 < m → (length (skip_blank text) == 0) ≡ false → line (skip_blank text) ≡ Some (s, after)
    → statements_from m text ≡ s ∷ statements_from (m - 1) after
unfolding statements_from
lines_more zero text s after some other read = absurd (omega arith)
lines_more (suc m) text s after some other read =
    let less : suc m - 1 ≡ m = omega arith in
    rw (other, read, less)

one_more : (found : List Statement) (s : Statement) (rest : List StatementAt) → statements_view found ++ (statement_view s ∷ rest) ≡ statements_view (found ++ s ∷ []) ++ rest
one_more [] s rest = refl
one_more (x ∷ found) s rest = ap (λ (r : List StatementAt). statement_view x ∷ r) (one_more found s rest)

-- after these statements none follows
pub found_all : (found : List Statement) (m : ℕ) (text : Text) → 0 < m → length (skip_blank text) ≡ 0 → statements_view found ++ statements_from m text ≡ statements_view found
found_all found m text some none = rw (lines_end m text some none) (append-nil (statements_view found))

-- what follows these is no statement
pub found_last : (found : List Statement) (m : ℕ) (text : Text) → 0 < m → (length (skip_blank text) == 0) ≡ false → line (skip_blank text) ≡ None
    → statements_view found ++ statements_from m text ≡ statements_view found
found_last found m text some other read = rw (lines_bad m text some other read) (append-nil (statements_view found))

-- after these statements this one follows
pub found_more : (found : List Statement) (m : ℕ) (text : Text) (s : Statement) (after : Text) → 0 < m → (length (skip_blank text) == 0) ≡ false → line (skip_blank text) ≡ Some (statement_view s, after)
    → statements_view found ++ statements_from m text ≡ statements_view (found ++ s ∷ []) ++ statements_from (m - 1) after
found_more found m text s after some other read =
    ap (λ (r : List StatementAt). statements_view found ++ r) (lines_more m text (statement_view s) after some other read) ∙ one_more found s (statements_from (m - 1) after)

-- ---- Bytes that are text, and other bytes

pub statements_utf8 : (text : Text) → IsUtf8 text → statements text ≡ statements_from (suc (length text)) (skip_bom text)
statements_utf8 text utf8 = rw (is_utf8-from_IsUtf8 text utf8)

pub statements_other : (text : Text) → ¬ (IsUtf8 text) → statements text ≡ []
statements_other text other = go (is_utf8 text) refl
  where
    go : (b : Bool) → is_utf8 text ≡ b → statements text ≡ []
    go true utf8 = absurd (other (IsUtf8-from_is_utf8 text utf8))
    go false none = rw none
