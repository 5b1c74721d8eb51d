-- A string on one line without an escape is what TOML's reader reads there.
use Rattle.std.proofs.Common.{◌≡◌, ℕ, suc, ◌+◌, ◌<◌, true, false, ◌==◌, [], ◌∷◌, length, get_or, slice_index, drop, Some, None, option_map, ap, ◌∙◌, arith, add-zero, get_or-drop}
use Rattle.std.proofs.lemmas.Bool.{false≢true}
use Rattle.std.proofs.lemmas.Bool.Decides.{nat_tests}
use Rattle.std.proofs.lemmas.List.{drop-drop}
use Rattle.std.proofs.lemmas.List.Sums.{prefix_len_passes}
use Rattle.std.specs.List.{prefix_len}
use Rattle.toml_parser.specs.Lexical.{first}
use Rattle.toml_parser.specs.Strings.{is_plain, special, body, one_line, quoted, starts_string}
use Rattle.toml_parser.proofs.StringsLemmas.{body_run}
use Rattle.fb_deploy_positions.specs.Values.{Text}

-- a delimiter ends a string on one line
special_end : (delim : ℕ) (text : Text) → first text ≡ delim → special delim false text ≡ Some (None, drop 1 text)
unfolding special
special_end delim text here =
    let same : (first text == delim) ≡ true = grind (arith, nat_tests) in
    rw same

-- what stands for itself is not the delimiter
not_delim : (delim c : ℕ) → is_plain delim false c ≡ true → (c == delim) ≡ false
not_delim delim c plain = grind (arith, nat_tests)

plain_body : (c : ℕ) (cs : Text) (n k : ℕ) → length cs < n → k ≡ prefix_len (is_plain c false) cs → get_or cs k 0 ≡ c
    → option_map (λ p. p.1) (body c false n cs) ≡ Some (drop (k + 1) cs)
plain_body c cs n k room is closes =
    let (m, fits, run) = body_run c false cs n room in
    let here : first (drop (prefix_len (is_plain c false) cs) cs) ≡ c = rw (get_or-drop (prefix_len (is_plain c false) cs) cs 0 0, add-zero, ← is) closes in
    let end = special_end c (drop (prefix_len (is_plain c false) cs) cs) here in
    ap (option_map (λ p. p.1)) run ∙ rw (end, drop-drop 1 (prefix_len (is_plain c false) cs) cs, is)

pub plain_quoted : (text : Text) (k : ℕ) → starts_string text ≡ true → k ≡ prefix_len (is_plain (first text) false) (drop 1 text) → 0 < k → slice_index text (k + 1) ≡ first text
    → option_map (λ p. p.1) (quoted text) ≡ Some (drop (k + 2) text)
unfolding quoted one_line
plain_quoted [] k starts is some closes = absurd (false≢true starts)
plain_quoted (c ∷ cs) k starts is some closes =
    let more : k + 1 ≡ suc k = omega arith in
    let again : k + 2 ≡ suc (k + 1) = omega arith in
    let within : 0 < prefix_len (is_plain c false) cs = omega arith in
    let differs = not_delim c (get_or cs 0 0) (prefix_len_passes (is_plain c false) cs 0 0 within) in
    rw (differs, again) (plain_body c cs _ k (omega arith) is (rw more at closes))
