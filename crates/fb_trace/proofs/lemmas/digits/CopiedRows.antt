-- The first bytes of rows that were copied whole.
use Rattle.std.proofs.Common.{◌≡◌, ℕ, ◌+◌, ◌-◌, ◌≤◌, List, [], ◌∷◌, ◌++◌, length, take, set, ap, sym, refl, ◌∙◌, append_assoc, arith}
use Rattle.std.proofs.lemmas.List.{take_more_set}
use lib.Seq.{length-take-le, take-append-add, take-append-le}
use borrow.Rule.Slice.PartMut.{mid_len, post_of, put_mid, same_len_mid}

pub front_of_row : (used count k : ℕ) (bytes new row : List ℕ) → used ≤ length bytes → count ≤ length row → new ≡ row
    → take (used + count) (put_mid used k bytes new) ≡ take used bytes ++ take count row
front_of_row used count k bytes new row within few same =
    let long : used ≡ length (take used bytes) = sym (length-take-le used bytes within) in
    ap (λ n. take (n + count) (put_mid used k bytes new)) long
    ∙ take-append-add (take used bytes) (new ++ post_of used k bytes) count
    ∙ ap (λ l. take used bytes ++ take count (l ++ post_of used k bytes)) same
    ∙ ap (λ l. take used bytes ++ l) (take-append-le count row (post_of used k bytes) few)

-- a row is put in the place of as many bytes
row_put : (a k : ℕ) (bytes new row : List ℕ) → a + k ≤ length bytes → length row ≡ k → new ≡ row → length (put_mid a (a + k - a) bytes new) ≡ length bytes
row_put a k bytes new row room wide same =
    let long = ap length same in
    let place = mid_len a (a + k) bytes room in
    same_len_mid a (a + k - a) bytes new (omega (arith, long, wide, place))

together : (a b c d : List ℕ) → a ++ b ++ c ++ d ≡ a ++ (b ++ c ++ d)
together a b c d = rw (append_assoc a b c, append_assoc a (b ++ c) d) refl

-- the first bytes of two rows
pub fronts_of_rows : (used n m wide high : ℕ) (bytes new row next line : List ℕ) → used + (wide + high) ≤ length bytes → n ≤ wide → m ≤ high
    → length row ≡ wide → length line ≡ high → new ≡ row → next ≡ line
    → take (used + n + m) (put_mid (used + n) (used + n + high - (used + n)) (put_mid used (used + wide - used) bytes new) next)
    ≡ take used bytes ++ (take n row ++ take m line)
fronts_of_rows used n m wide high bytes new row next line room few some its_width its_height same again =
    let mid = put_mid used (used + wide - used) bytes new in
    let one : length mid ≡ length bytes = row_put used wide bytes new row (omega (arith, room)) its_width same in
    front_of_row (used + n) m (used + n + high - (used + n)) mid next line (omega (arith, room, few, one)) (omega (arith, some, its_height)) again
    ∙ ap (λ l. l ++ take m line) (front_of_row used n (used + wide - used) bytes new row (omega (arith, room)) (omega (arith, few, its_width)) same)
    ∙ append_assoc (take used bytes) (take n row) (take m line)

-- the first bytes of two rows, and a byte
pub fronts_and_byte : (used n m wide high : ℕ) (bytes new row next line : List ℕ) (byte : ℕ) → used + (wide + high + 1) ≤ length bytes → n ≤ wide → m ≤ high
    → length row ≡ wide → length line ≡ high → new ≡ row → next ≡ line
    → take (used + n + m + 1) (set (put_mid (used + n) (used + n + high - (used + n)) (put_mid used (used + wide - used) bytes new) next) (used + n + m) byte)
    ≡ take used bytes ++ (take n row ++ take m line ++ byte ∷ [])
fronts_and_byte used n m wide high bytes new row next line byte room few some its_width its_height same again =
    let mid = put_mid used (used + wide - used) bytes new in
    let last = put_mid (used + n) (used + n + high - (used + n)) mid next in
    let one : length mid ≡ length bytes = row_put used wide bytes new row (omega (arith, room)) its_width same in
    let two : length last ≡ length mid = row_put (used + n) high mid next line (omega (arith, room, few, one)) its_height again in
    take_more_set last (used + n + m) byte (omega (arith, room, few, some, one, two))
    ∙ ap (λ l. l ++ byte ∷ []) (front_of_row (used + n) m (used + n + high - (used + n)) mid next line (omega (arith, room, few, one)) (omega (arith, some, its_height)) again)
    ∙ ap (λ l. l ++ take m line ++ byte ∷ []) (front_of_row used n (used + wide - used) bytes new row (omega (arith, room)) (omega (arith, few, its_width)) same)
    ∙ together (take used bytes) (take n row) (take m line) (byte ∷ [])
