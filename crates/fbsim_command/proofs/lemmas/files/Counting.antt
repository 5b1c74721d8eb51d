-- The lines of files, file by file.
use Rattle.fb_types.proofs.Common.{◌≡◌, ℕ, ◌<◌, List, [], ◌∷◌, ◌++◌, length, map, get_or, Option, Some, slice_get, refl, sym, ap, ◌∙◌, subst, zero, suc, arith, IfOk, Result, Ok, Err, Vec}
use Rattle.fbsim_command.specs.Joining.{counts, lines_behind, lines_of_files, lines_of_first, mark_at, mark_in, mark_of}
use Rattle.fbsim_command.specs.Texts.{texts_of}
use Rattle.fbsim_command.specs.declared.join.FileLines.{FileLines}

pub lines-first :
    {E : Type 0} (r : Result (Vec FileLines) E) (ts rest : List (Vec ℕ)) (first : Vec ℕ) (bytes : List ℕ) → ts ≡ first ∷ rest → bytes ≡ first.items
    → IfOk r (λ v. v.items ≡ lines_of_first bytes ∷ map lines_behind (texts_of rest)) → IfOk r (λ v. v.items ≡ lines_of_files (texts_of ts))
lines-first (Err e) ts rest first bytes is same are = tt
lines-first (Ok v) ts rest first bytes is same are =
    are ∙ ap (λ (b : List ℕ). lines_of_first b ∷ map lines_behind (texts_of rest)) same ∙ ap (λ (us : List (Vec ℕ)). lines_of_files (texts_of us)) (sym is)

pub lines-none : (ts : List (Vec ℕ)) (made : List FileLines) → length ts ≡ 0 → made ≡ [] → made ≡ lines_of_files (texts_of ts)
lines-none [] made none is = is
lines-none (t ∷ ts) made none is = absurd (omega arith)

-- an element is the same, whatever stands beyond the end
pub same-item : {X : Type 0} (xs : List X) (i : ℕ) (d e : X) → i < length xs → get_or xs i d ≡ get_or xs i e
same-item [] i d e there = absurd (omega (arith, there))
same-item (x ∷ xs) zero d e there = refl
same-item (x ∷ xs) (suc i) d e there = same-item xs i d e (omega (arith, there))

-- the count of a file is at the same index
pub count-at : (lines : List FileLines) (i : ℕ) (own : FileLines) → i < length lines → own ≡ get_or lines i own → own.count ≡ get_or (counts lines) i 0
count-at [] i own there is = absurd (omega (arith, there))
count-at (l ∷ ls) zero own there is = ap (λ (x : FileLines). x.count) is
count-at (l ∷ ls) (suc i) own there is = count-at ls i own (omega (arith, there)) is

pub file-at : (lines : List FileLines) (i : ℕ) (own : FileLines) → i < length lines → own ≡ get_or lines i own → slice_get lines i ≡ Some own
file-at [] i own there is = absurd (omega (arith, there))
file-at (l ∷ ls) zero own there is = ap (λ (x : FileLines). Some x) (sym is)
file-at (l ∷ ls) (suc i) own there is = file-at ls i own (omega (arith, there)) is

pub mark-is : (lines : List FileLines) (i line : ℕ) (own : FileLines) (mark : ℕ) → i < length lines → own ≡ get_or lines i own → mark ≡ mark_in own line → mark ≡ mark_at lines i line
mark-is lines i line own mark there is same = same ∙ ap (λ (o : Option FileLines). mark_of o line) (sym (file-at lines i own there is))

-- as many counts as files
pub length-counts : (lines : List FileLines) → length (counts lines) ≡ length lines
length-counts [] = refl
length-counts (l ∷ ls) = ap suc (length-counts ls)
