-- The text of lines, one after another.
use Rattle.fb_types.proofs.Common.{◌≡◌, ℕ, ◌+◌, ◌<◌, List, [], ◌∷◌, ◌++◌, take, drop, length, get_or, map, ap, sym, ◌∙◌, refl, append_assoc, append-nil, take-append-drop, arith, Bor, take_more, get_or-map, length-map, map-append, System, line_of, line_text, lines_text}
use Rattle.fb_types.specs.declared.run.Form.{Form}
use Rattle.fb_types.specs.States.{Line}
use Rattle.fb_types.specs.declared.run.Line as run
use Rattle.fb_trace.specs.Fronts.{joint}

pub joint-append : (xss yss : List (List run.Line)) → joint (xss ++ yss) ≡ joint xss ++ joint yss
joint-append [] yss = refl
joint-append (xs ∷ xss) yss = ap (λ z. xs ++ z) (joint-append xss yss) ∙ sym (append_assoc xs (joint xss) (joint yss))

module _ (form : Form) (sys : System) where
  lines_text-append : (ks ls : List Line) → lines_text form sys (ks ++ ls) ≡ lines_text form sys ks ++ lines_text form sys ls
  lines_text-append [] ls = refl
  lines_text-append (k ∷ ks) ls =
      ap (λ (t : List ℕ). line_text form sys k ++ t) (lines_text-append ks ls)
      ∙ sym (append_assoc (line_text form sys k) (lines_text form sys ks) (lines_text form sys ls))

  pub lines_text-parts : (i : ℕ) (ls : List Line) → lines_text form sys (take i ls) ++ lines_text form sys (drop i ls) ≡ lines_text form sys ls
  lines_text-parts i ls = sym (lines_text-append (take i ls) (drop i ls)) ∙ ap (lines_text form sys) (take-append-drop i ls)

  -- one line more
  pub lines_text-more :
      (ls : List run.Line) (i : ℕ) (l : run.Line) → i < length ls → l ≡ get_or ls i l
      → lines_text form sys (take (i + 1) (map (line_of sys) ls))
      ≡ lines_text form sys (take i (map (line_of sys) ls)) ++ line_text form sys (line_of sys l)
  lines_text-more ls i l within read =
      let ms = map (line_of sys) ls in
      let long : length ms ≡ length ls = length-map ls (line_of sys) in
      let last : get_or ms i (line_of sys l) ≡ line_of sys l = get_or-map (line_of sys) ls i l (line_of sys l) within ∙ ap (line_of sys) (sym read) in
      rw (take_more ms i (line_of sys l) (omega arith), last, lines_text-append (take i ms) (line_of sys l ∷ []), append-nil) refl

  -- ---- Lines in parts

  abbrev pub text : List run.Line → List ℕ
  text xs = lines_text form sys (map (line_of sys) xs)

  pub text-append : (xs ys : List run.Line) → text (xs ++ ys) ≡ text xs ++ text ys
  text-append xs ys = ap (lines_text form sys) (map-append (line_of sys) xs ys) ∙ lines_text-append (map (line_of sys) xs) (map (line_of sys) ys)

  pub parts_text-parts : (i : ℕ) (xss : List (List run.Line)) → text (joint (take i xss)) ++ text (joint (drop i xss)) ≡ text (joint xss)
  parts_text-parts i xss =
      sym (text-append (joint (take i xss)) (joint (drop i xss))) ∙ ap text (sym (joint-append (take i xss) (drop i xss)) ∙ ap joint (take-append-drop i xss))

  -- one part more
  pub parts_text-more :
      (qs : List (Bor (List run.Line))) (i : ℕ) (q : Bor (List run.Line)) → i < length qs → q ≡ get_or qs i q
      → text (joint (take (i + 1) (map (λ z. z.now) qs))) ≡ text (joint (take i (map (λ z. z.now) qs))) ++ text q.now
  parts_text-more qs i q within read =
      let xss = map (λ (z : Bor (List run.Line)). z.now) qs in
      let long : length xss ≡ length qs = length-map qs (λ (z : Bor (List run.Line)). z.now) in
      let last : get_or xss i q.now ≡ q.now = get_or-map (λ (z : Bor (List run.Line)). z.now) qs i q q.now within ∙ ap (λ (z : Bor (List run.Line)). z.now) (sym read) in
      ap (λ z. text (joint z)) (take_more xss i q.now (omega arith) ∙ ap (λ z. take i xss ++ z ∷ []) last)
      ∙ ap text (joint-append (take i xss) (q.now ∷ []) ∙ ap (λ z. joint (take i xss) ++ z) (append-nil q.now)) ∙ text-append (joint (take i xss)) q.now
